-- When two errors of a call count as the same.
use Rattle.std.specs.Prelude.{◌≡◌, ◌⊎◌}
use Rattle.semver_errors.specs.ErrorValues.{ErrorValue, OutOfMemory}

-- two errors are equal, or one is out of memory
abbrev pub AreOneError : ErrorValue → ErrorValue → Type 0
AreOneError x y = (x ≡ y) ⊎ (x ≡ OutOfMemory) ⊎ (y ≡ OutOfMemory)
