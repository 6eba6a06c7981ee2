-- When two results of `upgrade` count as the same.
use Rattle.std.specs.Prelude.{◌≡◌, ◌⊎◌, Option, option_map, Result, Ok, Err}
use Rattle.semver_texts.specs.Texts.{Text}
use Rattle.range_upgrades.specs.declared.upgrade.UpgradeError.{UpgradeError}
use Rattle.range_upgrades.specs.declared.upgrade.UpgradeError.TheVariants.{OutOfMemory}

-- a result with the bytes of its string
abbrev pub seen : {S : Type 0} → (S → Text) → Result (Option S) UpgradeError
    → Result (Option Text) UpgradeError
seen bytes (Ok found) = Ok (option_map bytes found)
seen bytes (Err e) = Err e

-- two results are equal, or one of them is out of memory
abbrev pub AreOne : {S : Type 0} → (S → Text) → Result (Option S) UpgradeError
    → Result (Option S) UpgradeError → Type 0
AreOne bytes r s =
    (seen bytes r ≡ seen bytes s) ⊎ ((r ≡ Err OutOfMemory) ⊎ (s ≡ Err OutOfMemory))
