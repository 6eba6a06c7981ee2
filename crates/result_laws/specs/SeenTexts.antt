-- Texts that calls return, as they are compared: by their bytes.
use Rattle.std.specs.Prelude.{ℕ}
use Rattle.std.specs.Borrow.{Bor}
use Rattle.semver_texts.specs.Texts.{Text}

-- the bytes of a text, wherever it is in memory
abbrev pub seen_text : Bor Text → Text
seen_text t = t.now

-- three numbers, and the bytes of a text
abbrev pub seen_numbers : ℕ × ℕ × ℕ × Bor Text → ℕ × ℕ × ℕ × Text
seen_numbers r = (r.0, r.1, r.2, r.3.now)
