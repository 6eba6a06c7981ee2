-- Prefixes of the texts of a language, which are the texts with which some text of it begins; and
-- the longest such prefix of a text.
use Rattle.std.specs.Prelude.{ℕ, ◌<◌, ◌≤◌, ◌++◌, List, [], length, take}
use Rattle.std.specs.List.{AllByRecursion, Any}
use Rattle.std.specs.Str.{IsCharBoundary, IsUtf8}
use Rattle.semver_texts.specs.Texts.{Text}

-- some text of the language begins with t and continues with UTF-8
abbrev pub Begins : (Text → Type 0) → Text → Type 0
Begins Is t = (rest : Text) × IsUtf8 rest × Is (t ++ rest)

-- some text of the language begins with t and continues with ASCII
abbrev pub BeginsWhole : (Text → Type 0) → Text → Type 0
BeginsWhole Is t = (rest : Text) × AllByRecursion (λ b. b < 128) rest × Is (t ++ rest)

-- t with one of the completions after it is a text of the language
abbrev pub GoesOn : (Text → Type 0) → List Text → Text → Type 0
GoesOn Is completions t = Any (λ completion. Is (t ++ completion)) completions

-- each completion has at most 8 bytes
abbrev pub AreShort : List Text → Type 0
AreShort completions = AllByRecursion (λ completion. length completion ≤ 8) completions

-- the completions are short and ASCII. One of them completes the empty text to a text of the
-- language. For each prefix of a text of the language, one of them completes it, if the prefix and
-- the rest are UTF-8
pub record AreCompletions (Is : Text → Type 0) (completions : List Text) : Type 0 where
  pub ascii : AllByRecursion (AllByRecursion (λ b. b < 128)) completions
  pub short : AreShort completions
  pub some : GoesOn Is completions []
  pub complete : (t rest : Text) → IsUtf8 t → IsUtf8 rest → Is (t ++ rest)
      → GoesOn Is completions t

-- the offset, which is between two characters, is the end of the longest prefix with which the text
-- begins, of those that end between two characters
pub record IsLongestPrefix (Begins : Text → Type 0) (t : Text) (offset : ℕ) : Type 0 where
  pub within : offset ≤ length t
  pub boundary : IsCharBoundary t offset
  pub prefix : Begins (take offset t)
  pub no_longer : (n : ℕ) → offset < n → IsCharBoundary t n → ¬ (Begins (take n t))

-- the offset is the end of the longest prefix, of bytes that needn't be UTF-8, which some ASCII
-- completes to a text of the language
pub record IsLongestWholePrefix (Is : Text → Type 0) (t : Text) (offset : ℕ) : Type 0 where
  pub within : offset ≤ length t
  pub prefix : BeginsWhole Is (take offset t)
  pub no_longer : (n : ℕ) → offset < n → n ≤ length t → ¬ (BeginsWhole Is (take n t))
