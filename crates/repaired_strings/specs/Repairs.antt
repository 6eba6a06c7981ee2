-- Strings with their errors repaired.
use Prim.Native.Char.{code}
use Rattle.std.specs.Prelude.{◌≡◌, ◌<◌, ℕ, ◌||◌, ◌==◌, ◌⊎◌, if◌then◌else◌, Option, Some, None, List}
use Rattle.std.specs.Prelude.{[], ◌∷◌, ◌++◌, length, take, drop, slice_range, codes}
use Rattle.std.specs.List.{list_all}
use Rattle.std.specs.Str.{bytes_eq}
use Rattle.semver_texts.specs.Texts.{Text}
use Rattle.semver_texts.specs.WhiteSpace.{is_ascii_white_space}
use Rattle.semver_ranges.specs.declared.dialect.Dialect.{Dialect}
use Rattle.repaired_strings.specs.Errors.{IsErrorAt}
use Rattle.repaired_strings.specs.Spans.{IsSpanOf, kind_at}
use Rattle.repaired_strings.specs.declared.errors.Expected.{Expected}
use Rattle.repaired_strings.specs.declared.errors.Expected.TheVariants.{Version, Range}
use Rattle.invalid_strings.specs.declared.reasons.Reason.{Reason}
use Rattle.invalid_strings.specs.declared.reasons.Reason.TheVariants as reason
use Rattle.range_terms.specs.declared.term.Span.{Span}

-- the operator that is meant by characters of operators that no range has
abbrev pub slip : Text → Option Text
slip t =
    if bytes_eq t (codes "=>") then Some (codes ">=")
    else (if bytes_eq t (codes "=<") then Some (codes "<=")
    else (if bytes_eq t (codes "==") then Some (codes "=")
    else (if bytes_eq t (codes "===") then Some (codes "=")
    else (if bytes_eq t (codes "~=") then Some (codes "~")
    else (if bytes_eq t (codes "=~") then Some (codes "~")
    else (if bytes_eq t (codes "~>") then Some (codes "~")
    else (if bytes_eq t (codes "~~") then Some (codes "~")
    else (if bytes_eq t (codes "^^") then Some (codes "^")
    else (if bytes_eq t (codes "^=") then Some (codes "^")
    else (if bytes_eq t (codes "=^") then Some (codes "^")
    else (if bytes_eq t (codes "&&") then Some (codes " ")
    else None)))))))))))

-- a number without its leading zeros
abbrev pub without_zeros : Text → Text
without_zeros [] = []
without_zeros (b ∷ []) = b ∷ []
without_zeros (b ∷ c ∷ t) = if b == code "0" then without_zeros (c ∷ t) else b ∷ c ∷ t

-- what replaces a comma between comparators that are separated by spaces
abbrev pub space_before : Text → Text
space_before [] = codes " "
space_before (b ∷ t) = if b == code " " then [] else codes " "

-- what replaces a part of a version that isn't allowed there, if something can
abbrev pub in_version : Text → Option Text
in_version old =
    if list_all is_ascii_white_space old || bytes_eq old (codes "=") then Some [] else None

-- what replaces the part of a text that an error is about, if something can; `after` is the text
-- after that part
abbrev pub replacement : Expected → Reason → (old after : Text) → Option Text
replacement e reason.LeadingZero old after = Some (without_zeros old)
replacement Version reason.NotThreeNumbers old after = Some (codes ".0" ++ old)
replacement e reason.CargoV old after = Some []
replacement e reason.CrateV old after = Some []
replacement e reason.CargoCommas old after = Some (codes ", " ++ old)
replacement e reason.NpmComma old after = Some (space_before after)
replacement e reason.CrateComma old after = Some (space_before after)
replacement Version _ old after = in_version old
replacement Range _ old after = slip old

-- what replaces the part of a text that its error at an offset is about, if something can
abbrev pub replacement_at : Expected → Text → Reason → Span → Option Text
replacement_at e t reason span =
    replacement e reason (slice_range t span.start span.end) (drop span.end t)

-- the error of a text, and its span
pub record IsErrorOver (e : Expected) (d : Dialect) (t : Text) (reason : Reason) (span : Span)
    : Type 0 where
  pub offset : ℕ
  pub error : IsErrorAt e d t offset reason
  pub spans : IsSpanOf t offset (kind_at t offset reason) span

-- a text with its error repaired: only the span of the error is replaced
pub record IsRepairOf (e : Expected) (d : Dialect) (t repaired : Text) : Type 0 where
  pub reason : Reason
  pub span : Span
  pub error : IsErrorOver e d t reason span
  pub new : Text
  pub found : replacement_at e t reason span ≡ Some new
  pub is : repaired ≡ take span.start t ++ (new ++ drop span.end t)

-- nothing is known that can replace the span of the error
pub record HasNoRepair (e : Expected) (d : Dialect) (t : Text) : Type 0 where
  pub reason : Reason
  pub span : Span
  pub error : IsErrorOver e d t reason span
  pub none : replacement_at e t reason span ≡ None

-- each of these texts is the one before it with its error repaired, from the first text to the last
abbrev pub LeadsTo : Expected → Dialect → (first : Text) → List Text → (last : Text) → Type 0
LeadsTo e d first [] last = first ≡ last
LeadsTo e d first (next ∷ others) last = IsRepairOf e d first next × LeadsTo e d next others last

-- the text is the other one after at most 31 repairs, each of the error that was then the first
pub record AreRepairs (e : Expected) (d : Dialect) (t repaired : Text) : Type 0 where
  pub texts : List Text
  pub leads : LeadsTo e d t texts repaired
  pub few : length texts < 32

-- repairs lead to a text whose error can't be repaired, or 32 repairs don't suffice
pub record IsBeyondRepair (e : Expected) (d : Dialect) (t : Text) : Type 0 where
  pub texts : List Text
  pub last : Text
  pub leads : LeadsTo e d t texts last
  pub why : HasNoRepair e d last ⊎ (length texts ≡ 32)
