-- The first error of a text that is meant as a version or as a range.
use Rattle.std.specs.Prelude.{◌≡◌, ℕ, Some, take}
use Rattle.semver_texts.specs.Texts.{Text}
use Rattle.semver_texts.specs.ToolVersions.{IsVersionTextIn}
use Rattle.invalid_strings.specs.Reasons.{IsReason, byte_at}
use Rattle.invalid_strings.specs.VersionPrefixes.{IsLongestVersionPrefix}
use Rattle.invalid_strings.specs.declared.reasons.Reason.{Reason}
use Rattle.invalid_ranges.specs.Refusals.{IsRefusalAs}
use Rattle.invalid_ranges.specs.declared.refusals.Refusal.{Refusal}
use Rattle.tool_ranges.specs.Dialects.{HasSetAs}
use Rattle.semver_ranges.specs.DialectTable.{grammar_of}
use Rattle.semver_ranges.specs.declared.dialect.Dialect.{Dialect}
use Rattle.repaired_strings.specs.declared.errors.Expected.{Expected}
use Rattle.repaired_strings.specs.declared.errors.Expected.TheVariants.{Version, Range}

-- the text is valid in the dialect
abbrev pub IsValid : Expected → Dialect → Text → Type 0
IsValid Version d t = IsVersionTextIn (grammar_of d) t
IsValid Range d t = HasSetAs d t

-- the error of a range is at this offset, and has this reason
pub record IsRangeErrorAt (d : Dialect) (t : Text) (offset : ℕ) (reason : Reason) : Type 0 where
  pub refusal : Refusal
  pub is : IsRefusalAs d t (Some refusal)
  pub at : offset ≡ refusal.offset
  pub why : reason ≡ refusal.reason

-- the error of an invalid text is at this offset, and has this reason
abbrev pub IsErrorAt : Expected → Dialect → Text → ℕ → Reason → Type 0
IsErrorAt Version d t offset reason = ¬ (IsVersionTextIn (grammar_of d) t)
    × IsLongestVersionPrefix (grammar_of d) t offset
    × IsReason (grammar_of d) (take offset t) (byte_at t offset) reason
IsErrorAt Range d t offset reason = IsRangeErrorAt d t offset reason
