-- Texts that read back as a range.
use Rattle.semver_texts.specs.Texts.{Text}
use Rattle.tool_ranges.specs.Dialects.{HasSetAs}
use Rattle.tool_ranges.specs.Meanings.{MeansAs}
use Rattle.tool_ranges.specs.VersionRanges.{RangeValue}

-- the text is a range in the dialect of another range, and by the rules of that range it means the
-- versions that the range contains
pub record IsRequirementOf (range : RangeValue) (t : Text) : Type 0 where
  pub set : HasSetAs range.meaning.dialect t
  pub means : MeansAs range.meaning t range.versions
