-- Prefixes of range texts: the texts with which some range text begins.
use Rattle.std.specs.Prelude.{◌++◌}
use Rattle.semver_texts.specs.Texts.{Text}
use Rattle.semver_ranges.specs.declared.dialect.Dialect.{Dialect}
use Rattle.tool_ranges.specs.Dialects.{IsTextAs}

-- some range text of the dialect begins with the text
abbrev pub BeginsAs : Dialect → Text → Type 0
BeginsAs dialect t = (rest : Text) × IsTextAs dialect (t ++ rest)
