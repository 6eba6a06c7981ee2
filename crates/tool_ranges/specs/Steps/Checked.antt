-- A means of proof, which no public clause cites: a range text that was checked.
use Rattle.semver_texts.specs.Texts.{Text}
use Rattle.semver_ranges.specs.declared.checked.Checked.{Checked}
use Rattle.semver_ranges.specs.declared.dialect.Dialect.{Dialect}
use Rattle.semver_ranges.specs.DialectTable.{grammar_of}
use Rattle.semver_ranges.specs.Steps.Checked.{HasEvents}
use Rattle.tool_ranges.specs.Steps.TextEvents.{events_in, ranges_of}
use Rattle.tool_ranges.specs.Steps.Reading.{IsRead}

-- the text is a range whose numbers fit, and its events are left
abbrev pub IsCheckedAs : Dialect → Text → Checked → Type 0
IsCheckedAs dialect t checked = IsRead dialect t (λ tree.
    HasEvents (grammar_of dialect) checked (events_in (ranges_of dialect tree)))
