use Rattle.std.proofs.Common.{◌≡◌, ◌==◌, length, rules, sym, ◌∙◌}
use Rattle.semver_ranges.specs.Steps.PartialViews.{stated_of}
use Rattle.tool_ranges.specs.Steps.WidenedEvents.{read_term}
use Rattle.tool_ranges.proofs.WidenedTerms.{compared, same_statement}
use Rattle.tool_ranges.proofs.widening.is_widened_term.Goals as goal

pub returns-in-Some-Equal : goal.returns-in-Some-Equal
returns-in-Some-Equal c =
    let s = c.args.term.now in
    let r = c.args.other.now in
    let operators : s.operator ≡ r.operator = search rules in
    same_statement (read_term s) (read_term r) c.have_same_pre_release.result operators
    (compared (length (stated_of s.partial) == length (stated_of r.partial)) _ c.in-Some-Equal.field-0
    (sym c.in-Some-Equal.is ∙ c.compare_numbers.ensures) c.in-Some-Equal.field-0-is)
    c.have_same_pre_release.ensures
