use Rattle.std.proofs.Common.{string_bytes, subst}
use Rattle.semver_texts.specs.Texts.{Text}
use Rattle.tool_ranges.specs.VersionRanges.{versions_grammar}
use Rattle.release_filter.specs.Steps.Taking.{HasOne, Judges, rule_of}
use Rattle.release_filter.specs.declared.judge.Judged.{Judged}
use Rattle.release_filter.proofs.Verdicts.{first_and_rest, judges_next}
use Rattle.release_filter.proofs.judge.Judge.+judge_after_each.Goals as goal

pub returns-in-NotAVersion : goal.returns-in-NotAVersion
returns-in-NotAVersion t c =
    let rule = rule_of c.args.self.now in
    let text = c.args.text.now in
    let line = c.args.line.now in
    let said = subst (λ (p : Text). Judges rule (HasOne (versions_grammar rule.filter) p text) text line c.judge_after.result)
    c.as_str.ensures.value c.judge_after.ensures in
    let none = subst (λ (r : Judged). Judges rule (HasOne (versions_grammar rule.filter)
    (string_bytes c.prefix-item.result) text) text line r) c.in-NotAVersion.is said in
    rw (first_and_rest c.args.prefixes.now c.prefix-item.result c.in-len1-up.len_at_least c.prefix-item.is)
    (judges_next rule (string_bytes c.prefix-item.result) _ text line c.judge_after_each.result none.0 c.judge_after_each.ensures)
