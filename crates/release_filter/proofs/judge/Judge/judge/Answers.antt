use Rattle.std.proofs.Common.{◌≡◌, ◌≤◌, List, String, Global, ap, arith, length, subst, sym}
use Rattle.semver_texts.specs.Texts.{Text}
use Rattle.tool_ranges.specs.VersionRanges.{versions_grammar}
use Rattle.release_filter.specs.Steps.Taking.{Judges, rule_of, texts}
use Rattle.release_filter.specs.Verdicts.{HasVersion}
use Rattle.release_filter.proofs.Verdicts.{judged, judges_alone, no_texts, some_texts}
use Rattle.release_filter.proofs.judge.Judge.judge.Goals as goal

pub returns-in-empty : goal.returns-in-empty
returns-in-empty c =
    let rule = rule_of c.args.self.now in
    let text = c.text_of-text.result.now in
    let none : length c.args.self.now.prefixes.items ≡ 0 =
    omega (arith, c.in-empty.len_below, ap length c.as_slice.ensures.value) in
    let tried_is = no_texts c.args.self.now.prefixes.items none in
    judged rule c.args.line.now text c.judge_after.result c.text_of-text.ensures c.if-text-gt-LONGEST.false
    (subst (λ (ps : List Text). Judges rule (HasVersion (versions_grammar rule.filter) ps text) text c.args.line.now c.judge_after.result)
    (sym tried_is) (judges_alone rule _ text c.args.line.now c.judge_after.result c.judge_after.ensures))

pub returns-in_default : goal.returns-in_default
returns-in_default c =
    let rule = rule_of c.args.self.now in
    let text = c.text_of-text.result.now in
    let prefixes = c.args.self.now.prefixes.items in
    let some : 1 ≤ length prefixes = omega (arith, c.in_default.len_at_least, ap length c.as_slice.ensures.value) in
    let said = subst (λ (ps : List (String Global)).
    Judges rule (HasVersion (versions_grammar rule.filter) (texts ps) text) text c.args.line.now c.judge_after_each.result)
    c.as_slice.ensures.value c.judge_after_each.ensures in
    judged rule c.args.line.now text c.judge_after_each.result c.text_of-text.ensures c.if-text-gt-LONGEST.false
    (subst (λ (ps : List Text). Judges rule (HasVersion (versions_grammar rule.filter) ps text) text c.args.line.now
    c.judge_after_each.result)
    (sym (some_texts prefixes some)) said)
