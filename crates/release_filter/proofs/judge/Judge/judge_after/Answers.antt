use Rattle.std.proofs.Common.{◌∙◌, ap, refl, subst}
use Rattle.semver_ranges.specs.DialectTable.{grammar_of}
use Rattle.tool_ranges.specs.VersionRanges.{versions_grammar}
use Rattle.tool_ranges.specs.declared.meaning.Rules.{Rules}
use Rattle.semver_texts.specs.ToolVersions.{IsVersionTextIn, SpellsIn}
use Rattle.semver_texts.specs.declared.grammar.Grammar.{Grammar}
use Rattle.semver_versions.specs.VersionRefs.{IsVersionRefIn, version_of}
use Rattle.release_filter.proofs.Matching.{spelled_fits}
use Rattle.release_filter.proofs.Verdicts.{matched, none_spelled}
use Rattle.release_filter.proofs.judge.Judge.judge_after.Goals as goal

pub returns-in_default-read_ref_in : goal.returns-in_default-read_ref_in
returns-in_default-read_ref_in c =
    let rest = c.in-Some.rest.now in
    let is = c.grammar.ensures.grammar ∙ ap (λ (m : Rules). grammar_of m.dialect) c.rules.ensures in
    let none = subst (λ (g : Grammar). ¬ (IsVersionTextIn g rest)) is (c.read_ref_in.ensures.none.0 c.in_default-read_ref_in.is) in
    (none_spelled (versions_grammar c.args.self.now.range) c.args.prefix.now c.args.text.now rest c.in-Some.ensures none, refl)

pub returns-then-contains_ref : goal.returns-then-contains_ref
returns-then-contains_ref c =
    let range = c.args.self.now.range in
    let rest = c.in-Some.rest.now in
    let o = c.in-Some-read_ref_in.version in
    let is = c.grammar.ensures.grammar ∙ ap (λ (m : Rules). grammar_of m.dialect) c.rules.ensures in
    let borrowed = subst (λ (g : Grammar). IsVersionRefIn g rest o) is ((c.read_ref_in.ensures.borrowed o).0 c.in-Some-read_ref_in.is) in
    let spells = subst (λ (g : Grammar). SpellsIn g (version_of o) rest) is c.in-Some-read_ref_in.ensures.version in
    let matches = matched range o _ (spelled_fits (versions_grammar range) (version_of o) rest spells)
    (c.contains_ref.ensures.of_text rest borrowed) in (
      c.args.prefix.now,
      version_of o,
      (refl, (rest, c.in-Some.ensures, spells)),
      matches ∙ c.if-contains_ref.true,
      refl,
      c.given.ensures,
    )

pub returns-else-contains_ref : goal.returns-else-contains_ref
returns-else-contains_ref c =
    let range = c.args.self.now.range in
    let rest = c.in-Some.rest.now in
    let o = c.in-Some-read_ref_in.version in
    let is = c.grammar.ensures.grammar ∙ ap (λ (m : Rules). grammar_of m.dialect) c.rules.ensures in
    let borrowed = subst (λ (g : Grammar). IsVersionRefIn g rest o) is ((c.read_ref_in.ensures.borrowed o).0 c.in-Some-read_ref_in.is) in
    let spells = subst (λ (g : Grammar). SpellsIn g (version_of o) rest) is c.in-Some-read_ref_in.ensures.version in
    let matches = matched range o _ (spelled_fits (versions_grammar range) (version_of o) rest spells)
    (c.contains_ref.ensures.of_text rest borrowed) in
    (c.args.prefix.now, version_of o, (refl, (rest, c.in-Some.ensures, spells)), matches ∙ c.if-contains_ref.false)
