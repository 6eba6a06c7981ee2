use Rattle.std.proofs.Common.{◌∙◌, ap, refl, sym, true≢false}
use Rattle.semver_texts.specs.ToolVersions.{SpellsIn}
use Rattle.semver_texts.specs.Versions.{VersionValue}
use Rattle.semver_versions.specs.VersionRefs.{IsVersionRefIn, version_of}
use Rattle.version_sets.specs.VersionSets.{contains}
use Rattle.tool_ranges.proofs.ContainedTexts.{in_its_grammar}
use Rattle.tool_ranges.proofs.highest.member.Goals as goal

pub returns-then-not-contains_ref : goal.returns-then-not-contains_ref
returns-then-not-contains_ref c = λ is.
    let (v, spells, member) = is in
    let borrowed = c.in_ok-borrowed.borrowed in
    let text = c.args.version.now in
    let read = in_its_grammar (λ g. SpellsIn g (version_of borrowed) text) _ _ _ c.range.view_is c.grammar.ensures.grammar
    c.in_ok-borrowed.ensures.version in
    let said = c.contains_ref.ensures.of_text text
    (in_its_grammar (λ g. IsVersionRefIn g text borrowed) _ _ _ c.range.view_is c.grammar.ensures.grammar
    ((c.in_ok-borrowed.ensures.borrowed borrowed).0 refl)) in
    let same = c.one_version_in.ensures.same_version _ v _ _ spells read in
    true≢false (sym member ∙ ap (λ (w : VersionValue). contains c.args.range.now.versions w.plain) same ∙ sym said
    ∙ c.if-not-contains_ref.true)

pub returns : goal.returns
returns c =
    let borrowed = c.in_ok-borrowed.borrowed in
    let text = c.args.version.now in
    let said = c.contains_ref.ensures.of_text text
    (in_its_grammar (λ g. IsVersionRefIn g text borrowed) _ _ _ c.range.view_is c.grammar.ensures.grammar
    ((c.in_ok-borrowed.ensures.borrowed borrowed).0 refl)) in (
      in_its_grammar (λ g. SpellsIn g (version_of borrowed) text) _ _ _ c.range.view_is c.grammar.ensures.grammar
          c.in_ok-borrowed.ensures.version,
      sym said ∙ c.if-not-contains_ref.false,
      in_its_grammar (λ g. IsVersionRefIn g text borrowed) _ _ _ c.range.view_is c.grammar.ensures.grammar
          ((c.in_ok-borrowed.ensures.borrowed borrowed).0 refl),
      c.in_ok-borrowed.ensures.places.0,
    )
