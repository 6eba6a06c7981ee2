use Rattle.std.proofs.Common.{refl}
use Rattle.semver_texts.specs.ToolVersions.{SpellsIn}
use Rattle.semver_versions.specs.VersionRefs.{IsVersionRefIn, version_of}
use Rattle.tool_ranges.proofs.ContainedTexts.{in_its_grammar}
use Rattle.tool_ranges.proofs.version_range.VersionRange.contains_bytes.Goals as goal

pub returns-in-Some : goal.returns-in-Some
returns-in-Some c =
    let borrowed = c.in-Some.borrowed in
    let text = c.args.version.now in (
      version_of borrowed,
      in_its_grammar (λ g. SpellsIn g (version_of borrowed) text) _ _ _ c.self.view_is c.grammar.ensures.grammar c.in-Some.ensures.version,
      c.contains_ref.ensures.of_text text
          (in_its_grammar (λ g. IsVersionRefIn g text borrowed) _ _ _ c.self.view_is c.grammar.ensures.grammar
          ((c.in-Some.ensures.borrowed borrowed).0 refl)),
    )
