use Rattle.std.proofs.Common.{◌≡◌, arith, get_or, length, option_map, refl, subst, true, Less, ◌↔◌}
use Rattle.std.proofs.lemmas.Option.{slice_get-get_or}
use Rattle.semver_versions.specs.VersionRefs.{VersionRefValue, version_of}
use Rattle.semver_texts.specs.Versions.{PlainVersion}
use Rattle.tool_ranges.specs.VersionRanges.{versions_grammar}
use Rattle.tool_ranges.specs.Highest.{IsMember, order_for}
use Rattle.tool_ranges.proofs.HighestMembers.{IsBest, inside, mapped, member_text, only_one, skipped, stepped, whole}
use Rattle.tool_ranges.proofs.version_range.VersionRange.extreme_index.Goals.{then-is_above, else-is_above}
use Rattle.tool_ranges.proofs.version_range.VersionRange.extreme_index.Goals as goal

pub loop-at-init : goal.loop-at-init
loop-at-init c = λ k v member less. grind arith

pub loop-at-preserved-in_default : goal.loop-at-preserved-in_default
loop-at-preserved-in_default c =
    skipped _ _ _ _ c.loop-at.at _ _ (λ v member. c.in_default.ensures (member_text _ _ _ c.loop-at.at _ v member)) c.loop-at.invariant

pub loop-at-preserved : goal.loop-at-preserved
loop-at-preserved c =
    let w = version_of c.in-Some.borrowed in
    let one : IsMember (versions_grammar c.args.self.now) c.args.self.now.versions c.args.versions.now c.loop-at.at w.plain = record {
      text = get_or c.args.versions.now c.loop-at.at _;
      at = slice_get-get_or c.args.versions.now c.loop-at.at _ c.loop-at-test.true;
      version = w;
      spells = c.in-Some.ensures.0;
      plain = refl;
      is_in = c.in-Some.ensures.1;
    } in
    let only = only_one (versions_grammar c.args.self.now) c.args.self.now.versions c.args.versions.now c.one_version_in.ensures.same_version c.loop-at.at _ w
    c.in-Some.ensures.0 in
    let said = mapped (c.is_above.result ≡ true) (λ (b : PlainVersion). (c.is_above.result ≡ true) ↔ (order_for c.args.which b w.plain ≡
    Less))
    (λ (o : VersionRefValue). (version_of o).plain) c.loop-at.best c.is_above.ensures in
    let step = stepped c.args.which (versions_grammar c.args.self.now) c.args.self.now.versions c.args.versions.now c.loop-at.at c.loop-at.found _ w.plain
    c.is_above.result one
    only said c.loop-at.invariant in
    elim c.if-is_above.branch [
      | then-is_above b ↦ rw (b.found-is, b.best-is) (step.0 b.if-is_above.true)
      | else-is_above b ↦ rw (b.found-is, b.best-is) (step.1 b.if-is_above.false)
    ]

pub returns-in-Some-best : goal.returns-in-Some-best
returns-in-Some-best c =
    let all : c.loop-at.at ≡ length c.args.versions.now = grind (arith, c.loop-at-test.false, c.loop-at.auto.at-end) in
    rw c.in-Some-best.is at (whole c.args.which (versions_grammar c.args.self.now) c.args.self.now.versions c.args.versions.now c.loop-at.found _ (inside _ _ _)
    (subst (λ n. IsBest c.args.which (versions_grammar c.args.self.now) c.args.self.now.versions c.args.versions.now n c.loop-at.found
    (option_map (λ (o : VersionRefValue). (version_of o).plain) c.loop-at.best)) all c.loop-at.invariant))

pub returns-in-None : goal.returns-in-None
returns-in-None c =
    let all : c.loop-at.at ≡ length c.args.versions.now = grind (arith, c.loop-at-test.false, c.loop-at.auto.at-end) in
    rw c.in-None.is at (whole c.args.which (versions_grammar c.args.self.now) c.args.self.now.versions c.args.versions.now c.loop-at.found _ (inside _ _ _)
    (subst (λ n. IsBest c.args.which (versions_grammar c.args.self.now) c.args.self.now.versions c.args.versions.now n c.loop-at.found
    (option_map (λ (o : VersionRefValue). (version_of o).plain) c.loop-at.best)) all c.loop-at.invariant))
