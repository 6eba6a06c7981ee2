use Rattle.std.proofs.Common.{◌≡◌, ◌+◌, ◌-◌, ◌/◌, ◌<◌, ◌∙◌, ap, is_ge, arith, subst, length, false}
use Rattle.std.specs.List.{AllWithin}
use Rattle.semver_texts.specs.Digits.{plain_by}
use Rattle.semver_versions.specs.VersionRefs.{kept_version_of}
use Rattle.semver_texts.specs.Precedence.{precedence}
use Rattle.semver_texts.specs.Steps.PrecedenceLaws.{precedence_total}
use Rattle.semver_versions.specs.ReadVersions.{read_plain}
use Rattle.version_sets.proofs.BorrowedPlaces.{is_reached, narrowed_above, narrowed_below}
use Rattle.version_sets.proofs.SearchLaws.{odd_passed}
use Rattle.version_sets.proofs.boundaries.contains_ref.Goals as goal

pub returns : goal.returns
returns c =
    let xs = c.args.boundaries.now in
    let v = (plain_by c.args.digits (kept_version_of c.args.borrowed.now).plain) in
    let known = c.loop-low.invariant.2 in
    let met : c.loop-low.high ≡ c.loop-low.low = omega (arith, c.loop-low.invariant.0, c.loop-low-test.false) in
    c.is_odd.ensures
    ∙ odd_passed precedence precedence_total read_plain v xs c.loop-low.low (omega (arith, met, c.loop-low.invariant.1))
    (known.0, subst (λ n. AllWithin (λ s. is_reached v s ≡ false) xs n (length xs)) met known.1)

pub loop-low-preserved-then-is_ge : goal.loop-low-preserved-then-is_ge
loop-low-preserved-then-is_ge c =
    let middle = c.loop-low.low + (c.loop-low.high - c.loop-low.low) / 2 in
    let below : middle < c.loop-low.high = omega (arith, c.loop-low-test.true) in (
      omega (arith, below),
      c.loop-low.invariant.1,
      narrowed_below (plain_by c.args.digits (kept_version_of c.args.borrowed.now).plain) c.args.boundaries.now c.requires c.loop-low.low c.loop-low.high middle
          c.loop-low.invariant.2 c.index-boundaries-middle.result (omega (arith, below, c.loop-low.invariant.1))
          c.index-boundaries-middle.is c.is_ge.result (c.is_ge.ensures ∙ ap is_ge c.compared_ref.ensures) c.if-is_ge.true,
    )

pub loop-low-preserved : goal.loop-low-preserved
loop-low-preserved c =
    let middle = c.loop-low.low + (c.loop-low.high - c.loop-low.low) / 2 in
    let below : middle < c.loop-low.high = omega (arith, c.loop-low-test.true) in (
      omega arith,
      omega (arith, below, c.loop-low.invariant.1),
      narrowed_above (plain_by c.args.digits (kept_version_of c.args.borrowed.now).plain) c.args.boundaries.now c.requires c.loop-low.low c.loop-low.high middle
          c.loop-low.invariant.2 c.index-boundaries-middle.result (omega (arith, below, c.loop-low.invariant.1))
          c.index-boundaries-middle.is c.is_ge.result (c.is_ge.ensures ∙ ap is_ge c.compared_ref.ensures) c.if-is_ge.false,
    )
