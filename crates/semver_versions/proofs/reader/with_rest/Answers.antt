use Rattle.std.proofs.Common.{arith}
use Rattle.semver_texts.specs.Texts.{cut_at_dots}
use Rattle.semver_versions.specs.Steps.Reading.{hyphens_of}
use Rattle.semver_versions.proofs.KeptTexts.{are_parts}
use Rattle.semver_versions.proofs.ReadVersions.{has_version_ref, parts_fit, there_are_parts}
use Rattle.semver_versions.proofs.reader.with_rest.Goals as goal

pub returns-in_err-pre : goal.returns-in_err-pre
returns-in_err-pre c = λ text before n at. rw c.from_residual.ensures
    (λ v w. c.in_err-pre.ensures _ _ (there_are_parts w c.args.rest.now c.args.major c.args.minor c.args.patch n))

pub with_parts-requires : goal.with_parts-requires
with_parts-requires c =
    let h = hyphens_of c.args.grammar in
    record {
      pre = are_parts h (cut_at_dots c.in_ok-pre.pre.now) c.in_ok-pre.ensures.pre_each;
      build = are_parts h (cut_at_dots c.in_ok-pre.build.now) c.in_ok-pre.ensures.build_each;
      fits = omega (
        arith,
        c.requires.within,
        parts_fit c.args.grammar c.args.rest.now c.in_ok-pre.pre.now c.in_ok-pre.build.now c.in_ok-pre.ensures,
      );
    }

pub returns : goal.returns
returns c = λ text before n at.
    rw (c.with_parts.ensures, c.digits.ensures)
    (has_version_ref c.args.grammar text c.args.rest.now c.in_ok-pre.pre.now c.in_ok-pre.build.now c.args.major c.args.minor c.args.patch n
    c.in_ok-pre.ensures c.requires.fit before c.args.numbers_end at)
