use Rattle.std.proofs.Common.{refl}
use Rattle.semver_ranges.specs.RangeTree.{one, two, three}
use Rattle.semver_texts.specs.Texts.{cut_at_dots}
use Rattle.semver_ranges.proofs.CursorSteps.{major_end, minor_end}
use Rattle.semver_ranges.proofs.grammar.read_components.Goals as goal

pub returns-in_default : goal.returns-in_default
returns-in_default c =
    let major = c.in_ok-major.ensures in (
      one major.0,
      rw major.1 (major_end major.0 c.in_ok-major.rest.now c.in_default.ensures),
      record { components = (major.2, refl, refl); pre = refl; build = refl; parts = refl },
    )

pub returns-in_default-strip_mark : goal.returns-in_default-strip_mark
returns-in_default-strip_mark c =
    let major = c.in_ok-major.ensures in
    let minor = c.in_ok-minor.ensures in (
      two major.0 minor.0,
      rw (major.1, c.in-Some.ensures, minor.1) (minor_end major.0 minor.0 c.in_ok-minor.rest.now c.in_default-strip_mark.ensures),
      record { components = (major.2, minor.2, refl); pre = refl; build = refl; parts = refl },
    )

pub returns : goal.returns
returns c =
    let major = c.in_ok-major.ensures in
    let minor = c.in_ok-minor.ensures in
    let patch = c.in_ok-patch.ensures in
    let after = c.in_ok-pre.ensures.0 major.0 minor.0 patch.0 in
    let pre = cut_at_dots c.in_ok-pre.pre.now in
    let build = cut_at_dots c.in_ok-pre.build.now in (
      three major.0 minor.0 patch.0 pre build,
      rw (major.1, c.in-Some.ensures, minor.1, c.in-Some-strip_mark.ensures, patch.1) after,
      record {
        components = (major.2, minor.2, patch.2);
        pre = refl;
        build = refl;
        parts = c.in_ok-pre.ensures.1;
      },
    )
