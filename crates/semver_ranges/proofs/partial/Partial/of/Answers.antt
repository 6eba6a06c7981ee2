use Rattle.std.proofs.Common.{Some, None, refl}
use Rattle.semver_ranges.specs.declared.partial.Component.TheVariants.{Wildcard}
use Rattle.semver_ranges.proofs.StatedNumbers.{states_one, states_two, states_three}
use Rattle.semver_ranges.proofs.partial.Partial.of.Goals as goal

pub returns-in_default-minor-2 : goal.returns-in_default-minor-2
returns-in_default-minor-2 c = λ t are.
    let states = states_one t c.in-Number.major (Some (Wildcard c.in_default-minor-2.field-0)) c.args.written.now.patch
    (rw (c.in-Number.is, c.in-Some.is, c.in_default-minor-2.is) at are.components) tt in
    rw (c.is_some.ensures, c.unwrap_or.ensures) (states.0, states.1, λ _. refl, refl)

pub returns-in_default-patch : goal.returns-in_default-patch
returns-in_default-patch c = λ t are.
    let states = states_two t c.in-Number.major c.in-Number-minor.minor None
    (rw (c.in-Number.is, c.in-Some.is, c.in-Number-minor.is, c.in_default-patch.is) at are.components) tt in
    rw (c.is_some.ensures, c.is_some-2.ensures, c.unwrap_or.ensures, c.unwrap_or-2.ensures) (states.0, states.1, λ _. refl, refl)

pub returns-in_default-patch-2 : goal.returns-in_default-patch-2
returns-in_default-patch-2 c = λ t are.
    let states = states_two t c.in-Number.major c.in-Number-minor.minor (Some (Wildcard c.in_default-patch-2.field-0))
    (rw (c.in-Number.is, c.in-Some.is, c.in-Number-minor.is, c.in-Some-patch.is, c.in_default-patch-2.is) at are.components) tt in
    rw (c.is_some.ensures, c.is_some-2.ensures, c.unwrap_or.ensures, c.unwrap_or-2.ensures) (states.0, states.1, λ _. refl, refl)

pub returns : goal.returns
returns c = λ t are.
    let components = rw (c.in-Number.is, c.in-Some.is, c.in-Number-minor.is, c.in-Some-patch.is, c.in-Number-patch.is) at are.components in
    let states = states_three t c.in-Number.major c.in-Number-minor.minor c.in-Number-patch.patch c.args.written.now.pre.now components are.pre in
    rw (
      c.is_some.ensures,
      c.is_some-2.ensures,
      c.is_some-3.ensures,
      c.unwrap_or.ensures,
      c.unwrap_or-2.ensures,
      c.unwrap_or-3.ensures,
    ) (states.0, states.1, λ _. refl, c.requires)
