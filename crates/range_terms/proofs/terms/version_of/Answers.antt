use Rattle.std.proofs.Common.{refl, ap, length, arith}
use Rattle.semver_texts.proofs.PartRuns.{parts_pass}
use Rattle.semver_ranges.specs.RangeTree.{build_parts, pre_parts}
use Rattle.range_terms.proofs.MadeVersions.{build_read, components_made, joined}
use Rattle.range_terms.proofs.Shorter.{rest_shorter}
use Rattle.range_terms.proofs.terms.version_of.Goals as goal

pub overflow_sub-result-2 : goal.overflow_sub-result-2
overflow_sub-result-2 c =
    let (d, x, is, within) = c.requires in
    let short = rest_shorter d x.from x.after x.partial is.read in
    omega (arith, short, within, ap length is.after)

pub text_of_parts-requires : goal.text_of_parts-requires
text_of_parts-requires c = parts_pass c.args.written.now.components.pre.now c.requires.2.written.parts

pub text_of_parts-requires-2 : goal.text_of_parts-requires-2
text_of_parts-requires-2 c =
    let (d, x, is, within) = c.requires in
    parts_pass c.args.written.now.components.build.now (build_read d x.from x.partial x.after c.args.written.now.components is.read is.written)

pub returns : goal.returns
returns c = λ d x is.
    let v = c.args.written.now.components in
    let made = components_made v c.component.result c.component_if_written.result c.component_if_written-2.result c.component.ensures
    (c.component_if_written.ensures.none, c.component_if_written.ensures.some)
    (c.component_if_written-2.ensures.none, c.component_if_written-2.ensures.some) x.partial is.written in
    let pre = joined (pre_parts x.partial) v.pre.now is.written.pre in
    let build = joined (build_parts x.partial) v.build.now is.written.build in
    rw (
      c.begins_with_v.ensures,
      is.from,
      is.after,
      c.text_of_parts.ensures,
      c.text_of_parts-2.ensures,
      made.major,
      made.minor,
      made.patch,
      pre,
      build,
    ) refl
