use Rattle.std.proofs.Common.{arith, refl, sym, ◌∙◌}
use Rattle.semver_texts.proofs.PartRuns.{marked_is}
use Rattle.semver_versions.proofs.KeptTexts.{part_fits}
use Rattle.semver_versions.proofs.version_ref.with_parts.Goals as goal

pub overflow_add-pre_end : goal.overflow_add-pre_end
overflow_add-pre_end c =
    omega (arith, c.requires.fits, c.marked_len.ensures ∙ sym (marked_is 45 _ c.args.pre.now refl))

pub after_mark_at-requires : goal.after_mark_at-requires
after_mark_at-requires c = omega (arith, c.requires.fits, part_fits 45 c.args.pre.now)

pub after_mark_at-requires-2 : goal.after_mark_at-requires-2
after_mark_at-requires-2 c =
    omega (arith, c.requires.fits, c.marked_len.ensures ∙ sym (marked_is 45 _ c.args.pre.now refl), part_fits 43 c.args.build.now)

pub returns : goal.returns
returns c = rw (
  c.after_mark_at.ensures,
  c.after_mark_at-2.ensures,
  c.marked_len.ensures ∙ sym (marked_is 45 _ c.args.pre.now refl),
)
