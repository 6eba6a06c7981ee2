use Rattle.std.proofs.Common.{sym, ◌∙◌}
use Rattle.semver_texts.proofs.PartRuns.{no_zero_begins}
use Rattle.semver_texts.proofs.dotted.have_no_leading_zeros.Goals as goal

pub returns-then-not-begins_oddly : goal.returns-then-not-begins_oddly
returns-then-not-begins_oddly c = sym (no_zero_begins c.args.parts.now (sym c.begins_oddly.ensures ∙ c.if-not-begins_oddly.true))
