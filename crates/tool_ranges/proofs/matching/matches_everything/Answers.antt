use Rattle.std.proofs.Common.{inl, inr}
use Rattle.semver_texts.specs.declared.grammar.Digits.TheVariants.{Kept}
use Rattle.tool_ranges.proofs.matching.matches_everything.Goals as goal

pub returns-in-GreaterOrEqual : goal.returns-in-GreaterOrEqual
returns-in-GreaterOrEqual c =
    elim c.in-GreaterOrEqual.is [ inl e ↦ rw e (c.is_zero.ensures Kept) | inr e ↦ rw e (c.is_zero.ensures Kept) ]
