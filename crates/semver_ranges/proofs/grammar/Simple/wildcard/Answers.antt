use Rattle.std.proofs.Common.{codes, refl}
use Rattle.semver_ranges.specs.RangeTree.{one}
use Rattle.semver_ranges.proofs.grammar.Simple.wildcard.Goals as goal

pub returns : goal.returns
returns c = (
  refl,
  c.of.ensures (one (codes "*")) (record { components = ((refl, refl), refl, refl); pre = refl; build = refl; parts = refl }),
)
