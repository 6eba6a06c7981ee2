use Rattle.semver_texts.specs.declared.grammar.Grammar.TheVariants.{Crate}
use Rattle.semver_ranges.proofs.ReadingComplete.{same_tree}
use Rattle.semver_ranges.proofs.laws.one_tree.Goals as goal

pub returns : goal.returns
returns c = record { same_tree = same_tree Crate }
