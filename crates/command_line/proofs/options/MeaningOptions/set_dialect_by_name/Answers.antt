use Rattle.semver_ranges.specs.declared.dialect.Dialect.TheVariants.{CrateCargo, CrateNpm}
use Rattle.command_line.proofs.options.MeaningOptions.set_dialect_by_name.Goals as goal

pub returns-in-text-clause-unknown : goal.returns-in-text-clause-unknown
returns-in-text-clause-unknown c = λ unknown. absurd (unknown (CrateCargo, c.in-text.is))

pub returns-in-text-2-clause-unknown : goal.returns-in-text-2-clause-unknown
returns-in-text-2-clause-unknown c = λ unknown. absurd (unknown (CrateNpm, c.in-text-2.is))
