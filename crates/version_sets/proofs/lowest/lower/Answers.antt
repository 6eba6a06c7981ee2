use Rattle.std.proofs.Common.{ap, sym, cond, Some, false, true, ◌∙◌}
use Rattle.std.specs.Prelude.{option_map}
use Rattle.semver_versions.specs.ReadVersions.{read_plain}
use Rattle.version_sets.specs.Releases.{release_value}
use Rattle.version_sets.specs.Steps.Lower.{lower}
use Rattle.version_sets.specs.Steps.Within.{first_value}
use Rattle.version_sets.proofs.Lists.{on_err}
use Rattle.version_sets.proofs.lowest.lower.Goals as goal

pub returns-in_err-version-clause-out_of_memory : goal.returns-in_err-version-clause-out_of_memory
returns-in_err-version-clause-out_of_memory c =
    let release = option_map (first_value true release_value) c.args.release in
    let p = first_value false read_plain c.in-Some.pre_release in
    on_err c.from_residual.result (
      p,
      ap (option_map (first_value false read_plain)) c.in-Some.is,
      ap (λ o. lower release (option_map (first_value false read_plain) o)) c.in-Some.is
          ∙ ap (λ t. cond t release (Some p)) (sym c.is_above.ensures ∙ c.if-is_above.false),
    )
