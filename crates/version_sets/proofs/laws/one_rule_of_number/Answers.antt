use Rattle.std.proofs.Common.{◌≡◌, ◌∙◌, arith, sym, to_z, of_z, w32}
use Rattle.semver_texts.proofs.OneOption.{one_option}
use Rattle.version_sets.specs.PreReleaseTable.{number_of}
use Rattle.version_sets.specs.declared.rules.PreReleases.{PreReleases}
use Rattle.version_sets.proofs.laws.one_rule_of_number.Goals as goal

one : (r s : PreReleases) → number_of r ≡ number_of s → r ≡ s
one r s is = grind arith

pub returns : goal.returns
returns c =
    let n = to_z w32 (of_z w32 c.args.number) in
    record {
      one = one_option (λ r. n ≡ number_of r) _ _ (λ r s is is'. one r s (sym is ∙ is')) c.from_number.ensures c.from_number-2.ensures;
    }
