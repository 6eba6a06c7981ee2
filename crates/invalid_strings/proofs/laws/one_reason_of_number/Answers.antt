use Rattle.std.proofs.Common.{◌≡◌, ◌∙◌, arith, sym, to_z, of_z, w32}
use Rattle.semver_texts.proofs.OneOption.{one_option}
use Rattle.invalid_strings.specs.ReasonTable.{number_of}
use Rattle.invalid_strings.specs.declared.reasons.Reason.{Reason}
use Rattle.invalid_strings.proofs.laws.one_reason_of_number.Goals as goal

one : (r s : Reason) → number_of r ≡ number_of s → r ≡ s
one r s is = grind arith

pub returns : goal.returns
returns c =
    let n = to_z w32 (of_z w32 c.args.number) in
    record {
      one = one_option (λ r. n ≡ number_of r) _ _ (λ r s is is'. one r s (sym is ∙ is')) c.from_number.ensures c.from_number-2.ensures;
    }
