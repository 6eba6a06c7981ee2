use Rattle.std.proofs.Common.{◌≡◌, ◌∙◌, arith, sym, to_z, of_z, w32}
use Rattle.semver_texts.proofs.OneOption.{one_option}
use Rattle.semver_ranges.specs.DialectTable.{number_of}
use Rattle.semver_ranges.specs.declared.dialect.Dialect.{Dialect}
use Rattle.tool_ranges.proofs.laws.one_dialect_of_number.Goals as goal

one : (r s : Dialect) → number_of r ≡ number_of s → r ≡ s
one r s is = grind arith

pub returns : goal.returns
returns c =
    let n = to_z w32 (of_z w32 c.args.number) in
    record {
      one = one_option (λ r. n ≡ number_of r) _ _ (λ r s is is'. one r s (sym is ∙ is')) c.from_number.ensures c.from_number-2.ensures;
    }
