use Rattle.std.proofs.Common.{◌<◌, ◌≤◌, arith, bit_or}
use Rattle.std.proofs.lemmas.Bool.Decides.{nat_tests}
use Rattle.std.proofs.lemmas.Nat.{le_or_l, le_or_r, or_lt}
use Rattle.semver_versions.proofs.reader.are_small.Goals as goal

-- each of the three numbers is at most their bitwise or
pub returns-clause-yes : goal.returns-clause-yes
returns-clause-yes c = λ e.
    let two = bit_or c.args.major c.args.minor in
    let small : bit_or two c.args.patch ≤ 9007199254740991 = grind (arith, nat_tests) in (
      omega (arith, small, le_or_l c.args.major c.args.minor, le_or_l two c.args.patch),
      omega (arith, small, le_or_r c.args.major c.args.minor, le_or_l two c.args.patch),
      omega (arith, small, le_or_r two c.args.patch),
    )

pub returns-clause-no : goal.returns-clause-no
returns-clause-no c = λ e fit.
    let two = bit_or c.args.major c.args.minor in
    let large : 9007199254740991 < bit_or two c.args.patch = grind (arith, nat_tests) in
    omega (arith, large, or_lt 53 two c.args.patch (or_lt 53 c.args.major c.args.minor fit.0 fit.1) fit.2)
