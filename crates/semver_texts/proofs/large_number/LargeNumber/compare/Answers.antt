use Rattle.std.proofs.Common.{rules}
use Rattle.semver_texts.proofs.LargeNumbers.{bytes_decide, lengths_decide}
use Rattle.semver_texts.proofs.large_number.LargeNumber.compare.Goals as goal

pub returns-then-is_ne : goal.returns-then-is_ne
returns-then-is_ne c =
    let s = c.args.self.now in
    let t = c.args.other.now in
    lengths_decide s.digits.now t.digits.now s.large t.large c.cmp-by_length.result (search rules) (search rules)

pub returns : goal.returns
returns c =
    let s = c.args.self.now in
    let t = c.args.other.now in
    bytes_decide s.digits.now t.digits.now s.large t.large c.cmp-by_length.result c.cmp.result (search rules) (search rules)
    (search rules)
