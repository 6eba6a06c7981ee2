use Rattle.std.proofs.Common.{arith}
use Rattle.std.proofs.lemmas.List.Sums.{prefix_len-le-length}
use Rattle.semver_texts.specs.Texts.{is_dotted_byte}
use Rattle.semver_texts.proofs.dotted.marked_part.Goals as goal

pub split_at-requires : goal.split_at-requires
split_at-requires c = omega (arith, c.in_ok-len.ensures.1, prefix_len-le-length is_dotted_byte c.in-Some.after.now)
