use Rattle.std.proofs.Common.{◌≡◌, ap, ◌∙◌}
use Rattle.std.specs.List.{prefix_len}
use Rattle.semver_texts.specs.Texts.{is_part_byte}
use Rattle.semver_tokens.proofs.Cuts.{cut_after_prefix}
use Rattle.semver_tokens.proofs.FirstToken.{part_ascii}
use Rattle.semver_tokens.proofs.parser.identifier_front.Goals as goal
use Rattle.semver_tokens.proofs.parser.identifier_front.Goals.{After-part_len-len}

len_is : (c : After-part_len-len) → c.part_len-len.result ≡ prefix_len is_part_byte c.args.text.now
len_is c = c.part_len-len.ensures ∙ ap (prefix_len is_part_byte) c.as_bytes.ensures.value

pub range-requires-clause-end_boundary : goal.range-requires-clause-end_boundary
range-requires-clause-end_boundary c =
    rw (len_is c) (cut_after_prefix is_part_byte part_ascii c.args.text.now c.utf8.text)
