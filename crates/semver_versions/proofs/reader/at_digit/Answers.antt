use Rattle.std.proofs.Common.{sym, ◌∙◌}
use Rattle.semver_versions.proofs.ReadTexts.{at_front, first_digit}
use Rattle.semver_versions.proofs.reader.at_digit.Goals as goal

pub returns-then-begins_with_digit : goal.returns-then-begins_with_digit
returns-then-begins_with_digit c =
    let digit = sym c.begins_with_digit.ensures ∙ c.if-begins_with_digit.true in
    (at_front c.args.grammar c.args.bytes.now (first_digit c.args.bytes.now digit), digit)
