use Rattle.std.proofs.Common.{[], append-nil, ◌∙◌, ap, length, sym}
use Rattle.std.specs.Prelude.{◌==◌}
use Rattle.semver_versions.proofs.WhiteSpaces.{none_size, same_around}
use Rattle.semver_versions.proofs.reader.may_end.Goals as goal

pub returns-else-is_empty-clause-no : goal.returns-else-is_empty-clause-no
returns-else-is_empty-clause-no c = λ no around.
    let w = c.after_around.ensures in
    let rest = c.after_around.result.now in
    let none = (same_around c.args.grammar c.args.bytes.now w.0 [] rest around w.1 (append-nil c.args.bytes.now ∙ w.2)
    (none_size c.args.grammar) w.3).1 in
    let e = sym no ∙ c.is_empty-else-is_empty.ensures ∙ ap (λ t. length t == 0) (sym none) in cc
