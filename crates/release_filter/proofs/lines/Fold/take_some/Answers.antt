use Rattle.std.proofs.Common.{◌∙◌, subst, sym}
use Rattle.semver_texts.specs.Texts.{Text}
use Rattle.release_filter.specs.Pieces.{TakesLines}
use Rattle.release_filter.specs.Steps.Taking.{fold_value, some_line}
use Rattle.release_filter.proofs.Folds.{takes_none}
use Rattle.release_filter.proofs.HeldLines.{few_held}
use Rattle.release_filter.proofs.Matching.{no_length}
use Rattle.release_filter.proofs.lines.Fold.take_some.Goals as goal

pub returns-then-is_empty-clause-takes : goal.returns-then-is_empty-clause-takes
returns-then-is_empty-clause-takes c =
    let f = fold_value c.args.self.now in
    let old = c.args.kept.now.items in
    let none = no_length c.args.line.now (sym c.is_empty.ensures ∙ c.if-is_empty.true) in
    subst (λ (l : Text). TakesLines f (some_line l) f old old) (sym none) (takes_none f old (few_held c.args.self.now.held))
