use Rattle.std.proofs.lemmas.Cmp.{tied_itself}
use Rattle.std.proofs.Common.{ap, sym, ◌∙◌}
use Rattle.semver_texts.specs.Precedence.{precedence}
use Rattle.semver_texts.specs.Steps.PrecedenceLaws.{precedence_total, precedence-same}
use Rattle.semver_texts.proofs.laws.precedence_is_total.Goals as goal

pub returns-clause-total : goal.returns-clause-total
returns-clause-total c = precedence_total

pub returns-clause-same : goal.returns-clause-same
returns-clause-same c = λ v w. (precedence-same v w, λ e. ap (precedence v) (sym e) ∙ tied_itself precedence_total v)
