use Rattle.std.proofs.Common.{◌∙◌, ap, is_ge}
use Rattle.std.specs.Prelude.{Some}
use Rattle.semver_texts.specs.Precedence.{precedence}
use Rattle.version_sets.proofs.NumberLaws.{from-lowest}
use Rattle.version_sets.proofs.pre_release_end.PreReleaseEnd.above_numbers.Goals as goal

pub returns-clause-meaning : goal.returns-clause-meaning
returns-clause-meaning c = λ v kind.
    ap (λ p. is_ge (precedence v p)) c.lowest.ensures.place ∙ from-lowest (Some c.in_ok-next_numbers.field-0) v kind.1
    ∙ c.in_ok-next_numbers.ensures.above v kind.0
