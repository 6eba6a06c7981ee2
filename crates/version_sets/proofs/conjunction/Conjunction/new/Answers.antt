use Rattle.std.proofs.Common.{◌∙◌, ap, is_ge, refl}
use Rattle.semver_texts.specs.Precedence.{precedence}
use Rattle.semver_texts.specs.Texts.{is_empty}
use Rattle.semver_texts.proofs.Lists.{by_test}
use Rattle.version_sets.proofs.NumberLaws.{and_true}
use Rattle.version_sets.proofs.KindLaws.{pre_release_lowest, release_lowest}
use Rattle.version_sets.proofs.conjunction.Conjunction.new.Goals as goal

pub returns-clause-all : goal.returns-clause-all
returns-clause-all c = λ v small. by_test (is_empty v.pre)
    (λ y. rw y (and_true _ ∙ release_lowest _ v y refl))
    (λ n. rw n (and_true _ ∙ ap (λ p. is_ge (precedence v p)) c.lowest.ensures.place ∙ pre_release_lowest _ v refl n refl))
