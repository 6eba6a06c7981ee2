use Rattle.std.proofs.Common.{◌++◌, ap, codes, inl, refl, sym, ◌∙◌}
use Rattle.semver_texts.specs.declared.grammar.Grammar.TheVariants.{Npm}
use Rattle.semver_versions.specs.Steps.Reading.{around_size}
use Rattle.semver_versions.proofs.reader.after_front.Goals as goal

pub returns-in-Some : goal.returns-in-Some
returns-in-Some c =
    let w = rw c.in-Npm.is at c.after_around-rest.ensures in
    rw c.in-Npm.is (
      w.0,
      codes "v",
      w.1,
      inl refl,
      w.2 ∙ ap (λ t. w.0 ++ t) c.in-Some.ensures,
      ap (around_size Npm) (sym c.in-Some.ensures) ∙ w.3,
    )
