use Rattle.semver_texts.specs.Texts.{Text}
use Rattle.semver_texts.specs.declared.grammar.Grammar.TheVariants.{Crate, Cargo}
use Rattle.invalid_strings.specs.Reasons.{IsTooLong}
use Rattle.invalid_strings.proofs.refusals.has_limit.Goals as goal

-- no text is too long, since a version of any length is a version in these grammars
pub returns-in-Crate : goal.returns-in-Crate
returns-in-Crate c = let none : (t : Text) → ¬ (IsTooLong Crate t) = λ t w. w.1 w.0 in rw c.in-Crate.is (λ e. none)

pub returns-in-Cargo : goal.returns-in-Cargo
returns-in-Cargo c = let none : (t : Text) → ¬ (IsTooLong Cargo t) = λ t w. w.1 w.0 in rw c.in-Cargo.is (λ e. none)
