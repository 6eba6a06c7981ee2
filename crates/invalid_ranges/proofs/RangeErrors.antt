-- If a call returns an error for a range text, other than `OutOfMemory`, the text has this error
-- only, and no set.
use Rattle.std.proofs.Common.{◌≡◌, ◌≢◌, Err, ◌↔◌, ◌∙◌, ap, arith}
use Rattle.std.specs.Prelude.{Result}
use Rattle.semver_texts.specs.Texts.{Text}
use Rattle.semver_ranges.specs.declared.range_set.RangeError.{RangeError}
use Rattle.semver_ranges.specs.declared.range_set.RangeError.TheVariants.{NotARange, NumberTooLarge, OutOfMemory}
use Rattle.semver_ranges.specs.declared.dialect.Dialect.{Dialect}
use Rattle.tool_ranges.specs.Dialects.{HasSetAs, IsTextAs, IsTooLargeAs, RefusesAs, fits_as}
use Rattle.tool_ranges.proofs.ReadingLaws.{one_tree}
use Rattle.std.proofs.lemmas.Grind.{common_steps}

pub record HasError (dialect : Dialect) (t : Text) (e : RangeError) : Type 0 where
  pub not_a_range : (e ≡ NotARange) ↔ ¬ (IsTextAs dialect t)
  pub too_large : (e ≡ NumberTooLarge) ↔ IsTooLargeAs dialect t
  pub no_set : ¬ (HasSetAs dialect t)
  pub kept : e ≢ OutOfMemory

not_large_and_fitting : (dialect : Dialect) (t : Text) → IsTooLargeAs dialect t → HasSetAs dialect t → ⊥
not_large_and_fitting dialect t (tree, spells, large) (other, spells', fits) = grind (arith, common_steps, one_tree, fits_as)

module _ {A : Type 0} (dialect : Dialect) (t : Text) (r : Result A RangeError) (refuses : RefusesAs dialect t r)
    (kept : r ≡ Err OutOfMemory → ⊥) where
  no_set_of : (e : RangeError) → r ≡ Err e → HasSetAs dialect t → ⊥
  no_set_of NotARange is (tree, spells, fits) = refuses.not_a_range.0 is (tree, spells)
  no_set_of NumberTooLarge is set = not_large_and_fitting dialect t (refuses.too_large.0 is) set
  no_set_of OutOfMemory is set = kept is

  pub has_error : (e : RangeError) → r ≡ Err e → HasError dialect t e
  has_error e is = record {
    not_a_range = (λ h. refuses.not_a_range.0 (is ∙ ap Err h), λ none. one_error is (refuses.not_a_range.1 none));
    too_large = (λ h. refuses.too_large.0 (is ∙ ap Err h), λ large. one_error is (refuses.too_large.1 large));
    no_set = no_set_of e is;
    kept = λ h. kept (is ∙ ap Err h);
  }
    where
      one_error : {e f : RangeError} → r ≡ Err e → r ≡ Err f → e ≡ f
      one_error h k = cc
