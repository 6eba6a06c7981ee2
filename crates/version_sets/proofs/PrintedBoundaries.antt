-- A version that can be read back from its text can also be read back with the number 0 after its
-- pre-release.
use Rattle.std.proofs.Common.{◌≡◌, Bool, true, false, List}
use Rattle.std.proofs.Common.{refl, ◌∙◌}
use Rattle.std.proofs.lemmas.Bool.{and_parts}
use Rattle.std.proofs.lemmas.List.Folds.{list_all-append}
use Rattle.std.specs.List.{list_all}
use Rattle.semver_ranges.specs.Partials.{fits_u64}
use Rattle.semver_texts.specs.declared.grammar.Digits.{Digits}
use Rattle.semver_texts.specs.declared.grammar.Digits.TheVariants.{Kept, AnySize}
use Rattle.semver_texts.specs.Versions.{IdentifierValue, numeric, PlainVersion, numbers}
use Rattle.version_sets.specs.Printable.{is_kept_by, prints_by}
use Rattle.version_sets.specs.Steps.SpanViews.{successor}

pub zero_prints : (d : Digits) (v : PlainVersion) (added : Bool) → prints_by d v ≡ true
    → prints_by d (record { major = v.major; minor = v.minor; patch = v.patch; pre = successor v.pre added }) ≡ true
zero_prints d v added e =
    let both = and_parts (list_all fits_u64 (numbers v)) (list_all (is_kept_by d) v.pre) e in
    rw (both.0) (keep v.pre added both.1)
  where
    zero_kept : (d : Digits) → is_kept_by d (numeric 0) ≡ true
    zero_kept Kept = refl
    zero_kept AnySize = refl

    keep : (ids : List IdentifierValue) (added : Bool) → list_all (is_kept_by d) ids ≡ true
        → list_all (is_kept_by d) (successor ids added) ≡ true
    keep ids true f = list_all-append (is_kept_by d) ids _ ∙ rw (f, zero_kept d)
    keep ids false f = list_all-append (is_kept_by d) ids _ ∙ rw f
