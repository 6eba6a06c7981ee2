use Rattle.std.proofs.Common.{◌≡◌, ◌≢◌, Bool, true, false, Ok, Err, ap, refl, sym}
use Rattle.std.specs.Prelude.{◌↔◌, IfOk, Result}
use Rattle.semver_texts.specs.Digits.{digits_in, plain_by}
use Rattle.semver_texts.specs.Texts.{Text}
use Rattle.semver_texts.specs.Versions.{PlainVersion}
use Rattle.semver_versions.specs.VersionRefs.{kept_version_of}
use Rattle.semver_ranges.specs.RangeTree.{SetTree}
use Rattle.semver_ranges.specs.declared.range_set.RangeError.{RangeError}
use Rattle.semver_ranges.specs.declared.range_set.RangeError.TheVariants.{NotARange, NumberTooLarge, OutOfMemory}
use Rattle.tool_ranges.specs.AtOrAbove.{HasAtOrAbove}
use Rattle.tool_ranges.specs.Dialects.{RefusesAs, SpellsAs}
use Rattle.semver_ranges.specs.DialectTable.{grammar_of}
use Rattle.tool_ranges.specs.declared.meaning.Rules.{Rules}
use Rattle.tool_ranges.proofs.laws.one_has_at_or_above.Goals as goal

same : {P : Type 0} (a b : Bool) → (a ≡ true) ↔ P → (b ≡ true) ↔ P → a ≡ b
same true b is other = sym (other.1 (is.0 refl))
same false true is other = is.1 (other.0 refl)
same false false is other = refl

module _ (m : Rules) (t : Text) (v : PlainVersion) where
  abbrev Has : Result Bool RangeError → Type 0
  Has r = IfOk r (λ has. (tree : SetTree) → SpellsAs m.dialect tree t → (has ≡ true) ↔ HasAtOrAbove m tree v)

  -- two results with the clauses of the call are equal
  one_result : (r s : Result Bool RangeError) → RefusesAs m.dialect t r → RefusesAs m.dialect t s → r ≢ Err OutOfMemory → s ≢ Err OutOfMemory
      → Has r → Has s → r ≡ s
  one_result (Ok a) (Ok b) is other enough too has also =
      let tree = is.accepted in ap Ok (same a b (has tree.0 tree.1) (also tree.0 tree.1))
  one_result (Ok a) (Err NotARange) is other enough too has also = is.not_a_range.1 (other.not_a_range.0 refl)
  one_result (Ok a) (Err NumberTooLarge) is other enough too has also = is.too_large.1 (other.too_large.0 refl)
  one_result (Ok a) (Err OutOfMemory) is other enough too has also = absurd (too refl)
  one_result (Err NotARange) s is other enough too has also = sym (other.not_a_range.1 (is.not_a_range.0 refl))
  one_result (Err NumberTooLarge) s is other enough too has also = sym (other.too_large.1 (is.too_large.0 refl))
  one_result (Err OutOfMemory) s is other enough too has also = absurd (enough refl)

pub returns : goal.returns
returns c =
    let m = c.args.meaning in
    let r = c.has_at_or_above.ensures in
    let s = c.has_at_or_above-2.ensures in
    record {
      one = one_result m c.args.range.now (plain_by (digits_in (grammar_of m.dialect)) (kept_version_of c.args.version.now).plain)
          c.has_at_or_above.result c.has_at_or_above-2.result r.refusals s.refusals r.no_memory s.no_memory r.has s.has;
    }
