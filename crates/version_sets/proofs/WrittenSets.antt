-- The text of an identifier doesn't depend on how its digits are read; and the text of intervals.
use Rattle.std.proofs.Common.{◌≡◌, ℕ, ◌≤◌, false, List, [], ◌∷◌, ◌++◌, arith, cond, codes, length, map, refl, sym, ap, ap₂, ◌∙◌, take_all}
use Rattle.std.proofs.lemmas.Bool.{and_parts}
use Rattle.semver_texts.proofs.Joins.{joined_all}
use Rattle.semver_texts.proofs.LargeNumbers.{number_numeral}
use Rattle.semver_texts.proofs.Lists.{by_test}
use Rattle.semver_texts.specs.Digits.{any_size, identifiers_by}
use Rattle.semver_texts.specs.PrintedText.{identifier_text}
use Rattle.semver_texts.specs.Texts.{Text, is_empty, is_large, is_number, joined}
use Rattle.semver_texts.specs.Versions.{IdentifierValue, numeric, alphanumeric}
use Rattle.semver_texts.specs.declared.grammar.Digits.{Digits}
use Rattle.semver_texts.specs.declared.grammar.Digits.TheVariants.{Kept, AnySize}
use Rattle.semver_ranges.specs.RewritingTable.{PlainRange}
use Rattle.version_sets.specs.SetRanges.{is_whole, kinds_text, npm_set, pre_release_ranges}
use Rattle.version_sets.specs.SetRanges.{range_text_by, ranges_text_by, release_ranges}
use Rattle.version_sets.specs.VersionSets.{SetValue}
use Rattle.version_sets.specs.Steps.ComparatorRefs.{others_text}

-- ---- identifiers

same_text : (id : IdentifierValue) → identifier_text (any_size id) ≡ identifier_text id
same_text (numeric n) = refl
same_text (alphanumeric t) =
    by_test (is_large t) (λ large. rw large (sym (number_numeral t (and_parts (is_number t) _ large).0))) (λ small. rw small refl)

any_texts : (ids : List IdentifierValue) → map identifier_text (map any_size ids) ≡ map identifier_text ids
any_texts [] = refl
any_texts (id ∷ ids) = ap₂ (λ t ts. t ∷ ts) (same_text id) (any_texts ids)

pub same_texts : (d : Digits) (ids : List IdentifierValue) → map identifier_text (identifiers_by d ids) ≡ map identifier_text ids
same_texts Kept ids = refl
same_texts AnySize ids = any_texts ids

-- ---- intervals

le_refl : (n : ℕ) → n ≤ n
le_refl n = omega arith

-- the text of a set is that of its first range, and then that of each other range after ` || `
pub first_and_others : (t : Text) (r : PlainRange) (rs : List PlainRange)
    → range_text_by t r ++ others_text t rs ≡ joined (codes " || ") (map (range_text_by t) (r ∷ rs))
first_and_others t r rs =
    ap (λ l. range_text_by t r ++ others_text t l) (sym (take_all (length rs) rs (le_refl (length rs))))
    ∙ joined_all (range_text_by t) (codes " || ") (r ∷ rs) r rs (length rs) refl (le_refl (length rs))

-- if there is a range, and not just the one of every version of a kind, the text of the ranges is
-- that of the set
pub not_whole : (t : Text) (r : PlainRange) (rs : List PlainRange) → is_whole (r ∷ rs) ≡ false
    → joined (codes " || ") (map (range_text_by t) (r ∷ rs)) ≡ ranges_text_by t (npm_set (r ∷ rs))
not_whole t r rs e = sym (ap (λ w. cond w (codes "*") (joined (codes " || ") (map (range_text_by t) (r ∷ rs)))) e)

-- the text of a set that has both releases and pre-releases
pub both_kinds : (t : Text) (set : SetValue) → is_empty set.releases ≡ false → is_empty set.pre_releases ≡ false
    → ranges_text_by t (release_ranges set) ++ (codes ", pre-releases " ++ ranges_text_by t (pre_release_ranges set)) ≡ kinds_text t set
both_kinds t set e f =
    let rs = ranges_text_by t (release_ranges set) in
    let ps = ranges_text_by t (pre_release_ranges set) in
    sym (ap (λ b. cond b rs (cond (is_empty set.releases) (codes "pre-releases " ++ ps) (rs ++ (codes ", pre-releases " ++ ps)))) f
    ∙ ap (λ b. cond b (codes "pre-releases " ++ ps) (rs ++ (codes ", pre-releases " ++ ps))) e)
