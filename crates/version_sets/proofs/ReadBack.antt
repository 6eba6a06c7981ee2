-- The text of the ranges of a set, read in npm mode, gives comparators that the versions in the set
-- satisfy, and no others of their kind.
use Rattle.std.proofs.Common.{arith, ◌≡◌, Bool, true, false, not, ◌&&◌, ◌||◌, cond, List, [], ◌∷◌, codes, refl, sym, ap, ◌∙◌, subst}
use Rattle.std.proofs.Common.{IsTrue, All, is_ge}
use Rattle.std.specs.Prelude.{Option, Some, None}
use Rattle.std.specs.List.{AllByRecursion, list_any, list_all}
use Rattle.std.proofs.lemmas.Bool.{and_from, and_parts}
use Rattle.std.proofs.lemmas.Bool.Decides.{nat_tests}
use Rattle.std.proofs.lemmas.Fmt.{decimal_digit}
use Rattle.std.proofs.lemmas.List.Elements.{All-nil, All-cons}
use Rattle.semver_ranges.specs.declared.range.Op.{Op}
use Rattle.semver_ranges.specs.declared.range.Op.TheVariants.{Lt, Lte, Gt, Gte, Eq}
use Rattle.semver_ranges.specs.declared.range.Compat.TheVariants.{Npm}
use Rattle.semver_texts.specs.Texts.{is_empty}
use Rattle.semver_texts.specs.Versions.{numeric, PlainVersion}
use Rattle.semver_texts.specs.Precedence.{precedence}
use Rattle.semver_ranges.specs.Partials.{zero_version}
use Rattle.semver_ranges.specs.declared.operator.Operator.TheVariants.{Bare}
use Rattle.semver_ranges.specs.RangeTree.{one, simples, SetTree, Spells}
use Rattle.semver_ranges.specs.RewritingTable.{PlainComparator, PlainRange, PlainSet, comparator, fits, rewritten}
use Rattle.semver_ranges.specs.SatisfiedComparators.{meets_comparator, meets_range, meets_set}
use Rattle.semver_ranges.specs.PrintedRanges.{is_printable_version, IsPrintableRange, IsPrintableSet, set_text}
use Rattle.version_sets.specs.VersionSets.{SetValue, contains, IsRelease}
use Rattle.version_sets.specs.SetRanges.{Kind, is_lowest, is_same_end, bound_comparators, interval, npm_range, intervals, of_pre_releases, pre_release_above}
use Rattle.version_sets.specs.SetRanges.{is_from_lowest, is_whole, ranges_text, ReadsBack}
use Rattle.version_sets.proofs.IntervalLaws.{below_is}
use Rattle.version_sets.proofs.KindLaws.{release_lowest, pre_release_lowest}
use Rattle.version_sets.proofs.SweepLaws.{by_test}

-- ---- the ranges are printable if the boundaries are

abbrev Prints : List PlainComparator → Type 0
Prints cs = IsTrue (not (is_empty cs)) × IsTrue (list_all (λ c. is_printable_version c.version) cs)

abbrev to_prints : Option PlainVersion → Bool
to_prints None = true
to_prints (Some v) = is_printable_version v

-- the end that is written for an interval is printable if both of its boundaries are
abbrev pub EndPrints : Kind → Type 0
EndPrints kind = (a b : PlainVersion) → is_printable_version a ≡ true → is_printable_version b ≡ true
    → is_printable_version (kind.end a b) ≡ true

-- a printable version without its pre-release is printable
release_of_prints : (v : PlainVersion) → is_printable_version v ≡ true → is_printable_version (record v { pre = [] }) ≡ true
release_of_prints v e = and_from _ _ (and_parts _ _ e).0 refl

pub end_prints : EndPrints of_pre_releases
end_prints a b e f =
    let release : PlainVersion = record a { pre = [] } in
    by_test (is_same_end (Some b) (pre_release_above a))
    (λ s. ap (λ t. is_printable_version (cond t release b)) s ∙ release_of_prints a e)
    (λ s. ap (λ t. is_printable_version (cond t release b)) s ∙ f)

module _ (kind : Kind) (end_prints_too : EndPrints kind) where
  bounds_print : (a : PlainVersion) (to : Option PlainVersion) → is_printable_version a ≡ true → to_prints to ≡ true
      → Prints (bound_comparators kind.end a to)
  bounds_print a None e f = (refl, and_from _ _ e refl)
  bounds_print a (Some b) e f =
      let c = comparator Lt (kind.end a b) in
      let g = end_prints_too a b e f in
      by_test (is_lowest a)
      (λ l. subst (λ t. Prints (cond t (c ∷ []) (comparator Gte a ∷ c ∷ []))) (sym l) (refl, and_from _ _ g refl))
      (λ l. subst (λ t. Prints (cond t (c ∷ []) (comparator Gte a ∷ c ∷ []))) (sym l) (refl, and_from _ _ e (and_from _ _ g refl)))

  range_prints : (a : PlainVersion) (to : Option PlainVersion) → is_printable_version a ≡ true → to_prints to ≡ true
      → IsPrintableRange Npm (npm_range (interval kind a to))
  range_prints a to e f =
      let p : Prints (interval kind a to) =
      by_test (is_same_end to (kind.next a))
      (λ s. subst (λ t. Prints (cond t (comparator Eq a ∷ []) (bound_comparators kind.end a to))) (sym s) (refl, and_from _ _ e refl))
      (λ s. subst (λ t. Prints (cond t (comparator Eq a ∷ []) (bound_comparators kind.end a to))) (sym s) (bounds_print a to e f)) in
      (p.0, refl, p.1)

  ranges_print : (xs : List PlainVersion) → list_all is_printable_version xs ≡ true → All (IsPrintableRange Npm) (intervals kind xs)
  ranges_print [] e = All-nil (IsPrintableRange Npm)
  ranges_print (a ∷ []) e =
      All-cons (IsPrintableRange Npm) _ [] (range_prints a None (and_parts _ _ e).0 refl) (All-nil (IsPrintableRange Npm))
  ranges_print (a ∷ b ∷ xs) e =
      let here = and_parts _ _ e in
      let after = and_parts _ _ here.1 in
      All-cons (IsPrintableRange Npm) _ (intervals kind xs) (range_prints a (Some b) here.0 after.0) (ranges_print xs after.1)

release_prints : (v : PlainVersion) → IsRelease v → is_printable_version v ≡ true
release_prints v p = grind (arith, nat_tests)

pub releases_print : (xs : List PlainVersion) → AllByRecursion IsRelease xs → list_all is_printable_version xs ≡ true
releases_print [] p = refl
releases_print (v ∷ xs) p = and_from _ _ (release_prints v p.0) (releases_print xs p.1)

-- ---- `<0.0.0-0`, `*`, and any other text

abbrev none_set : PlainSet
none_set = record {
  ranges = npm_range (comparator Lt (record zero_version { pre = numeric 0 ∷ [] }) ∷ []) ∷ [];
  compat = Npm;
}

none_text : set_text none_set ≡ codes "<0.0.0-0"
none_text = rw (decimal_digit 0 (omega arith))

none_below : (v : PlainVersion) → meets_set v none_set ≡ false
none_below v =
    let lowest : PlainVersion = record zero_version { pre = numeric 0 ∷ [] } in
    let at : is_ge (precedence v lowest) ≡ true =
    by_test (is_empty v.pre) (λ e. release_lowest lowest v e refl) (λ e. pre_release_lowest lowest v refl e refl) in
    ap (λ t. (t && true) || false) (below_is (precedence v lowest) ∙ ap not at)

abbrev star : SetTree
star = simples (record { operator = Bare; partial = one (codes "*") }) [] ∷ []

star_spells : Spells star (codes "*")
star_spells = ([], codes "*", [], refl, ([], codes "*", refl, (refl, tt, refl), refl), refl, refl)

star_met : (v : PlainVersion) → is_empty v.pre ≡ true → meets_set v (rewritten Npm star) ≡ true
star_met v e = ap (λ t. (t && true) || false) (release_lowest zero_version v e refl)

no_ranges : (v : PlainVersion) (rs : List PlainRange) → is_empty rs ≡ true → list_any (meets_range v) rs ≡ false
no_ranges v [] e = refl
no_ranges v (r ∷ rs) e = cc

lowest_met : (v : PlainVersion) (op : Op) (w : PlainVersion) → is_empty v.pre ≡ true → is_from_lowest (comparator op w ∷ []) ≡ true
    → list_all (meets_comparator v) (comparator op w ∷ []) ≡ true
lowest_met v Gte w e l = ap (λ t. t && true) (release_lowest w v e l)
lowest_met v Lt w e l = cc
lowest_met v Lte w e l = cc
lowest_met v Gt w e l = cc
lowest_met v Eq w e l = cc

from_lowest_met : (v : PlainVersion) (cs : List PlainComparator) → is_empty v.pre ≡ true → is_from_lowest cs ≡ true
    → list_all (meets_comparator v) cs ≡ true
from_lowest_met v [] e l = cc
from_lowest_met v (c ∷ []) e l = lowest_met v c.op c.version e l
from_lowest_met v (c ∷ d ∷ cs) e l = cc

whole_met : (v : PlainVersion) (rs : List PlainRange) → is_empty v.pre ≡ true → is_whole rs ≡ true → list_any (meets_range v) rs ≡ true
whole_met v [] e w = cc
whole_met v (r ∷ []) e w = ap (λ t. t || false) (from_lowest_met v r.comparators e w)
whole_met v (r ∷ s ∷ rs) e w = cc

-- the statement of the law `semver_ranges::laws::printed_sets_read_back`
abbrev pub PrintedReadBack : Type 0
PrintedReadBack = (s : PlainSet) → IsPrintableSet s → (tree : SetTree)
    × Spells tree (set_text s) × IsTrue (fits s.compat tree) × (rewritten s.compat tree ≡ s)

module _ (law : PrintedReadBack) (P : PlainVersion → Type 0) (set : SetValue) where
  some_read : (s : PlainSet) → IsPrintableSet s → s.compat ≡ Npm → ((v : PlainVersion) → P v → meets_set v s ≡ contains set v)
      → ReadsBack (set_text s) P set
  some_read s p npm means =
      let read = law s p in (
        read.0,
        read.1,
        subst (λ mode. IsTrue (fits mode read.0)) npm read.2,
        λ v pv. ap (λ mode. meets_set v (rewritten mode read.0)) (sym npm) ∙ ap (meets_set v) read.3 ∙ means v pv,
      )

  none_read : ((v : PlainVersion) → P v → contains set v ≡ false) → ReadsBack (codes "<0.0.0-0") P set
  none_read none =
      subst (λ t. ReadsBack t P set) none_text
      (some_read none_set (refl, All-cons (IsPrintableRange Npm) _ [] (refl, refl, refl) (All-nil (IsPrintableRange Npm))) refl
      (λ v pv. none_below v ∙ sym (none v pv)))

  star_reads : ((v : PlainVersion) → P v → is_empty v.pre ≡ true) → ((v : PlainVersion) → P v → contains set v ≡ true)
      → ReadsBack (codes "*") P set
  star_reads kind all = (star, star_spells, refl, λ v pv. star_met v (kind v pv) ∙ sym (all v pv))

  module _ (kind : Kind) (end_prints_too : EndPrints kind) (xs : List PlainVersion) where
    abbrev made : PlainSet
    made = record { ranges = intervals kind xs; compat = Npm }

    module _ (prints : list_all is_printable_version xs ≡ true) (means : (v : PlainVersion) → P v → meets_set v made ≡ contains set v) where
      pub reads : (is_whole (intervals kind xs) ≡ true → ReadsBack (codes "*") P set) → ReadsBack (ranges_text made) P set
      reads whole =
          by_test (is_empty (intervals kind xs))
          (λ e. subst (λ t. ReadsBack (cond t (codes "<0.0.0-0") (cond (is_whole (intervals kind xs)) (codes "*") (set_text made))) P set)
          (sym e) (none_read (λ v pv. sym (means v pv) ∙ no_ranges v (intervals kind xs) e)))
          (λ e. subst (λ t. ReadsBack (cond t (codes "<0.0.0-0") (cond (is_whole (intervals kind xs)) (codes "*") (set_text made))) P set)
          (sym e)
          (by_test (is_whole (intervals kind xs))
          (λ w. subst (λ t. ReadsBack (cond t (codes "*") (set_text made)) P set) (sym w) (whole w))
          (λ w. subst (λ t. ReadsBack (cond t (codes "*") (set_text made)) P set) (sym w)
          (some_read made (ap not e, ranges_print kind end_prints_too xs prints) refl means))))

      -- `*`, which is written if all releases are in the set, is read back
      pub whole_reads : ((v : PlainVersion) → P v → is_empty v.pre ≡ true) → is_whole (intervals kind xs) ≡ true
          → ReadsBack (codes "*") P set
      whole_reads of_kind w = star_reads of_kind (λ v pv. sym (means v pv) ∙ whole_met v (intervals kind xs) (of_kind v pv) w)
