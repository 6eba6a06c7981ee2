-- The result of `sort_unstable_by` for held lines is their stable sort, since their indices are
-- compared, too.
use Rattle.std.proofs.Common.{◌≡◌, ◌∙◌, ◌≤◌, ◌<◌, ◌∷◌, [], List, ℕ, Bool, true, false, refl, sym, ap, ap₂, subst, arith}
use Rattle.std.proofs.Common.{Bor, IsPermutation, Greater, filter, get_or, length}
use Rattle.std.proofs.lemmas.Bool.Decides.{nat_tests}
use Rattle.std.proofs.lemmas.Cmp.{nat_cmp_total, on_total, then_total}
use Rattle.std.proofs.lemmas.Fn.{always_returns_same}
use Rattle.std.proofs.lemmas.List.{get_or-map, length-map}
use Rattle.std.proofs.lemmas.List.Sorted.{ranks_by, sorted_far, IsPermutation-map}
use Rattle.std.specs.Cmp.{IsStrictWeakOrder, IsTotalOrder, Equal-is}
use Rattle.std.specs.Fn.{Called, ComparesAs}
use Rattle.std.specs.List.{AllPairs}
use Rattle.std.specs.List.Sorted.{IsSortedBy}
use Rattle.std.specs.Ordering.{is_eq, is_lt, nat_cmp, on, ordering_reverse, ordering_then, then_cmp}
use Rattle.std.specs.declared.cmp.Ordering.{Ordering}
use Rattle.semver_texts.specs.Precedence.{precedence}
use Rattle.semver_texts.specs.Versions.{PlainVersion}
use Rattle.semver_versions.specs.ReadVersions.{read_plain}
use Rattle.release_filter.specs.Steps.Taking.{selected_value}
use Rattle.release_filter.specs.Selections.{IsStableSort, SelectedValue}
use Rattle.release_filter.specs.declared.selection.IndexedLine.{IndexedLine}
use Rattle.release_filter.specs.Steps.Sorting.{seen_lines}
use Rattle.release_filter.proofs.OneOrder.{AreIndexed, same_order}

-- the version of a line without build metadata
abbrev plain_of : IndexedLine → PlainVersion
plain_of l = read_plain l.line.now.version

abbrev pub index_of : IndexedLine → ℕ
index_of l = l.index

-- the order by precedence, and then by the index
abbrev by_version : IndexedLine → IndexedLine → Ordering
by_version = then_cmp (on plain_of precedence) (on index_of nat_cmp)

abbrev pub is_below : IndexedLine → IndexedLine → Bool
is_below l m = is_lt (by_version l m)

-- the closure of the sort compares by `is_below`, as the sort requires
pub compares : {F : Type 0} {g : _} {f : F}
    → ((a : Bor IndexedLine × (Bor IndexedLine × Unit {0})) (r : Ordering) (f' : F) → Called g f a r f'
    → (r ≡ by_version a.0.now a.1.0.now) × (f' ≡ f)) → ComparesAs g is_below f
compares {g = g} {f = f} h = grind (arith, always_returns_same)

-- whether the version of a line has the precedence of v
abbrev is_equal : PlainVersion → IndexedLine → Bool
is_equal v l = is_eq (precedence (plain_of l) v)

filter_seen : (v : PlainVersion) (lines : List IndexedLine)
    → filter (λ (k : SelectedValue). is_eq (precedence k.version v)) (seen_lines lines) ≡ seen_lines (filter (is_equal v) lines)
filter_seen v [] = refl
filter_seen v (x ∷ xs) = grind (arith, seen_lines, selected_value, filter_seen v xs)

not_below : (m n : ℕ) → is_lt (nat_cmp n m) ≡ false → m ≤ n
not_below m n low = grind (arith, nat_tests)

module _ (total : IsTotalOrder precedence) where
  pub by_version_total : IsTotalOrder by_version
  by_version_total = then_total (on_total plain_of total) (on_total index_of nat_cmp_total)

  pub ranks : IsStrictWeakOrder is_below
  ranks = ranks_by by_version_total (λ (l : IndexedLine). l)

  -- if y isn't below x, x isn't above y by precedence; and if both have the precedence of v, the index
  -- of x isn't higher
  isnt_above : (x y : IndexedLine) → is_below y x ≡ false → precedence (plain_of x) (plain_of y) ≡ Greater → ⊥
  isnt_above x y low above =
      let less = total.antisymm (plain_of y) (plain_of x) ∙ ap ordering_reverse above in
      cc (subst (λ (r : Ordering). is_lt (ordering_then r (nat_cmp y.index x.index)) ≡ false) less low)

  is_before : (v : PlainVersion) (x y : IndexedLine) → is_below y x ≡ false → is_equal v x ≡ true → is_equal v y ≡ true → x.index ≤ y.index
  is_before v x y low e e' =
      let same = total.congr (plain_of y) v (plain_of x) ((Equal-is (precedence (plain_of y) v)).0 e') in
      let equal = same ∙ total.antisymm v (plain_of x) ∙ ap ordering_reverse ((Equal-is (precedence (plain_of x) v)).0 e) in
      not_below x.index y.index (subst (λ (r : Ordering). is_lt (ordering_then r (nat_cmp y.index x.index)) ≡ false) equal low)

  rises : (ys : List IndexedLine) → IsSortedBy is_below ys
      → AllPairs (λ (x y : SelectedValue). precedence x.version y.version ≡ Greater → ⊥) (seen_lines ys)
  rises [] up i j d before inside = absurd (omega (arith, inside))
  rises (y ∷ ys) up i j d before inside =
      let zs = y ∷ ys in
      let within : j < length zs = subst (λ n. j < n) (length-map zs (λ (l : IndexedLine). selected_value l.line.now)) inside in
      let first : i < length zs = omega (arith, before, within) in
      let low = sorted_far is_below ranks zs up i j y (omega (arith, before)) within in
      let a = get_or-map (λ (l : IndexedLine). selected_value l.line.now) zs i y d first in
      let b = get_or-map (λ (l : IndexedLine). selected_value l.line.now) zs j y d within in
      λ above. isnt_above (get_or zs i y) (get_or zs j y) low
      (ap₂ (λ (x y : SelectedValue). precedence x.version y.version) (sym a) (sym b) ∙ above)

  same_equal : (v : PlainVersion) (xs ys : List IndexedLine) → AreIndexed index_of xs → IsPermutation xs ys → IsSortedBy is_below ys
      → filter (is_equal v) ys ≡ filter (is_equal v) xs
  same_equal v xs ys indexed moved up =
      same_order index_of (is_equal v) xs ys indexed moved
      (λ i j d before inside. is_before v (get_or ys i d) (get_or ys j d) (sorted_far is_below ranks ys up i j d (omega arith) inside))

  pub sorts : (xs ys : List IndexedLine) → AreIndexed index_of xs → IsPermutation xs ys → IsSortedBy is_below ys
      → IsStableSort (seen_lines xs) (seen_lines ys)
  sorts xs ys indexed moved up = record {
    rearranged = IsPermutation-map (λ (l : IndexedLine). selected_value l.line.now) xs ys moved;
    rises = rises ys up;
    stable = λ v. filter_seen v ys ∙ ap seen_lines (same_equal v xs ys indexed moved up) ∙ sym (filter_seen v xs);
  }
