-- A version satisfies the comparators of the sides of a term in Cargo's or npm's dialect if and only
-- if it is between these sides.
use Rattle.std.proofs.Common.{◌≡◌, ℕ, true, false, not, ◌&&◌, ◌++◌, ◌==◌, List, [], ◌∷◌, length, map, Option, Some, None}
use Rattle.std.proofs.Common.{refl, sym, ap, ◌∙◌}
use Rattle.std.proofs.Math.Bool.{and-true}
use Rattle.std.proofs.lemmas.Bool.{and_parts}
use Rattle.std.proofs.lemmas.List.{map-append}
use Rattle.std.specs.Prelude.{is_some}
use Rattle.std.specs.List.{list_all}
use Rattle.std.specs.Ordering.{nat_cmp, ordering_then, is_ge, is_gt, is_lt}
use Rattle.std.specs.declared.cmp.Ordering.{Ordering}
use Rattle.semver_texts.specs.Digits.{plain_by}
use Rattle.semver_texts.specs.Precedence.{precedence, pre_cmp}
use Rattle.semver_texts.specs.Texts.{is_empty}
use Rattle.semver_texts.specs.Versions.{numbers, IdentifierValue, PlainVersion}
use Rattle.semver_texts.specs.declared.grammar.Digits.TheVariants.{AnySize}
use Rattle.semver_texts.proofs.Lists.{by_test}
use Rattle.semver_ranges.specs.ExactBounds.{exact_bound, lowest_pre_release}
use Rattle.semver_ranges.specs.SatisfiedComparators.{meets_comparator}
use Rattle.semver_ranges.specs.Partials.{filled, stated, zero_filled}
use Rattle.semver_ranges.specs.declared.operator.Operator.{Operator}
use Rattle.semver_ranges.specs.declared.operator.Operator.TheVariants.{Bare, Equal, Less, LessOrEqual, Greater, GreaterOrEqual, Tilde}
use Rattle.semver_ranges.specs.declared.operator.Operator.TheVariants.{Caret, Hyphen}
use Rattle.semver_ranges.specs.RangeTree.{Simple}
use Rattle.semver_ranges.specs.RewritingTable.{up, with_pre_release}
use Rattle.semver_ranges.proofs.Rows.{Shape, Tail, same, past as tail_past, floor, step, and_step as after}
use Rattle.version_sets.proofs.DigitLaws.{by_empty}
use Rattle.semver_ranges.specs.Sides.{SideValue, below, at, past, above}
use Rattle.version_sets.specs.Steps.Cuts.{first_numbers, is_above_lower, is_above_upper, is_between}
use Rattle.tool_ranges.specs.AnySize.{comparator_any}
use Rattle.semver_ranges.specs.declared.rewriting.Style.{Style}
use Rattle.semver_ranges.specs.declared.rewriting.Style.TheVariants.{Plain, Exact, Lowest}
use Rattle.semver_ranges.specs.declared.dialect.Dialect.{Dialect}
use Rattle.semver_ranges.specs.declared.dialect.Dialect.TheVariants.{Cargo, Npm}
use Rattle.semver_ranges.specs.Sides.{ends_past, sides}
use Rattle.semver_ranges.specs.TermComparators.{at_side, lower_comparator, pre_of, printed, printed_term}
use Rattle.semver_ranges.specs.TermComparators.{upper_comparator}
use Rattle.tool_ranges.specs.Steps.Table.{is_within}
use Rattle.tool_ranges.proofs.AnySizes.{pre_any}
use Rattle.semver_ranges.proofs.Spots.{Spot, leading_of_two, leading_of_three, raised_same}
use Rattle.tool_ranges.proofs.Cells.{both_eq, not_ge, not_gt, same_ge}
use Rattle.tool_ranges.proofs.NumberSteps.{is_above, is_above_after, not_less}

-- ---- the sides of the table

-- a number that is raised for a side is a stated one, and a side that is below all versions with the
-- stated numbers has no pre-release
abbrev pub Raises : List ℕ → List IdentifierValue → Option SideValue → Type 0
Raises s p (Some (above k)) = Spot s k
Raises s p (Some below) = p ≡ []
Raises s p _ = Unit {0}

-- this holds for both sides, and if a term has a lower side and ends directly above its zero-filled
-- version, it begins at this version
abbrev pub Sided : Dialect → Operator → List ℕ → List IdentifierValue → Type 0
Sided d operator s p = Raises s p (sides d operator s (not (is_empty p))).0 × Raises s p (sides d operator s (not (is_empty p))).1
    × ((is_some (sides d operator s (not (is_empty p))).0 && ends_past (sides d operator s (not (is_empty p))).1) ≡ true
    → (sides d operator s (not (is_empty p))).0 ≡ Some at)

abbrev Both : Operator → List ℕ → List IdentifierValue → Type 0
Both operator s p = Sided Cargo operator s p × Sided Npm operator s p

npm_none : (operator : Operator) → Sided Npm operator [] []
npm_none Less = (tt, refl, λ e. cc)
npm_none Greater = (tt, refl, λ e. cc)
npm_none _ = (refl, tt, λ e. cc)

one_sided : (operator : Operator) (x : ℕ) → Both operator (x ∷ []) []
one_sided Less x = ((tt, tt, λ e. cc), (tt, refl, λ e. cc))
one_sided LessOrEqual x = ((tt, Spot.first_of_one x, λ e. cc), (tt, Spot.first_of_one x, λ e. cc))
one_sided Greater x = ((Spot.first_of_one x, tt, λ e. cc), (Spot.first_of_one x, tt, λ e. cc))
one_sided GreaterOrEqual x = ((refl, tt, λ e. cc), (refl, tt, λ e. cc))
one_sided Hyphen x = ((refl, tt, λ e. cc), (refl, tt, λ e. cc))
one_sided Tilde x = ((refl, Spot.first_of_one x, λ e. cc), (tt, Spot.first_of_one x, λ e. cc))
one_sided Caret x = ((refl, Spot.first_of_one x, λ e. cc), (refl, Spot.first_of_one x, λ e. cc))
one_sided Bare x = ((refl, Spot.first_of_one x, λ e. cc), (refl, Spot.first_of_one x, λ e. cc))
one_sided Equal x = ((refl, Spot.first_of_one x, λ e. cc), (refl, Spot.first_of_one x, λ e. cc))

two_sided : (operator : Operator) (x y : ℕ) → Both operator (x ∷ y ∷ []) []
two_sided Less x y = ((tt, tt, λ e. cc), (tt, refl, λ e. cc))
two_sided LessOrEqual x y = ((tt, Spot.second_of_two x y, λ e. cc), (tt, Spot.second_of_two x y, λ e. cc))
two_sided Greater x y = ((Spot.second_of_two x y, tt, λ e. cc), (Spot.second_of_two x y, tt, λ e. cc))
two_sided GreaterOrEqual x y = ((refl, tt, λ e. cc), (refl, tt, λ e. cc))
two_sided Hyphen x y = ((refl, tt, λ e. cc), (refl, tt, λ e. cc))
two_sided Tilde x y = ((refl, Spot.second_of_two x y, λ e. cc), (tt, Spot.second_of_two x y, λ e. cc))
two_sided Caret x y = ((refl, leading_of_two x y, λ e. cc), (refl, leading_of_two x y, λ e. cc))
two_sided Bare x y = ((refl, Spot.second_of_two x y, λ e. cc), (refl, Spot.second_of_two x y, λ e. cc))
two_sided Equal x y = ((refl, Spot.second_of_two x y, λ e. cc), (refl, Spot.second_of_two x y, λ e. cc))

none_is : (p : List IdentifierValue) → not (not (is_empty p)) ≡ true → p ≡ []
none_is [] e = refl
none_is (i ∷ p) e = cc

npm_caret : (x y w : ℕ) (p : List IdentifierValue) → Sided Npm Caret (x ∷ y ∷ w ∷ []) p
npm_caret x y w p = by_test (not (not (is_empty p)) && (x == 0))
    (λ b. rw b (none_is p (and_parts _ _ b).0, leading_of_three x y w, λ e. cc))
    (λ n. rw n (tt, leading_of_three x y w, λ e. cc))

three_sided : (operator : Operator) (x y w : ℕ) (p : List IdentifierValue) → Both operator (x ∷ y ∷ w ∷ []) p
three_sided Less x y w p = ((tt, tt, λ e. cc), (tt, tt, λ e. cc))
three_sided LessOrEqual x y w p = ((tt, tt, λ e. cc), (tt, tt, λ e. cc))
three_sided Greater x y w p = ((tt, tt, λ e. cc), (tt, tt, λ e. cc))
three_sided GreaterOrEqual x y w p = ((tt, tt, λ e. cc), (tt, tt, λ e. cc))
three_sided Hyphen x y w [] = ((tt, tt, λ e. cc), (refl, tt, λ e. cc))
three_sided Hyphen x y w (i ∷ p) = ((tt, tt, λ e. cc), (tt, tt, λ e. cc))
three_sided Tilde x y w p = ((tt, Spot.second_of_three x y w, λ e. cc), (tt, Spot.second_of_three x y w, λ e. cc))
three_sided Caret x y w p = ((tt, leading_of_three x y w, λ e. cc), npm_caret x y w p)
three_sided Bare x y w p = ((tt, leading_of_three x y w, λ e. cc), (tt, tt, λ e. refl))
three_sided Equal x y w p = ((tt, tt, λ e. refl), (tt, tt, λ e. refl))

pub both_sided : (operator : Operator) {s : List ℕ} → Shape s → (p : List IdentifierValue) → ((length s == 3) ≡ false → p ≡ []) → Both operator s p
both_sided operator Shape.none p none = rw (none refl) ((refl, tt, λ e. cc), npm_none operator)
both_sided operator (Shape.one x) p none = rw (none refl) (one_sided operator x)
both_sided operator (Shape.two x y) p none = rw (none refl) (two_sided operator x y)
both_sided operator (Shape.three x y w) p none = three_sided operator x y w p

-- ---- comparators with identifiers of any size
any_lower : (style : Style) (side : Option SideValue) (z : PlainVersion)
    → map comparator_any (at_side (lower_comparator style) side z) ≡ at_side (lower_comparator style) side (plain_by AnySize z)
any_lower style None z = refl
any_lower Exact (Some below) z = refl
any_lower Lowest (Some below) z = refl
any_lower Plain (Some below) z = refl
any_lower style (Some at) z = refl
any_lower style (Some past) z = refl
any_lower Exact (Some (above k)) z = refl
any_lower Lowest (Some (above k)) z = refl
any_lower Plain (Some (above k)) z = refl

any_upper : (style : Style) (side : Option SideValue) (z : PlainVersion)
    → map comparator_any (at_side (upper_comparator style) side z) ≡ at_side (upper_comparator style) side (plain_by AnySize z)
any_upper style None z = refl
any_upper style (Some below) z = refl
any_upper style (Some at) z = refl
any_upper style (Some past) z = refl
any_upper Plain (Some (above k)) z = refl
any_upper Exact (Some (above k)) z = refl
any_upper Lowest (Some (above k)) z = refl

any_printed : (style : Style) (first last : Option SideValue) (z : PlainVersion)
    → map comparator_any (printed style first last z) ≡ printed style first last (plain_by AnySize z)
any_printed style first last z = by_test (is_some first && ends_past last)
    (λ y. rw y refl)
    (λ n. rw n (map-append comparator_any (at_side (lower_comparator style) first z) (at_side (upper_comparator style) last z)
    ∙ (λ i. any_lower style first z i ++ any_upper style last z i)))

-- ---- the versions that satisfy them

-- a version compared with bounds that have this pre-release, if its own isn't below that
module _ (v : PlainVersion) (q : List IdentifierValue) (ge : is_ge (pre_cmp v.pre q) ≡ true) where
  minor_ge : is_ge (ordering_then (nat_cmp v.patch 0) (pre_cmp v.pre q)) ≡ true
  minor_ge = not_less v.patch _ ge

  major_ge : is_ge (ordering_then (nat_cmp v.minor 0) (ordering_then (nat_cmp v.patch 0) (pre_cmp v.pre q))) ≡ true
  major_ge = not_less v.minor _ minor_ge

  -- it is at or above the bound if and only if its numbers aren't below those of the bound
  from_numbers : (z : PlainVersion) → is_ge (precedence v (with_pre_release q z)) ≡ is_ge (first_numbers 3 v z)
  from_numbers z = same_ge (after (step v.major z.major) (after (step v.minor z.minor) (step v.patch z.patch))) _ ge

  past_raised : {s : List ℕ} {k : ℕ} → Spot s k → (p : List IdentifierValue)
      → is_ge (precedence v (with_pre_release q (up k s))) ≡ is_gt (first_numbers k v (filled s p))
  past_raised (Spot.first_of_one x) p = is_above v.major x _ major_ge
  past_raised (Spot.first_of_two x y) p = is_above v.major x _ major_ge
  past_raised (Spot.second_of_two x y) p = is_above_after (step v.major x) _ _ (is_above v.minor y _ minor_ge)
  past_raised (Spot.first_of_three x y w) p = is_above v.major x _ major_ge
  past_raised (Spot.second_of_three x y w) p = is_above_after (step v.major x) _ _ (is_above v.minor y _ minor_ge)
  past_raised (Spot.third_of_three x y w) p = is_above_after (after (step v.major x) (step v.minor y)) _ _ (is_above v.patch w _ ge)

above_floor : {o : Ordering} → Tail o false → is_ge o ≡ true
above_floor same = refl
above_floor tail_past = refl

-- the pre-release of a lower bound that isn't at the zero-filled version
abbrev pub bound_pre : Style → List IdentifierValue
bound_pre Lowest = lowest_pre_release
bound_pre style = []

-- no version is below the lowest pre-release of its numbers
pub lowest_ge : (v : PlainVersion) → is_ge (pre_cmp v.pre lowest_pre_release) ≡ true
lowest_ge v = above_floor (floor v.pre)

module _ (style : Style) (exact : pre_of style ≡ lowest_pre_release) (v : PlainVersion) (ge : is_ge (pre_cmp v.pre (bound_pre style)) ≡ true) where
  module _ (s : List ℕ) (p : List IdentifierValue) where
    from_below : (style : Style) → is_ge (pre_cmp v.pre (bound_pre style)) ≡ true → p ≡ []
        → meets_comparator v (lower_comparator style below (filled s p)) ≡ is_ge (first_numbers 3 v (filled s p))
    from_below Lowest ge none = from_numbers v lowest_pre_release ge (filled s p)
    from_below Exact ge none = rw none (from_numbers v [] ge (filled s []))
    from_below Plain ge none = rw none (from_numbers v [] ge (filled s []))

    from_above : {k : ℕ} (style : Style) → is_ge (pre_cmp v.pre (bound_pre style)) ≡ true → Spot s k
        → meets_comparator v (lower_comparator style (above k) (filled s p)) ≡ is_gt (first_numbers k v (filled s p))
    from_above Exact ge spot = ap (λ b. is_ge (precedence v b)) (raised_same spot p) ∙ past_raised v [] ge spot p
    from_above Plain ge spot = ap (λ b. is_ge (precedence v b)) (raised_same spot p) ∙ past_raised v [] ge spot p
    from_above Lowest ge spot =
        ap (λ b. is_ge (precedence v (exact_bound b))) (raised_same spot p) ∙ past_raised v lowest_pre_release ge spot p

    lower_meets : (side : SideValue) → Raises s p (Some side)
        → meets_comparator v (lower_comparator style side (filled s p)) ≡ is_above_lower (Some side) (filled s p) v
    lower_meets below none = from_below style ge none
    lower_meets at r = refl
    lower_meets past r = refl
    lower_meets (above k) spot = from_above style ge spot

    upper_meets : (side : SideValue) → Raises s p (Some side)
        → meets_comparator v (upper_comparator style side (filled s p)) ≡ not (is_above_upper (Some side) (filled s p) v)
    upper_meets below r = sym (not_ge _) ∙ ap not (from_numbers v lowest_pre_release (lowest_ge v) (filled s p))
    upper_meets at r = sym (not_ge _)
    upper_meets past r = sym (not_gt _)
    upper_meets (above k) spot = ap (λ q. is_lt (precedence v (with_pre_release q (up k (numbers (filled s p)))))) exact
        ∙ sym (not_ge _) ∙ ap not (from_above Lowest (lowest_ge v) spot)

    both_meet : (first last : SideValue) → Raises s p (Some first) → Raises s p (Some last)
        → (meets_comparator v (lower_comparator style first (filled s p)) && (meets_comparator v (upper_comparator style last (filled s p)) && true))
        ≡ is_between (Some first, Some last) (filled s p) v
    both_meet first last r q = λ i. lower_meets first r i && (and-true _ ∙ upper_meets last q) i

    printed_meets : (first last : Option SideValue) → Raises s p first → Raises s p last
        → ((is_some first && ends_past last) ≡ true → first ≡ Some at)
        → list_all (meets_comparator v) (printed style first last (filled s p)) ≡ is_between (first, last) (filled s p) v
    printed_meets None None r q h = refl
    printed_meets None (Some side) r q h = and-true _ ∙ upper_meets side q
    printed_meets (Some side) None r q h = ap (λ b. b && true) (lower_meets side r)
    printed_meets (Some side) (Some past) r q h = and-true _ ∙ sym (both_eq _)
        ∙ ap (λ o. is_above_lower o (filled s p) v && not (is_gt (precedence v (filled s p)))) (sym (h refl))
    printed_meets (Some side) (Some below) r q h = both_meet side below r q
    printed_meets (Some side) (Some at) r q h = both_meet side at r q
    printed_meets (Some side) (Some (above k)) r q h = both_meet side (above k) r q

  -- a version satisfies the comparators of a term if and only if it is within its bounds
  pub term_meets : (d : Dialect) (s : Simple) → Sided d s.operator (stated s.partial) (pre_any s.partial)
      → list_all (meets_comparator v) (map comparator_any (printed_term style d s))
      ≡ is_within d s.operator (stated s.partial) (plain_by AnySize (zero_filled s.partial)) v
  term_meets d s both =
      let z = zero_filled s.partial in
      let ns = stated s.partial in
      ap (list_all (meets_comparator v)) (any_printed style (sides d s.operator ns (not (is_empty z.pre))).0 (sides d s.operator ns (not (is_empty z.pre))).1 z)
      ∙ (λ i. list_all (meets_comparator v) (printed style (sides d s.operator ns (not (sym (by_empty AnySize z.pre) i))).0
      (sides d s.operator ns (not (sym (by_empty AnySize z.pre) i))).1 (filled ns (pre_any s.partial))))
      ∙ printed_meets ns (pre_any s.partial) _ _ both.0 both.1 both.2
