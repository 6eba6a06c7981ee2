-- A version that satisfies a term satisfies each term that this one is widened to, and if it is a
-- pre-release whose numbers the first term names together with a pre-release, so does the second.
use Rattle.std.proofs.Common.{◌≡◌, ℕ, zero, suc, Bool, true, false, not, ◌&&◌, ◌||◌, nat_eq, List, [], ◌∷◌, length}
use Rattle.std.proofs.Common.{arith, refl, sym, ap, inl, inr}
use Rattle.std.proofs.Common.{nat_cmp, Ordering, Less, Equal, Greater, is_eq, is_lt, is_le, ◌∙◌}
use Rattle.std.proofs.Math.Bool.{and-false}
use Rattle.std.proofs.lemmas.Bool.{and_parts}
use Rattle.std.proofs.lemmas.Bool.Decides.{nat_tests}
use Rattle.std.specs.Cmp.{IsTotalOrder, nat_cmp_is, tied_itself}
use Rattle.std.specs.Cmp.Lexicographic.{nat_list_cmp_total, pointwise, slice_cmp}
use Rattle.std.specs.FinMap.{nat_cmp-IsAntisymmetric, slice_cmp-IsAntisymmetric}
use Rattle.std.specs.Ordering.{ordering_then}
use Rattle.std.specs.Prelude.{◌↔◌, Some, None, if◌then◌else◌}
use Rattle.semver_texts.specs.Digits.{identifiers_by, plain_by}
use Rattle.semver_texts.specs.Precedence.{identifier_cmp, pre_cmp, precedence}
use Rattle.semver_texts.specs.Steps.PrecedenceLaws.{pre_total, precedence-same, precedence_total}
use Rattle.semver_texts.specs.Texts.{is_empty}
use Rattle.semver_texts.specs.Versions.{IdentifierValue, numeric, alphanumeric, PlainVersion, numbers}
use Rattle.semver_texts.specs.declared.grammar.Digits.{Digits}
use Rattle.semver_texts.specs.declared.grammar.Digits.TheVariants.{AnySize, Kept}
use Rattle.semver_ranges.specs.declared.operator.Operator.{Operator}
use Rattle.semver_ranges.specs.declared.operator.Operator.TheVariants as operator
use Rattle.semver_ranges.specs.declared.range.Compat.{Compat}
use Rattle.semver_ranges.specs.declared.range.Compat.TheVariants as mode
use Rattle.semver_ranges.specs.CrateMeaning.{meets_stated}
use Rattle.semver_ranges.specs.Partials.{filled, pre_release, stated, zero_filled}
use Rattle.semver_ranges.specs.RangeTree.{Simple}
use Rattle.semver_ranges.specs.StatedPreReleases.{states_pre_release_at}
use Rattle.semver_ranges.specs.Terms.{of_simple}
use Rattle.semver_ranges.proofs.Rows.{Shape, none, one, two, three}
use Rattle.semver_ranges.proofs.SetMeanings.{stated_shape}
use Rattle.version_sets.specs.declared.rules.PreReleases.{PreReleases}
use Rattle.semver_ranges.specs.declared.dialect.Dialect.{Dialect}
use Rattle.semver_ranges.specs.declared.dialect.Dialect.TheVariants.{Cargo, Npm, CrateCargo, CrateNpm}
use Rattle.tool_ranges.specs.CargoMeaning as cargo
use Rattle.tool_ranges.specs.NpmMeaning as npm
use Rattle.tool_ranges.specs.Steps.Matching.{rule_of, term_met}
use Rattle.tool_ranges.specs.Widening.{IsRaisedBound, IsWidenedTerm, MayBeRaised, Stated, stated_by}

-- ---- comparisons with a bound, and with a higher one

-- a test that is true below the bound and false above it
module _ {K : Type 0} (R : K → K → Ordering) (total : IsTotalOrder R) (x a b : K) (higher : R a b ≡ Less)
    (g : Ordering → Bool) (below : g Less ≡ true) (above : g Greater ≡ false) where
  holds_higher : g (R x a) ≡ true → g (R x b) ≡ true
  holds_higher = at (R x a) refl
    where
      at : (o : Ordering) → R x a ≡ o → g o ≡ true → g (R x b) ≡ true
      at Less is e = ap g (total.trans x a b is higher) ∙ below
      at Equal is e = ap g (total.congr x a b is ∙ higher) ∙ below
      at Greater is e = let never : false ≡ true = sym above ∙ e in cc

-- ---- numbers, and as many higher ones

data Higher : List ℕ → List ℕ → Type 0 where
  higher_one : (a b : ℕ) → Higher (a ∷ []) (b ∷ [])
  higher_two : (a b c d : ℕ) → Higher (a ∷ b ∷ []) (c ∷ d ∷ [])
  higher_three : (a b c d e f : ℕ) → Higher (a ∷ b ∷ c ∷ []) (d ∷ e ∷ f ∷ [])

higher_of : {s t : List ℕ} → Shape s → Shape t → length s ≡ length t → slice_cmp nat_cmp s t ≡ Less → Higher s t
higher_of none none many less = cc
higher_of (one a) (one b) many less = higher_one a b
higher_of (two a b) (two c d) many less = higher_two a b c d
higher_of (three a b c) (three d e f) many less = higher_three a b c d e f
higher_of _ _ many less = absurd (omega arith)

more : (o r u : Ordering) → (r ≡ Less → u ≡ Less) → ordering_then o r ≡ Less → ordering_then o u ≡ Less
more Less r u f e = refl
more Equal r u f e = f e
more Greater r u f e = cc

-- a version with higher numbers is above, whichever pre-releases there are
numbers_first : {s t : List ℕ} → Higher s t → slice_cmp nat_cmp s t ≡ Less → (p q : List IdentifierValue)
    → precedence (filled s p) (filled t q) ≡ Less
numbers_first (higher_one a b) less p q = more (nat_cmp a b) Equal _ (λ e. cc) less
numbers_first (higher_two a b c d) less p q = more (nat_cmp a c) _ _ (more (nat_cmp b d) Equal _ (λ e. cc)) less
numbers_first (higher_three a b c d e f) less p q =
    more (nat_cmp a d) _ _ (more (nat_cmp b e) _ _ (more (nat_cmp c f) Equal _ (λ e. cc))) less

-- ---- whether a version satisfies a term that states this

abbrev test : Dialect → Bool → Operator → List ℕ → List IdentifierValue → PlainVersion → Bool
test Cargo all f s p v = cargo.meets_by_count (rule_of all) f s (plain_by AnySize (filled s p)) v
test Npm all f s p v = npm.meets_by_count (rule_of all) f s (plain_by AnySize (filled s p)) v
test CrateCargo all f s p v = meets_stated mode.Cargo f s (filled s p) v
test CrateNpm all f s p v = meets_stated mode.Npm f s (filled s p) v

abbrev is_met_by : Dialect → Bool → PlainVersion → Stated → Bool
is_met_by d all v x = test d all x.operator x.numbers x.pre v

term_is : (d : Dialect) (all : Bool) (v : PlainVersion) (s : Simple) → term_met d all v s ≡ is_met_by d all v (stated_by s)
term_is Cargo all v s = refl
term_is Npm all v s = refl
term_is CrateCargo all v s = refl
term_is CrateNpm all v s = refl

-- a test of how a version compares with a term, which compares either the version, or its first numbers, ns
module _ (v : PlainVersion) (p q : List IdentifierValue) {s t : List ℕ} (is : Higher s t) (less : slice_cmp nat_cmp s t ≡ Less) where
  by_version : (digits : Digits) (g : Ordering → Bool) → g Less ≡ true → g Greater ≡ false
      → g (precedence v (plain_by digits (filled s p))) ≡ true → g (precedence v (plain_by digits (filled t q))) ≡ true
  by_version digits g =
      holds_higher precedence precedence_total v _ _ (numbers_first is less (identifiers_by digits p) (identifiers_by digits q)) g

  by_numbers : (ns : List ℕ) (g : Ordering → Bool) → g Less ≡ true → g Greater ≡ false
      → g (slice_cmp nat_cmp ns s) ≡ true → g (slice_cmp nat_cmp ns t) ≡ true
  by_numbers ns g = holds_higher (slice_cmp nat_cmp) nat_list_cmp_total ns s t less g

module _ (v : PlainVersion) (p q : List IdentifierValue) where
  of_crate : (m : Compat) (f : Operator) {s t : List ℕ} → Higher s t → slice_cmp nat_cmp s t ≡ Less → MayBeRaised f p
      → meets_stated m f s (filled s p) v ≡ true → meets_stated m f t (filled t q) v ≡ true
  of_crate m operator.Less (higher_one a b) less may = by_version v p q (higher_one a b) less Kept is_lt refl refl
  of_crate m operator.Less (higher_two a b c d) less may = by_version v p q (higher_two a b c d) less Kept is_lt refl refl
  of_crate m operator.Less (higher_three a b c d e f) less may = by_version v p q (higher_three a b c d e f) less Kept is_lt refl refl
  of_crate m operator.LessOrEqual (higher_one a b) less may = by_numbers v p q (higher_one a b) less (v.major ∷ []) is_le refl refl
  of_crate m operator.LessOrEqual (higher_two a b c d) less may =
      by_numbers v p q (higher_two a b c d) less (v.major ∷ v.minor ∷ []) is_le refl refl
  of_crate m operator.LessOrEqual (higher_three a b c d e f) less may =
      by_version v p q (higher_three a b c d e f) less Kept is_le refl refl
  of_crate m _ is less may = absurd may

  of_npm : (rule : PreReleases) (f : Operator) {s t : List ℕ} → Higher s t → slice_cmp nat_cmp s t ≡ Less → MayBeRaised f p
      → npm.meets_by_count rule f s (plain_by AnySize (filled s p)) v ≡ true
      → npm.meets_by_count rule f t (plain_by AnySize (filled t q)) v ≡ true
  of_npm rule operator.Less (higher_one a b) less may = by_numbers v p q (higher_one a b) less (v.major ∷ []) is_lt refl refl
  of_npm rule operator.Less (higher_two a b c d) less may =
      by_numbers v p q (higher_two a b c d) less (v.major ∷ v.minor ∷ []) is_lt refl refl
  of_npm rule operator.Less (higher_three a b c d e f) less may =
      by_version v p q (higher_three a b c d e f) less AnySize is_lt refl refl
  of_npm rule operator.LessOrEqual (higher_one a b) less may = by_numbers v p q (higher_one a b) less (v.major ∷ []) is_le refl refl
  of_npm rule operator.LessOrEqual (higher_two a b c d) less may =
      by_numbers v p q (higher_two a b c d) less (v.major ∷ v.minor ∷ []) is_le refl refl
  of_npm rule operator.LessOrEqual (higher_three a b c d e f) less may =
      by_version v p q (higher_three a b c d e f) less AnySize is_le refl refl
  of_npm rule _ is less may = absurd may

  -- how Cargo's `<=` compares one or two numbers
  abbrev up_to : Bool → Ordering → Bool
  up_to k o = is_lt o || (is_eq o && k)

  of_cargo : (all : Bool) (f : Operator) {s t : List ℕ} → Higher s t → slice_cmp nat_cmp s t ≡ Less → MayBeRaised f p
      → cargo.meets_by_count (rule_of all) f s (plain_by AnySize (filled s p)) v ≡ true
      → cargo.meets_by_count (rule_of all) f t (plain_by AnySize (filled t q)) v ≡ true
  of_cargo true operator.Less (higher_one a b) less may = by_version v p q (higher_one a b) less AnySize is_lt refl refl
  of_cargo false operator.Less (higher_one a b) less may = by_numbers v p q (higher_one a b) less (v.major ∷ []) is_lt refl refl
  of_cargo true operator.Less (higher_two a b c d) less may = by_version v p q (higher_two a b c d) less AnySize is_lt refl refl
  of_cargo false operator.Less (higher_two a b c d) less may =
      by_numbers v p q (higher_two a b c d) less (v.major ∷ v.minor ∷ []) is_lt refl refl
  of_cargo all operator.Less (higher_three a b c d e f) less may =
      by_version v p q (higher_three a b c d e f) less AnySize is_lt refl refl
  of_cargo all operator.LessOrEqual (higher_one a b) less may =
      by_numbers v p q (higher_one a b) less (v.major ∷ []) (up_to (cargo.is_one (rule_of all) v)) refl refl
  of_cargo all operator.LessOrEqual (higher_two a b c d) less may =
      by_numbers v p q (higher_two a b c d) less (v.major ∷ v.minor ∷ []) (up_to (cargo.is_one (rule_of all) v)) refl refl
  of_cargo all operator.LessOrEqual (higher_three a b c d e f) less may =
      by_version v p q (higher_three a b c d e f) less AnySize is_le refl refl
  of_cargo all _ is less may = absurd may

  raised_met : (d : Dialect) (all : Bool) (f : Operator) {s t : List ℕ} → Higher s t → slice_cmp nat_cmp s t ≡ Less → MayBeRaised f p
      → test d all f s p v ≡ true → test d all f t q v ≡ true
  raised_met Cargo all f = of_cargo all f
  raised_met Npm all f = of_npm (rule_of all) f
  raised_met CrateCargo all f = of_crate mode.Cargo f
  raised_met CrateNpm all f = of_crate mode.Npm f

-- ---- the pre-releases that count because a term names their numbers and a pre-release

two_and : (a b : Bool) → (a && (b && false)) ≡ false
two_and a b = grind arith

-- no pre-release is below the lowest one, `0`
none_lower : (xs : List IdentifierValue) → is_empty xs ≡ false → is_lt (pre_cmp xs (numeric 0 ∷ [])) ≡ true → ⊥
none_lower [] some e = cc
none_lower ((numeric zero) ∷ []) some e = cc
none_lower ((numeric zero) ∷ x ∷ xs) some e = cc
none_lower ((numeric (suc n)) ∷ xs) some e =
    let above : false ≡ true =
    ap (λ o. is_lt (ordering_then o (slice_cmp identifier_cmp xs []))) (nat_cmp_is (suc n) 0 Greater (omega arith)) ∙ e in cc
none_lower ((alphanumeric t) ∷ xs) some e = cc

same_number : (m n : ℕ) → nat_eq m n ≡ true → nat_cmp m n ≡ Equal
same_number m n e = grind (arith, nat_tests)

abbrev names : PlainVersion → Stated → Bool
names v x = not (is_empty x.pre) && pointwise nat_eq (numbers v) x.numbers

module _ (v : PlainVersion) (pre : is_empty v.pre ≡ false) where
  -- no pre-release is below the lowest one of its numbers
  none_below : (a b c : ℕ) → pointwise nat_eq (numbers v) (a ∷ b ∷ c ∷ []) ≡ true
      → is_lt (precedence v (filled (a ∷ b ∷ c ∷ []) (numeric 0 ∷ []))) ≡ true → ⊥
  none_below a b c same e =
      let first = and_parts (nat_eq v.major a) _ same in
      let second = and_parts (nat_eq v.minor b) _ first.1 in
      let third = and_parts (nat_eq v.patch c) _ second.1 in
      none_lower v.pre pre
      (sym (ap is_lt (λ i. ordering_then (same_number v.major a first.0 i)
      (ordering_then (same_number v.minor b second.0 i)
      (ordering_then (same_number v.patch c third.0 i) (pre_cmp v.pre (numeric 0 ∷ []))))))
      ∙ e)

  lowest_unmet : (d : Dialect) (all : Bool) {s t : List ℕ} → Higher s t → pointwise nat_eq (numbers v) s ≡ true
      → test d all operator.Less s (numeric 0 ∷ []) v ≡ true → ⊥
  lowest_unmet d all (higher_one a b) same e = let no : false ≡ true = sym (and-false (nat_eq v.major a)) ∙ same in cc
  lowest_unmet d all (higher_two a b c e) same met =
      let no : false ≡ true = sym (two_and (nat_eq v.major a) (nat_eq v.minor b)) ∙ same in cc
  lowest_unmet Cargo all (higher_three a b c d e f) same met = none_below a b c same met
  lowest_unmet Npm all (higher_three a b c d e f) same met = none_below a b c same met
  lowest_unmet CrateCargo all (higher_three a b c d e f) same met = none_below a b c same met
  lowest_unmet CrateNpm all (higher_three a b c d e f) same met = none_below a b c same met

  raised_named : (d : Dialect) (all : Bool) (f : Operator) {s t : List ℕ} → Higher s t → (p : List IdentifierValue) → MayBeRaised f p
      → test d all f s p v ≡ true → (not (is_empty p) && pointwise nat_eq (numbers v) s) ≡ true → ⊥
  raised_named d all operator.Less {s = s} is p (inl no_pre) met named = let no : false ≡ true = rw no_pre at named in cc
  raised_named d all operator.Less {s = s} is p (inr lowest) met named =
      let named : pointwise nat_eq (numbers v) s ≡ true = rw lowest at named in
      lowest_unmet d all is named (rw lowest at met)
  raised_named d all operator.LessOrEqual is p no_pre met named = let no : false ≡ true = rw no_pre at named in cc
  raised_named d all _ is p may met named = absurd may

module _ (d : Dialect) (all : Bool) (v : PlainVersion) (s r : Simple) where
  higher_terms : IsRaisedBound (stated_by s) (stated_by r) → Higher (stated s.partial) (stated r.partial)
  higher_terms is = higher_of (stated_shape s.partial) (stated_shape r.partial) is.as_many is.higher

  pub widened_met : IsWidenedTerm (stated_by s) (stated_by r) → term_met d all v s ≡ true → term_met d all v r ≡ true
  widened_met (inl same) met = term_is d all v r ∙ sym (ap (is_met_by d all v) same) ∙ sym (term_is d all v s) ∙ met
  widened_met (inr is) met =
      term_is d all v r ∙ ap (λ f. test d all f (stated r.partial) (pre_release r.partial) v) (sym is.operator)
      ∙ raised_met v (pre_release s.partial) (pre_release r.partial) d all s.operator (higher_terms is) is.higher is.may_be
      (sym (term_is d all v s) ∙ met)

  pub widened_named : IsWidenedTerm (stated_by s) (stated_by r) → is_empty v.pre ≡ false → term_met d all v s ≡ true
      → states_pre_release_at (of_simple s) v ≡ true → states_pre_release_at (of_simple r) v ≡ true
  widened_named (inl same) pre met named = sym (ap (names v) same) ∙ named
  widened_named (inr is) pre met named =
      absurd (raised_named v pre d all s.operator (higher_terms is) (pre_release s.partial) is.may_be (sym (term_is d all v s) ∙ met) named)

-- ---- whether a term matches everything

none_stated : {s t : List ℕ} → Higher s t → (is_empty s ≡ false) × (is_empty t ≡ false)
none_stated (higher_one a b) = (refl, refl)
none_stated (higher_two a b c d) = (refl, refl)
none_stated (higher_three a b c d e f) = (refl, refl)

raised_everything : (f : Operator) {s t : List ℕ} → Higher s t → (p q : List IdentifierValue) → MayBeRaised f p
    → npm.asks_nothing_by f (is_empty s) (npm.is_zero (filled s p)) ≡ npm.asks_nothing_by f (is_empty t) (npm.is_zero (filled t q))
raised_everything operator.Less is p q may = refl
raised_everything operator.LessOrEqual is p q may = (none_stated is).0 ∙ sym (none_stated is).1
raised_everything _ is p q may = absurd may

abbrev asks_nothing : Stated → Bool
asks_nothing x = npm.asks_nothing_by x.operator (is_empty x.numbers) (npm.is_zero (filled x.numbers x.pre))

pub widened_everything : (s r : Simple) → IsWidenedTerm (stated_by s) (stated_by r)
    → npm.matches_everything (of_simple s) ≡ npm.matches_everything (of_simple r)
widened_everything s r (inl same) = ap asks_nothing same
widened_everything s r (inr is) =
    raised_everything s.operator (higher_of (stated_shape s.partial) (stated_shape r.partial) is.as_many is.higher)
    (pre_release s.partial) (pre_release r.partial) is.may_be
    ∙ ap (λ f. npm.asks_nothing_by f (is_empty (stated r.partial)) (npm.is_zero (zero_filled r.partial))) is.operator

-- ---- two terms that were read

pre_same : (p q : List IdentifierValue) → pre_cmp p q ≡ Equal → p ≡ q
pre_same p q e = ap (λ (v : PlainVersion). v.pre) (precedence-same (filled [] p) (filled [] q) e)

equal_is : (o : Ordering) → is_eq o ≡ true → o ≡ Equal
equal_is o e = grind arith

pub lowest_only : (pre : List IdentifierValue) (b : Bool) → b ≡ is_eq (pre_cmp pre (numeric 0 ∷ [])) → is_empty pre ≡ false
    → (b ≡ true) ↔ MayBeRaised operator.Less pre
lowest_only pre b is some = (
  λ e. inr (pre_same pre (numeric 0 ∷ []) (equal_is _ (sym is ∙ e))),
  λ may. is ∙ elim may [
    | inl no_pre ↦ let no : true ≡ false = sym (ap is_empty no_pre) ∙ some in cc
    | inr lowest ↦ ap (λ pre. is_eq (pre_cmp pre (numeric 0 ∷ []))) lowest
  ],
)

pub has_some : (empty : Bool) → not empty ≡ true → empty ≡ false
has_some true e = cc
has_some false e = refl

pub same_statement : (x y : Stated) (b : Bool) → x.operator ≡ y.operator → slice_cmp nat_cmp x.numbers y.numbers ≡ Equal
    → b ≡ is_eq (pre_cmp x.pre y.pre) → (b ≡ true) ↔ IsWidenedTerm x y
same_statement x y b operators equal is = (
  λ e. inl (λ i. record {
    operator = operators i;
    numbers = slice_cmp-IsAntisymmetric nat_cmp-IsAntisymmetric x.numbers y.numbers equal i;
    pre = pre_same x.pre y.pre (equal_is _ (sym is ∙ e)) i;
  }),
  λ widened. is ∙ elim widened [
    | inl same ↦ ap is_eq (ap (λ (y : Stated). pre_cmp x.pre y.pre) (sym same) ∙ tied_itself pre_total x.pre)
    | inr raised ↦ let no : Equal ≡ Less = sym equal ∙ raised.higher in cc
  ],
)

-- the result of a comparison of numbers, if there are as many
pub compared : (same : Bool) (o p : Ordering) → Some p ≡ (if same then Some o else None) → p ≡ Equal → o ≡ Equal
compared true o p is equal = cc
compared false o p is equal = cc
