-- Which versions are at or above a version, which are above it, and which have its numbers.
use Rattle.std.proofs.Common.{rules, arith, ◌≡◌, zero, suc, Bool, true, false, ◌&&◌, ◌||◌, not, List, [], ◌∷◌, ◌++◌, refl, sym}
use Rattle.std.proofs.Common.{ap, ap₂, ◌∙◌}
use Rattle.std.proofs.Common.{append-nil, nat_cmp, Ordering, Less, Equal, Greater, is_eq, is_ge, is_gt, ℕ, nat_eq}
use Rattle.std.specs.Prelude.{Option, Some, None, option_map}
use Rattle.std.specs.Cmp.{nat_cmp_is}
use Rattle.std.specs.Cmp.Lexicographic.{pointwise, slice_cmp}
use Rattle.std.proofs.lemmas.Bool.Decides.{nat_tests}
use Rattle.std.specs.Ordering.{ordering_then}
use Rattle.semver_texts.specs.Precedence.{identifier_cmp, pre_cmp, precedence}
use Rattle.semver_texts.specs.Texts.{is_empty}
use Rattle.semver_texts.specs.Versions.{IdentifierValue, numeric, alphanumeric, numbers, PlainVersion}
use Rattle.version_sets.specs.declared.release.Release.{Release}
use Rattle.version_sets.specs.Steps.Numbers.{lowest_place, numbers_cmp, reaches}
use Rattle.version_sets.specs.Steps.Spans.{reached}
use Rattle.version_sets.specs.Steps.SpanViews.{is_past, successor}
use Rattle.version_sets.specs.Releases.{release_value}

-- ---- precedence compares the numbers, and then the pre-releases

regroup : (a b c d : Ordering)
    → ordering_then a (ordering_then b (ordering_then c d)) ≡ ordering_then (ordering_then a (ordering_then b c)) d
regroup a b c d = grind arith

pub by_numbers : (v w : PlainVersion) → precedence v w ≡ ordering_then (numbers_cmp v w) (pre_cmp v.pre w.pre)
by_numbers v w = regroup (nat_cmp v.major w.major) (nat_cmp v.minor w.minor) (nat_cmp v.patch w.patch) (pre_cmp v.pre w.pre)

-- two tests that agree on less, on greater, and on r and s, agree on r and s after any comparison
-- of the numbers
pub then_alike : (f g : Ordering → Bool) (o r s : Ordering) → f Less ≡ g Less → f Greater ≡ g Greater → f r ≡ g s
    → f (ordering_then o r) ≡ g (ordering_then o s)
then_alike f g o r s e h k = grind arith

-- the number 0 is the lowest list of one or more identifiers
pub zero_lowest : (x : IdentifierValue) (xs : List IdentifierValue) → is_ge (slice_cmp identifier_cmp (x ∷ xs) (numeric 0 ∷ [])) ≡ true
zero_lowest (numeric zero) [] = refl
zero_lowest (numeric zero) (x ∷ xs) = refl
zero_lowest (numeric (suc n)) xs =
    ap (λ o. is_ge (ordering_then o (slice_cmp identifier_cmp xs []))) (sym (nat_cmp_is (suc n) 0 Greater (omega arith)))
zero_lowest (alphanumeric t) xs = refl

-- no list is between a list of identifiers and that list with the number 0 after it
nothing_between : (xs ws : List IdentifierValue)
    → is_ge (slice_cmp identifier_cmp xs (ws ++ numeric 0 ∷ [])) ≡ is_gt (slice_cmp identifier_cmp xs ws)
nothing_between [] [] = refl
nothing_between [] (w ∷ ws) = refl
nothing_between (x ∷ xs) [] = zero_lowest x xs
nothing_between (x ∷ xs) (w ∷ ws) = then_alike is_ge is_gt (identifier_cmp x w) _ _ refl refl (nothing_between xs ws)

-- ---- releases and pre-releases, compared with a version that has a pre-release, and with one that has none

-- a test f of the numbers equals a test g of the versions if both agree on less and greater, and f
-- on equal numbers agrees with g on the pre-releases
numbers_decide : (f g : Ordering → Bool) (o r : Ordering)
    → f Less ≡ g Less → f Greater ≡ g Greater → f Equal ≡ g r → f o ≡ g (ordering_then o r)
numbers_decide f g o r e h k = grind arith

-- such a test of the numbers of two versions equals the test of their precedence
pub against : (f g : Ordering → Bool) (v w : PlainVersion) → f Less ≡ g Less → f Greater ≡ g Greater → f Equal ≡ g (pre_cmp v.pre w.pre)
    → f (numbers_cmp v w) ≡ g (precedence v w)
against f g v w l m e = numbers_decide f g (numbers_cmp v w) _ l m e ∙ sym (ap g (by_numbers v w))

pub release_reaches : (xs ws : List IdentifierValue) → is_empty xs ≡ true → is_ge Equal ≡ is_ge (pre_cmp xs ws)
release_reaches xs ws e = grind arith

pub none_above : (xs ws : List IdentifierValue) → is_empty ws ≡ true → is_gt Equal ≡ is_gt (pre_cmp xs ws)
none_above xs ws e = grind arith

pub from_lowest : (xs : List IdentifierValue) → is_empty xs ≡ false → is_ge Equal ≡ is_ge (pre_cmp xs (numeric 0 ∷ []))
from_lowest [] e = absurd (search rules)
from_lowest (x ∷ xs) e = sym (zero_lowest x xs)

pub right_after : (xs ws : List IdentifierValue) → is_empty xs ≡ false → is_empty ws ≡ false
    → is_ge (pre_cmp xs (ws ++ numeric 0 ∷ [])) ≡ is_gt (pre_cmp xs ws)
right_after [] ws e f = absurd (search rules)
right_after (x ∷ xs) [] e f = absurd (search rules)
right_after (x ∷ xs) (w ∷ ws) e f = nothing_between (x ∷ xs) (w ∷ ws)

-- a pre-release is above w if and only if it is at or above w with the number 0 after its
-- identifiers
pub right_above : (w v : PlainVersion) → is_empty w.pre ≡ false → is_empty v.pre ≡ false
    → is_ge (precedence v (record w { pre = w.pre ++ numeric 0 ∷ [] })) ≡ is_gt (precedence v w)
right_above w v f e =
    ap is_ge (by_numbers v (record w { pre = w.pre ++ numeric 0 ∷ [] }))
    ∙ then_alike is_ge is_gt (numbers_cmp v w) _ _ refl refl (right_after v.pre w.pre e f) ∙ sym (ap is_gt (by_numbers v w))

-- the pre-releases at or above w, or only those above w if `above` is true, are those at or above w
-- with this successor as its pre-release
pub past : (above : Bool) (w v : PlainVersion) → is_empty w.pre ≡ false → is_empty v.pre ≡ false
    → is_ge (precedence v (record w { pre = successor w.pre (above || is_empty w.pre) })) ≡ is_past above (precedence v w)
past true w v f e = right_above w v f e
past false w v f e = ap (λ b. is_ge (precedence v (record w { pre = successor w.pre b }))) f
    ∙ ap (λ p. is_ge (precedence v (record w { pre = p }))) (append-nil w.pre)

pub before_release : (xs ws : List IdentifierValue) → is_empty xs ≡ false → is_empty ws ≡ true → is_gt Equal ≡ is_ge (pre_cmp xs ws)
before_release [] ws e f = absurd (search rules)
before_release (x ∷ xs) [] e f = refl
before_release (x ∷ xs) (w ∷ ws) e f = absurd (search rules)

-- ---- versions at or above a bound

abbrev pub from : Option PlainVersion → PlainVersion → Bool
from b v = reached precedence b v

pub and_true : (b : Bool) → (b && true) ≡ b
and_true b = grind arith

pub from-lowest : (n : Option Release) (v : PlainVersion) → is_empty v.pre ≡ false → from (option_map lowest_place n) v ≡ reaches n v
from-lowest None v e = refl
from-lowest (Some r) v e = sym (against is_ge is_ge v (lowest_place r) refl refl (from_lowest v.pre e))

-- ---- versions with the numbers of a version

is_eq_then : (r s : Ordering) → is_eq (ordering_then r s) ≡ (is_eq r && is_eq s)
is_eq_then r s = grind arith

pub at_and_not_above : (o : Ordering) → (is_ge o && not (is_gt o)) ≡ is_eq o
at_and_not_above o = grind arith

same_number : (m n : ℕ) → is_eq (nat_cmp m n) ≡ nat_eq m n
same_number m n = grind (arith, nat_tests)

pub same_numbers : (v w : PlainVersion) → is_eq (numbers_cmp v w) ≡ pointwise nat_eq (numbers v) (numbers w)
same_numbers v w =
    is_eq_then (nat_cmp v.major w.major) _
    ∙ ap₂ (λ a b. a && b) (same_number v.major w.major)
    (is_eq_then (nat_cmp v.minor w.minor) (nat_cmp v.patch w.patch)
    ∙ ap₂ (λ a b. a && b) (same_number v.minor w.minor) (same_number v.patch w.patch ∙ sym (and_true (nat_eq v.patch w.patch))))

-- a pre-release has the numbers of w if and only if it is at or above their lowest pre-release, and
-- its numbers aren't above them
pub stated_numbers : (m : Release) (w low : PlainVersion) → release_value m ≡ record w { pre = [] } → low ≡ lowest_place m
    → is_empty w.pre ≡ false
    → (v : PlainVersion) (above : Bool) → is_empty v.pre ≡ false → above ≡ is_gt (numbers_cmp v (release_value m))
    → (is_ge (precedence v low) && not above) ≡ (not (is_empty w.pre) && pointwise nat_eq (numbers v) (numbers w))
stated_numbers m w low is lowest some v above e over =
    ap₂ (λ a b. a && not b) (ap (λ p. is_ge (precedence v p)) lowest ∙ from-lowest (Some m) v e) over
    ∙ at_and_not_above (numbers_cmp v (release_value m))
    ∙ ap (λ u. is_eq (numbers_cmp v u)) is ∙ same_numbers v w ∙ ap (λ b. not b && pointwise nat_eq (numbers v) (numbers w)) (sym some)
