-- A means of proof: precedence is a total order, and only equal versions are equal in precedence.
use Rattle.std.proofs.Common.{◌≡◌, ℕ, List, [], ◌∷◌, refl, sym, ap, ◌∙◌}
use Rattle.std.specs.Ordering.{nat_cmp, on, ordering_reverse, ordering_then, then_cmp}
use Rattle.std.specs.Cmp.{IsTotalOrder, nat_cmp_total, on_total, then_total}
use Rattle.std.specs.Cmp.Lexicographic.{lists_total, nat_list_cmp_total, slice_cmp}
use Rattle.std.specs.FinMap.{IsAntisymmetric, nat_cmp-IsAntisymmetric, slice_cmp-IsAntisymmetric}
use Rattle.std.specs.declared.cmp.Ordering.{Ordering}
use Rattle.std.specs.declared.cmp.Ordering.TheVariants.{Less, Equal, Greater}
use Rattle.semver_texts.specs.Texts.{Text}
use Rattle.semver_texts.specs.Precedence.{identifier_cmp, pre_cmp, precedence}
use Rattle.semver_texts.specs.Versions.{IdentifierValue, numeric, alphanumeric, PlainVersion}

-- an order is total if it always has the same result as a total order
same_total : {K : Type 0} {R S : K → K → Ordering}
    → ((x y : K) → R x y ≡ S x y) → IsTotalOrder S → IsTotalOrder R
same_total e o = record {
  antisymm = λ x y. e x y ∙ o.antisymm x y ∙ ap ordering_reverse (sym (e y x));
  trans = λ x y z l m. e x z ∙ o.trans x y z (sym (e x y) ∙ l) (sym (e y z) ∙ m);
  congr = λ x y z l. e x z ∙ o.congr x y z (sym (e x y) ∙ l) ∙ sym (e y z);
}

then-equal : (r : Ordering) → ordering_then r Equal ≡ r
then-equal Less = refl
then-equal Equal = refl
then-equal Greater = refl

-- identifiers are compared by their class, then by their number, then by their text
class : IdentifierValue → ℕ
class (numeric n) = 0
class (alphanumeric t) = 1

number : IdentifierValue → ℕ
number (numeric n) = n
number (alphanumeric t) = 0

text : IdentifierValue → Text
text (numeric n) = []
text (alphanumeric t) = t

by_class : (x y : IdentifierValue)
    → identifier_cmp x y
    ≡ then_cmp (on class nat_cmp)
    (then_cmp (on number nat_cmp) (on text (slice_cmp nat_cmp))) x y
unfolding class number text
by_class (numeric m) (numeric n) = sym (then-equal (nat_cmp m n))
by_class (numeric m) (alphanumeric t) = refl
by_class (alphanumeric s) (numeric n) = refl
by_class (alphanumeric s) (alphanumeric t) = refl

pub identifier_total : IsTotalOrder identifier_cmp
identifier_total =
    same_total by_class (then_total (on_total class nat_cmp_total)
    (then_total (on_total number nat_cmp_total) (on_total text nat_list_cmp_total)))

-- pre-releases are compared by whether there is one, then from the left
rank : List IdentifierValue → ℕ
rank [] = 1
rank (x ∷ xs) = 0

by_rank : (xs ys : List IdentifierValue)
    → pre_cmp xs ys ≡ then_cmp (on rank nat_cmp) (slice_cmp identifier_cmp) xs ys
unfolding rank
by_rank [] [] = refl
by_rank [] (y ∷ ys) = refl
by_rank (x ∷ xs) [] = refl
by_rank (x ∷ xs) (y ∷ ys) = refl

pub pre_total : IsTotalOrder pre_cmp
pre_total =
    same_total by_rank (then_total (on_total rank nat_cmp_total) (lists_total identifier_total))

-- precedence is total
pub precedence_total : IsTotalOrder precedence
precedence_total =
    then_total (on_total (λ (v : PlainVersion). v.major) nat_cmp_total)
    (then_total (on_total (λ (v : PlainVersion). v.minor) nat_cmp_total)
    (then_total (on_total (λ (v : PlainVersion). v.patch) nat_cmp_total)
    (on_total (λ (v : PlainVersion). v.pre) pre_total)))

-- values that compare as equal are equal
identifier-same : IsAntisymmetric identifier_cmp
identifier-same (numeric m) (numeric n) e = ap numeric (nat_cmp-IsAntisymmetric m n e)
identifier-same (numeric m) (alphanumeric t) e = cc
identifier-same (alphanumeric s) (numeric n) e = cc
identifier-same (alphanumeric s) (alphanumeric t) e =
    ap alphanumeric (slice_cmp-IsAntisymmetric nat_cmp-IsAntisymmetric s t e)

pre-same : IsAntisymmetric pre_cmp
pre-same [] [] e = refl
pre-same [] (y ∷ ys) e = cc
pre-same (x ∷ xs) [] e = cc
pre-same (x ∷ xs) (y ∷ ys) e = slice_cmp-IsAntisymmetric identifier-same (x ∷ xs) (y ∷ ys) e

pub then_first : (r s : Ordering) → ordering_then r s ≡ Equal → r ≡ Equal
then_first Less s e = cc
then_first Equal s e = refl
then_first Greater s e = cc

pub then_second : (r s : Ordering) → ordering_then r s ≡ Equal → s ≡ Equal
then_second Less s e = cc
then_second Equal s e = e
then_second Greater s e = cc

-- versions with equal fields are equal
same_fields : (v w : PlainVersion)
    → v.major ≡ w.major → v.minor ≡ w.minor → v.patch ≡ w.patch → v.pre ≡ w.pre → v ≡ w
same_fields v w a b c d = λ i. record { major = a i; minor = b i; patch = c i; pre = d i }

pub precedence-same : IsAntisymmetric precedence
precedence-same v w e =
    let e2 = then_second (nat_cmp v.major w.major) _ e in
    let e3 = then_second (nat_cmp v.minor w.minor) _ e2 in
    let major : v.major ≡ w.major = nat_cmp-IsAntisymmetric _ _ (then_first _ _ e) in
    let minor : v.minor ≡ w.minor = nat_cmp-IsAntisymmetric _ _ (then_first _ _ e2) in
    let patch : v.patch ≡ w.patch = nat_cmp-IsAntisymmetric _ _ (then_first _ _ e3) in
    let pre : v.pre ≡ w.pre = pre-same _ _ (then_second _ _ e3) in
    same_fields v w major minor patch pre
