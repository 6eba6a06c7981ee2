-- Properties of identifiers and versions that don't depend on how identifiers of digits are read,
-- and how such identifiers are kept.
use Rattle.std.proofs.Common.{◌≡◌, ℕ, ◌^◌, ◌<◌, ◌≤◌, Bool, true, false, ◌&&◌, not, List, [], ◌∷◌, map, arith, refl, sym, ap, ◌∙◌}
use Rattle.std.specs.Prelude.{◌==◌, nat_lt, if◌then◌else◌}
use Rattle.std.specs.List.{list_all}
use Rattle.std.specs.Str.Parse.{digits_value}
use Rattle.std.proofs.lemmas.Bool.{and_parts}
use Rattle.std.proofs.lemmas.Bool.Decides.{nat_tests}
use Rattle.semver_texts.proofs.LargeNumbers.{large_size, number_numeral}
use Rattle.semver_texts.proofs.Lists.{by_test}
use Rattle.semver_texts.specs.Digits.{any_size, as_kept, identifier_by, identifiers_by, plain_by, plain_kept}
use Rattle.semver_texts.specs.PrintedText.{numeral}
use Rattle.semver_texts.specs.Texts.{Text, is_empty, is_large, is_number}
use Rattle.semver_texts.specs.declared.grammar.Digits.{Digits}
use Rattle.semver_texts.specs.declared.grammar.Digits.TheVariants.{Kept, AnySize}
use Rattle.semver_ranges.specs.Partials.{fits_u64}
use Rattle.semver_texts.specs.Precedence.{pre_cmp, precedence}
use Rattle.semver_ranges.specs.PrintedRanges.{is_kept, is_printable_version}
use Rattle.semver_texts.specs.Versions.{IdentifierValue, numeric, alphanumeric, PlainVersion, numbers}
use Rattle.version_sets.specs.Printable.{is_kept_by, prints_by}
use Rattle.std.specs.Prelude.{Option, Some, None, IfSome}
use Rattle.semver_ranges.specs.declared.range.Op.{Op}
use Rattle.semver_ranges.specs.declared.range.Op.TheVariants.{Lt, Gte, Eq}
use Rattle.semver_ranges.specs.RewritingTable.{comparator}
use Rattle.version_sets.specs.DigitViews.{comparator_kept, range_kept}
use Rattle.version_sets.specs.SetRanges.{Kind, bound_comparators, interval, intervals, is_lowest, is_lowest_pre, is_same_end, npm_range}
use Rattle.version_sets.specs.Steps.SpanViews.{successor}

pub by_none : (d : Digits) → identifiers_by d [] ≡ []
by_none Kept = refl
by_none AnySize = refl

pub by_cons : (d : Digits) (id : IdentifierValue) (ids : List IdentifierValue)
    → identifiers_by d (id ∷ ids) ≡ identifier_by d id ∷ identifiers_by d ids
by_cons Kept id ids = refl
by_cons AnySize id ids = refl

pub by_empty : (d : Digits) (ids : List IdentifierValue) → is_empty (identifiers_by d ids) ≡ is_empty ids
by_empty d [] = ap is_empty (by_none d)
by_empty d (id ∷ ids) = ap is_empty (by_cons d id ids)

map_zero : (ids : List IdentifierValue) (zero : Bool) → map any_size (successor ids zero) ≡ successor (map any_size ids) zero
map_zero [] true = refl
map_zero [] false = refl
map_zero (id ∷ ids) zero = ap (λ more. any_size id ∷ more) (map_zero ids zero)

pub by_zero : (d : Digits) (ids : List IdentifierValue) (zero : Bool)
    → identifiers_by d (successor ids zero) ≡ successor (identifiers_by d ids) zero
by_zero Kept ids zero = refl
by_zero AnySize ids zero = map_zero ids zero

-- an identifier that is kept as a text is never read as the number 0, since it is read as a number
-- only from 2^64 on
large_first : (t : Text) → is_lowest_pre (any_size (alphanumeric t) ∷ []) ≡ false
large_first t =
    by_test (is_large t)
    (λ large. rw large (no_zero (digits_value 10 t) (large_size t large)))
    (λ small. rw small refl)
  where
    no_zero : (n : ℕ) → 2 ^ 64 ≤ n → (n == 0) ≡ false
    no_zero n large = grind (arith, nat_tests)

pub lowest_by : (d : Digits) (ids : List IdentifierValue) → is_lowest_pre (identifiers_by d ids) ≡ is_lowest_pre ids
lowest_by Kept ids = refl
lowest_by AnySize [] = refl
lowest_by AnySize ((numeric n) ∷ []) = refl
lowest_by AnySize ((alphanumeric t) ∷ []) = large_first t
lowest_by AnySize ((numeric n) ∷ next ∷ ids) = refl
lowest_by AnySize ((alphanumeric t) ∷ next ∷ ids) = other (any_size (alphanumeric t)) (any_size next) (map any_size ids)
  where
    other : (x y : IdentifierValue) (more : List IdentifierValue) → is_lowest_pre (x ∷ y ∷ more) ≡ false
    other (numeric n) y more = refl
    other (alphanumeric t) y more = refl

-- ---- identifiers as they are kept

small_kept : (n : ℕ) → n < 2 ^ 64 → as_kept (numeric n) ≡ numeric n
small_kept n small = rw (below n small) refl
  where
    below : (n : ℕ) → n < 2 ^ 64 → nat_lt n (2 ^ 64) ≡ true
    below n small = grind (arith, nat_tests)

pub kept_number : (d : Digits) (n : ℕ) → n < 2 ^ 64 → as_kept (identifier_by d (numeric n)) ≡ numeric n
kept_number Kept n small = small_kept n small
kept_number AnySize n small = small_kept n small

pub kept_text : (d : Digits) (t : Text) → as_kept (identifier_by d (alphanumeric t)) ≡ alphanumeric t
kept_text Kept t = refl
kept_text AnySize t =
    by_test (is_large t)
    (λ large. let v = digits_value 10 t in
    rw large (ap (λ b. if b then numeric v else alphanumeric (numeral v)) (above v (large_size t large))
    ∙ ap alphanumeric (sym (number_numeral t (and_parts (is_number t) _ large).0))))
    (λ small. rw small refl)
  where
    above : (n : ℕ) → 2 ^ 64 ≤ n → nat_lt n (2 ^ 64) ≡ false
    above n large = grind (arith, nat_tests)

-- an identifier that passes `is_kept` is kept unchanged, and so is a printable version
fits_kept : (id : IdentifierValue) → is_kept id ≡ true → as_kept id ≡ id
fits_kept (numeric n) e = rw e refl
fits_kept (alphanumeric t) e = refl

all_fit : (ids : List IdentifierValue) → list_all is_kept ids ≡ true → map as_kept ids ≡ ids
all_fit [] e = refl
all_fit (id ∷ ids) e = let both = and_parts (is_kept id) _ e in (λ i. fits_kept id both.0 i ∷ all_fit ids both.1 i)

pub plain_fits : (v : PlainVersion) → is_printable_version v ≡ true → plain_kept v ≡ v
plain_fits v e = λ i. record {
  major = v.major;
  minor = v.minor;
  patch = v.patch;
  pre = all_fit v.pre (and_parts (list_all fits_u64 (numbers v)) _ e).1 i;
}

-- ---- comparisons of a release

released_pre : (d : Digits) (pre ids : List IdentifierValue) → is_empty pre ≡ true → pre_cmp pre (identifiers_by d ids) ≡ pre_cmp pre ids
released_pre d [] [] e = ap (pre_cmp []) (by_none d)
released_pre d [] (id ∷ ids) e = ap (pre_cmp []) (by_cons d id ids)
released_pre d (x ∷ xs) ids e = cc

pub released : (d : Digits) (v w : PlainVersion) → is_empty v.pre ≡ true → precedence v (plain_by d w) ≡ precedence v w
released d v w e = rw (released_pre d v.pre w.pre e) refl

-- ---- identifiers that can be read back

prints_id : (d : Digits) (id : IdentifierValue) → is_kept id ≡ true → is_kept_by d (identifier_by d id) ≡ true
prints_id Kept id e = e
prints_id AnySize (numeric n) e = refl
prints_id AnySize (alphanumeric t) e =
    by_test (is_large t) (λ large. rw large refl) (λ small. rw small (rw small (both (is_kept (alphanumeric t)) e)))
  where
    both : (b : Bool) → b ≡ true → (b && not false) ≡ true
    both b e = rw e refl

pub prints_ids : (d : Digits) (ids : List IdentifierValue) → list_all is_kept ids ≡ true
    → list_all (is_kept_by d) (identifiers_by d ids) ≡ true
prints_ids d [] e = ap (list_all (is_kept_by d)) (by_none d)
prints_ids d (id ∷ ids) e =
    let both = and_parts (is_kept id) _ e in
    ap (list_all (is_kept_by d)) (by_cons d id ids) ∙ rw (prints_id d id both.0) (prints_ids d ids both.1)

pub prints_plain : (d : Digits) (v : PlainVersion) → is_printable_version v ≡ true → prints_by d (plain_by d v) ≡ true
prints_plain d v e =
    let both = and_parts (list_all fits_u64 (numbers v)) _ e in
    rw both.0 (prints_ids d v.pre both.1)

-- ---- ranges of printable versions are kept unchanged

comparator_fits : (op : Op) (v : PlainVersion) → is_printable_version v ≡ true → comparator_kept (comparator op v) ≡ comparator op v
comparator_fits op v e = ap (comparator op) (plain_fits v e)

module _ (kind : Kind) (end_prints : (a b : PlainVersion) → is_printable_version a ≡ true → is_printable_version b ≡ true
    → is_printable_version (kind.end a b) ≡ true) where
  bounds_fit : (from : PlainVersion) (to : Option PlainVersion) → is_printable_version from ≡ true
      → IfSome to (λ v. is_printable_version v ≡ true) → map comparator_kept (bound_comparators kind.end from to) ≡ bound_comparators kind.end from to
  bounds_fit from None e f = λ i. comparator_fits Gte from e i ∷ []
  bounds_fit from (Some to) e f =
      let g = end_prints from to e f in
      by_test (is_lowest from) (λ y. rw y (λ i. comparator_fits Lt (kind.end from to) g i ∷ []))
      (λ n. rw n (λ i. comparator_fits Gte from e i ∷ comparator_fits Lt (kind.end from to) g i ∷ []))

  interval_fits : (from : PlainVersion) (to : Option PlainVersion)
      → is_printable_version from ≡ true → IfSome to (λ v. is_printable_version v ≡ true)
      → range_kept (npm_range (interval kind from to)) ≡ npm_range (interval kind from to)
  interval_fits from to e f =
      by_test (is_same_end to (kind.next from)) (λ y. rw y (λ i. npm_range (comparator_fits Eq from e i ∷ [])))
      (λ n. rw n (ap npm_range (bounds_fit from to e f)))

  pub intervals_fit : (vs : List PlainVersion) → list_all is_printable_version vs ≡ true
      → map range_kept (intervals kind vs) ≡ intervals kind vs
  intervals_fit [] e = refl
  intervals_fit (from ∷ []) e =
      let both = and_parts (is_printable_version from) _ e in λ i. interval_fits from None both.0 tt i ∷ []
  intervals_fit (from ∷ to ∷ vs) e =
      let both = and_parts (is_printable_version from) _ e in
      let more = and_parts (is_printable_version to) _ both.1 in
      λ i. interval_fits from (Some to) both.0 more.0 i ∷ intervals_fit vs more.1 i

-- identifiers are read and kept one by one
pub kept_each : {X : Type 0} (value : X → IdentifierValue) (d : Digits) (xs : List X)
    → map as_kept (identifiers_by d (map value xs)) ≡ map (λ x. as_kept (identifier_by d (value x))) xs
kept_each value d [] = ap (map as_kept) (by_none d)
kept_each value d (x ∷ xs) =
    ap (map as_kept) (by_cons d (value x) (map value xs)) ∙ ap (λ more. as_kept (identifier_by d (value x)) ∷ more) (kept_each value d xs)
