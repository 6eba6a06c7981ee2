-- Whether some version between two ends is at or above another version.
use Rattle.std.proofs.Common.{◌≡◌, ◌≢◌, ◌⊎◌, Bool, true, false, not, ◌&&◌, ◌||◌, List, [], ◌∷◌, refl, sym, ap, ◌∙◌, arith, true≢false, inl, inr}
use Rattle.std.proofs.Common.{Ordering, Less, Equal, Greater, is_ge, is_gt, map}
use Rattle.std.proofs.lemmas.Bool.{and_parts}
use Rattle.std.specs.Cmp.{IsTotalOrder}
use Rattle.std.specs.Prelude.{◌↔◌, Option, Some, None}
use Rattle.semver_texts.specs.Precedence.{precedence}
use Rattle.semver_texts.specs.Steps.PrecedenceLaws.{precedence_total}
use Rattle.semver_texts.specs.Texts.{cut_at_dots, is_empty}
use Rattle.semver_texts.specs.Versions.{IdentifierValue, PlainVersion}
use Rattle.semver_ranges.specs.Partials.{kept}
use Rattle.version_sets.specs.AtOrAbove.{HasAtOrAbove}
use Rattle.version_sets.specs.declared.conjunction.Conjunction.{Conjunction}
use Rattle.version_sets.specs.declared.pre_release_end.PreReleaseEnd.{PreReleaseEnd}
use Rattle.version_sets.specs.declared.release.Release.{Release}
use Rattle.version_sets.specs.Releases.{release_value}
use Rattle.version_sets.specs.Steps.EndPlaces.{end_place}
use Rattle.version_sets.specs.Steps.Ends.{in_each}
use Rattle.version_sets.specs.Steps.Numbers.{numbers_cmp}
use Rattle.version_sets.specs.Steps.Spans.{IsSpan, SpanValue, is_between, is_in, reached}
use Rattle.version_sets.specs.Steps.SpanViews.{is_within, successor}
use Rattle.version_sets.specs.VersionSets.{IsPreRelease}
use Rattle.version_sets.proofs.DigitLaws.{by_empty}
use Rattle.version_sets.proofs.NumberLaws.{against, before_release, release_reaches}
use Rattle.version_sets.proofs.SweepLaws.{by_test}

-- a pre-release is at or above a release if and only if its numbers are above those
pub past_release : (w v : PlainVersion) (r : Release) → release_value r ≡ record v { pre = [] } → is_empty w.pre ≡ false
    → is_empty v.pre ≡ true → is_gt (numbers_cmp w (release_value r)) ≡ is_ge (precedence w v)
past_release w v r is some none =
    ap (λ u. is_gt (numbers_cmp w u)) is ∙ against is_gt is_ge w v refl refl (before_release w.pre v.pre some none)

-- a release is at or above a version if and only if it is at or above the release with its numbers
pub from_release : (w v : PlainVersion) (r : Release) → release_value r ≡ record v { pre = [] } → is_empty w.pre ≡ true
    → is_ge (precedence w (release_value r)) ≡ is_ge (precedence w v)
from_release w v r is none =
    sym (against is_ge is_ge w (release_value r) refl refl (release_reaches w.pre [] none)) ∙ ap (λ u. is_ge (numbers_cmp w u)) is
    ∙ against is_ge is_ge w v refl refl (release_reaches w.pre v.pre none)

not_less : (o : Ordering) → o ≢ Less → is_ge o ≡ true
not_less Less n = absurd (n refl)
not_less Equal n = refl
not_less Greater n = refl

less : (o : Ordering) → is_ge o ≡ true → o ≢ Less
less o is e = true≢false (sym is ∙ ap is_ge e)

both : (a b : Bool) → a ≡ true → b ≡ true → (a && b) ≡ true
both a b e f = grind arith

-- the versions of a kind that pass a test and are at or above v are those that pass another test
pub has_cut : (K : PlainVersion → Type 0) (test cut : PlainVersion → Bool) (v : PlainVersion) (answer : Bool)
    → ((w : PlainVersion) → K w → cut w ≡ (test w && is_ge (precedence w v)))
    → (answer ≡ true) ↔ ((w : PlainVersion) × K w × (cut w ≡ true)) → (answer ≡ true) ↔ HasAtOrAbove K test v
has_cut K test cut v answer is some = (
  λ e. let found = some.0 e in
      let parts = and_parts _ _ (sym (is found.0 found.1) ∙ found.2) in
      (found.0, found.1, parts.0, less _ parts.1),
  λ has. some.1 (has.0, has.1, is has.0 has.1 ∙ both _ _ has.2 (not_less _ has.3)),
)

-- ---- whether a version is in each interval, by its kind

pub in_release : (range : Conjunction) (w : PlainVersion) → is_empty w.pre ≡ true → in_each range w ≡ is_within release_value range.releases w
in_release range w e = rw e refl

-- the version at an end of a span of pre-releases is a pre-release
pub has_pre : (l : PreReleaseEnd) → is_empty (end_place l).pre ≡ false
has_pre l = let ids : List IdentifierValue = map kept (cut_at_dots l.pre.now) in
    by_empty l.digits (successor ids (l.successor || is_empty ids)) ∙ some ids l.successor
  where
    some : (ids : List IdentifierValue) (b : Bool) → is_empty (successor ids (b || is_empty ids)) ≡ false
    some [] true = refl
    some [] false = refl
    some (x ∷ xs) b = refl

-- ---- a version that itself may be between two ends

module _ {T : Type 0} (cmp : T → T → Ordering) (o : IsTotalOrder cmp) where
  itself : (v : T) → is_ge (cmp v v) ≡ true
  itself v = grind (arith, o.antisymm)

  -- a span has its beginning
  pub begins : (s : SpanValue T) → IsSpan cmp s → is_in cmp s s.from ≡ true
  begins s is = rw (itself s.from, is) refl

  -- what isn't below another element has reached what that has reached
  reached_on : (end : Option T) (v w : T) → is_ge (cmp w v) ≡ true → reached cmp end v ≡ true → reached cmp end w ≡ true
  reached_on None v w up e = cc
  reached_on (Some b) v w up e = grind (arith, o.antisymm, o.trans, o.congr)

  -- what has reached an end isn't below what hasn't
  apart : (end : Option T) (v w : T) → reached cmp end v ≡ false → reached cmp end w ≡ true → is_ge (cmp w v) ≡ true
  apart None v w n e = cc
  apart (Some b) v w n e = grind (arith, o.antisymm, o.trans, o.congr)

  -- an element that isn't at or above the upper end is between the ends, or something between them
  -- isn't below it
  between_or_below : (from to : Option T) (v w : T) → is_between cmp from to w ≡ true → reached cmp to v ≡ false
      → (is_between cmp from to v ≡ true) ⊎ (is_ge (cmp w v) ≡ true)
  between_or_below from to v w inside n = by_test (reached cmp from v)
      (λ y. inl (rw (y, n) refl))
      (λ below. inr (apart from v w below (and_parts (reached cmp from w) (not (reached cmp to w)) inside).0))

  below_end : (from to : Option T) (v w : T) → is_between cmp from to w ≡ true → is_ge (cmp w v) ≡ true → reached cmp to v ≡ false
  below_end from to v w inside up = by_test (reached cmp to v)
      (λ y. let parts = and_parts (reached cmp from w) (not (reached cmp to w)) inside in
      absurd (true≢false (sym parts.1 ∙ ap not (reached_on to v w up y))))
      (λ n. n)

-- some pre-release between two ends is at or above a pre-release if and only if any is between
-- them, and that one is below the upper end
pub has_own : (from to : Option PlainVersion) (v : PlainVersion) (past : Bool) → IsPreRelease v → past ≡ reached precedence to v
    → ((w : PlainVersion) × IsPreRelease w × (is_between precedence from to w ≡ true))
    → (not past ≡ true) ↔ HasAtOrAbove IsPreRelease (is_between precedence from to) v
has_own from to v past kind told some = (
  λ e. let below : reached precedence to v ≡ false = sym told ∙ flip past e in
      elim (between_or_below precedence precedence_total from to v some.0 some.2 below) [
        | inl own ↦ (v, kind, own, less _ (itself precedence precedence_total v))
        | inr up ↦ (some.0, some.1, some.2, less _ up)
      ],
  λ has. ap not (told ∙ below_end precedence precedence_total from to v has.0 has.2 (not_less _ has.3)),
)
  where
    flip : (b : Bool) → not b ≡ true → b ≡ false
    flip true e = cc
    flip false e = refl
