-- If a test holds for the versions at which spans begin and end, it holds for the boundaries of
-- their union.
use Rattle.std.proofs.Common.{arith, ◌≡◌, Bool, true, false, not, ◌&&◌, cond, List, [], ◌∷◌, ◌++◌, map, refl, sym, ap, ◌∙◌, is_ge, is_lt}
use Rattle.std.proofs.lemmas.Bool.{and_parts}
use Rattle.std.proofs.lemmas.List.Folds.{list_all-append}
use Rattle.std.proofs.lemmas.List.Sorted.{list_any-IsPermutation}
use Rattle.std.specs.List.{list_all, list_any}
use Rattle.std.specs.List.Sorted.{IsPermutation}
use Rattle.std.specs.Prelude.{Option, Some, None, option_map, option_to_list}
use Rattle.semver_texts.specs.Precedence.{precedence}
use Rattle.semver_texts.specs.Versions.{PlainVersion}
use Rattle.version_sets.specs.Steps.Spans.{SpanValue, later, earlier, is_below, span_boundaries, met, joined, all_joined}
use Rattle.version_sets.specs.Steps.SpanViews.{holds_at, span_value, spans_hold}
use Rattle.version_sets.specs.declared.spans.Span.{Span}

module _ (p : PlainVersion → Bool) where
  either : (b : Bool) (x y : Option PlainVersion) → holds_at p x ≡ true → holds_at p y ≡ true → holds_at p (cond b x y) ≡ true
  either true x y e f = e
  either false x y e f = f

  pub later_holds : (a b : Option PlainVersion) → holds_at p a ≡ true → holds_at p b ≡ true → holds_at p (later precedence a b) ≡ true
  later_holds None b e f = refl
  later_holds (Some a) None e f = refl
  later_holds (Some a) (Some b) e f = either (is_ge (precedence a b)) (Some a) (Some b) e f

  pub earlier_holds : (a b : Option PlainVersion) → holds_at p a ≡ true → holds_at p b ≡ true → holds_at p (earlier precedence a b) ≡ true
  earlier_holds None b e f = f
  earlier_holds (Some a) None e f = e
  earlier_holds (Some a) (Some b) e f = either (is_lt (precedence b a)) (Some b) (Some a) f e

  pub both_hold : (a b : Option PlainVersion) → holds_at p a ≡ true → holds_at p b ≡ true → (holds_at p a && holds_at p b) ≡ true
  both_hold a b e f = grind arith

  -- the test holds for the bounds of an intersection
  pub and_hold : (f t a b x y : Option PlainVersion) → x ≡ later precedence f a → y ≡ earlier precedence t b
      → (holds_at p f && holds_at p t) ≡ true → (holds_at p a && holds_at p b) ≡ true → (holds_at p x && holds_at p y) ≡ true
  and_hold f t a b x y later_is earlier_is e g =
      let first = and_parts (holds_at p f) (holds_at p t) e in
      let second = and_parts (holds_at p a) (holds_at p b) g in
      both_hold x y (ap (holds_at p) later_is ∙ later_holds f a first.0 second.0)
      (ap (holds_at p) earlier_is ∙ earlier_holds t b first.1 second.1)

  -- the test holds for the versions at which a span begins and ends; below, for the boundaries of
  -- such spans
  abbrev holds_in : SpanValue PlainVersion → Bool
  holds_in s = p s.from && holds_at p s.to

  span_holds : (s : SpanValue PlainVersion) → holds_in s ≡ true → list_all p (span_boundaries precedence s) ≡ true
  span_holds s e = of s.from s.to e
    where
      of : (from : PlainVersion) (to : Option PlainVersion) → (p from && holds_at p to) ≡ true
          → list_all p (from ∷ option_to_list to) ≡ true
      of from None e = e
      of from (Some to) e = grind arith

  met_holds : (s x : SpanValue PlainVersion) → holds_in s ≡ true → holds_in x ≡ true → holds_in (met precedence s x) ≡ true
  met_holds s x e f =
      let first = and_parts (p s.from) (holds_at p s.to) e in
      let second = and_parts (p x.from) (holds_at p x.to) f in
      rw first.0 (later_holds s.to x.to first.1 second.1)

  pub joined_holds : (s : SpanValue PlainVersion) (xs : List (SpanValue PlainVersion)) → holds_in s ≡ true → list_all holds_in xs ≡ true
      → list_all p (joined precedence s xs) ≡ true
  joined_holds s [] e f = span_holds s e
  joined_holds s (x ∷ xs) e f =
      let both = and_parts (holds_in x) (list_all holds_in xs) f in
      at (is_below precedence s.to x.from) (span_boundaries precedence s ++ joined precedence x xs) (joined precedence (met precedence s x)
      xs)
      (list_all-append p (span_boundaries precedence s) (joined precedence x xs) ∙ rw (span_holds s e) (joined_holds x xs both.0 both.1))
      (joined_holds (met precedence s x) xs (met_holds s x e both.0) both.1)
    where
      at : (b : Bool) (ys zs : List PlainVersion) → list_all p ys ≡ true → list_all p zs ≡ true → list_all p (cond b ys zs) ≡ true
      at true ys zs g h = g
      at false ys zs g h = h

  all_hold : (xs : List (SpanValue PlainVersion)) → list_all holds_in xs ≡ true → list_all p (all_joined precedence xs) ≡ true
  all_hold [] e = refl
  all_hold (x ∷ xs) e = let both = and_parts (holds_in x) (list_all holds_in xs) e in joined_holds x xs both.0 both.1

-- a test of all elements doesn't depend on their order
all_by_any : {X : Type 0} (p : X → Bool) (xs : List X) → list_all p xs ≡ not (list_any (λ x. not (p x)) xs)
all_by_any p [] = refl
all_by_any p (x ∷ xs) = grind (arith, all_by_any p xs)

pub moved_hold : {X : Type 0} (p : X → Bool) (xs ys : List X) → IsPermutation xs ys → list_all p xs ≡ list_all p ys
moved_hold p xs ys moved =
    all_by_any p xs ∙ ap not (list_any-IsPermutation (λ x. not (p x)) xs ys moved) ∙ sym (all_by_any p ys)

module _ {L : Type 0} (place : L → PlainVersion) (p : PlainVersion → Bool) where
  by_values : (spans : List (Span L)) → spans_hold place p spans ≡ list_all (holds_in p) (map (span_value place) spans)
  by_values [] = refl
  by_values (s ∷ spans) = ap (λ b. (p (place s.from) && holds_at p (option_map place s.to)) && b) (by_values spans)

  -- the test holds for the boundaries of spans that were sorted
  pub boundaries_hold : (xs sorted : List (Span L)) → IsPermutation xs sorted → (ys : List PlainVersion)
      → ys ≡ all_joined precedence (map (span_value place) sorted) → spans_hold place p xs ≡ true → list_all p ys ≡ true
  boundaries_hold xs sorted moved ys is e =
      ap (list_all p) is
      ∙ all_hold p (map (span_value place) sorted)
      (sym (by_values sorted) ∙ sym (moved_hold (λ s. p (place s.from) && holds_at p (option_map place s.to)) xs sorted moved) ∙ e)
