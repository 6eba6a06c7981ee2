-- Equations for the comparators of Cargo that are left of a text, one for each step of the cursor.
use Rattle.std.proofs.Common.{◌≡◌, ℕ, zero, suc, ◌<◌, ◌≤◌, ◌==◌, Bool, true, false, not, ◌&&◌, List, [], ◌∷◌, length, refl, ap, ◌∙◌, map, arith}
use Rattle.std.proofs.Common.{Option, Some, None}
use Rattle.std.specs.Prelude.{option_map}
use Rattle.std.specs.Borrow.{Bor}
use Rattle.semver_texts.specs.Texts.{Text, is_empty}
use Rattle.semver_texts.specs.declared.grammar.Grammar.TheVariants.{Cargo}
use Rattle.semver_texts.proofs.Lists.{by_test}
use Rattle.semver_ranges.specs.CargoGrammar.{as_read}
use Rattle.semver_ranges.specs.RangeTree.{Simple, is_blank}
use Rattle.semver_ranges.specs.declared.term.RawTerm.{RawTerm}
use Rattle.semver_ranges.specs.TextItems.{FoundTerm, Item, empty_range, one_term, two_bars}
use Rattle.semver_ranges.specs.Steps.FoundItems.{after_comma, comparator, comparator_at, may_come}
use Rattle.semver_ranges.specs.Steps.FoundItems.{simple_of}
use Rattle.semver_ranges.specs.Steps.Items.{FindsItem, IsTermAt, IsTermOf, simples_of}
use Rattle.semver_ranges.specs.Steps.Reading.{after_blanks}
use Rattle.semver_ranges.specs.Steps.RangeEvents.{before_others, comparators_left, events_left, in_front, one_simple, put, put_simples}
use Rattle.semver_ranges.specs.Steps.RangeEvents.{some_comparators}
use Rattle.std.proofs.lemmas.Bool.Decides.{nat_tests}
use Rattle.semver_ranges.proofs.ItemSteps.{comparator_shorter}
use Rattle.semver_ranges.proofs.ReadingSteps.{back_shorter}

-- the same comparators are before others that are the same
same_before : (f g : Text → Option (List Simple)) (is_first : Bool) (t : Text) (o : Option (Item × Text)) → comparator is_first t ≡ o
    → ((u : Text) → length u < length t → f u ≡ g u) → before_others f o ≡ before_others g o
same_before f g is_first t None e same = refl
same_before f g is_first t (Some (one_term x, u)) e same =
    ap (option_map (λ ss. simple_of x ∷ ss)) (same u (comparator_shorter is_first t (one_term x) u e).0)
same_before f g is_first t (Some (empty_range, u)) e same = refl
same_before f g is_first t (Some (two_bars, u)) e same = refl

-- any depth above the length of the text gives the same comparators
same_depth : (m n : ℕ) (is_first : Bool) (t : Text) → length t < m → length t < n
    → some_comparators m is_first t ≡ some_comparators n is_first t
same_depth zero n is_first t h k = absurd (omega (arith, h))
same_depth (suc m) zero is_first t h k = absurd (omega (arith, k))
same_depth (suc m) (suc n) is_first t h k = by_test (not is_first && is_empty t)
    (λ y. rw y refl)
    (λ e. rw e (same_before (some_comparators m false) (some_comparators n false) is_first t (comparator is_first t) refl
    (λ u less. same_depth m n false u (omega (arith, h, less)) (omega (arith, k, less)))))

-- a comparator that is next is the first of those that are left
pub one_left : (is_first : Bool) (t : Text) (x : FoundTerm) (u : Text) → comparator is_first t ≡ Some (one_term x, u)
    → (not is_first && is_empty t) ≡ false
    → comparators_left is_first t ≡ option_map (λ ss. simple_of x ∷ ss) (comparators_left false u)
one_left is_first t x u e some =
    let less = comparator_shorter is_first t (one_term x) u e in
    rw (some, e) (ap (option_map (λ ss. simple_of x ∷ ss)) (same_depth (length t) (suc (length u)) false u less.0 (omega arith)))

none_left : (is_first : Bool) (t : Text) → comparator is_first t ≡ None → (not is_first && is_empty t) ≡ false
    → comparators_left is_first t ≡ None
none_left is_first t e some = rw (some, e) refl

pub no_events : (is_first : Bool) (t : Text) → comparator is_first t ≡ None → (not is_first && is_empty t) ≡ false
    → events_left Cargo is_first t ≡ None
no_events is_first t e some = ap (option_map (λ ss. in_front (map as_read ss) [])) (none_left is_first t e some)

pub some_left : (is_first : Bool) (t : Text) → (is_first ≡ false → 0 < length t) → (not is_first && is_empty t) ≡ false
some_left true t h = refl
some_left false [] h = absurd (omega (arith, h refl))
some_left false (b ∷ t) h = refl

-- its events
put_read : (s : Simple) (o : Option (List Simple))
    → option_map (λ ss. in_front (map as_read ss) []) (option_map (λ ss. s ∷ ss) o)
    ≡ put (one_simple (as_read s)) (option_map (λ ss. in_front (map as_read ss) []) o)
put_read s None = refl
put_read s (Some ss) = refl

pub events_next : (is_first : Bool) (t : Text) (x : FoundTerm) (u : Text)
    → comparator is_first t ≡ Some (one_term x, u) → (not is_first && is_empty t) ≡ false → x.upper ≡ None
    → events_left Cargo is_first t ≡ put_simples (simples_of Cargo x) (events_left Cargo false u)
events_next is_first t x u e some none =
    rw none (ap (option_map (λ ss. in_front (map as_read ss) [])) (one_left is_first t x u e some) ∙ put_read (simple_of x) (comparators_left false u))

-- ---- what the reader finds

comma_shorter : (t u : Text) → after_comma t ≡ Some u → length u ≤ length t
comma_shorter [] u e = cc
comma_shorter (b ∷ t) u e = by_test (b == 44)
    (λ y. let same : after_blanks Cargo t ≡ u = cc (rw y at e) in
    let short = back_shorter (is_blank Cargo) t in
    rw (← same) (omega (arith, short)))
    (λ n. let no : None ≡ Some u = rw n at e in cc)

pub no_bytes : (t : Text) → (length t == 0) ≡ is_empty t
no_bytes [] = refl
no_bytes (b ∷ t) = grind (arith, nat_tests)

-- a comparator after a comma
pub after_found : (t u : Text) (o : Option (RawTerm × Bor Text)) → after_comma t ≡ Some u
    → FindsItem (length u) (comparator_at false u) o → FindsItem (length t) (comparator false t) o
after_found t u None e h = rw e h
after_found t u (Some found) e (x, is, none, within, here) =
    let short = comma_shorter t u e in
    (x, is, none, omega (arith, within, short), rw e here)

-- a term at the beginning of a text that may come, and one that may not
module _ (is_first : Bool) (t : Text) (term : RawTerm) (u : Text) (here : IsTermAt Cargo t term u) where
  abbrev s : Simple
  s = record { operator = term.operator; partial = here.version.partial }

  abbrev x : FoundTerm
  x = record { from = t; operator = term.operator; version = here.version; upper = None }

  pub found_here : may_come is_first t s u ≡ true
      → (y : FoundTerm) × IsTermOf Cargo y term × (y.upper ≡ None) × (length y.from ≤ length t)
      × (comparator_at is_first t ≡ Some (one_term y, u))
  found_here may = (
    x,
    record { from = here.from; operator = refl; version = here.is; within = here.within; upper = rw here.upper tt },
    refl,
    omega arith,
    rw (here.simple, here.word, may) refl,
  )

  pub not_here : may_come is_first t s u ≡ false → comparator_at is_first t ≡ None
  not_here may = rw (here.simple, here.word, may) refl
