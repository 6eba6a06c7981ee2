-- Equations for the events that are left of a text of ranges, one for each step of the cursor.
use Rattle.std.proofs.Common.{◌≡◌, ◌<◌, Bool, true, false, List, [], ◌∷◌, Option, Some, None, length, refl, sym, ap, ◌∙◌, arith}
use Rattle.semver_texts.specs.declared.grammar.Grammar.{Grammar}
use Rattle.semver_ranges.specs.RangeTree.{Simple, RangeTree, empty, simples, SetTree}
use Rattle.semver_texts.specs.Texts.{Text}
use Rattle.semver_ranges.specs.Steps.Reading.{ends_range, simple, put_before, all_simples, right_side}
use Rattle.semver_texts.specs.Texts.{begins_with}
use Rattle.semver_ranges.specs.Steps.Reading.{with_right, with_others, after_bars, onto, more_ranges}
use Rattle.semver_ranges.specs.Steps.Reading.{after_range, after_blanks, read}
use Rattle.semver_ranges.specs.Steps.RangeEvents.{Event, one_simple, next_range, wildcard, yielded, in_front, events_of, put, put_simples}
use Rattle.semver_ranges.specs.Steps.RangeEvents.{set_events, at_bars, others_left, simples_left, ranges_left}
use Rattle.semver_ranges.proofs.ReadingSound.{read_sound}
use Rattle.semver_ranges.proofs.ReadingSteps.{simples_end, simples_step, read_step}

pub put_some : (ss : List Simple) (es : List Event) → put_simples ss (Some es) ≡ Some (in_front ss es)
put_some [] es = refl
put_some (s ∷ ss) es = rw (put_some ss es)

put_none : (ss : List Simple) → put_simples ss None ≡ None
put_none [] = refl
put_none (s ∷ ss) = rw (put_none ss)

module _ (d : Grammar) where
  -- the events of a range, and then those that are left after it
  onto_events : (r : RangeTree) (t : Text) (o : Option SetTree) → read d t ≡ o
      → set_events (onto r o) ≡ put_simples (yielded r) (put next_range (set_events o))
  onto_events r t None e = sym (put_none (yielded r))
  onto_events r t (Some []) e = absurd (read_sound d t [] e)
  onto_events r t (Some (next ∷ others)) e = sym (put_some (yielded r) (next_range ∷ events_of (next ∷ others)))

  range_events : (r : RangeTree) (u : Text)
      → set_events (after_range (read d) (Some (r, u))) ≡ put_simples (yielded r) (others_left d u)
  range_events r [] = sym (put_some (yielded r) [])
  range_events r (b ∷ u) = at (after_bars (b ∷ u)) where
    at : (o : Option Text) → set_events (more_ranges (read d) r o) ≡ put_simples (yielded r) (at_bars d o)
    at None = sym (put_none (yielded r))
    at (Some t) = onto_events r t (read d t) refl

  -- at the beginning of a text
  pub begin_left : (t u : Text) → u ≡ after_blanks d t → set_events (read d t) ≡ ranges_left d true u
  begin_left t u e = ap (set_events) (read_step d t) ∙ rw e

  -- at the end of a range; if the range has only begun, it is empty, and gives a wildcard
  pub end_left : (t : Text) → ends_range t ≡ true → ranges_left d false t ≡ others_left d t
  end_left t e = rw (simples_end d t e)

  pub bars_left : (t : Text) (o : Option Text) → 0 < length t → ends_range t ≡ true → after_bars t ≡ o
      → ranges_left d false t ≡ at_bars d o
  bars_left [] o some ends e = absurd (omega arith)
  bars_left (b ∷ t) o some ends e = end_left (b ∷ t) ends ∙ rw e

  pub empty_left : (t : Text) → ends_range t ≡ true → ranges_left d true t ≡ put (one_simple wildcard) (ranges_left d false t)
  empty_left t e = rw (end_left t e, e) (range_events empty t)

  -- if the range doesn't end, the next event is a term
  before_left : (s : Simple) (o : Option (List Simple × Text))
      → simples_left d (put_before s o) ≡ put (one_simple s) (simples_left d o)
  before_left s None = refl
  before_left s (Some found) = refl

  others_events : (s : Simple) (o : Option (List Simple × Text))
      → set_events (after_range (read d) (with_others s o)) ≡ put (one_simple s) (simples_left d o)
  others_events s None = refl
  others_events s (Some found) = range_events (simples s found.0) found.1

  pub simple_left : (begins_range : Bool) (t u : Text) (s : Simple) → ends_range t ≡ false → simple d t ≡ Some (s, u)
      → (begins_range ≡ true → begins_with 45 u ≡ false)
      → ranges_left d begins_range t ≡ put (one_simple s) (ranges_left d false u)
  simple_left true t u s on e other = rw (on, e, other refl) (others_events s (all_simples d u))
  simple_left false t u s on e other = rw (simples_step d t on, e) (before_left s (all_simples d u))

  -- or the sides of a hyphen range
  pub hyphen_left : (t u w v : Text) (s : Simple) (x : RangeTree) → ends_range t ≡ false → simple d t ≡ Some (s, u) → u ≡ 45 ∷ w
      → with_right s (right_side d (45 ∷ w)) ≡ Some (x, v)
      → ranges_left d true t ≡ put_simples (yielded x) (others_left d v)
  hyphen_left t u w v s x on e dash found = rw (on, e, dash, found) (range_events x v)
