-- The highest version of a set among the first strings of a list.
use Rattle.std.proofs.Common.{◌≡◌, ◌≢◌, ◌↔◌, ◌⊎◌, ◌∙◌, ◌<◌, ◌+◌, ℕ, Bool, true, false, List, Option, Some, None, MatchOption, option_map}
use Rattle.std.proofs.Common.{true≢false, arith}
use Rattle.std.proofs.Common.{rules, sym, ap, subst, ⊎_elim, length, get_or, Less, Greater}
use Rattle.std.proofs.lemmas.Option.{get_or_from_slice_get, slice_get_within}
use Rattle.std.specs.Borrow.{Bor}
use Rattle.std.specs.Cmp.{IsTotalOrder, back_total}
use Rattle.std.specs.declared.cmp.Ordering.{Ordering}
use Rattle.semver_texts.specs.Steps.PrecedenceLaws.{precedence_total}
use Rattle.semver_texts.specs.Texts.{Text}
use Rattle.semver_texts.specs.ToolVersions.{SpellsIn}
use Rattle.semver_texts.specs.Versions.{PlainVersion, VersionValue}
use Rattle.semver_texts.specs.declared.grammar.Grammar.{Grammar}
use Rattle.version_sets.specs.VersionSets.{SetValue, contains}
use Rattle.tool_ranges.specs.declared.highest.Extreme.{Extreme}
use Rattle.tool_ranges.specs.declared.highest.Extreme.TheVariants.{Highest, Lowest}
use Rattle.tool_ranges.specs.Highest.{IsHighest, IsMember, IsMemberText, order_for}

pub total_for : (which : Extreme) → IsTotalOrder (order_for which)
total_for Highest = precedence_total
total_for Lowest = back_total precedence_total

module _ (order : PlainVersion → PlainVersion → Ordering) (total : IsTotalOrder order) where
  -- a version that isn't above the best one so far is below a version that is above the best one
  pub below_next : (v best next : PlainVersion) → order v best ≢ Greater → order best next ≡ Less → order v next ≡ Less
  below_next v best next low less = search rules

  pub not_above : (best next : PlainVersion) → (order best next ≡ Less → ⊥) → order next best ≢ Greater
  not_above best next low = search rules

  pub same : (v : PlainVersion) → order v v ≢ Greater
  same v = search rules

less_one : (k at : ℕ) → k < at + 1 → (k < at) ⊎ (k ≡ at)
less_one k at within = grind arith

apart : (k at : ℕ) → k < at → k ≡ at → ⊥
apart k at less e = grind arith

less_greater : (o : Ordering) → o ≡ Less → o ≡ Greater → ⊥
less_greater o e f = grind arith

later : (k at : ℕ) → k < at → at < k → ⊥
later k at less more = grind arith

-- if the image of an option's content has a property, so has the content of the mapped option
pub mapped : {A B : Type 0} (P : Type 0) (Q : B → Type 0) (f : A → B) (o : Option A) → MatchOption o P (λ x. Q (f x))
    → MatchOption (option_map f o) P Q
mapped P Q f None is = is
mapped P Q f (Some x) is = is

module _ (g : Grammar) (set : SetValue) (texts : List (Bor Text)) where
  -- the index of a member is an index of the list
  pub inside : (k : ℕ) (v : PlainVersion) → IsMember g set texts k v → k < length texts
  inside k v member = slice_get_within texts k member.text member.at

  pub spelled : (at : ℕ) (x : Bor Text) (v : PlainVersion) (member : IsMember g set texts at v)
      → SpellsIn g member.version (get_or texts at x).now
  spelled at x v member =
      subst (λ (t : Bor Text). SpellsIn g member.version t.now) (sym (get_or_from_slice_get texts at member.text x member.at))
      member.spells

  pub member_text : (at : ℕ) (x : Bor Text) (v : PlainVersion) → IsMember g set texts at v → IsMemberText g set (get_or texts at x).now
  member_text at x v member = (
    member.version,
    spelled at x v member,
    subst (λ (p : PlainVersion). contains set p ≡ true) (sym member.plain) member.is_in,
  )

  -- a member is the version that its string spells
  pub only_one : ((h : Grammar) (u w : VersionValue) (t : Text) → SpellsIn h u t → SpellsIn h w t → u ≡ w) → (at : ℕ) (x : Bor Text)
      (w : VersionValue) → SpellsIn g w (get_or texts at x).now → (v : PlainVersion) → IsMember g set texts at v → v ≡ w.plain
  only_one one at x w spells v member =
      sym member.plain ∙ ap (λ (u : VersionValue). u.plain) (one _ _ _ _ (spelled at x v member) spells)

module _ (which : Extreme) (g : Grammar) (set : SetValue) (texts : List (Bor Text)) where
  -- among the strings before `at`, there is no member, or `best`, which is at `found`, is the first
  -- of the highest members
  abbrev pub IsBest : ℕ → ℕ → Option PlainVersion → Type 0
  IsBest at found None = ((k : ℕ) (v : PlainVersion) → IsMember g set texts k v → k < at → ⊥)
  IsBest at found (Some best) = (found < at) × IsMember g set texts found best
      × ((k : ℕ) (v : PlainVersion) → IsMember g set texts k v → k < at → (k < found → order_for which v best ≡ Less)
      × (order_for which v best ≢ Greater))

  -- the string at `at` is not a member
  pub skipped : (at found : ℕ) (best : Option PlainVersion) → ((v : PlainVersion) → IsMember g set texts at v → ⊥) → IsBest at found best
      → IsBest (at + 1) found best
  skipped at found None none is = λ k v member within. ⊎_elim (is k v member)
      (λ e. none v (subst (λ n. IsMember g set texts n v) e member)) (less_one k at within)
  skipped at found (Some best) none (before, one, all) = (
    grind arith,
    one,
    λ k v member within. ⊎_elim (all k v member) (λ e. absurd (none v (subst (λ n. IsMember g set texts n v) e member))) (less_one k at
        within),
  )

  -- it is the first member
  pub first : (at found : ℕ) (w : PlainVersion) → IsMember g set texts at w → ((v : PlainVersion) → IsMember g set texts at v → v ≡ w)
      → IsBest at found None → IsBest (at + 1) at (Some w)
  first at found w one only is = (
    grind arith,
    one,
    λ k v member within. ⊎_elim (λ less. absurd (is k v member less))
        (λ e. let is_w = only v (subst (λ n. IsMember g set texts n v) e member) in
        (λ less. absurd (apart k at less e), rw is_w (same (order_for which) (total_for which) w))) (less_one k at within),
  )

  -- it is a member above the best one so far
  pub above : (at found : ℕ) (best w : PlainVersion) → IsMember g set texts at w → ((v : PlainVersion) → IsMember g set texts at v → v ≡ w)
      → order_for which best w ≡ Less → IsBest at found (Some best) → IsBest (at + 1) at (Some w)
  above at found best w one only less (before, old, all) = (
    grind arith,
    one,
    λ k v member within. ⊎_elim
        (λ early. let below = below_next (order_for which) (total_for which) v best w (all k v member early).1 less in
        (λ _. below, λ e. absurd (less_greater _ below e)))
        (λ e. let is_w = only v (subst (λ n. IsMember g set texts n v) e member) in
        (λ early. absurd (apart k at early e), rw is_w (same (order_for which) (total_for which) w))) (less_one k at within),
  )

  -- it is a member that isn't above the best one so far
  pub not_above_it : (at found : ℕ) (best w : PlainVersion) → ((v : PlainVersion) → IsMember g set texts at v → v ≡ w)
      → (order_for which best w ≡ Less → ⊥) → IsBest at found (Some best) → IsBest (at + 1) found (Some best)
  not_above_it at found best w only low (before, old, all) = (
    grind arith,
    old,
    λ k v member within. ⊎_elim (all k v member)
        (λ e. let is_w = only v (subst (λ n. IsMember g set texts n v) e member) in (
          λ early. absurd (later found at before (subst (λ n. n < found) e early)),
          rw is_w (not_above (order_for which) (total_for which) best w low),
        )) (less_one k at within),
  )

  -- the string at `at` is a member, and `r` says whether it is the new best one
  pub stepped : (at found : ℕ) (best : Option PlainVersion) (w : PlainVersion) (r : Bool) → IsMember g set texts at w
      → ((v : PlainVersion) → IsMember g set texts at v → v ≡ w)
      → MatchOption best (r ≡ true) (λ b. (r ≡ true) ↔ (order_for which b w ≡ Less)) → IsBest at found best
      → (r ≡ true → IsBest (at + 1) at (Some w)) × (r ≡ false → IsBest (at + 1) found best)
  stepped at found None w r one only said is =
      (λ e. first at found w one only is, λ e. absurd (true≢false (sym said ∙ e)))
  stepped at found (Some best) w r one only said is = (
    λ e. above at found best w one only (said.0 e) is,
    λ e. not_above_it at found best w only (λ less. true≢false (sym (said.1 less) ∙ e)) is,
  )

  -- after the last string, the best member is the highest of all
  pub whole : (found : ℕ) (best : Option PlainVersion) → ((k : ℕ) (v : PlainVersion) → IsMember g set texts k v → k < length texts)
      → IsBest (length texts) found best
      → MatchOption best ((k : ℕ) (v : PlainVersion) → ¬ (IsMember g set texts k v))
      (λ _. IsHighest (order_for which) (IsMember g set texts) found)
  whole found None inside is = λ k v member. is k v member (inside k v member)
  whole found (Some best) inside (before, one, all) = record {
    version = best;
    is_one = one;
    earlier = λ k v member less. (all k v member (inside k v member)).0 less;
    later = λ k v member. (all k v member (inside k v member)).1;
  }
