-- Keeping the versions that pass a test: their indices are collected, and then the versions at these
-- indices are kept, a part of the list at a time.
use Rattle.std.proofs.Common.{◌≡◌, ℕ, zero, suc, ◌+◌, ◌<◌, ◌≤◌, Bool, true, false, List, [], ◌∷◌, ◌++◌, map, filter, take, drop, set}
use Rattle.std.proofs.Common.{length, get_or}
use Rattle.std.proofs.Common.{sym, ap, ap₂, ◌∙◌, subst, arith, cond, add-zero, Some}
use Rattle.std.specs.Prelude.{slice_get}
use Rattle.std.specs.Int.{from_bool}
use Rattle.std.proofs.lemmas.Option.{slice_get-get_or, slice_get_within}
use Rattle.std.proofs.lemmas.List.{append-nil, append_assoc, length-set}
use Rattle.std.proofs.lemmas.List.{map-append, take-set, take_more, take_more_set}
use Rattle.std.proofs.lemmas.List.Elements.{filter-append}
use Rattle.std.specs.List.{AllByRecursion}
use Rattle.semver_texts.specs.VersionViews.{version_value}
use Rattle.semver_texts.specs.declared.version.Version.{Version}
use Rattle.version_sets.specs.VersionSets.{SetValue, contains_kept, Fits}
use Rattle.release_filter.specs.Steps.Members.{is_member}
use Rattle.release_filter.proofs.Matching.{some_is}
use Rattle.std.proofs.lemmas.Grind.{common_steps}

-- ---- collecting the indices of the items that pass

-- the first `count` elements of `places` are the indices of those of the first `at` items that pass,
-- in their order
pub record AreInFront {X : Type 0} (p : X → Bool) (xs : List X) (places : List ℕ) (count at : ℕ) : Type 0 where
  pub few : count ≤ at
  pub long : length xs ≤ length places
  pub put : map (slice_get xs) (take count places) ≡ map Some (filter p (take at xs))

some_item : {X : Type 0} (xs : List X) (at : ℕ) → at < length xs → X
some_item [] at inside = absurd (omega arith)
some_item (x ∷ xs) at inside = x

module _ {X : Type 0} (p : X → Bool) (xs : List X) where
  pub in_front_more : (places : List ℕ) (count at n : ℕ) (matches : Bool) → at < length xs → ((x : X) → matches ≡ p (get_or xs at x))
      → n ≡ from_bool matches → AreInFront p xs places count at → AreInFront p xs (set places count at) (count + n) (at + 1)
  in_front_more places count at n matches inside e told before =
      subst (λ m. AreInFront p xs (set places count at) (count + m) (at + 1)) (sym told) (by_test matches (e x))
    where
      x : X
      x = some_item xs at inside

      y : X
      y = get_or xs at x

      room : count < length places
      room = omega (arith, inside, before.few, before.long)

      long : length xs ≤ length (set places count at)
      long = subst (λ n. length xs ≤ n) (sym (length-set places count at)) before.long

      ahead : filter p (take (at + 1) xs) ≡ filter p (take at xs) ++ cond (p y) (y ∷ []) []
      ahead = ap (filter p) (take_more xs at x inside) ∙ filter-append p (take at xs) (y ∷ [])

      by_test : (matches : Bool) → matches ≡ p y → AreInFront p xs (set places count at) (count + from_bool matches) (at + 1)
      by_test true e = record {
        few = omega (arith, before.few);
        long = long;
        put = ap (map (slice_get xs)) (take_more_set places count at room) ∙ map-append (slice_get xs) (take count places) (at ∷ [])
            ∙ ap₂ (λ l o. l ++ o ∷ []) before.put (slice_get-get_or xs at x inside)
            ∙ sym (ap (map Some) (ahead ∙ ap (λ c. filter p (take at xs) ++ cond c (y ∷ []) []) (sym e))
            ∙ map-append Some (filter p (take at xs)) (y ∷ []));
      }
      by_test false e = record {
        few = omega (arith, before.few);
        long = long;
        put = ap (λ n. map (slice_get xs) (take n (set places count at))) (add-zero count)
            ∙ ap (map (slice_get xs)) (take-set places count at) ∙ before.put
            ∙ sym (ap (map Some) (ahead ∙ ap (λ c. filter p (take at xs) ++ cond c (y ∷ []) []) (sym e)
            ∙ append-nil (filter p (take at xs))));
      }

-- after all items were tested, the first `count` elements of `places` are the indices of all that pass
pub all_in_front : {X : Type 0} (p : X → Bool) (xs : List X) (places : List ℕ) (count at : ℕ) → at ≤ length xs → length xs ≤ at
    → AreInFront p xs places count at → map (slice_get xs) (take count places) ≡ map Some (filter p xs)
all_in_front p xs places count at low high before = grind (arith, common_steps)

-- the item at the i-th index is the i-th one of ys
pub stands_at : {X : Type 0} (xs : List X) (places : List ℕ) (ys : List X) (i d : ℕ) (e : X) → i < length places
    → map (slice_get xs) places ≡ map Some ys → slice_get xs (get_or places i d) ≡ Some (get_or ys i e)
stands_at xs [] ys i d e inside same = absurd (omega arith)
stands_at xs (place ∷ places) [] i d e inside same = cc
stands_at xs (place ∷ places) (y ∷ ys) zero d e inside same = cc
stands_at xs (place ∷ places) (y ∷ ys) (suc i) d e inside same = stands_at xs places ys i d e (omega arith) cc

pub same_length : {X : Type 0} (xs : List X) (places : List ℕ) (ys : List X) → map (slice_get xs) places ≡ map Some ys
    → length places ≡ length ys
same_length xs places ys same = grind (arith, common_steps)

-- ---- a part of the list at a time

-- the versions before the rest have been checked, and those that pass are kept
pub record IsCheckedUpTo {X B : Type 0} (p : X → Bool) (f : B → X) (xs rest : List X) (kept : List B) : Type 0 where
  pub front : List X
  pub whole : xs ≡ front ++ rest
  pub keeps : map f kept ≡ filter p front

-- a list is its first n elements, and then the others
pub cut_at : {X : Type 0} (rest some others : List X) (n : ℕ) → some ≡ take n rest → others ≡ drop n rest → rest ≡ some ++ others
cut_at rest some others n front back = grind (arith, common_steps)

module _ {X B : Type 0} (p : X → Bool) (f : B → X) (xs : List X) where
  -- one more part of the list is checked
  pub checked_more : (rest some others : List X) (kept more : List B) → rest ≡ some ++ others → map f more ≡ map f kept ++ filter p some
      → IsCheckedUpTo p f xs rest kept → IsCheckedUpTo p f xs others more
  checked_more rest some others kept more cut e before = record {
    front = before.front ++ some;
    whole = before.whole ∙ ap (λ l. before.front ++ l) cut ∙ sym (append_assoc before.front some others);
    keeps = e ∙ ap (λ l. l ++ filter p some) before.keeps ∙ sym (filter-append p before.front some);
  }

-- if there is an index, there is an item that passes
pub some_kept : {X : Type 0} (xs : List X) (places : List ℕ) (ys : List X) (i : ℕ) → i < length places
    → map (slice_get xs) places ≡ map Some ys → 0 < length ys
some_kept xs places ys i inside same = grind (arith, common_steps)

-- a collected index is within the list
pub in_bounds : {X : Type 0} (p : X → Bool) (xs : List X) (places : List ℕ) (i d place : ℕ) → i < length places
    → map (slice_get xs) places ≡ map Some (filter p xs) → place ≡ get_or places i d → place < length xs
in_bounds {X = X} p xs places i d place inside same is =
    rw is (at (filter p xs) (some_kept xs places (filter p xs) i inside same) same)
  where
    at : (ys : List X) → 0 < length ys → map (slice_get xs) places ≡ map Some ys → get_or places i d < length xs
    at [] some e = absurd (omega arith)
    at (y ∷ ys) some e = slice_get_within xs _ _ (stands_at xs places (y ∷ ys) i d y inside e)

-- the version at the next index is the next one that passes
pub keeps_next : {X B : Type 0} (f : B → X) (xs : List X) (places : List ℕ) (ys : List X) (old kept : List B) (i d : ℕ) (b : B)
    → i < length places → map (slice_get xs) places ≡ map Some ys → slice_get xs (get_or places i d) ≡ Some (f b)
    → map f kept ≡ map f old ++ take i ys → map f (kept ++ b ∷ []) ≡ map f old ++ take (i + 1) ys
keeps_next f xs places ys old kept i d b inside same is before =
    map-append f kept _ ∙ ap (λ l. l ++ f b ∷ []) before ∙ append_assoc (map f old) (take i ys) _
    ∙ ap (λ l. map f old ++ l) (ap (λ x. take i ys ++ x ∷ []) (some_is (sym is ∙ stands_at xs places ys i d (f b) inside same))
    ∙ sym (take_more ys i (f b) (rw (← same_length xs places ys same) inside)))

-- the result for a version is whether it is in the set
pub checked_at : (set : SetValue) (versions : List Version) (answers : List Bool) (i : ℕ) (d : Bool)
    → answers ≡ map (λ v. contains_kept set (version_value v).plain) versions
    → AllByRecursion (λ v. Fits (version_value v).plain) versions
    → i < length versions → (e : Version) → get_or answers i d ≡ is_member set (get_or versions i e)
checked_at set versions answers i d told fit inside e = grind (arith, common_steps)
