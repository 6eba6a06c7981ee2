-- A means of proof, cited only in clauses of calls between these crates: how contracts see the
-- cursor over a range text, which yields its terms as they are written.
use Rattle.std.specs.Prelude.{◌≡◌, ◌+◌, ◌<◌, ◌≤◌, length, Bool, true, false, is_some}
use Rattle.std.specs.Prelude.{Option, Some, None, List, [], ◌∷◌, ℕ, Result, Ok, Err}
use Rattle.std.specs.Borrow.{Bor}
use Rattle.semver_texts.specs.Texts.{Text}
use Rattle.semver_texts.specs.declared.grammar.Grammar.{Grammar}
use Rattle.semver_texts.specs.declared.grammar.Grammar.TheVariants.{Cargo}
use Rattle.semver_ranges.specs.RangeTree.{PartialTree, Simple, Role, after_operator}
use Rattle.semver_ranges.specs.CargoGrammar.{read_in}
use Rattle.semver_ranges.specs.declared.cursor.Cursor.{Cursor}
use Rattle.semver_ranges.specs.declared.cursor.Event.{Event}
use Rattle.semver_ranges.specs.declared.cursor.Event.TheVariants.{Term, EmptyRange, NextRange}
use Rattle.semver_ranges.specs.declared.events.Event as events
use Rattle.semver_ranges.specs.declared.grammar.Simple as read
use Rattle.semver_ranges.specs.declared.range_set.RangeError.{RangeError}
use Rattle.semver_ranges.specs.declared.range_set.RangeError.TheVariants.{NotARange}
use Rattle.semver_ranges.specs.declared.term.RawTerm as written
use Rattle.semver_ranges.specs.declared.term.RawVersion.{RawVersion}
use Rattle.semver_ranges.specs.Steps.Reading.{after_v, component, operator_at, partial, right_side}
use Rattle.semver_ranges.specs.Steps.Reading.{simple, with_first}
use Rattle.semver_ranges.specs.TextItems.{FoundTerm, FoundWord, Item, one_term}
use Rattle.semver_ranges.specs.TextItems.{empty_range, two_bars}
use Rattle.semver_ranges.specs.Steps.FoundItems.{flag, item, items_left, simple_of}
use Rattle.semver_ranges.specs.Steps.FoundItems.{size_at, upper_word, word_at}
use Rattle.semver_ranges.specs.Steps.RangeEvents as list
use Rattle.semver_ranges.specs.Steps.RangeEvents.{one_simple, next_range, put, put_simples}
use Rattle.semver_ranges.specs.Steps.RangeEvents.{events_left, wildcard, yielded_sides}
use Rattle.semver_ranges.specs.Steps.PartialViews.{AreWritten}
use Rattle.semver_ranges.specs.Steps.CursorViews.{HasAfter, IsEventOf}

-- ---- a term as plain terms

abbrev pub simples_with : Grammar → Simple → Option FoundWord → List Simple
simples_with d s None = read_in d s ∷ []
simples_with d s (Some upper) = yielded_sides (read_in d s) upper.partial

abbrev pub simples_of : Grammar → FoundTerm → List Simple
simples_of d x = simples_with d (simple_of x) x.upper

-- the events of an item before those that are left
abbrev pub put_item : Grammar → Item → Option (List list.Event)
    → Option (List list.Event)
put_item d (one_term x) o = put_simples (simples_of d x) o
put_item d empty_range o = put (one_simple wildcard) o
put_item d two_bars o = put next_range o

-- ---- what the cursor yields

-- a version that was read is this word
pub record IsWordOf (d : Grammar) (x : FoundWord) (v : RawVersion) : Type 0 where
  pub from : v.from.now ≡ x.from
  pub after : v.after.now ≡ x.after
  pub read : with_first (component (after_v d x.from)) ≡ Some (x.partial, x.after)
  pub written : AreWritten x.partial v.components

abbrev pub IsUpperOf : Grammar → Text → Option FoundWord → Option RawVersion → Type 0
IsUpperOf d t None None = Unit {0}
IsUpperOf d t (Some x) (Some v) = IsWordOf d x v × (length x.from ≤ length t)
IsUpperOf d t _ _ = ⊥

-- a term that was read is this term
pub record IsTermOf (d : Grammar) (x : FoundTerm) (term : written.RawTerm) : Type 0 where
  pub from : term.from.now ≡ x.from
  pub operator : term.operator ≡ x.operator
  pub version : IsWordOf d x.version term.version
  pub within : length x.version.from ≤ length x.from
  pub upper : IsUpperOf d x.from x.upper term.upper

-- an event is this item, of a text that has n bytes left
abbrev pub IsItemOf : Grammar → ℕ → Item → Event → Type 0
IsItemOf d n (one_term x) (Term term) = IsTermOf d x term × (length x.from ≤ n)
IsItemOf d n empty_range EmptyRange = Unit {0}
IsItemOf d n two_bars NextRange = Unit {0}
IsItemOf d n _ _ = ⊥

-- a word that was read: none, or the one at the beginning of a text
abbrev pub FindsWord : Grammar → Role → Text → Option RawVersion → Type 0
FindsWord d role t None = partial d role t ≡ None
FindsWord d role t (Some v) =
    (p : PartialTree) × (partial d role t ≡ Some (p, v.after.now))
    × IsWordOf d (record { partial = p; from = t; after = v.after.now }) v

-- a term with one version is at the beginning of a text, and `u` follows it and its blanks
pub record IsTermAt (d : Grammar) (t : Text) (term : written.RawTerm) (u : Text) : Type 0 where
  pub version : FoundWord
  pub simple : simple d t ≡ Some (
    record { operator = term.operator; partial = version.partial },
    u,
  )
  pub word : word_at d (after_operator (operator_at d t).0) (operator_at d t).1 ≡ Some version
  pub from : term.from.now ≡ t
  pub is : IsWordOf d version term.version
  pub within : length version.from ≤ length t
  pub upper : term.upper ≡ None

abbrev pub FindsTerm : Grammar → Text → Option (written.RawTerm × Bor Text) → Type 0
FindsTerm d t None = simple d t ≡ None
FindsTerm d t (Some found) = IsTermAt d t found.0 found.1.now

-- a comparator was found, in a text of n bytes
abbrev pub FindsItem : ℕ → Option (Item × Text) → Option (written.RawTerm × Bor Text) → Type 0
FindsItem n o None = o ≡ None
FindsItem n o (Some found) = (x : FoundTerm) × IsTermOf Cargo x found.0 × (x.upper ≡ None)
    × (length x.from ≤ n) × (o ≡ Some (one_term x, found.1.now))

-- the right side of a hyphen range follows the hyphen with which a text begins
pub record IsRightAt (d : Grammar) (t : Text) (v : RawVersion) (u : Text) : Type 0 where
  pub x : FoundWord
  pub side : right_side d t ≡ Some (x.partial, u)
  pub word : upper_word d t ≡ Some x
  pub is : IsWordOf d x v
  pub within : length x.from ≤ length t

abbrev pub FindsRight : Grammar → Text → Option (RawVersion × Bor Text) → Type 0
FindsRight d t None = right_side d t ≡ None
FindsRight d t (Some found) = IsRightAt d t found.0 found.1.now

-- the least number of bytes that an event takes, counted for two bars only; and below, whether it
-- is a term
abbrev pub bytes_of : Event → ℕ
bytes_of NextRange = 1
bytes_of _ = 0

abbrev pub is_term : Event → Bool
is_term (Term term) = true
is_term _ = false

-- an event is the first item of a text, and the cursor has those after it left. The events that are
-- left of the text are those of the item, and those that the cursor has left
pub record IsTaken (d : Grammar) (begins : Bool) (t : Text) (e : Event) (after : Cursor) : Type 0
  where
    pub x : Item
    pub is : IsItemOf d (length t) x e
    pub whole : items_left d begins t ≡ x ∷ items_left d after.begins_range after.rest.now
    pub left : events_left d begins t
        ≡ put_item d x (events_left d after.begins_range after.rest.now)
    pub fewer : size_at after.begins_range after.rest.now + flag (is_term e) < size_at begins t
    pub shorter : length after.rest.now + bytes_of e ≤ length t

-- the text isn't in the grammar
pub record IsNoItem (d : Grammar) (begins : Bool) (t : Text) (after : Cursor) : Type 0 where
  pub found : item d begins t ≡ None
  pub left : events_left d begins t ≡ None
  pub begins_after : after.begins_range ≡ false

abbrev pub TakesItem : Grammar → Bool → Text → Option Event → Cursor → Type 0
TakesItem d begins t None after = IsNoItem d begins t after
TakesItem d begins t (Some e) after = IsTaken d begins t e after

abbrev pub IsEnd : Cursor → Type 0
IsEnd cursor = (cursor.begins_range ≡ false) × (cursor.rest.now ≡ [])

-- what the cursor returns next: the item at the beginning of its rest, `NotARange` if the rest of
-- the text isn't in the grammar, and `None` at the end
abbrev pub GivesItem : Grammar → Cursor → Option (Result Event RangeError) → Cursor → Type 0
GivesItem d before None after = IsEnd before × IsEnd after
GivesItem d before (Some (Ok e)) after = IsTaken d before.begins_range before.rest.now e after
GivesItem d before (Some (Err e)) after =
    IsNoItem d before.begins_range before.rest.now after × (e ≡ NotARange) × IsEnd after
    × (0 < size_at before.begins_range before.rest.now)

-- an event in plain terms: it is the first of those of an item, and the right side of a hyphen
-- range, if it comes next, is put before those that are left
abbrev pub IsViewOf : Grammar → Item → Bool → events.Event → Option read.Simple
    → Type 0
IsViewOf d x is_term e upper = ((o : Option (List list.Event)) → (y : list.Event)
    × (left : Option (List list.Event)) × IsEventOf y e × HasAfter upper o left
    × (put_item d x o ≡ put y left)) × (flag (is_some upper) ≤ flag is_term)
