-- A means of proof, cited only in clauses of calls between these crates: how contracts see the
-- results of the cursor over a range text.
use Rattle.std.specs.Prelude.{◌≡◌, ◌+◌, ℕ, true, ◌==◌}
use Rattle.std.specs.Prelude.{if◌then◌else◌, Option, Some, None, is_some, Result, Ok, Err, List, []}
use Rattle.std.specs.Prelude.{◌∷◌}
use Rattle.std.specs.Borrow.{Bor}
use Rattle.std.specs.List.{list_all}
use Rattle.semver_ranges.specs.declared.grammar.Role.{Role}
use Rattle.semver_ranges.specs.declared.grammar.Role.TheVariants as role
use Rattle.semver_ranges.specs.declared.grammar.Simple.{Simple}
use Rattle.semver_ranges.specs.declared.events.Event.{Event}
use Rattle.semver_ranges.specs.declared.events.Event.TheVariants as event
use Rattle.semver_ranges.specs.declared.events.Events.{Events}
use Rattle.semver_ranges.specs.declared.range_set.RangeError.{RangeError}
use Rattle.semver_ranges.specs.declared.range_set.RangeError.TheVariants.{NotARange}
use Rattle.semver_texts.specs.declared.grammar.Grammar.{Grammar}
use Rattle.semver_ranges.specs.RangeTree as tree
use Rattle.semver_ranges.specs.RangeTree.{three}
use Rattle.semver_texts.specs.Texts.{is_part}
use Rattle.semver_texts.specs.Texts.{Text}
use Rattle.semver_ranges.specs.Steps.Reading.{after_blanks, after_three, parts}
use Rattle.semver_ranges.specs.Steps.RangeEvents as list
use Rattle.semver_ranges.specs.Steps.RangeEvents.{one_simple, next_range, put, events}
use Rattle.semver_ranges.specs.Steps.RangeEvents.{events_left}
use Rattle.semver_ranges.specs.Steps.FoundItems.{flag, size_at}
use Rattle.semver_ranges.specs.Steps.PartialViews.{IsPartialOf}
use Rattle.semver_texts.specs.Texts.{cut_at_dots}

-- a call returns what a function on lists returns: what is found at the beginning of a text,
-- related by `Is`, and the rest of the text. It returns `None` if and only if that function does
abbrev pub Finds : {X A : Type 0} → (X → A → Type 0) → Option (X × Text) → Option (A × Bor Text)
    → Type 0
Finds Is o None = o ≡ None
Finds {X = X} Is o (Some found) = (x : X) × (o ≡ Some (x, found.1.now)) × Is x found.0

-- the parts after a mark, and what follows them; no parts if the text doesn't begin with the mark
abbrev pub marked_parts : ℕ → Text → Option (List Text × Text)
marked_parts mark [] = Some ([], [])
marked_parts mark (b ∷ t) = if b == mark then parts t else Some ([], b ∷ t)

-- a call finds what is after three components: the parts of a pre-release, those of build metadata,
-- and the rest of the text
abbrev pub FindsPre : Text → Option (Bor Text × Bor Text × Bor Text) → Type 0
FindsPre t None = (a b c : Text) → after_three a b c t ≡ None
FindsPre t (Some found) =
    ((a b c : Text) → after_three a b c t
    ≡ Some (three a b c (cut_at_dots found.0.now) (cut_at_dots found.1.now), found.2.now))
    × (list_all is_part (cut_at_dots found.0.now) ≡ true)

-- what a word comes after, as the syntax tree has it
abbrev pub role_of : Role → tree.Role
role_of (role.AfterOperator f) = tree.after_operator f
role_of role.AfterHyphen = tree.after_hyphen

-- a term that was read has this syntax tree
abbrev pub IsSimpleOf : tree.Simple → Simple → Type 0
IsSimpleOf s simple = (simple.operator ≡ s.operator) × IsPartialOf s.partial simple.partial

-- the one or two terms that the cursor returns for a hyphen range
abbrev pub AreSides : List tree.Simple → Simple → Option Simple → Type 0
AreSides (s ∷ []) lower None = IsSimpleOf s lower
AreSides (s ∷ next ∷ []) lower (Some upper) = IsSimpleOf s lower × IsSimpleOf next upper
AreSides _ lower upper = ⊥

-- an event that was read is this event of the list
abbrev pub IsEventOf : list.Event → Event → Type 0
IsEventOf (one_simple s) (event.Simple simple) = IsSimpleOf s simple
IsEventOf next_range event.NextRange = Unit {0}
IsEventOf _ _ = ⊥

-- the events that a cursor has left: the upper side of a hyphen range, if it holds one, and the
-- events of the rest of the text. They are `None` if that rest isn't in the grammar
abbrev pub HasAfter : Option Simple → Option (List list.Event) → Option (List list.Event) → Type 0
HasAfter None after o = o ≡ after
HasAfter (Some upper) after o =
    (s : tree.Simple) × IsSimpleOf s upper × (o ≡ put (one_simple s) after)

abbrev pub HasLeft : Grammar → Events → Option (List list.Event) → Type 0
HasLeft d cursor o =
    HasAfter cursor.upper
    (events_left d cursor.cursor.begins_range cursor.cursor.rest.now) o

-- the cursor is at the beginning of a text
abbrev pub IsBegunIn : Grammar → Text → Events → Type 0
IsBegunIn d t cursor = HasLeft d cursor (events d t)
    × (cursor.cursor.begins_range ≡ true) × (cursor.cursor.rest.now ≡ after_blanks d t)

-- an event is the first of those that are left, and a cursor after it has the others left
abbrev pub IsFirst : Grammar → Option (List list.Event) → Event → Events → Type 0
IsFirst d o e after =
    (x : list.Event) × (left : Option (List list.Event)) × IsEventOf x e × HasLeft d after left
    × (o ≡ put x left)

-- a limit for the number of events that are left, which is one larger for an upper side
abbrev pub size_left : Events → ℕ
size_left cursor =
    size_at cursor.cursor.begins_range cursor.cursor.rest.now + flag (is_some cursor.upper)

-- what the cursor returns next: the first of the events that are left, `NotARange` if the rest of
-- the text isn't in the grammar, and `None` if no event is left
abbrev pub Gives : Grammar → Option (List list.Event) → Option (Result Event RangeError) → Events
    → Type 0
Gives d o None after = (o ≡ Some []) × HasLeft d after o
Gives d o (Some (Ok e)) after = IsFirst d o e after
Gives d o (Some (Err e)) after = (o ≡ None) × (e ≡ NotARange)
