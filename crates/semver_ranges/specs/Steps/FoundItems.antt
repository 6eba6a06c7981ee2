-- A means of proof, cited only in clauses of calls between these crates: the terms of a range text
-- and where they are, from left to right.
use Prim.Native.Char.{code}
use Rattle.std.specs.Prelude.{◌+◌, ◌*◌, ◌==◌, ◌&&◌, ◌||◌, not, length, drop, Bool, true, false}
use Rattle.std.specs.Prelude.{if◌then◌else◌, Option, Some, None, option_map}
use Rattle.std.specs.Prelude.{List, [], ◌∷◌, ℕ, zero, suc}
use Rattle.semver_texts.specs.Texts.{Text, begins_with, is_empty}
use Rattle.semver_texts.specs.declared.grammar.Grammar.{Grammar}
use Rattle.semver_texts.specs.declared.grammar.Grammar.TheVariants.{Cargo}
use Rattle.semver_ranges.specs.declared.operator.Operator.TheVariants.{Hyphen}
use Rattle.semver_ranges.specs.RangeTree.{Simple, RangeTree, Role, after_operator, after_hyphen}
use Rattle.semver_ranges.specs.Partials.{states_nothing}
use Rattle.semver_ranges.specs.CargoGrammar.{is_cargo, is_of_cargo}
use Rattle.semver_ranges.specs.TextItems.{FoundTerm, FoundWord, Item, one_term}
use Rattle.semver_ranges.specs.TextItems.{empty_range, two_bars}
use Rattle.semver_ranges.specs.Steps.Reading.{after_bars, after_blanks, ends_range, operator_at}
use Rattle.semver_ranges.specs.Steps.Reading.{partial, right_side, simple, with_right}

-- ---- what is found in a text

-- the word at the beginning of a text, and that after the hyphen with which a text begins
abbrev pub word_at : Grammar → Role → Text → Option FoundWord
word_at d role t =
    option_map (λ found. record { partial = found.0; from = t; after = found.1 }) (partial d role t)

abbrev pub upper_word : Grammar → Text → Option FoundWord
upper_word d t = word_at d after_hyphen (after_blanks d (drop 2 t))

-- the item at the beginning of a text, and what follows it and the blanks after it: at the
-- beginning of a range, if the flag is true, and otherwise within a range
abbrev pub with_upper : Text → FoundWord → Option (RangeTree × Text) → Option FoundWord
    → Option (Item × Text)
with_upper t version (Some found) (Some upper) = Some (
  one_term (record { from = t; operator = Hyphen; version = version; upper = Some upper }),
  found.1,
)
with_upper t version _ _ = None

abbrev pub with_simple : Grammar → Bool → Text → Option (Simple × Text) → Option FoundWord
    → Option (Item × Text)
with_simple d begins t (Some found) (Some version) =
    if begins && begins_with (code "-") found.1
    then with_upper t version (with_right found.0 (right_side d found.1)) (upper_word d found.1)
    else Some (
      one_term (record { from = t; operator = found.0.operator; version = version; upper = None }),
      found.1,
    )
with_simple d begins t _ _ = None

abbrev pub range_item : Grammar → Bool → Text → Option (Item × Text)
range_item d begins t =
    if ends_range t
    then (if begins then Some (empty_range, t)
    else option_map (λ u. (two_bars, after_blanks d u)) (after_bars t))
    else with_simple d begins t (simple d t)
    (word_at d (after_operator (operator_at d t).0) (operator_at d t).1)

-- ---- the comparators of Cargo's requirements

-- whether a text begins with `~>`
abbrev pub begins_with_tilde_greater : Text → Bool
begins_with_tilde_greater (a ∷ b ∷ t) = (a == code "~") && (b == code ">")
begins_with_tilde_greater _ = false

-- whether a comparator may be at the beginning of a text, if `u` follows it and the blanks after
-- it: Cargo accepts it, and one that states no number is the only one
abbrev pub may_come : Bool → Text → Simple → Text → Bool
may_come is_first t s u = not (begins_with_tilde_greater t)
    && (is_of_cargo s && (not (states_nothing s.partial) || (is_first && is_empty u)))

abbrev pub with_comparator : Bool → Text → Option (Simple × Text) → Option FoundWord
    → Option (Item × Text)
with_comparator is_first t (Some found) (Some version) =
    if may_come is_first t found.0 found.1
    then Some (
      one_term (record { from = t; operator = found.0.operator; version = version; upper = None }),
      found.1,
    )
    else None
with_comparator is_first t _ _ = None

abbrev pub comparator_at : Bool → Text → Option (Item × Text)
comparator_at is_first t = with_comparator is_first t (simple Cargo t)
    (word_at Cargo (after_operator (operator_at Cargo t).0) (operator_at Cargo t).1)

-- what follows a comma and the blanks after it
abbrev pub after_comma : Text → Option Text
after_comma [] = None
after_comma (b ∷ t) = if b == code "," then Some (after_blanks Cargo t) else None

abbrev pub if_comma : Option Text → Option (Item × Text)
if_comma None = None
if_comma (Some t) = comparator_at false t

-- the next comparator: the first of a requirement, or after a comma
abbrev pub comparator : Bool → Text → Option (Item × Text)
comparator true t = comparator_at true t
comparator false t = if_comma (after_comma t)

-- ---- the items of each grammar

abbrev pub item : Grammar → Bool → Text → Option (Item × Text)
item d begins t = if is_cargo d then comparator begins t else range_item d begins t

-- whether a range begins after an item
abbrev pub begins_after : Item → Bool
begins_after two_bars = true
begins_after _ = false

-- a limit for the number of events that are left: two for each byte, one if a range begins, since
-- it may be empty
abbrev pub flag : Bool → ℕ
flag true = 1
flag false = 0

abbrev pub size_at : Bool → Text → ℕ
size_at begins_range t = 2 * length t + flag begins_range

-- the items that are left of a text, up to the first error, but at most a given number of them; and
-- below, all of them
abbrev pub after_item : (Bool → Text → List Item) → Option (Item × Text) → List Item
after_item others None = []
after_item others (Some found) = found.0 ∷ others (begins_after found.0) found.1

abbrev pub some_items : Grammar → ℕ → Bool → Text → List Item
some_items d zero begins t = []
some_items d (suc most) begins t = after_item (some_items d most) (item d begins t)

abbrev pub items_left : Grammar → Bool → Text → List Item
items_left d begins t = some_items d (size_at begins t) begins t

-- the operator and the partial version of a term
abbrev pub simple_of : FoundTerm → Simple
simple_of x = record { operator = x.operator; partial = x.version.partial }
