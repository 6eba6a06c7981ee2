-- A means of proof, cited only in clauses of calls between these crates: functions on lists that
-- read a range text from left to right, as the cursor does. Each returns what is at the beginning
-- of a text, and the rest of the text after it. The last one, `read`, returns the tree that a text
-- spells, or `None`.
use Prim.Native.Char.{code}
use Rattle.std.specs.Prelude.{ℕ, zero, suc, ◌-◌, Bool, true, ◌&&◌, ◌||◌, ◌==◌, if◌then◌else◌}
use Rattle.std.specs.Prelude.{Option, Some, None, List, [], ◌∷◌, length}
use Rattle.std.specs.Char.{is_ascii_digit}
use Rattle.std.specs.List.{list_all, slice_split}
use Rattle.semver_ranges.specs.declared.operator.Operator.{Operator}
use Rattle.semver_ranges.specs.declared.operator.Operator.TheVariants.{Bare, Equal, Less}
use Rattle.semver_ranges.specs.declared.operator.Operator.TheVariants.{LessOrEqual, Greater}
use Rattle.semver_ranges.specs.declared.operator.Operator.TheVariants.{GreaterOrEqual, Tilde, Caret}
use Rattle.semver_ranges.specs.RangeTree.{PartialTree, one, two, three, Simple, RangeTree, empty}
use Rattle.semver_ranges.specs.RangeTree.{hyphen, simples, SetTree, is_blank, Role, after_operator}
use Rattle.semver_ranges.specs.RangeTree.{after_hyphen, is_bare, is_wildcard, is_word_of_npm}
use Rattle.semver_texts.specs.Texts.{is_part}
use Rattle.semver_texts.specs.declared.grammar.Grammar.{Grammar}
use Rattle.semver_texts.specs.declared.grammar.Grammar.TheVariants.{Crate, Cargo, Npm}
use Rattle.semver_texts.specs.Texts.{Text, begins_with, is_dot, is_dotted_byte}

-- the longest beginning of a text whose bytes all pass a test, and below, the rest of the text
abbrev pub front : (ℕ → Bool) → Text → Text
front p [] = []
front p (b ∷ t) = if p b then b ∷ front p t else []

abbrev pub back : (ℕ → Bool) → Text → Text
back p [] = []
back p (b ∷ t) = if p b then back p t else b ∷ t

-- what follows the blanks at the beginning of a text
abbrev pub after_blanks : Grammar → Text → Text
after_blanks d t = back (is_blank d) t

-- whether a range or a word ends here: both end at the end of the text and at a bar, and a word
-- also at a blank and at a comma
abbrev pub is_bar : ℕ → Bool
is_bar b = b == code "|"

abbrev pub ends_range : Text → Bool
ends_range [] = true
ends_range (b ∷ t) = is_bar b

abbrev pub ends_word : Grammar → Text → Bool
ends_word d [] = true
ends_word d (b ∷ t) = is_blank d b || (is_bar b || (b == code ","))

-- a component: a wildcard, a zero, or digits
abbrev pub component : Text → Option (Text × Text)
component [] = None
component (b ∷ t) =
    if is_wildcard (b ∷ []) || (b == code "0") then Some (b ∷ [], t)
    else (if is_ascii_digit b then Some (b ∷ front is_ascii_digit t, back is_ascii_digit t)
    else None)

-- parts joined by dots: the bytes of parts and dots at the beginning of a text, cut at the dots;
-- `None` if one of the parts is empty
abbrev pub parts : Text → Option (List Text × Text)
parts t =
    if list_all is_part (slice_split is_dot (front is_dotted_byte t)) then Some
    (slice_split is_dot (front is_dotted_byte t), back is_dotted_byte t) else None

-- the build metadata, if there is any
abbrev pub with_build : Text → Text → Text → List Text → Option (List Text × Text)
    → Option (PartialTree × Text)
with_build a b c pre None = None
with_build a b c pre (Some found) = Some (three a b c pre found.0, found.1)

abbrev pub after_pre : Text → Text → Text → List Text → Text → Option (PartialTree × Text)
after_pre a b c pre [] = Some (three a b c pre [], [])
after_pre a b c pre (mark ∷ t) =
    if mark == code "+" then with_build a b c pre (parts t) else Some (three a b c pre [], mark ∷ t)

-- the pre-release, if there is one, and then the build metadata
abbrev pub with_pre : Text → Text → Text → Option (List Text × Text) → Option (PartialTree × Text)
with_pre a b c None = None
with_pre a b c (Some found) = after_pre a b c found.0 found.1

abbrev pub after_three : Text → Text → Text → Text → Option (PartialTree × Text)
after_three a b c [] = Some (three a b c [] [], [])
after_three a b c (mark ∷ t) =
    if mark == code "-" then with_pre a b c (parts t) else after_pre a b c [] (mark ∷ t)

-- the third, the second and the first component of a partial version
abbrev pub with_third : Text → Text → Option (Text × Text) → Option (PartialTree × Text)
with_third a b None = None
with_third a b (Some found) = after_three a b found.0 found.1

abbrev pub after_two : Text → Text → Text → Option (PartialTree × Text)
after_two a b [] = Some (two a b, [])
after_two a b (dot ∷ t) =
    if dot == code "." then with_third a b (component t) else Some (two a b, dot ∷ t)

abbrev pub with_second : Text → Option (Text × Text) → Option (PartialTree × Text)
with_second a None = None
with_second a (Some found) = after_two a found.0 found.1

abbrev pub after_one : Text → Text → Option (PartialTree × Text)
after_one a [] = Some (one a, [])
after_one a (dot ∷ t) =
    if dot == code "." then with_second a (component t) else Some (one a, dot ∷ t)

abbrev pub with_first : Option (Text × Text) → Option (PartialTree × Text)
with_first None = None
with_first (Some found) = after_one found.0 found.1

-- a text without the `v` at its beginning that npm's grammar allows; and below, whether a grammar
-- accepts a partial version whose word has n bytes
abbrev pub after_v : Grammar → Text → Text
after_v Crate t = t
after_v Cargo t = t
after_v Npm [] = []
after_v Npm (b ∷ t) = if b == code "v" then t else b ∷ t

abbrev pub takes : Grammar → Role → PartialTree → ℕ → Bool
takes Crate role p n = true
takes Cargo role p n = true
takes Npm role p n = is_word_of_npm role p n

-- a partial version, if the grammar accepts it, and its word ends right after it. The text, which
-- begins with the word, has n bytes
abbrev pub whole_word : Grammar → Role → ℕ → Option (PartialTree × Text)
    → Option (PartialTree × Text)
whole_word d role n None = None
whole_word d role n (Some found) =
    if takes d role found.0 (n - length found.1) && ends_word d found.1 then Some found else None

abbrev pub partial : Grammar → Role → Text → Option (PartialTree × Text)
partial d role t = whole_word d role (length t) (with_first (component (after_v d t)))

-- the operator at the beginning of a text, and what follows it and the blanks after it
abbrev pub after_less : Grammar → Text → Operator × Text
after_less d [] = (Less, [])
after_less d (b ∷ t) =
    if b == code "=" then (LessOrEqual, after_blanks d t) else (Less, after_blanks d (b ∷ t))

abbrev pub after_greater : Grammar → Text → Operator × Text
after_greater d [] = (Greater, [])
after_greater d (b ∷ t) =
    if b == code "=" then (GreaterOrEqual, after_blanks d t) else (Greater, after_blanks d (b ∷ t))

abbrev pub after_tilde : Grammar → Text → Operator × Text
after_tilde d [] = (Tilde, [])
after_tilde d (b ∷ t) =
    if b == code ">" then (Tilde, after_blanks d t) else (Tilde, after_blanks d (b ∷ t))

abbrev pub operator_at : Grammar → Text → Operator × Text
operator_at d [] = (Bare, [])
operator_at d (b ∷ t) =
    if b == code "=" then (Equal, after_blanks d t)
    else (if b == code "<" then after_less d t
    else (if b == code ">" then after_greater d t
    else (if b == code "~" then after_tilde d t
    else (if b == code "^" then (Caret, after_blanks d t)
    else (Bare, b ∷ t)))))

-- a term, and what follows it and the blanks after it
abbrev pub with_form : Grammar → Operator → Option (PartialTree × Text) → Option (Simple × Text)
with_form d operator None = None
with_form d operator (Some found) =
    Some (record { operator = operator; partial = found.0 }, after_blanks d found.1)

abbrev pub simple : Grammar → Text → Option (Simple × Text)
simple d t =
    with_form d (operator_at d t).0
    (partial d (after_operator (operator_at d t).0) (operator_at d t).1)

-- the terms up to the end of their range. The number is a limit for the depth of the recursion
abbrev pub put_before : Simple → Option (List Simple × Text) → Option (List Simple × Text)
put_before s None = None
put_before s (Some found) = Some (s ∷ found.0, found.1)

abbrev pub after_simple : (Text → Option (List Simple × Text)) → Option (Simple × Text)
    → Option (List Simple × Text)
after_simple others None = None
after_simple others (Some found) = put_before found.0 (others found.1)

abbrev pub some_simples : Grammar → ℕ → Text → Option (List Simple × Text)
some_simples d zero t = None
some_simples d (suc n) t =
    if ends_range t then Some ([], t) else after_simple (some_simples d n) (simple d t)

abbrev pub all_simples : Grammar → Text → Option (List Simple × Text)
all_simples d t = some_simples d (suc (length t)) t

-- the right side of a hyphen range, read from the hyphen on, and what follows it and the blanks
-- after it
abbrev pub range_end : Grammar → Option (PartialTree × Text) → Option (PartialTree × Text)
range_end d None = None
range_end d (Some found) =
    if ends_range (after_blanks d found.1) then Some (found.0, after_blanks d found.1) else None

abbrev pub right_side : Grammar → Text → Option (PartialTree × Text)
right_side d [] = None
right_side d (dash ∷ []) = None
right_side d (dash ∷ blank ∷ t) =
    if (dash == code "-") && is_blank d blank
    then range_end d (partial d after_hyphen (after_blanks d t))
    else None

-- a hyphen range of a first term, which must have no operator, and a right side
abbrev pub with_right : Simple → Option (PartialTree × Text) → Option (RangeTree × Text)
with_right s None = None
with_right s (Some found) =
    if is_bare s.operator then Some (hyphen s.partial found.0, found.1) else None

-- a range of a first term and the terms after it
abbrev pub with_others : Simple → Option (List Simple × Text) → Option (RangeTree × Text)
with_others s None = None
with_others s (Some found) = Some (simples s found.0, found.1)

abbrev pub after_first : Grammar → Option (Simple × Text) → Option (RangeTree × Text)
after_first d None = None
after_first d (Some found) =
    if begins_with (code "-") found.1 then with_right found.0 (right_side d found.1)
    else with_others found.0 (all_simples d found.1)

-- a range, and what follows it
abbrev pub range_here : Grammar → Text → Option (RangeTree × Text)
range_here d t = if ends_range t then Some (empty, t) else after_first d (simple d t)

abbrev pub range : Grammar → Text → Option (RangeTree × Text)
range d t = range_here d (after_blanks d t)

-- what follows two bars
abbrev pub after_bars : Text → Option Text
after_bars [] = None
after_bars (bar ∷ []) = None
after_bars (bar ∷ bar' ∷ t) = if is_bar bar && is_bar bar' then Some t else None

-- one more range before those of a tree
abbrev pub onto : RangeTree → Option SetTree → Option SetTree
onto r None = None
onto r (Some tree) = Some (r ∷ tree)

-- ranges separated by two bars, up to the end of the text. The number is a limit for the depth of
-- the recursion
abbrev pub more_ranges : (Text → Option SetTree) → RangeTree → Option Text → Option SetTree
more_ranges others r None = None
more_ranges others r (Some t) = onto r (others t)

abbrev pub after_range : (Text → Option SetTree) → Option (RangeTree × Text) → Option SetTree
after_range others None = None
after_range others (Some (r, [])) = Some (r ∷ [])
after_range others (Some (r, b ∷ t)) = more_ranges others r (after_bars (b ∷ t))

abbrev pub some_ranges : Grammar → ℕ → Text → Option SetTree
some_ranges d zero t = None
some_ranges d (suc n) t = after_range (some_ranges d n) (range d t)

-- the tree that a text spells, or `None`
abbrev pub read : Grammar → Text → Option SetTree
read d t = some_ranges d (suc (length t)) t
