-- The syntax tree of a range set, and the texts that it spells in each grammar. The crate's grammar
-- is the one that node-semver publishes, extended by `~>` for `~`, by tabs, by repeated blanks, and
-- by blanks after an operator and around the whole set. The grammar that npm itself reads differs
-- from the crate's in its blanks, in a `v` before a partial version, in leading zeros of a
-- pre-release, and in limits on lengths. Of Cargo's grammar, only the blanks and the partial
-- versions are used from here; `CargoGrammar` defines its requirements.
use Prim.Native.Char.{code}
use Rattle.std.specs.Prelude.{◌≡◌, ℕ, Bool, true, false, ◌&&◌, ◌||◌, not, ◌==◌, ◌⊎◌, List, []}
use Rattle.std.specs.Prelude.{◌∷◌, ◌++◌, codes, IsTrue, length, if◌then◌else◌}
use Rattle.std.specs.Int.{is_in_range}
use Rattle.std.specs.List.{list_all, join_with_byte}
use Rattle.semver_ranges.specs.declared.operator.Operator.{Operator}
use Rattle.semver_ranges.specs.declared.operator.Operator.TheVariants.{Bare, Tilde, Caret, Hyphen}
use Rattle.semver_ranges.specs.OperatorTable.{sign}
use Rattle.semver_texts.specs.declared.grammar.Grammar.{Grammar}
use Rattle.semver_texts.specs.declared.grammar.Grammar.TheVariants.{Crate, Cargo, Npm}
use Rattle.semver_texts.specs.Texts.{Text, has_no_leading_zero, is_empty, is_number, is_part}
use Rattle.semver_texts.specs.Texts.{marked}
use Rattle.semver_ranges.specs.NpmLengths.{is_short_number, is_short_pre, is_short_build}
use Rattle.semver_ranges.specs.NpmLengths.{is_short_version}
use Rattle.semver_texts.specs.WhiteSpace.{is_ascii_white_space}

-- a partial version: one to three components. With three, it also has the parts of its pre-release
-- and of its build metadata, perhaps none
pub data PartialTree : Type 0 where
  one : Text → PartialTree
  two : Text → Text → PartialTree
  three : Text → Text → Text → List Text → List Text → PartialTree

-- whether there is no operator
abbrev pub is_bare : Operator → Bool
is_bare Bare = true
is_bare _ = false

-- whether it is the operator of a term outside of a hyphen range. `Hyphen` is that of the left side
-- of such a range
abbrev pub is_of_term : Operator → Bool
is_of_term Hyphen = false
is_of_term _ = true

-- a partial version and its operator
pub record Simple : Type 0 where
  pub operator : Operator
  pub partial : PartialTree

-- a range: the empty range, a hyphen range, or one or more terms
pub data RangeTree : Type 0 where
  empty : RangeTree
  hyphen : PartialTree → PartialTree → RangeTree
  simples : Simple → List Simple → RangeTree

-- a range set: its ranges in order
abbrev pub SetTree : Type 0
SetTree = List RangeTree

-- whether a byte can be in a blank. In the crate's grammar it is a space or a tab, and in Cargo's
-- only a space. In npm's it is a space, a byte from the tab to the carriage return, or a byte of a
-- character beyond ASCII. Which of these characters are blanks is a condition on the whole text
abbrev pub is_blank : Grammar → ℕ → Bool
is_blank Crate b = (b == code " ") || (b == code "\t")
is_blank Cargo b = b == code " "
is_blank Npm b = is_ascii_white_space b || is_in_range 128 255 b

-- any number of blanks, or none
abbrev pub AreBlanks : Grammar → Text → Type 0
AreBlanks d t = IsTrue (list_all (is_blank d) t)

-- one or more blanks
abbrev pub AreSomeBlanks : Grammar → Text → Type 0
AreSomeBlanks d t = IsTrue (not (is_empty t)) × AreBlanks d t

-- a wildcard: `x`, `X` or `*`
abbrev pub is_wildcard : Text → Bool
is_wildcard (b ∷ []) = (b == code "x") || (b == code "X") || (b == code "*")
is_wildcard _ = false

-- a component of a partial version: a wildcard or a number
abbrev pub is_component : Text → Bool
is_component t = is_wildcard t || is_number t

-- the components of a partial version
abbrev pub components : PartialTree → List Text
components (one a) = a ∷ []
components (two a b) = a ∷ b ∷ []
components (three a b c pre build) = a ∷ b ∷ c ∷ []

-- the parts of the pre-release, whether it counts or not, and below, those of the build metadata
abbrev pub pre_parts : PartialTree → List Text
pre_parts (one a) = []
pre_parts (two a b) = []
pre_parts (three a b c pre build) = pre

abbrev pub build_parts : PartialTree → List Text
build_parts (one a) = []
build_parts (two a b) = []
build_parts (three a b c pre build) = build

-- what follows the components: `-` and the pre-release, if there is one, and then `+` and the build
-- metadata, if there is any
abbrev pub qualifier : PartialTree → Text
qualifier (one a) = []
qualifier (two a b) = []
qualifier (three a b c pre build) = marked (codes "-") pre ++ marked (codes "+") build

-- each part of the pre-release and of the build metadata is one or more letters, digits or hyphens
abbrev pub HasParts : PartialTree → Type 0
HasParts (one a) = Unit {0}
HasParts (two a b) = Unit {0}
HasParts (three a b c pre build) = IsTrue (list_all is_part pre) × IsTrue (list_all is_part build)

-- the text of a partial version: its components joined by dots, and then its qualifier
abbrev pub SpellsPartial : PartialTree → Text → Type 0
SpellsPartial p t =
    IsTrue (list_all is_component (components p)) × HasParts p
    × (t ≡ join_with_byte (code ".") (components p) ++ qualifier p)

-- whether no part of the pre-release that consists of digits has a leading zero
abbrev pub has_no_leading_zeros : PartialTree → Bool
has_no_leading_zeros p = list_all has_no_leading_zero (pre_parts p)

-- whether none of the components, and no part of the pre-release and the build metadata, is too
-- long
abbrev pub has_short_parts : PartialTree → Bool
has_short_parts p = list_all is_short_number (components p)
    && (list_all is_short_pre (pre_parts p) && list_all is_short_build (build_parts p))

-- whether three numbers are stated
abbrev pub states_three : PartialTree → Bool
states_three (one a) = false
states_three (two a b) = false
states_three (three a b c pre build) = not (is_wildcard a || (is_wildcard b || is_wildcard c))

-- what a word comes after. A word is the text of a partial version in a range. In a term, it comes
-- after the operator. On the left side of a hyphen range, it comes after no operator, and on the
-- right side after the hyphen
pub data Role : Type 0 where
  after_operator : Operator → Role
  after_hyphen : Role

-- whether node-semver copies a word of three stated numbers to its comparator together with its `v`
-- and its build metadata. It doesn't after `~` and `^`, nor after a hyphen if there is a
-- pre-release
abbrev pub is_taken_whole : Role → PartialTree → Bool
is_taken_whole (after_operator Tilde) p = false
is_taken_whole (after_operator Caret) p = false
is_taken_whole (after_operator _) p = true
is_taken_whole after_hyphen p = is_empty (pre_parts p)

-- the version that node-semver has in its comparator if it doesn't copy the whole word
abbrev pub numbers_and_pre : PartialTree → Text
numbers_and_pre p = join_with_byte (code ".") (components p) ++ marked (codes "-") (pre_parts p)

-- whether the version of that comparator isn't too long, for a word of n characters. Only a word
-- that states three numbers can be too long in this way
abbrev pub has_short_version : Role → PartialTree → ℕ → Bool
has_short_version role p n = not (states_three p)
    || is_short_version (if is_taken_whole role p then n else length (numbers_and_pre p))

-- whether nothing in a word is too long for npm, and below, whether npm reads the word: it also has
-- no part of the pre-release that consists of digits and has a leading zero
abbrev pub is_short_word : Role → PartialTree → ℕ → Bool
is_short_word role p n = has_short_parts p && has_short_version role p n

abbrev pub is_word_of_npm : Role → PartialTree → ℕ → Bool
is_word_of_npm role p n = has_no_leading_zeros p && is_short_word role p n

-- the text of a word: a partial version. In npm's grammar one `v` may be before it, and it must be
-- a word that npm reads
abbrev pub SpellsWord : Grammar → Role → PartialTree → Text → Type 0
SpellsWord Crate role p t = SpellsPartial p t
SpellsWord Cargo role p t = SpellsPartial p t
SpellsWord Npm role p t = (front : Text) × (back : Text) × ((front ≡ []) ⊎ (front ≡ codes "v"))
    × SpellsPartial p back × IsTrue (is_word_of_npm role p (length t)) × (t ≡ front ++ back)

-- a sign, and then any number of blanks
abbrev pub IsSignAndBlanks : Grammar → Text → Text → Type 0
IsSignAndBlanks d sign t = (blanks : Text) × AreBlanks d blanks × (t ≡ sign ++ blanks)

-- the text before a partial version: nothing if there is no operator, otherwise its sign and any
-- number of blanks. `~>` means `~`. No text has the operator of the left side of a hyphen range
abbrev pub SpellsOperator : Grammar → Operator → Text → Type 0
SpellsOperator d Bare t = t ≡ []
SpellsOperator d Tilde t = IsSignAndBlanks d (codes "~") t ⊎ IsSignAndBlanks d (codes "~>") t
SpellsOperator d Hyphen t = ⊥
SpellsOperator d operator t = IsSignAndBlanks d (sign operator) t

-- the text of a term: its operator, and then its partial version
abbrev pub SpellsSimple : Grammar → Simple → Text → Type 0
SpellsSimple d s t =
    (front : Text) × (back : Text) × SpellsOperator d s.operator front
    × SpellsWord d (after_operator s.operator) s.partial back × (t ≡ front ++ back)

-- the text of one or more terms, separated by one or more blanks
abbrev pub SpellsSimples : Grammar → Simple → List Simple → Text → Type 0
SpellsSimples d first [] t = SpellsSimple d first t
SpellsSimples d first (next ∷ others) t = (front : Text) × (gap : Text) × (back : Text)
    × SpellsSimple d first front × AreSomeBlanks d gap × SpellsSimples d next others back
    × (t ≡ front ++ gap ++ back)

-- the text of a range: nothing, two partial versions around a hyphen that has blanks on both sides,
-- or terms
abbrev pub SpellsRange : Grammar → RangeTree → Text → Type 0
SpellsRange d empty t = t ≡ []
SpellsRange d (hyphen left right) t = (front : Text) × (gap : Text) × (gap' : Text)
    × (back : Text) × SpellsWord d (after_operator Bare) left front × AreSomeBlanks d gap
    × AreSomeBlanks d gap' × SpellsWord d after_hyphen right back
    × (t ≡ front ++ gap ++ codes "-" ++ gap' ++ back)
SpellsRange d (simples first others) t = SpellsSimples d first others t

-- the text of a range with any number of blanks on both sides
abbrev pub SpellsPadded : Grammar → RangeTree → Text → Type 0
SpellsPadded d r t = (before : Text) × (inner : Text) × (after : Text)
    × AreBlanks d before × SpellsRange d r inner × AreBlanks d after
    × (t ≡ before ++ inner ++ after)

-- the tree spells the text in a grammar: one or more ranges, separated by `||`, with any number of
-- blanks around each
abbrev pub SpellsRangeIn : Grammar → SetTree → Text → Type 0
SpellsRangeIn d [] t = ⊥
SpellsRangeIn d (range ∷ []) t = SpellsPadded d range t
SpellsRangeIn d (range ∷ next ∷ others) t = (front : Text) × (back : Text)
    × SpellsPadded d range front × SpellsRangeIn d (next ∷ others) back
    × (t ≡ front ++ codes "||" ++ back)

-- the tree spells the text in the crate's grammar
abbrev pub Spells : SetTree → Text → Type 0
Spells tree t = SpellsRangeIn Crate tree t
