-- Worked examples: which tree spells a text, what it is rewritten to, and which versions satisfy
-- it.
use Rattle.std.specs.Prelude.{◌≡◌, ℕ, Bool, true, ◌&&◌, List, [], ◌∷◌, ◌++◌, codes, refl}
use Rattle.std.proofs.Common.{inr}
use Rattle.std.specs.Fmt.{digits}
use Rattle.std.specs.Ordering.{is_lt}
use Rattle.semver_ranges.specs.declared.range.Compat.{Compat}
use Rattle.semver_ranges.specs.declared.range.Compat.TheVariants.{Cargo, Npm}
use Rattle.semver_texts.specs.declared.grammar.Grammar.TheVariants.{Crate}
use Rattle.semver_ranges.specs.RangeTexts.{IsTooLarge}
use Rattle.semver_ranges.specs.declared.operator.Operator.{Operator}
use Rattle.semver_ranges.specs.declared.operator.Operator.TheVariants.{Bare, Equal, LessOrEqual}
use Rattle.semver_ranges.specs.declared.operator.Operator.TheVariants.{Greater, Tilde, Caret}
use Rattle.semver_ranges.specs.RangeTree.{PartialTree, one, three, empty, hyphen, simples, SetTree}
use Rattle.semver_ranges.specs.RangeTree.{SpellsPartial, SpellsOperator, Spells}
use Rattle.semver_texts.specs.Texts.{Text}
use Rattle.semver_texts.specs.Precedence.{precedence}
use Rattle.semver_texts.specs.Versions.{IdentifierValue, numeric, alphanumeric, PlainVersion}
use Rattle.semver_ranges.specs.Partials.{filled}
use Rattle.semver_ranges.specs.CrateMeaning.{meets_tree}
use Rattle.semver_ranges.specs.RewritingTable.{rewritten, fits}
use Rattle.semver_ranges.specs.SatisfiedComparators.{meets_set}
use Rattle.semver_ranges.specs.StatedPreReleases.{meets_tree_as_stated}
use Rattle.semver_ranges.specs.PrintedRanges.{set_text}

-- a tree spells the text and fits in the mode, and its comparators are printed as `printed`
abbrev pub IsRewritten : Text → Compat → Text → Type 0
IsRewritten text mode printed =
    (tree : SetTree) × Spells tree text × (fits mode tree ≡ true)
    × (set_text (rewritten mode tree) ≡ printed)

-- a tree spells the text. The version satisfies the tree if and only if `own` is true, and the
-- comparators of the tree if and only if `comparators` is true
abbrev pub IsMet : Text → Compat → PlainVersion → Bool → Bool → Type 0
IsMet text mode v own comparators =
    (tree : SetTree) × Spells tree text × (meets_tree mode tree v ≡ own)
    × (meets_set v (rewritten mode tree) ≡ comparators)

-- a tree spells the text. The version satisfies the tree if and only if `own` is true, and
-- satisfies it by the default rule for pre-releases if and only if `as_stated` is true
abbrev pub IsMetAsStated : Text → Compat → PlainVersion → Bool → Bool → Type 0
IsMetAsStated text mode v own as_stated =
    (tree : SetTree) × Spells tree text × (meets_tree mode tree v ≡ own)
    × (meets_tree_as_stated mode tree v ≡ as_stated)

-- a version without a pre-release
abbrev pub release : ℕ → ℕ → ℕ → PlainVersion
release a b c = filled (a ∷ b ∷ c ∷ []) []

-- a version with this pre-release
abbrev pub version : ℕ → ℕ → ℕ → List IdentifierValue → PlainVersion
version a b c pre = filled (a ∷ b ∷ c ∷ []) pre

-- the set of only one term, and below, its text: the operator and the partial version
abbrev pub lone : Operator → PartialTree → SetTree
lone operator p = simples (record { operator = operator; partial = p }) [] ∷ []

pub lone-spells : (operator : Operator) (p : PartialTree) (front back : Text)
    → SpellsOperator Crate operator front
    → SpellsPartial p back → Spells (lone operator p) ((front ++ back) ++ [])
lone-spells operator p front back f b =
    ([], front ++ back, [], refl, (front, back, f, b, refl), refl, refl)

-- the text of a set of only one hyphen range
pub hyphen-spells : (left right : PartialTree) (front back : Text) → SpellsPartial left front
    → SpellsPartial right back
    → Spells (hyphen left right ∷ []) ((front ++ codes " " ++ codes "-" ++ codes " " ++ back) ++ [])
hyphen-spells left right front back l r = (
  [],
  front ++ codes " " ++ codes "-" ++ codes " "
      ++ back,
  [],
  refl,
  (
    front,
    codes " ",
    codes " ",
    back,
    l,
    (refl, refl),
    (refl, refl),
    r,
    refl,
  ),
  refl,
  refl,
)

-- the numbers and texts of a pre-release are kept; the raised bound has no pre-release
abbrev pub beta : PartialTree
beta = three (codes "1") (codes "2") (codes "3") (codes "beta" ∷ codes "4" ∷ []) []

pub caret_beta : Spells (lone Caret beta) (codes "^1.2.3-beta.4")
caret_beta =
    lone-spells Caret beta (codes "^") (codes "1.2.3-beta.4") ([], refl, refl)
    (refl, (refl, refl), refl)

pub caret_beta_prints : (mode : Compat)
    → IsRewritten (codes "^1.2.3-beta.4") mode (codes ">=1.2.3-beta.4 <2.0.0")
unfolding digits
caret_beta_prints mode = (lone Caret beta, caret_beta, refl, refl)

-- `~>` means `~`, and blanks may follow it
pub tilde_prints : (mode : Compat) → IsRewritten (codes "~> 1.2.3") mode (codes ">=1.2.3 <1.3.0")
unfolding digits
tilde_prints mode = (
  lone Tilde (three (codes "1") (codes "2") (codes "3") [] []),
  lone-spells Tilde (three (codes "1") (codes "2") (codes "3") [] []) (codes "~> ") (codes "1.2.3")
      (inr (codes " ", refl, refl)) (refl, (refl, refl), refl),
  refl,
  refl,
)

-- how three numbers without an operator are read depends on the mode
abbrev pub plain : PartialTree
plain = three (codes "1") (codes "2") (codes "3") [] []

pub plain_spells : Spells (lone Bare plain) (codes "1.2.3")
plain_spells = lone-spells Bare plain [] (codes "1.2.3") refl (refl, (refl, refl), refl)

pub plain_cargo : IsRewritten (codes "1.2.3") Cargo (codes ">=1.2.3 <2.0.0")
unfolding digits
plain_cargo = (lone Bare plain, plain_spells, refl, refl)

pub plain_npm : IsRewritten (codes "1.2.3") Npm (codes "=1.2.3")
unfolding digits
plain_npm = (lone Bare plain, plain_spells, refl, refl)

-- a caret raises the first number that isn't 0
pub caret_zero : (mode : Compat)
    → IsRewritten (codes "^0.0.1-beta") mode (codes ">=0.0.1-beta <0.0.2")
unfolding digits
caret_zero mode = let p : PartialTree = three (codes "0") (codes "0") (codes "1")
    (codes "beta" ∷ []) [] in (
      lone Caret p,
      lone-spells Caret p (codes "^") (codes "0.0.1-beta") ([], refl, refl)
          (refl, (refl, refl), refl),
      refl,
      refl,
    )

-- no number stated: versions below 0.0.0 for `<` and `>`, and otherwise those that aren't below
-- 0.0.0
pub above_any : (mode : Compat) → IsRewritten (codes ">*") mode (codes "<0.0.0")
unfolding digits
above_any mode = (
  lone Greater (one (codes "*")),
  lone-spells Greater (one (codes "*")) (codes ">") (codes "*")
      ([], refl, refl) (refl, tt, refl),
  refl,
  refl,
)

pub up_to_any : (mode : Compat) → IsRewritten (codes "<=*") mode (codes ">=0.0.0")
unfolding digits
up_to_any mode = (
  lone LessOrEqual (one (codes "*")),
  lone-spells LessOrEqual (one (codes "*")) (codes "<=") (codes "*")
      ([], refl, refl) (refl, tt, refl),
  refl,
  refl,
)

-- the empty text is one empty range, and `||` is two
pub nothing_prints : (mode : Compat) → IsRewritten [] mode (codes ">=0.0.0")
unfolding digits
nothing_prints mode = (empty ∷ [], ([], [], [], refl, refl, refl, refl), refl, refl)

pub bars_print : (mode : Compat) → IsRewritten (codes "||") mode (codes ">=0.0.0 || >=0.0.0")
unfolding digits
bars_print mode = (
  empty ∷ empty ∷ [],
  (
    [],
    [],
    ([], [], [], refl, refl, refl, refl),
    ([], [], [], refl, refl, refl, refl),
    refl,
  ),
  refl,
  refl,
)

-- a side of a hyphen range that states no number is left out; if neither side states one, there is
-- one comparator
pub right_side_prints : (mode : Compat) → IsRewritten (codes "* - 3.4.5") mode (codes "<=3.4.5")
unfolding digits
right_side_prints mode = let r : PartialTree = three (codes "3") (codes "4") (codes "5") [] [] in (
  hyphen (one (codes "*")) r ∷ [],
  hyphen-spells (one (codes "*")) r (codes "*") (codes "3.4.5")
      (refl, tt, refl) (refl, (refl, refl), refl),
  refl,
  refl,
)

pub no_side_prints : (mode : Compat) → IsRewritten (codes "* - *") mode (codes ">=0.0.0")
unfolding digits
no_side_prints mode = (
  hyphen (one (codes "*")) (one (codes "*"))
      ∷ [],
  hyphen-spells (one (codes "*")) (one (codes "*")) (codes "*") (codes "*")
      (refl, tt, refl) (refl, tt, refl),
  refl,
  refl,
)

pub pre_side_prints : (mode : Compat)
    → IsRewritten (codes "1.2.3-4 - 5") mode (codes ">=1.2.3-4 <6.0.0")
unfolding digits
pre_side_prints mode = let l : PartialTree = three (codes "1") (codes "2") (codes "3")
    (codes "4" ∷ []) [] in (
      hyphen l (one (codes "5")) ∷ [],
      hyphen-spells l (one (codes "5")) (codes "1.2.3-4")
          (codes "5") (refl, (refl, refl), refl) (refl, tt, refl),
      refl,
      refl,
    )

-- a number after a wildcard isn't stated, and may be of any size
pub after_wildcard : (mode : Compat)
    → IsRewritten (codes "1.*.99999999999999999999") mode (codes ">=1.0.0 <2.0.0")
unfolding digits
after_wildcard mode = let p : PartialTree = three (codes "1") (codes "*")
    (codes "99999999999999999999") [] [] in (
      lone Bare p,
      lone-spells Bare p [] (codes "1.*.99999999999999999999") refl
          (refl, (refl, refl), refl),
      refl,
      refl,
    )

-- a raised bound may be too large even if the number itself isn't
abbrev pub last : PartialTree
last = three (codes "0") (codes "0") (codes "18446744073709551615") [] []

pub last_spells : Spells (lone Bare last) (codes "0.0.18446744073709551615")
last_spells =
    lone-spells Bare last [] (codes "0.0.18446744073709551615") refl (refl, (refl, refl), refl)

pub last_npm : IsRewritten (codes "0.0.18446744073709551615") Npm
    (codes "=0.0.18446744073709551615")
unfolding digits
last_npm = (lone Bare last, last_spells, refl, refl)

pub last_cargo : IsTooLarge Cargo (codes "0.0.18446744073709551615")
last_cargo = (lone Bare last, last_spells, refl)

-- parts of digits are kept as numbers if these are at most 2^64 - 1; build metadata is dropped
pub kept_parts : (mode : Compat)
    → IsRewritten (codes "=1.2.3-007.99999999999999999999+x.y") mode
    (codes "=1.2.3-7.99999999999999999999")
unfolding digits
kept_parts mode = let p : PartialTree = three (codes "1") (codes "2") (codes "3")
    (codes "007" ∷ codes "99999999999999999999" ∷ []) (codes "x" ∷ codes "y" ∷ []) in (
      lone Equal p,
      lone-spells Equal p (codes "=") (codes "1.2.3-007.99999999999999999999+x.y")
          ([], refl, refl) (refl, (refl, refl), refl),
      refl,
      refl,
    )

-- a hyphen may begin a part
pub hyphen_part : (mode : Compat) → IsRewritten (codes "=1.2.3--1") mode (codes "=1.2.3--1")
unfolding digits
hyphen_part mode = let p : PartialTree = three (codes "1") (codes "2") (codes "3")
    (codes "-1" ∷ []) [] in (
      lone Equal p,
      lone-spells Equal p (codes "=") (codes "1.2.3--1") ([], refl, refl)
          (refl, (refl, refl), refl),
      refl,
      refl,
    )

-- whether each version is below the next
abbrev pub ascends : List PlainVersion → Bool
ascends [] = true
ascends (v ∷ []) = true
ascends (v ∷ w ∷ others) = is_lt (precedence v w) && ascends (w ∷ others)

-- the examples of SemVer 2.0.0, section 11
pub numbers_ascend : ascends (release 1 0 0 ∷ release 2 0 0 ∷ release 2 1 0 ∷ release 2 1 1 ∷ [])
    ≡ true
numbers_ascend = refl

pub pre_releases_ascend : ascends (version 1 0 0 (alphanumeric (codes "alpha") ∷ [])
    ∷ version 1 0 0 (alphanumeric (codes "alpha") ∷ numeric 1 ∷ [])
    ∷ version 1 0 0 (alphanumeric (codes "alpha") ∷ alphanumeric (codes "beta") ∷ [])
    ∷ version 1 0 0 (alphanumeric (codes "beta") ∷ [])
    ∷ version 1 0 0 (alphanumeric (codes "beta") ∷ numeric 2 ∷ [])
    ∷ version 1 0 0 (alphanumeric (codes "beta") ∷ numeric 11 ∷ [])
    ∷ version 1 0 0 (alphanumeric (codes "rc") ∷ numeric 1 ∷ []) ∷ release 1 0 0 ∷ []) ≡ true
pre_releases_ascend = refl
