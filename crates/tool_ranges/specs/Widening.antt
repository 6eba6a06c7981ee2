-- When a range is widened to another one: each of its alternatives stays, except that upper bounds
-- may be raised, and alternatives may be added. Then no version is lost.
use Rattle.std.specs.Prelude.{◌≡◌, ◌⊎◌, ℕ, Bool, false, IsTrue, List, [], ◌∷◌, map, codes, length}
use Rattle.std.specs.Prelude.{if◌then◌else◌}
use Rattle.std.specs.List.{list_all, list_any}
use Rattle.std.specs.Ordering.{nat_cmp}
use Rattle.std.specs.Cmp.Lexicographic.{slice_cmp}
use Rattle.std.specs.declared.cmp.Ordering.TheVariants as order
use Rattle.semver_texts.specs.Texts.{Text}
use Rattle.semver_texts.specs.Versions.{IdentifierValue, numeric}
use Rattle.semver_ranges.specs.declared.operator.Operator.{Operator}
use Rattle.semver_ranges.specs.declared.operator.Operator.TheVariants.{Bare, Less, LessOrEqual}
use Rattle.semver_ranges.specs.CargoGrammar.{as_read, comparators_of}
use Rattle.semver_ranges.specs.Partials.{pre_release, stated, states_nothing}
use Rattle.semver_ranges.specs.RangeTree.{PartialTree, one, Simple, RangeTree, empty, hyphen}
use Rattle.semver_ranges.specs.RangeTree.{simples, SetTree}
use Rattle.semver_ranges.specs.Terms.{left_side, of_simple, right_side}
use Rattle.tool_ranges.specs.Dialects.{SpellsAs, fits_as}
use Rattle.tool_ranges.specs.NpmMeaning.{matches_everything}
use Rattle.semver_ranges.specs.declared.dialect.Dialect.{Dialect}
use Rattle.semver_ranges.specs.declared.dialect.Dialect.TheVariants.{Cargo}

-- ---- the terms that are compared

-- the terms of a hyphen range: its sides. A side that states no number is left out, except for the
-- left one if neither states a number
abbrev pub compared_sides : PartialTree → PartialTree → List Simple
compared_sides left right =
    if states_nothing right then left_side left ∷ []
    else (if states_nothing left then right_side right ∷ []
    else left_side left ∷ right_side right ∷ [])

-- the terms of a range. An empty range is `*`
abbrev pub compared_terms : RangeTree → List Simple
compared_terms empty = record { operator = Bare; partial = one (codes "*") } ∷ []
compared_terms (hyphen left right) = compared_sides left right
compared_terms (simples first others) = first ∷ others

-- the terms of each alternative of a text, with the operators that the dialect reads
abbrev pub alternatives : Dialect → SetTree → List (List Simple)
alternatives Cargo tree = map as_read (comparators_of tree) ∷ []
alternatives dialect tree = map compared_terms tree

-- ---- terms

-- what a term states: its operator, its numbers, and the pre-release after three numbers
pub record Stated : Type 0 where
  pub operator : Operator
  pub numbers : List ℕ
  pub pre : List IdentifierValue

abbrev pub stated_by : Simple → Stated
stated_by s =
    record { operator = s.operator; numbers = stated s.partial; pre = pre_release s.partial }

-- a bound with this operator and this pre-release may be raised: `<` and `<=` without a
-- pre-release, and `<` with the lowest one, `0`. With another one, there may be pre-releases of its
-- numbers that satisfy the range by default only because this term names one
abbrev pub MayBeRaised : Operator → List IdentifierValue → Type 0
MayBeRaised Less pre = (pre ≡ []) ⊎ (pre ≡ numeric 0 ∷ [])
MayBeRaised LessOrEqual pre = pre ≡ []
MayBeRaised _ pre = ⊥

-- the second term is an upper bound like the first one, with as many numbers, which are higher
pub record IsRaisedBound (s r : Stated) : Type 0 where
  pub operator : s.operator ≡ r.operator
  pub may_be : MayBeRaised s.operator s.pre
  pub as_many : length s.numbers ≡ length r.numbers
  pub higher : slice_cmp nat_cmp s.numbers r.numbers ≡ order.Less

-- the second term states the same as the first one, or is a raised bound
abbrev pub IsWidenedTerm : Stated → Stated → Type 0
IsWidenedTerm s r = (s ≡ r) ⊎ IsRaisedBound s r

-- ---- alternatives

-- each term is widened to the one at the same position, and there are as many
abbrev pub AreWidenedTerms : List Simple → List Simple → Type 0
AreWidenedTerms [] [] = Unit {0}
AreWidenedTerms (s ∷ ss) (r ∷ rs) =
    IsWidenedTerm (stated_by s) (stated_by r) × AreWidenedTerms ss rs
AreWidenedTerms _ _ = ⊥

-- whether each term of an alternative matches everything. By default in npm's dialect, no
-- pre-release satisfies a range with such an alternative
abbrev pub is_everything : List Simple → Bool
is_everything ss = list_all (λ s. matches_everything (of_simple s)) ss

-- each alternative is widened to the one at the same position. More alternatives may follow, but
-- none that matches everything
abbrev pub AreWidened : List (List Simple) → List (List Simple) → Type 0
AreWidened [] added = list_any is_everything added ≡ false
AreWidened (ss ∷ old) [] = ⊥
AreWidened (ss ∷ old) (rs ∷ new) = AreWidenedTerms ss rs × AreWidened old new

-- both texts are ranges in the dialect, and the first one is widened to the second
pub record IsWidened (dialect : Dialect) (old new : Text) : Type 0 where
  pub old_tree : SetTree
  pub new_tree : SetTree
  pub old_spelled : SpellsAs dialect old_tree old
  pub new_spelled : SpellsAs dialect new_tree new
  pub old_fits : IsTrue (fits_as dialect old_tree)
  pub new_fits : IsTrue (fits_as dialect new_tree)
  pub widened : AreWidened (alternatives dialect old_tree) (alternatives dialect new_tree)
