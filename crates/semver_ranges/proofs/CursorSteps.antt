-- Results of `after_one`, `after_two`, `after_three` and `simple`, from the steps in which the code
-- reads a term.
use Rattle.std.proofs.Common.{arith}
use Rattle.std.proofs.Common.{◌≡◌, false, List, [], ◌∷◌, Some, None, refl}
use Rattle.semver_texts.specs.declared.grammar.Grammar.{Grammar}
use Rattle.semver_ranges.specs.declared.operator.Operator.{Operator}
use Rattle.semver_ranges.specs.RangeTree.{PartialTree, one, two, three, after_operator}
use Rattle.semver_texts.specs.Texts.{Text}
use Rattle.semver_ranges.specs.Steps.Reading.{after_blanks, operator_at, partial, simple, after_pre}
use Rattle.semver_texts.specs.Texts.{begins_with}
use Rattle.semver_ranges.specs.Steps.Reading.{after_three, after_two, after_one}
use Rattle.semver_ranges.specs.Steps.CursorViews.{marked_parts}

-- the pre-release and the build metadata after three components, each read if its mark is there
module _ (a b c : Text) where
  build_found : (pre build : List Text) (u v : Text) → marked_parts 43 u ≡ Some (build, v)
      → after_pre a b c pre u ≡ Some (three a b c pre build, v)
  build_found pre build [] v e = grind arith
  build_found pre build (m ∷ u) v e = grind arith

  no_build : (pre : List Text) (u : Text) → marked_parts 43 u ≡ None → after_pre a b c pre u ≡ None
  no_build pre [] e = cc
  no_build pre (m ∷ u) e = grind arith

  pub no_pre : (t : Text) → marked_parts 45 t ≡ None → after_three a b c t ≡ None
  no_pre [] e = cc
  no_pre (m ∷ t) e = grind arith

  pub no_build_after : (pre : List Text) (t u : Text) → marked_parts 45 t ≡ Some (pre, u) → marked_parts 43 u ≡ None
      → after_three a b c t ≡ None
  no_build_after pre [] u e f = grind arith
  no_build_after pre (m ∷ t) u e f = grind (arith, no_build pre u f)

  pub qualifier_found : (pre build : List Text) (t u v : Text) → marked_parts 45 t ≡ Some (pre, u)
      → marked_parts 43 u ≡ Some (build, v) → after_three a b c t ≡ Some (three a b c pre build, v)
  qualifier_found pre build [] u v e f = grind arith
  qualifier_found pre build (m ∷ t) u v e f = grind (arith, build_found pre build u v f)

-- a partial version has no further component if no dot follows
pub minor_end : (a b t : Text) → begins_with 46 t ≡ false → after_two a b t ≡ Some (two a b, t)
minor_end a b [] e = refl
minor_end a b (m ∷ t) e = rw e

pub major_end : (a t : Text) → begins_with 46 t ≡ false → after_one a t ≡ Some (one a, t)
major_end a [] e = refl
major_end a (m ∷ t) e = rw e

-- a term, from its operator and its partial version
pub simple_found : (d : Grammar) (t u v w : Text) (operator : Operator) (p : PartialTree) → (operator, u) ≡ operator_at d t
    → partial d (after_operator operator) u ≡ Some (p, v)
    → w ≡ after_blanks d v
    → simple d t ≡ Some (record { operator = operator; partial = p }, w)
simple_found d t u v w operator p sign found blanks = rw (← sign, found, blanks)
