-- The comparators that a range is rewritten to. A table gives those of each term, by its operator
-- and its stated numbers.
use Rattle.std.specs.Prelude.{ℕ, suc, zero, ◌+◌, Bool, true, ◌&&◌, if◌then◌else◌, Option, Some}
use Rattle.std.specs.Prelude.{None, List, [], ◌∷◌, length, map}
use Rattle.std.specs.List.{list_all, flat_map}
use Rattle.semver_ranges.specs.declared.range.Op.{Op}
use Rattle.semver_ranges.specs.declared.range.Op.TheVariants.{Lt, Lte, Gt, Gte, Eq}
use Rattle.semver_ranges.specs.declared.range.Compat.{Compat}
use Rattle.semver_ranges.specs.declared.range.Compat.TheVariants.{Cargo, Npm}
use Rattle.semver_ranges.specs.declared.operator.Operator.{Operator}
use Rattle.semver_ranges.specs.declared.operator.Operator.TheVariants.{Bare, Equal, Less}
use Rattle.semver_ranges.specs.declared.operator.Operator.TheVariants.{LessOrEqual, Greater}
use Rattle.semver_ranges.specs.declared.operator.Operator.TheVariants.{GreaterOrEqual, Tilde, Caret}
use Rattle.semver_ranges.specs.declared.operator.Operator.TheVariants.{Hyphen}
use Rattle.semver_ranges.specs.RangeTree.{Simple, RangeTree, empty, hyphen, simples, SetTree}
use Rattle.semver_texts.specs.Versions.{numbers, IdentifierValue, PlainVersion}
use Rattle.semver_ranges.specs.Partials.{stated, states_nothing, filled, zero_filled, zero_version}
use Rattle.semver_ranges.specs.Partials.{leading_place, fits_u64}
use Rattle.semver_ranges.specs.Terms.{Term, of_simple, of_nothing, sides, terms}

-- a comparator: an operator, and the version to compare with
pub record PlainComparator : Type 0 where
  pub op : Op
  pub version : PlainVersion

-- a range: its comparators and its mode
pub record PlainRange : Type 0 where
  pub comparators : List PlainComparator
  pub compat : Compat

-- a range set: its ranges and its mode
pub record PlainSet : Type 0 where
  pub ranges : List PlainRange
  pub compat : Compat

-- a cell of the table, which says what a term becomes: z is the zero-filled version, and up(k) has
-- the first k stated numbers with the k-th raised by one, and then zeros
pub data Cell : Type 0 where
  from_zero : Cell  -- `>=0.0.0`
  below_zero : Cell  -- `<0.0.0`
  against : Op → Cell  -- the operator and z
  below : ℕ → Cell  -- `<up(k)`
  between : ℕ → Cell  -- `>=z <up(k)`

-- the column for terms that state no number
abbrev pub nothing_stated : Operator → Cell
nothing_stated Less = below_zero
nothing_stated Greater = below_zero
nothing_stated _ = from_zero

-- the column for terms that state one or two numbers
abbrev pub some_stated : Operator → List ℕ → Cell
some_stated Bare s = between (length s)
some_stated Equal s = between (length s)
some_stated Less s = against Lt
some_stated LessOrEqual s = below (length s)
some_stated Greater s = against Gt
some_stated GreaterOrEqual s = against Gte
some_stated Hyphen s = against Gte
some_stated Tilde s = between (length s)
some_stated Caret s = between (leading_place s)

-- the column for terms that state three numbers. The mode matters only in this column, and there
-- only for terms without an operator
abbrev pub three_stated : Compat → Operator → List ℕ → Cell
three_stated Cargo Bare s = between (leading_place s)
three_stated Npm Bare s = against Eq
three_stated mode Equal s = against Eq
three_stated mode Less s = against Lt
three_stated mode LessOrEqual s = against Lte
three_stated mode Greater s = against Gt
three_stated mode GreaterOrEqual s = against Gte
three_stated mode Hyphen s = against Gte
three_stated mode Tilde s = between 2
three_stated mode Caret s = between (leading_place s)

-- the table: the cell for a mode, an operator and the stated numbers
abbrev pub cell : Compat → Operator → List ℕ → Cell
cell mode operator [] = nothing_stated operator
cell mode operator (a ∷ []) = some_stated operator (a ∷ [])
cell mode operator (a ∷ b ∷ []) = some_stated operator (a ∷ b ∷ [])
cell mode operator (a ∷ b ∷ c ∷ rest) = three_stated mode operator (a ∷ b ∷ c ∷ rest)

-- the first k numbers, with the k-th raised by one if there are that many
abbrev pub raised : ℕ → List ℕ → List ℕ
raised zero s = []
raised (suc k) [] = []
raised (suc zero) (n ∷ rest) = (n + 1) ∷ []
raised (suc (suc k)) (n ∷ rest) = n ∷ raised (suc k) rest

-- up(k): the version with the raised numbers, zeros for the missing ones, and no pre-release
abbrev pub up : ℕ → List ℕ → PlainVersion
up k s = filled (raised k s) []

-- a bound with its pre-release replaced by this one
abbrev pub with_pre_release : List IdentifierValue → PlainVersion → PlainVersion
with_pre_release pre bound = record bound { pre = pre }

-- up(k) with this pre-release
abbrev pub up_with : List IdentifierValue → ℕ → List ℕ → PlainVersion
up_with pre k s = with_pre_release pre (up k s)

-- the comparator with this operator and this version
abbrev pub comparator : Op → PlainVersion → PlainComparator
comparator op v = record { op = op; version = v }

-- the comparators of a cell, with s as the stated numbers, z as the zero-filled version, and
-- `bound_pre` as the pre-release of a raised bound
abbrev pub written_cell : List IdentifierValue → Cell → List ℕ → PlainVersion
    → List PlainComparator
written_cell bound_pre from_zero s z = comparator Gte zero_version ∷ []
written_cell bound_pre below_zero s z = comparator Lt zero_version ∷ []
written_cell bound_pre (against op) s z = comparator op z ∷ []
written_cell bound_pre (below k) s z = comparator Lt (up_with bound_pre k s) ∷ []
written_cell bound_pre (between k) s z =
    comparator Gte z ∷ comparator Lt (up_with bound_pre k s) ∷ []

-- the comparators of a cell, without a pre-release in the raised bound
abbrev pub cell_comparators : Cell → List ℕ → PlainVersion → List PlainComparator
cell_comparators c s z = written_cell [] c s z

-- the raised bound of a cell, if it has one
abbrev pub cell_raised : Cell → List ℕ → Option PlainVersion
cell_raised (below k) s = Some (up k s)
cell_raised (between k) s = Some (up k s)
cell_raised _ s = None

-- the comparators of a term, with `bound_pre` as the pre-release of its raised bound
abbrev pub written_simple : List IdentifierValue → Compat → Simple → List PlainComparator
written_simple bound_pre mode s =
    written_cell bound_pre (cell mode s.operator (stated s.partial)) (stated s.partial)
    (zero_filled s.partial)

-- the comparators of a range, if `written` gives those of each term: the comparators of its terms,
-- or of the sides of a hyphen range, in order. An empty range gives `>=0.0.0`, and so does a hyphen
-- range if both sides state no number
abbrev pub range_by : (Simple → List PlainComparator) → RangeTree → List PlainComparator
range_by written empty = comparator Gte zero_version ∷ []
range_by written (hyphen left right) =
    if states_nothing left && states_nothing right then comparator Gte zero_version ∷ []
    else flat_map written (sides left right)
range_by written (simples first others) = flat_map written (first ∷ others)

abbrev pub written_range : List IdentifierValue → Compat → RangeTree → List PlainComparator
written_range bound_pre mode r = range_by (written_simple bound_pre mode) r

-- the set that a tree is rewritten to, if `written` gives the comparators of each term: the ranges
-- in order, with the mode in the set and in each range
abbrev pub set_by : (Simple → List PlainComparator) → Compat → SetTree → PlainSet
set_by written mode tree =
    record {
      ranges = map (λ r. record { comparators = range_by written r; compat = mode }) tree;
      compat = mode;
    }

abbrev pub written_set : List IdentifierValue → Compat → SetTree → PlainSet
written_set bound_pre mode tree = set_by (written_simple bound_pre mode) mode tree

abbrev pub rewritten : Compat → SetTree → PlainSet
rewritten mode tree = written_set [] mode tree

-- the raised bound of a term, if its cell has one
abbrev pub raised_bound : Compat → Term → Option PlainVersion
raised_bound mode (of_simple s) =
    cell_raised (cell mode s.operator (stated s.partial)) (stated s.partial)
raised_bound mode of_nothing = None

-- whether the numbers of a raised bound, if there is one, are at most 2^64 - 1
abbrev pub bound_fits : Option PlainVersion → Bool
bound_fits None = true
bound_fits (Some bound) = list_all fits_u64 (numbers bound)

-- whether the numbers that a term states, and those of its raised bound, are at most 2^64 - 1
abbrev pub simple_fits : Compat → Simple → Bool
simple_fits mode s =
    list_all fits_u64 (stated s.partial) && bound_fits (raised_bound mode (of_simple s))

-- whether a term fits, and below, whether all terms of a tree fit, if `fit` decides this for a
-- `Simple`. The term of an empty range always fits
abbrev pub term_fits_by : (Simple → Bool) → Term → Bool
term_fits_by fit (of_simple s) = fit s
term_fits_by fit of_nothing = true

abbrev pub fits_by : (Simple → Bool) → SetTree → Bool
fits_by fit tree = list_all (λ range. list_all (term_fits_by fit) (terms range)) tree

abbrev pub term_fits : Compat → Term → Bool
term_fits mode term = term_fits_by (simple_fits mode) term

abbrev pub fits : Compat → SetTree → Bool
fits mode tree = fits_by (simple_fits mode) tree
