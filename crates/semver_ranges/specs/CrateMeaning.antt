-- Which versions satisfy a range text in the crate's two modes. A version is compared with the
-- numbers that a term states, and by precedence with the zero-filled version. In the comments, s
-- are the stated numbers, z is the zero-filled version, and v is the version that is compared.
use Rattle.std.specs.Prelude.{ℕ, Bool, true, false, not, ◌&&◌, ◌||◌, ◌==◌, if◌then◌else◌, List, []}
use Rattle.std.specs.Prelude.{◌∷◌, length, take, nat_eq}
use Rattle.std.specs.List.{list_any, list_all, starts_with}
use Rattle.std.specs.Ordering.{nat_cmp, is_eq, is_lt, is_gt, is_le, is_ge}
use Rattle.std.specs.Cmp.Lexicographic.{slice_cmp}
use Rattle.semver_ranges.specs.declared.range.Compat.{Compat}
use Rattle.semver_ranges.specs.declared.range.Compat.TheVariants.{Cargo, Npm}
use Rattle.semver_ranges.specs.declared.operator.Operator.{Operator}
use Rattle.semver_ranges.specs.declared.operator.Operator.TheVariants.{Bare, Equal, Less}
use Rattle.semver_ranges.specs.declared.operator.Operator.TheVariants.{LessOrEqual, Greater}
use Rattle.semver_ranges.specs.declared.operator.Operator.TheVariants.{GreaterOrEqual, Tilde, Caret}
use Rattle.semver_ranges.specs.declared.operator.Operator.TheVariants.{Hyphen}
use Rattle.semver_ranges.specs.RangeTree.{SetTree}
use Rattle.semver_texts.specs.Texts.{is_empty}
use Rattle.semver_texts.specs.Precedence.{precedence}
use Rattle.semver_texts.specs.Versions.{numbers, PlainVersion}
use Rattle.semver_ranges.specs.Partials.{stated, zero_filled, zero_version}
use Rattle.semver_ranges.specs.Terms.{Term, of_simple, of_nothing, terms}

-- whether the numbers of v begin with the first n stated numbers, or with all of them if fewer are
-- stated
abbrev pub agrees : ℕ → List ℕ → PlainVersion → Bool
agrees n s v = starts_with nat_eq (numbers v) (take n s)

-- whether the numbers of a version agree with the stated ones up to the first stated number that
-- isn't 0, or on all of them if all are 0
abbrev pub agrees_past_zeros : List ℕ → List ℕ → Bool
agrees_past_zeros [] others = true
agrees_past_zeros (n ∷ rest) [] = false
agrees_past_zeros (n ∷ rest) (m ∷ others) =
    (n == m) && (not (n == 0) || agrees_past_zeros rest others)

-- `^`: v isn't below z, and agrees on the stated numbers up to the first that isn't 0, or on all if
-- all are 0
abbrev pub meets_caret : List ℕ → PlainVersion → PlainVersion → Bool
meets_caret s z v = is_ge (precedence v z) && agrees_past_zeros s (numbers v)

-- `~`: v isn't below z, and agrees on the major, and on the minor if that is stated
abbrev pub meets_tilde : List ℕ → PlainVersion → PlainVersion → Bool
meets_tilde s z v = is_ge (precedence v z) && agrees 2 s v

-- `<=`: with three stated numbers, v isn't above z. With fewer, the first numbers of v, as many as
-- are stated, aren't greater than the stated ones, compared as lists
abbrev pub meets_at_most : List ℕ → PlainVersion → PlainVersion → Bool
meets_at_most s z v =
    if length s == 3 then is_le (precedence v z)
    else is_le (slice_cmp nat_cmp (take (length s) (numbers v)) s)

-- `=`: with three stated numbers, v equals z in precedence. With fewer, v isn't below z, and agrees
-- on all stated numbers
abbrev pub meets_equal : List ℕ → PlainVersion → PlainVersion → Bool
meets_equal s z v =
    if length s == 3 then is_eq (precedence v z)
    else is_ge (precedence v z) && agrees (length s) s v

-- no operator: as `=`, except that in Cargo mode three stated numbers are read as for `^`
abbrev pub meets_bare : Compat → List ℕ → PlainVersion → PlainVersion → Bool
meets_bare Cargo s z v = if length s == 3 then meets_caret s z v else meets_equal s z v
meets_bare Npm s z v = meets_equal s z v

-- no number stated: with `<` or `>`, v is below 0.0.0; otherwise v isn't below 0.0.0
abbrev pub meets_nothing_stated : Operator → PlainVersion → Bool
meets_nothing_stated Less v = is_lt (precedence v zero_version)
meets_nothing_stated Greater v = is_lt (precedence v zero_version)
meets_nothing_stated _ v = is_ge (precedence v zero_version)

-- some number stated: the operator decides
abbrev pub meets_operator : Compat → Operator → List ℕ → PlainVersion → PlainVersion → Bool
meets_operator mode Bare s z v = meets_bare mode s z v
meets_operator mode Equal s z v = meets_equal s z v
meets_operator mode Less s z v = is_lt (precedence v z)
meets_operator mode LessOrEqual s z v = meets_at_most s z v
meets_operator mode Greater s z v = is_gt (precedence v z)
meets_operator mode GreaterOrEqual s z v = is_ge (precedence v z)
meets_operator mode Hyphen s z v = is_ge (precedence v z)
meets_operator mode Tilde s z v = meets_tilde s z v
meets_operator mode Caret s z v = meets_caret s z v

-- the rule for terms that state no number comes before the rules for operators
abbrev pub meets_stated : Compat → Operator → List ℕ → PlainVersion → PlainVersion → Bool
meets_stated mode operator s z v =
    if is_empty s then meets_nothing_stated operator v else meets_operator mode operator s z v

-- whether a version satisfies a term. An empty range is a term that every version from 0.0.0 on
-- satisfies
abbrev pub meets_term : Compat → Term → PlainVersion → Bool
meets_term mode (of_simple s) v =
    meets_stated mode s.operator (stated s.partial) (zero_filled s.partial) v
meets_term mode of_nothing v = is_ge (precedence v zero_version)

-- whether a version satisfies a text: it satisfies all terms of some range
abbrev pub meets_tree : Compat → SetTree → PlainVersion → Bool
meets_tree mode tree v =
    list_any (λ range. list_all (λ term. meets_term mode term v) (terms range)) tree
