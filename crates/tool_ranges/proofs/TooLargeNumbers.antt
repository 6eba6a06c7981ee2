-- Which number of a term that was read is too large.
use Rattle.std.proofs.Common.{◌≡◌, ℕ, Bool, true, false, not, nat_le, Option, Some, None, refl}
use Rattle.std.specs.List.{list_all}
use Rattle.std.specs.Str.Parse.{digits_value}
use Rattle.semver_texts.proofs.Lists.{by_test}
use Rattle.semver_texts.specs.Texts.{is_empty}
use Rattle.semver_texts.specs.declared.grammar.Grammar.{Grammar}
use Rattle.semver_ranges.specs.declared.partial.Component.{Component}
use Rattle.semver_ranges.specs.declared.partial.Component.TheVariants.{Number}
use Rattle.semver_ranges.specs.RangeTree.{PartialTree, Simple, is_wildcard, one, two, three}
use Rattle.semver_ranges.specs.Partials.{stated, zero_filled}
use Rattle.semver_ranges.specs.Steps.PartialViews.{AreComponentsOf, IsValue}
use Rattle.semver_ranges.specs.CargoGrammar.{is_cargo, read_in}
use Rattle.semver_ranges.specs.declared.dialect.Dialect.{Dialect}
use Rattle.semver_ranges.specs.DialectTable.{limit}
use Rattle.tool_ranges.specs.FittingTerms.{first_above, too_large}
use Rattle.semver_ranges.specs.Sides.{raised_index, sides, term_fits}

-- if no number of a term is above the limit and the term doesn't fit, the raised number is too large
module _ (d : Dialect) (s : Simple) (none : None ≡ first_above (limit d) (stated s.partial)) where
  pub all_within : list_all (λ n. nat_le n (limit d)) (stated s.partial) ≡ true
  all_within = by_test (list_all (λ n. nat_le n (limit d)) (stated s.partial)) (λ y. y) (λ n. absurd (let e = rw n at none in cc))

  pub raised_large : term_fits d s ≡ false → (k : ℕ)
      → k ≡ raised_index (sides d s.operator (stated s.partial) (not (is_empty (zero_filled s.partial).pre))) → Some k ≡ too_large d s
  raised_large unfit k is = rw (unfit, ← none, is) refl

-- the first or the second number that was read is the first above a limit
abbrev Is : ℕ → Bool → Option ℕ → Type 0
Is most b x = (n : ℕ) → IsValue n x → nat_le n most ≡ b

module _ (most : ℕ) (patch : Option Component) (x : Option ℕ) where
  abbrev Above : PartialTree → ℕ → Type 0
  Above t k = Some k ≡ first_above most (stated t)

  pub first : (t : PartialTree) (minor : Option Component) → AreComponentsOf t (Number x) minor patch → Is most false x → Above t 0
  first (one a) minor is above = rw (is.0.0, above (digits_value 10 a) is.0.1) refl
  first (two a b) minor is above = by_test (is_wildcard b)
      (λ y. rw (is.0.0, y, above (digits_value 10 a) is.0.1) refl)
      (λ n. rw (is.0.0, n, above (digits_value 10 a) is.0.1) refl)
  first (three a b c parts build) minor is above = by_test (is_wildcard b)
      (λ y. rw (is.0.0, y, above (digits_value 10 a) is.0.1) refl)
      (λ n. by_test (is_wildcard c)
      (λ y. rw (is.0.0, n, y, above (digits_value 10 a) is.0.1) refl)
      (λ m. rw (is.0.0, n, m, above (digits_value 10 a) is.0.1) refl))

  pub second : (t : PartialTree) (y : Option ℕ) → AreComponentsOf t (Number x) (Some (Number y)) patch → Is most true x → Is most false y → Above t 1
  second (one a) y is small above = cc is.1
  second (two a b) y is small above = rw (is.0.0, is.1.0, small (digits_value 10 a) is.0.1, above (digits_value 10 b) is.1.1) refl
  second (three a b c parts build) y is small above = by_test (is_wildcard c)
      (λ y. rw (is.0.0, is.1.0, y, small (digits_value 10 a) is.0.1, above (digits_value 10 b) is.1.1) refl)
      (λ n. rw (is.0.0, is.1.0, n, small (digits_value 10 a) is.0.1, above (digits_value 10 b) is.1.1) refl)

-- a grammar reads another operator of a term, but no other numbers
pub same_partial : (g : Grammar) (s : Simple) → (read_in g s).partial ≡ s.partial
same_partial g s = by_test (is_cargo g) (λ cargo. rw cargo refl) (λ other. rw other refl)
