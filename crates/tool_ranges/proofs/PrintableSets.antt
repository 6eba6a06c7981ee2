-- The set that a text of Cargo or npm is rewritten to can be printed, and reading the printed text
-- gives the set again.
use Rattle.std.proofs.Common.{◌≡◌, ◌++◌, ◌-◌, ◌^◌, Bool, true, false, not, ◌&&◌, ◌||◌, List, [], ◌∷◌, ℕ, Option, Some, None}
use Rattle.std.proofs.Common.{map, refl, ap, ◌∙◌, arith, rules}
use Rattle.std.specs.Prelude.{is_some}
use Rattle.std.specs.List.{flat_map, list_all}
use Rattle.std.proofs.lemmas.Bool.{and_from, and_parts}
use Rattle.std.proofs.lemmas.Grind.{common_steps}
use Rattle.std.proofs.lemmas.List.Folds.{list_all-append}
use Rattle.semver_texts.specs.Texts.{Text, is_empty}
use Rattle.semver_texts.specs.Versions.{numbers, IdentifierValue, PlainVersion}
use Rattle.semver_texts.proofs.Lists.{by_test}
use Rattle.semver_ranges.specs.declared.range.Compat.{Compat}
use Rattle.semver_ranges.specs.declared.operator.Operator.{Operator}
use Rattle.semver_ranges.specs.RangeTree.{HasParts, Simple, SetTree, Spells, simples}
use Rattle.semver_ranges.specs.RewritingTable.{PlainComparator, PlainSet, fits, rewritten, term_fits_by, up}
use Rattle.semver_ranges.specs.Terms.{of_simple}
use Rattle.semver_ranges.specs.Partials.{filled, fits_u64, pre_release, stated, zero_filled}
use Rattle.semver_ranges.specs.PrintedRanges.{IsPrintableSet, is_printable_version, set_text}
use Rattle.semver_ranges.proofs.AnsweredLaws.{Prints, filled_fits, pre_kept}
use Rattle.semver_ranges.proofs.PrintedLaws.{are_printable, printed_again}
use Rattle.semver_ranges.proofs.SetMeanings.{stated_shape}
use Rattle.semver_ranges.proofs.Tables.{IsTable}
use Rattle.semver_ranges.specs.Sides.{SideValue, below, at, past, above}
use Rattle.semver_ranges.specs.declared.rewriting.Style.TheVariants.{Exact}
use Rattle.semver_ranges.specs.declared.dialect.Dialect.{Dialect}
use Rattle.semver_ranges.specs.declared.dialect.Dialect.TheVariants.{Cargo, Npm}
use Rattle.semver_ranges.specs.CargoGrammar.{SpellsComparators, comparators_of}
use Rattle.semver_ranges.specs.CargoGrammar.{as_read}
use Rattle.tool_ranges.specs.Dialects.{fits_as, rewritten_as}
use Rattle.semver_ranges.specs.Sides.{ends_past, may_rise, sides, term_fits}
use Rattle.semver_ranges.specs.TermComparators.{at_side, lower_comparator, printed, printed_term, upper_comparator}
use Rattle.semver_ranges.proofs.Spots.{Spot}
use Rattle.semver_ranges.proofs.FitCells.{none_stated, raised_fits, term_stated}
use Rattle.semver_ranges.proofs.PrintedTerms.{within_limit}
use Rattle.tool_ranges.proofs.SideComparators.{Raises, Sided, both_sided}
use Rattle.semver_ranges.proofs.Spots.{raised_same}

-- a side of a hyphen range that states nothing is `>=0.0.0`
pub term_table : (d : Dialect) → IsTable (term_fits d) (printed_term Exact d)
term_table d = search rules

-- ---- there is a comparator for each term
some_side : (d : Dialect) (operator : Operator) (s : List ℕ) (pre : Bool) → (is_some (sides d operator s pre).0 || is_some (sides d operator s pre).1) ≡ true
some_side d operator s pre = search rules

some_printed : (first last : Option SideValue) (z : PlainVersion) → (is_some first || is_some last) ≡ true
    → is_empty (printed Exact first last z) ≡ false
some_printed None None z e = cc
some_printed None (Some side) z e = refl
some_printed (Some side) None z e = refl
some_printed (Some side) (Some below) z e = refl
some_printed (Some side) (Some at) z e = refl
some_printed (Some side) (Some past) z e = refl
some_printed (Some side) (Some (above k)) z e = refl

-- ---- it can be printed
module _ (s : List ℕ) (p : List IdentifierValue) (all : list_all fits_u64 s ≡ true) (prints : is_printable_version (filled s p) ≡ true) where
  raised_prints : {k : ℕ} → Spot s k → may_rise (2 ^ 64 - 1) (Some (above k)) (numbers (filled s p)) ≡ true
      → list_all fits_u64 (numbers (up k (numbers (filled s p)))) ≡ true
  raised_prints spot may = ap (λ b. list_all fits_u64 (numbers b)) (raised_same spot p) ∙ raised_fits spot p all may

  lower_prints : (side : Option SideValue) → Raises s p side → may_rise (2 ^ 64 - 1) side (numbers (filled s p)) ≡ true
      → are_printable (at_side (lower_comparator Exact) side (filled s p)) ≡ true
  lower_prints None r may = refl
  lower_prints (Some below) r may = and_from _ _ prints refl
  lower_prints (Some at) r may = and_from _ _ prints refl
  lower_prints (Some past) r may = and_from _ _ prints refl
  lower_prints (Some (above k)) spot may = and_from _ _ (and_from _ _ (raised_prints spot may) refl) refl

  upper_prints : (side : Option SideValue) → Raises s p side → may_rise (2 ^ 64 - 1) side (numbers (filled s p)) ≡ true
      → are_printable (at_side (upper_comparator Exact) side (filled s p)) ≡ true
  upper_prints None r may = refl
  upper_prints (Some below) r may = and_from _ _ (and_from _ _ (and_parts _ _ prints).0 refl) refl
  upper_prints (Some at) r may = and_from _ _ prints refl
  upper_prints (Some past) r may = and_from _ _ prints refl
  upper_prints (Some (above k)) spot may = and_from _ _ (and_from _ _ (raised_prints spot may) refl) refl

  both_print : (first last : Option SideValue) → Raises s p first → Raises s p last
      → may_rise (2 ^ 64 - 1) first (numbers (filled s p)) ≡ true → may_rise (2 ^ 64 - 1) last (numbers (filled s p)) ≡ true
      → are_printable (printed Exact first last (filled s p)) ≡ true
  both_print first last r q may may' = by_test (is_some first && ends_past last)
      (λ y. rw y (and_from _ _ prints refl))
      (λ n. rw (n, list_all-append) (and_from _ _ (lower_prints first r may) (upper_prints last q may')))

module _ (d : Dialect) (sided : (s : Simple) → Sided d s.operator (stated s.partial) (pre_release s.partial)) where
  each : (s : Simple) → HasParts s.partial → term_fits d s ≡ true → are_printable (printed_term Exact d s) ≡ true
  each s h e =
      let all = term_stated d s e in
      let rise = and_parts _ _ (and_parts _ _ e).1 in
      let z = zero_filled s.partial in
      both_print (stated s.partial) (pre_release s.partial) all
      (and_from _ _ (filled_fits (stated_shape s.partial) (pre_release s.partial) all) (pre_kept s.partial h))
      _ _ (sided s).0 (sided s).1 (within_limit d _ z rise.0) (within_limit d _ z rise.1)

  term_prints : Prints (term_fits d) (printed_term Exact d)
  term_prints = record {
    each = each;
    some = λ s. some_printed _ _ (zero_filled s.partial) (some_side d s.operator (stated s.partial) (not (is_empty (zero_filled s.partial).pre)));
  }

pub npm_prints : Prints (term_fits Npm) (printed_term Exact Npm)
npm_prints = term_prints Npm (λ s. (both_sided s.operator (stated_shape s.partial) (pre_release s.partial) (none_stated s)).1)

cargo_prints : Prints (term_fits Cargo) (printed_term Exact Cargo)
cargo_prints = term_prints Cargo (λ s. (both_sided s.operator (stated_shape s.partial) (pre_release s.partial) (none_stated s)).0)

-- ---- requirements

-- one or more comparators that can be printed
abbrev ArePrintable : List PlainComparator → Type 0
ArePrintable cs = (is_empty cs ≡ false) × (are_printable cs ≡ true)

joined : (a b : List PlainComparator) → ArePrintable a → are_printable b ≡ true → ArePrintable (a ++ b)
joined [] b h e = cc h.0
joined (x ∷ a) b h e = grind (arith, common_steps)

all_printable : (ss : List Simple) (t : Text) → SpellsComparators ss t
    → list_all (term_fits_by (λ s. term_fits Cargo (as_read s))) (map of_simple ss) ≡ true
    → ArePrintable (flat_map (λ s. printed_term Exact Cargo (as_read s)) ss)
all_printable [] t h fit = absurd h
all_printable (s ∷ []) t h fit =
    joined (printed_term Exact Cargo (as_read s)) []
    (cargo_prints.some (as_read s), cargo_prints.each (as_read s) h.partial.1 (and_parts _ _ fit).0) refl
all_printable (s ∷ next ∷ others) t (front, back, h, more, text) fit =
    let fits = and_parts _ _ fit in
    joined (printed_term Exact Cargo (as_read s)) _
    (cargo_prints.some (as_read s), cargo_prints.each (as_read s) h.partial.1 fits.0)
    (all_printable (next ∷ others) back more fits.1).1

pub requirement_printable : (tree : SetTree) (t : Text) → SpellsComparators (comparators_of tree) t → fits_as Cargo tree ≡ true
    → IsPrintableSet (rewritten_as Cargo tree)
requirement_printable (simples first others ∷ []) t h fit =
    let print = all_printable (first ∷ others) t h (and_parts _ _ fit).0 in
    grind (arith, common_steps)
requirement_printable _ t h fit = absurd h

-- ---- reading the printed text

pub reads_back : (compat : Compat) (s : PlainSet) → IsPrintableSet s → s.compat ≡ compat
    → (tree : SetTree) × Spells tree (set_text s) × (fits compat tree ≡ true) × (rewritten compat tree ≡ s)
reads_back compat s h mode =
    let found = printed_again [] s h in
    (found.0, found.1, rw (← mode) found.2, rw (← mode) found.3)
