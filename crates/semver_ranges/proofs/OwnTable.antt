-- In the crate's own dialects, the comparators of the sides of a term are those of the crate's table.
use Rattle.std.proofs.Common.{◌≡◌, ℕ, not, ◌==◌, false, List, [], ◌∷◌, length, map, refl, sym, ap, subst}
use Rattle.semver_texts.specs.Texts.{Text, is_empty}
use Rattle.semver_texts.specs.Versions.{numbers, IdentifierValue}
use Rattle.semver_texts.specs.declared.grammar.Grammar.TheVariants.{Crate}
use Rattle.semver_ranges.specs.declared.dialect.Dialect.TheVariants.{CrateCargo, CrateNpm}
use Rattle.semver_ranges.specs.declared.operator.Operator.{Operator}
use Rattle.semver_ranges.specs.declared.operator.Operator.TheVariants.{Bare, Less, LessOrEqual, Greater, GreaterOrEqual, Tilde}
use Rattle.semver_ranges.specs.declared.operator.Operator.TheVariants.{Caret, Hyphen}
use Rattle.semver_ranges.specs.declared.range.Compat.{Compat}
use Rattle.semver_ranges.specs.declared.range.Compat.TheVariants as mode
use Rattle.semver_ranges.specs.declared.range.Op.TheVariants.{Gte, Lt}
use Rattle.semver_ranges.specs.declared.range_set.RangeError.{RangeError}
use Rattle.semver_ranges.specs.declared.range_set.RangeSet.{RangeSet}
use Rattle.semver_ranges.specs.declared.rewriting.Style.{Style}
use Rattle.std.specs.Prelude.{Result}
use Rattle.semver_ranges.specs.DialectTable.{grammar_of, mode_of, own_dialect}
use Rattle.semver_ranges.specs.Partials.{filled, pre_release}
use Rattle.semver_ranges.specs.RangeTree.{Simple}
use Rattle.semver_ranges.specs.RewritingTable.{cell, comparator, simple_fits, up_with, with_pre_release, written_cell, written_set}
use Rattle.semver_ranges.specs.RewritingTable.{written_simple}
use Rattle.semver_ranges.specs.Sides.{sides, term_fits}
use Rattle.semver_ranges.specs.TermComparators.{pre_of, printed, printed_term}
use Rattle.semver_ranges.specs.Steps.Answers.{IsAnswer, IsAnswerBy}
use Rattle.semver_ranges.specs.Steps.RangeEvents.{events}
use Rattle.semver_ranges.proofs.EventLists.{range_made}
use Rattle.semver_ranges.proofs.EventSteps.{begin_left}
use Rattle.semver_ranges.proofs.EventSums.{answered_by}
use Rattle.semver_ranges.proofs.FitCells.{none_stated, own_fits}
use Rattle.semver_ranges.proofs.Rows.{Shape}
use Rattle.semver_ranges.proofs.SetMeanings.{stated_shape}
use Rattle.semver_ranges.proofs.Spots.{Spot, leading_of_two, leading_of_three, raised_same}
use Rattle.semver_ranges.proofs.Tables.{port_table}

module _ (style : Style) where
  -- the comparators of a cell
  abbrev Own : Operator → List ℕ → List IdentifierValue → Type 0
  Own operator s p =
      (printed style (sides CrateCargo operator s (not (is_empty p))).0 (sides CrateCargo operator s (not (is_empty p))).1 (filled s p)
      ≡ written_cell (pre_of style) (cell mode.Cargo operator s) s (filled s p))
      × (printed style (sides CrateNpm operator s (not (is_empty p))).0 (sides CrateNpm operator s (not (is_empty p))).1 (filled s p)
      ≡ written_cell (pre_of style) (cell mode.Npm operator s) s (filled s p))

  below_it : {s : List ℕ} {k : ℕ} → Spot s k → (p : List IdentifierValue)
      → (comparator Lt (up_with (pre_of style) k (numbers (filled s p))) ∷ []) ≡ (comparator Lt (up_with (pre_of style) k s) ∷ [])
  below_it spot p = ap (λ bound. comparator Lt (with_pre_release (pre_of style) bound) ∷ []) (raised_same spot p)

  up_to_it : {s : List ℕ} {k : ℕ} → Spot s k → (p : List IdentifierValue)
      → (comparator Gte (filled s p) ∷ comparator Lt (up_with (pre_of style) k (numbers (filled s p))) ∷ [])
      ≡ (comparator Gte (filled s p) ∷ comparator Lt (up_with (pre_of style) k s) ∷ [])
  up_to_it {s = s} spot p = ap (λ cs. comparator Gte (filled s p) ∷ cs) (below_it spot p)

  own_none : (operator : Operator) → Own operator [] []
  own_none Less = (refl, refl)
  own_none Greater = (refl, refl)
  own_none _ = (refl, refl)

  own_one : (operator : Operator) (x : ℕ) → Own operator (x ∷ []) []
  own_one Less x = (refl, refl)
  own_one LessOrEqual x = (below_it (Spot.first_of_one x) [], below_it (Spot.first_of_one x) [])
  own_one Greater x = (refl, refl)
  own_one GreaterOrEqual x = (refl, refl)
  own_one Hyphen x = (refl, refl)
  own_one _ x = (up_to_it (Spot.first_of_one x) [], up_to_it (Spot.first_of_one x) [])

  own_two : (operator : Operator) (x y : ℕ) → Own operator (x ∷ y ∷ []) []
  own_two Less x y = (refl, refl)
  own_two LessOrEqual x y = (below_it (Spot.second_of_two x y) [], below_it (Spot.second_of_two x y) [])
  own_two Greater x y = (refl, refl)
  own_two GreaterOrEqual x y = (refl, refl)
  own_two Hyphen x y = (refl, refl)
  own_two Caret x y = (up_to_it (leading_of_two x y) [], up_to_it (leading_of_two x y) [])
  own_two _ x y = (up_to_it (Spot.second_of_two x y) [], up_to_it (Spot.second_of_two x y) [])

  own_three : (operator : Operator) (x y w : ℕ) (p : List IdentifierValue) → Own operator (x ∷ y ∷ w ∷ []) p
  own_three Tilde x y w p = (up_to_it (Spot.second_of_three x y w) p, up_to_it (Spot.second_of_three x y w) p)
  own_three Caret x y w p = (up_to_it (leading_of_three x y w) p, up_to_it (leading_of_three x y w) p)
  own_three Bare x y w p = (up_to_it (leading_of_three x y w) p, refl)
  own_three _ x y w p = (refl, refl)

  own_cell : (operator : Operator) {s : List ℕ} → Shape s → (p : List IdentifierValue) → ((length s == 3) ≡ false → p ≡ []) → Own operator s p
  own_cell operator Shape.none p none = rw (none refl) (own_none operator)
  own_cell operator (Shape.one x) p none = rw (none refl) (own_one operator x)
  own_cell operator (Shape.two x y) p none = rw (none refl) (own_two operator x y)
  own_cell operator (Shape.three x y w) p none = own_three operator x y w p

  own_printed : (mode : Compat) (s : Simple) → printed_term style (own_dialect mode) s ≡ written_simple (pre_of style) mode s
  own_printed mode.Cargo s = (own_cell s.operator (stated_shape s.partial) (pre_release s.partial) (none_stated s)).0
  own_printed mode.Npm s = (own_cell s.operator (stated_shape s.partial) (pre_release s.partial) (none_stated s)).1

  own_fit : (mode : Compat) (s : Simple) → term_fits (own_dialect mode) s ≡ simple_fits mode s
  own_fit mode.Cargo s = (own_fits s).0
  own_fit mode.Npm s = (own_fits s).1

  -- a result that is possible by the sides is possible by the crate's table
  by_table : (mode : Compat) (t : Text) (r : Result RangeSet RangeError)
      → IsAnswerBy (events Crate t) (term_fits (own_dialect mode)) (printed_term style (own_dialect mode)) mode r → IsAnswer (pre_of style) t mode r
  by_table mode t r h =
      let pre = pre_of style in
      answered_by (written_simple pre mode) mode (port_table pre mode) (written_set pre mode)
      (λ tree i. record { ranges = map (λ r. range_made (port_table pre mode) mode r i) tree; compat = mode })
      Crate t _ r refl
      (subst (λ o. IsAnswerBy o (simple_fits mode) (written_simple pre mode) mode r) (sym (begin_left Crate t _ refl))
      (subst (λ fit. IsAnswerBy (events Crate t) fit (written_simple pre mode) mode r) (λ i s. own_fit mode s i)
      (subst (λ written. IsAnswerBy (events Crate t) (term_fits (own_dialect mode)) written mode r) (λ i s. own_printed mode s i) h)))

  pub answered : (mode : Compat) (t : Text) (r : Result RangeSet RangeError)
      → IsAnswerBy (events (grammar_of (own_dialect mode)) t) (term_fits (own_dialect mode)) (printed_term style (own_dialect mode))
      (mode_of (own_dialect mode)) r → IsAnswer (pre_of style) t mode r
  answered mode.Cargo t r h = by_table mode.Cargo t r h
  answered mode.Npm t r h = by_table mode.Npm t r h
