-- If the numbers of a term that was read fit, its printed comparators are those of the term of the
-- tree.
use Rattle.std.proofs.Common.{◌≡◌, ◌++◌, ◌-◌, ◌^◌, true, false, not, ◌&&◌, List, [], ◌∷◌, map, Option, nat_le, refl, sym, ap, ◌∙◌}
use Rattle.std.proofs.lemmas.Bool.{and_parts}
use Rattle.std.proofs.lemmas.List.{map-append}
use Rattle.std.specs.List.{list_all}
use Rattle.std.specs.Prelude.{is_some}
use Rattle.semver_texts.specs.Texts.{is_empty}
use Rattle.semver_texts.specs.Versions.{numbers, PlainVersion}
use Rattle.semver_ranges.specs.declared.grammar.Simple as read
use Rattle.semver_ranges.specs.declared.range.Comparator.{Comparator}
use Rattle.semver_ranges.specs.declared.range.Op.TheVariants.{Eq}
use Rattle.semver_ranges.specs.RangeTree.{Simple}
use Rattle.semver_ranges.specs.RangeViews.{comparator_of}
use Rattle.semver_ranges.specs.RewritingTable.{PlainComparator, comparator}
use Rattle.semver_ranges.specs.Partials.{stated, zero_filled}
use Rattle.semver_ranges.specs.Steps.CursorViews.{IsSimpleOf}
use Rattle.semver_ranges.specs.Steps.PartialViews.{stated_of, version_of}
use Rattle.semver_ranges.specs.Sides.{SideValue}
use Rattle.semver_ranges.specs.declared.rewriting.Style.{Style}
use Rattle.semver_ranges.specs.declared.dialect.Dialect.{Dialect}
use Rattle.semver_ranges.specs.declared.dialect.Dialect.TheVariants.{Cargo, Npm, CrateCargo, CrateNpm}
use Rattle.semver_ranges.specs.Sides.{term_fits}
use Rattle.semver_ranges.specs.TermComparators.{at_side, lower_comparator, printed, printed_term, upper_comparator}
use Rattle.semver_ranges.specs.DialectTable.{limit}
use Rattle.semver_ranges.specs.Sides.{ends_past, may_rise, sides}
use Rattle.semver_ranges.proofs.FitCells.{read_fits, term_stated}
use Rattle.semver_ranges.proofs.FitCells.{rises_too}

pub within_limit : (d : Dialect) (o : Option SideValue) (v : PlainVersion) → may_rise (limit d) o (numbers v) ≡ true
    → may_rise (2 ^ 64 - 1) o (numbers v) ≡ true
within_limit Npm o v e = rises_too o v e
within_limit Cargo o v e = e
within_limit CrateCargo o v e = e
within_limit CrateNpm o v e = e

module _ (d : Dialect) (s : Simple) (simple : read.Simple) (is : IsSimpleOf s simple) (fit : term_fits d s ≡ true) where
  abbrev pub of_read : Option SideValue × Option SideValue
  of_read = sides d simple.operator (stated_of simple.partial) (not (is_empty (version_of simple.partial).pre))

  same : (stated_of simple.partial ≡ stated s.partial) × (version_of simple.partial ≡ zero_filled s.partial)
  same = is.1.1 (sym is.1.0 ∙ term_stated d s fit)

  pub printed_so : (style : Style) (lower upper : Option SideValue) → lower ≡ of_read.0 → upper ≡ of_read.1
      → printed style lower upper (version_of simple.partial) ≡ printed_term style d s
  printed_so style lower upper e f = (λ i. printed style (e i) (f i) (version_of simple.partial))
      ∙ (λ i. printed style (sides d (is.0 i) (same.0 i) (not (is_empty (same.1 i).pre))).0
      (sides d (is.0 i) (same.0 i) (not (is_empty (same.1 i).pre))).1 (same.1 i))

  both_rise : (may_rise (limit d) of_read.0 (numbers (version_of simple.partial))
      && may_rise (limit d) of_read.1 (numbers (version_of simple.partial))) ≡ true
  both_rise = (and_parts (list_all (λ n. nat_le n (limit d)) (stated_of simple.partial)) _
      (and_parts simple.partial.fits _ (read_fits s simple is d ∙ fit)).1).1

  pub lower_rises : (lower : Option SideValue) → lower ≡ of_read.0 → may_rise (2 ^ 64 - 1) lower (numbers (version_of simple.partial)) ≡ true
  lower_rises lower e = ap (λ o. may_rise (2 ^ 64 - 1) o (numbers (version_of simple.partial))) e
      ∙ within_limit d of_read.0 (version_of simple.partial) (and_parts _ _ both_rise).0

  pub upper_rises : (upper : Option SideValue) → upper ≡ of_read.1 → may_rise (2 ^ 64 - 1) upper (numbers (version_of simple.partial)) ≡ true
  upper_rises upper e = ap (λ o. may_rise (2 ^ 64 - 1) o (numbers (version_of simple.partial))) e
      ∙ within_limit d of_read.1 (version_of simple.partial) (and_parts _ _ both_rise).1

-- one more comparator was pushed
pub pushed : (old new : List Comparator) (c : Comparator) (x : PlainComparator) → new ≡ old ++ c ∷ [] → comparator_of c ≡ x
    → map comparator_of new ≡ map comparator_of old ++ x ∷ []
pushed old new c x e f = ap (map comparator_of) e ∙ map-append comparator_of old (c ∷ []) ∙ ap (λ y. map comparator_of old ++ y ∷ []) f

-- the comparators of two sides: a single `=`, or those of the lower and those of the upper side
pub both_sides : (style : Style) (lower upper : Option SideValue) (z : PlainVersion) → (is_some lower && ends_past upper) ≡ true
    → (comparator Eq z ∷ []) ≡ printed style lower upper z
both_sides style lower upper z e = rw e refl

pub apart_sides : (style : Style) (lower upper : Option SideValue) (z : PlainVersion) → (is_some lower && ends_past upper) ≡ false
    → (at_side (lower_comparator style) lower z ++ at_side (upper_comparator style) upper z) ≡ printed style lower upper z
apart_sides style lower upper z e = rw e refl
