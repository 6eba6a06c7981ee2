-- The versions at which spans of pre-releases begin and end: which versions are at or above them,
-- and that they can be read back.
use Rattle.std.proofs.Common.{◌≡◌, Bool, true, false, not, ◌&&◌, ◌||◌, List, [], ◌∷◌, map, refl, sym, ap, ◌∙◌, arith, Ordering, Less, Equal, Greater}
use Rattle.std.proofs.Common.{is_ge, is_gt}
use Rattle.std.proofs.lemmas.Bool.{and_from, and_parts}
use Rattle.std.specs.List.{list_all}
use Rattle.std.specs.Ordering.{nat_cmp, ordering_then}
use Rattle.semver_texts.specs.Digits.{identifiers_by, plain_by}
use Rattle.semver_texts.specs.Texts.{Text, cut_at_dots, is_empty, is_part}
use Rattle.semver_texts.specs.declared.grammar.Digits.{Digits}
use Rattle.semver_texts.specs.declared.grammar.Digits.TheVariants.{AnySize, Kept}
use Rattle.semver_texts.specs.Versions.{PlainVersion, numbers}
use Rattle.semver_texts.specs.Precedence.{precedence}
use Rattle.semver_ranges.specs.Partials.{fits_u64, kept}
use Rattle.semver_ranges.specs.PrintedRanges.{is_kept}
use Rattle.semver_texts.proofs.Lists.{by_test}
use Rattle.version_sets.specs.declared.release.Release.{Release}
use Rattle.version_sets.specs.Releases.{release_value}
use Rattle.version_sets.specs.Steps.Numbers.{lowest_place, numbers_cmp}
use Rattle.version_sets.specs.Steps.Cuts.{first_numbers}
use Rattle.version_sets.specs.Printable.{is_printable_boundary, prints_by}
use Rattle.version_sets.specs.Steps.EndPlaces.{end_place, kept_end}
use Rattle.version_sets.specs.Steps.Ends.{has_numbers}
use Rattle.version_sets.specs.Steps.SpanViews.{successor}
use Rattle.version_sets.specs.declared.pre_release_end.PreReleaseEnd.{PreReleaseEnd}
use Rattle.version_sets.proofs.NumberLaws.{past, stated_numbers}
use Rattle.version_sets.proofs.DigitLaws.{by_empty, by_zero, prints_plain}
use Rattle.version_sets.proofs.PrintedBoundaries.{zero_prints}

-- `numbers_cmp` compares all three numbers, as `first_numbers 3` does
then_equal : (o : Ordering) → ordering_then o Equal ≡ o
then_equal Less = refl
then_equal Equal = refl
then_equal Greater = refl

pub by_first : (v w : PlainVersion) → numbers_cmp v w ≡ first_numbers 3 v w
by_first v w = ap (λ o. ordering_then (nat_cmp v.major w.major) (ordering_then (nat_cmp v.minor w.minor) o)) (sym (then_equal (nat_cmp v.patch w.patch)))

-- the identifiers that parts are kept as pass `is_kept`
part_kept : (part : Text) → is_part part ≡ true → is_kept (kept part) ≡ true
part_kept part e = grind arith

pub parts_kept : (parts : List Text) → list_all is_part parts ≡ true → list_all is_kept (map kept parts) ≡ true
parts_kept [] e = refl
parts_kept (part ∷ parts) e = grind (arith, part_kept part, parts_kept parts)

-- a pre-release has the numbers of r if and only if it is at or above their lowest pre-release, and
-- its numbers aren't above them
pub among_numbers : (r : Release) (low v : PlainVersion) (above : Bool) → low ≡ lowest_place r → is_empty v.pre ≡ false
    → above ≡ is_gt (numbers_cmp v (release_value r)) → (is_ge (precedence v low) && not above) ≡ has_numbers v r
among_numbers r low v above is e over = stated_numbers r (lowest_place r) low refl is refl v above e over

-- ---- ends at or right after a version with a pre-release
module _ (l : PreReleaseEnd) (d : Digits) (digits : l.digits ≡ d) (some : is_empty (map kept (cut_at_dots l.pre.now)) ≡ false) where
  abbrev beside_end : PlainVersion
  beside_end = record (release_value l.numbers) { pre = map kept (cut_at_dots l.pre.now) }

  place_is : end_place l ≡ record (plain_by d beside_end) { pre = successor (plain_by d beside_end).pre l.successor }
  place_is = ap (λ digits. plain_by digits (kept_end l)) digits
      ∙ ap (λ pre. record (release_value l.numbers) { pre = pre })
      (ap (λ b. identifiers_by d (successor (map kept (cut_at_dots l.pre.now)) (l.successor || b))) some
      ∙ ap (λ b. identifiers_by d (successor (map kept (cut_at_dots l.pre.now)) b)) (or_none l.successor)
      ∙ by_zero d (map kept (cut_at_dots l.pre.now)) l.successor)
    where
      or_none : (b : Bool) → (b || false) ≡ b
      or_none true = refl
      or_none false = refl

  pub end_prints : list_all fits_u64 (numbers (release_value l.numbers)) ≡ true → prints_by d (end_place l) ≡ true
  end_prints fit = ap (prints_by d) place_is
      ∙ zero_prints d (plain_by d beside_end) l.successor
      (prints_plain d beside_end (and_from (list_all fits_u64 (numbers (release_value l.numbers))) _ fit (parts_kept (cut_at_dots l.pre.now) l.parts)))

  pub past_end : l.successor ≡ true → (v : PlainVersion) → is_empty v.pre ≡ false
      → is_ge (precedence v (end_place l)) ≡ is_gt (precedence v (plain_by d beside_end))
  past_end after v e = ap (λ p. is_ge (precedence v p)) (place_is
      ∙ ap (λ b. record (plain_by d beside_end) { pre = successor (plain_by d beside_end).pre b }) after)
      ∙ past true (plain_by d beside_end) v (by_empty d (map kept (cut_at_dots l.pre.now)) ∙ some) e

-- boundaries that can all be read back in one way are printable
pub either_prints : (d : Digits) (vs : List PlainVersion) → list_all (prints_by d) vs ≡ true → list_all is_printable_boundary vs ≡ true
either_prints d [] e = refl
either_prints d (v ∷ vs) e = let both = and_parts (prints_by d v) (list_all (prints_by d) vs) e in
    rw (either d v both.0) (either_prints d vs both.1) where
      either : (d : Digits) (v : PlainVersion) → prints_by d v ≡ true → is_printable_boundary v ≡ true
      either Kept v e = rw e refl
      either AnySize v e = by_test (prints_by Kept v) (λ y. rw y refl) (λ n. rw n e)
