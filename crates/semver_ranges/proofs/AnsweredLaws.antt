-- A tree that spells a text and fits is rewritten to a printable set.
use Rattle.std.proofs.Common.{arith}
use Rattle.std.proofs.Common.{◌≡◌, ℕ, Bool, true, false, not, List, [], ◌∷◌, ◌++◌, map, refl}
use Rattle.std.proofs.Common.{IsTrue, All}
use Rattle.std.proofs.lemmas.Bool.{and_parts, and_from, not_from_false}
use Rattle.std.proofs.lemmas.List.Elements.{All-nil, All-cons}
use Rattle.std.proofs.lemmas.List.Folds.{list_all-append}
use Rattle.std.specs.List.{list_all, flat_map}
use Rattle.semver_texts.specs.declared.grammar.Grammar.{Grammar}
use Rattle.semver_texts.specs.declared.grammar.Grammar.TheVariants.{Crate}
use Rattle.semver_ranges.specs.declared.range.Compat.{Compat}
use Rattle.semver_ranges.specs.declared.operator.Operator.TheVariants.{Bare}
use Rattle.semver_ranges.specs.RangeTree.{PartialTree, Simple, RangeTree, empty, hyphen, simples, SetTree, HasParts, SpellsSimples}
use Rattle.semver_ranges.specs.RangeTree.{SpellsWord, SpellsRange, SpellsPadded, SpellsRangeIn, Spells, Role, after_operator, after_hyphen}
use Rattle.semver_texts.specs.Texts.{is_part}
use Rattle.semver_texts.specs.Texts.{Text, is_empty}
use Rattle.semver_texts.specs.Versions.{numbers, IdentifierValue, PlainVersion}
use Rattle.semver_ranges.specs.Partials.{fits_u64, kept, stated, states_nothing, pre_parts, pre_release, filled, zero_filled}
use Rattle.semver_ranges.specs.Terms.{of_simple, left_side, right_side, terms}
use Rattle.semver_ranges.specs.RewritingTable.{PlainComparator, Cell, from_zero, below_zero, against, below, between, cell, written_cell}
use Rattle.semver_ranges.specs.RewritingTable.{cell_raised, bound_fits, written_simple, written_set, rewritten, fits}
use Rattle.semver_ranges.specs.RewritingTable.{term_fits, simple_fits, term_fits_by, fits_by, range_by, set_by}
use Rattle.semver_ranges.specs.PrintedRanges.{is_kept, is_printable_version, IsPrintableRange, IsPrintableSet}
use Rattle.semver_ranges.proofs.ReadingPieces.{word_parts}
use Rattle.semver_ranges.proofs.Rows.{Shape}
use Rattle.semver_ranges.proofs.PrintedLaws.{are_printable}
use Rattle.semver_ranges.proofs.SetMeanings.{stated_shape}
use Rattle.semver_texts.proofs.Lists.{by_test}

-- the identifier that a part is kept as passes `is_kept`
part_kept : (part : Text) → is_part part ≡ true → is_kept (kept part) ≡ true
part_kept part e = grind arith

parts_kept : (parts : List Text) → list_all is_part parts ≡ true → list_all is_kept (map kept parts) ≡ true
parts_kept [] e = refl
parts_kept (part ∷ parts) e = grind (arith, part_kept part, parts_kept parts)

pre_parts_kept : (p : PartialTree) → HasParts p → list_all is_kept (map kept (pre_parts p)) ≡ true
pre_parts_kept (PartialTree.one a) h = refl
pre_parts_kept (PartialTree.two a b) h = refl
pre_parts_kept (PartialTree.three a b c pre build) h = parts_kept pre h.0

pub pre_kept : (p : PartialTree) → HasParts p → list_all is_kept (pre_release p) ≡ true
pre_kept p h = grind (arith, pre_parts_kept p h)

-- if the stated numbers fit, so do the numbers of the zero-filled version
pub filled_fits : {s : List ℕ} → Shape s → (pre : List IdentifierValue) → list_all fits_u64 s ≡ true
    → list_all fits_u64 (numbers (filled s pre)) ≡ true
filled_fits Shape.none pre e = refl
filled_fits (Shape.one x) pre e = grind arith
filled_fits (Shape.two x y) pre e = grind arith
filled_fits (Shape.three x y w) pre e = e

module _ (bound_pre : List IdentifierValue) (keeps : list_all is_kept bound_pre ≡ true) (mode : Compat) where
  -- the comparators of a cell, and of a term, are printable, and there is at least one
  cell_printable : (c : Cell) (s : List ℕ) (z : PlainVersion) → is_printable_version z ≡ true → bound_fits (cell_raised c s) ≡ true
      → are_printable (written_cell bound_pre c s z) ≡ true
  cell_printable from_zero s z e h = refl
  cell_printable below_zero s z e h = refl
  cell_printable (against op) s z e h = and_from _ _ e refl
  cell_printable (below k) s z e h = and_from _ _ (and_from _ _ h keeps) refl
  cell_printable (between k) s z e h = and_from _ _ e (and_from _ _ (and_from _ _ h keeps) refl)

  cell_some : (c : Cell) (s : List ℕ) (z : PlainVersion) → is_empty (written_cell bound_pre c s z) ≡ false
  cell_some from_zero s z = refl
  cell_some _ s z = refl

  simple_printable : (s : Simple) → HasParts s.partial → term_fits mode (of_simple s) ≡ true
      → are_printable (written_simple bound_pre mode s) ≡ true
  simple_printable s h e =
      let c = cell mode s.operator (stated s.partial) in
      let fit = and_parts _ _ e in
      cell_printable c (stated s.partial) (zero_filled s.partial)
      (and_from _ _ (filled_fits (stated_shape s.partial) (pre_release s.partial) fit.0) (pre_kept s.partial h)) fit.1

-- a table that gives each term at least one comparator, and printable ones if the term fits
pub record Prints (fit : Simple → Bool) (written : Simple → List PlainComparator) : Type 0 where
  pub each : (s : Simple) → HasParts s.partial → fit s ≡ true → are_printable (written s) ≡ true
  pub some : (s : Simple) → is_empty (written s) ≡ false

-- the table of `RewritingTable` is one if the identifiers of `bound_pre` pass `is_kept`
pub port_prints : (bound_pre : List IdentifierValue) → list_all is_kept bound_pre ≡ true → (mode : Compat)
    → Prints (simple_fits mode) (written_simple bound_pre mode)
port_prints bound_pre keeps mode = record {
  each = simple_printable bound_pre keeps mode;
  some = λ s. cell_some bound_pre keeps mode _ (stated s.partial) (zero_filled s.partial);
}

-- the parts of each term are one or more letters, digits or hyphens
HaveParts : List Simple → Type 0
HaveParts [] = Unit {0}
HaveParts (s ∷ ss) = HasParts s.partial × HaveParts ss

module _ (d : Grammar) {fit : Simple → Bool} {written : Simple → List PlainComparator} (prints : Prints fit written) (mode : Compat) where
  simples_printable : (ss : List Simple) → HaveParts ss → list_all (term_fits_by fit) (map of_simple ss) ≡ true
      → are_printable (flat_map written ss) ≡ true
  unfolding HaveParts
  simples_printable [] h e = refl
  simples_printable (s ∷ ss) h e =
      let fit = and_parts _ _ e in
      rw list_all-append (and_from _ _ (prints.each s h.0 fit.0) (simples_printable ss h.1 fit.1))

  simples_some : (s : Simple) (ss : List Simple) → is_empty (flat_map written (s ∷ ss)) ≡ false
  simples_some s ss =
      go (written s) (prints.some s) where
        go : (cs : List PlainComparator) → is_empty cs ≡ false → is_empty (cs ++ flat_map written ss) ≡ false
        go [] e = cc
        go (c ∷ cs) e = refl

  word_has_parts : (role : Role) (p : PartialTree) (t : Text) → SpellsWord d role p t → HasParts p
  word_has_parts role p t h = (word_parts d role p t h).spelled.1

  simples_parts : (first : Simple) (others : List Simple) (t : Text) → SpellsSimples d first others t → HaveParts (first ∷ others)
  unfolding HaveParts
  simples_parts first [] t (head, tail, f, p, eq) = (word_has_parts (after_operator first.operator) first.partial tail p, tt)
  simples_parts first (next ∷ others) t (front, gap, back, (head, tail, f, p, eq), g, more, eq') =
      (word_has_parts (after_operator first.operator) first.partial tail p, simples_parts next others back more)

  -- there is at least one comparator, and each is printable
  abbrev ArePrintable : List PlainComparator → Type 0
  ArePrintable cs = IsTrue (not (is_empty cs)) × IsTrue (are_printable cs)

  made : (s : Simple) (ss : List Simple) → HaveParts (s ∷ ss) → list_all (term_fits_by fit) (map of_simple (s ∷ ss)) ≡ true
      → ArePrintable (flat_map written (s ∷ ss))
  made s ss h e = (not_from_false _ (simples_some s ss), simples_printable (s ∷ ss) h e)

  range_printable : (r : RangeTree) (t : Text) → SpellsRange d r t → list_all (term_fits_by fit) (terms r) ≡ true
      → ArePrintable (range_by written r)
  unfolding HaveParts
  range_printable empty t h e = (refl, refl)
  range_printable (simples first others) t h e = made first others (simples_parts first others t h) e
  range_printable (hyphen left right) t (l, gap, gap', r, h, g, g', h', eq) e =
      let here = word_has_parts (after_operator Bare) left l h in
      let there = word_has_parts after_hyphen right r h' in
      by_test (states_nothing left)
      (λ a. by_test (states_nothing right)
      (λ b. rw (a, b) (refl, refl))
      (λ b. rw (a, b) (made (right_side right) [] (there, tt) (rw (a, b) at e))))
      (λ a. by_test (states_nothing right)
      (λ b. rw (a, b) (made (left_side left) [] (here, tt) (rw (a, b) at e)))
      (λ b. rw (a, b) (made (left_side left) (right_side right ∷ []) (here, (there, tt)) (rw (a, b) at e))))

  padded_printable : (r : RangeTree) (t : Text) → SpellsPadded d r t → list_all (term_fits_by fit) (terms r) ≡ true
      → IsPrintableRange mode (record { comparators = range_by written r; compat = mode })
  padded_printable r t (before, inner, after, b, h, a, eq) e = let p = range_printable r inner h e in (p.0, refl, p.1)

  ranges_printable : (tree : SetTree) (t : Text) → SpellsRangeIn d tree t → fits_by fit tree ≡ true
      → All (IsPrintableRange mode) (set_by written mode tree).ranges
  ranges_printable [] t h e = absurd h
  ranges_printable (r ∷ []) t h e =
      All-cons (IsPrintableRange mode) _ []
      (padded_printable r t h (and_parts _ _ e).0) (All-nil (IsPrintableRange mode))
  ranges_printable (r ∷ next ∷ others) t (head, tail, h, more, eq) e =
      let parts = and_parts _ _ e in
      All-cons (IsPrintableRange mode) (record { comparators = range_by written r; compat = mode })
      (set_by written mode (next ∷ others)).ranges
      (padded_printable r head h parts.0) (ranges_printable (next ∷ others) tail more parts.1)

  pub set_printable : (tree : SetTree) (t : Text) → SpellsRangeIn d tree t → fits_by fit tree ≡ true
      → IsPrintableSet (set_by written mode tree)
  set_printable tree t h e = (some tree h, ranges_printable tree t h e) where
    some : (tree : SetTree) → SpellsRangeIn d tree t → not (is_empty (set_by written mode tree).ranges) ≡ true
    some [] h = absurd h
    some (r ∷ rs) h = refl

pub written_printable : (bound_pre : List IdentifierValue) → list_all is_kept bound_pre ≡ true → (mode : Compat) (tree : SetTree) (t : Text)
    → Spells tree t → fits mode tree ≡ true → IsPrintableSet (written_set bound_pre mode tree)
written_printable bound_pre keeps mode tree t h e =
    set_printable Crate (port_prints bound_pre keeps mode) mode tree t h e

pub rewritten_printable : (mode : Compat) (tree : SetTree) (t : Text) → Spells tree t → fits mode tree ≡ true
    → IsPrintableSet (rewritten mode tree)
rewritten_printable mode tree t h e = written_printable [] refl mode tree t h e
