-- The text of a printable set is spelled by a tree that is rewritten to that set.
use Rattle.std.proofs.Common.{◌≡◌, ℕ, zero, suc, ◌<◌, Bool, true, false, not, List, [], ◌∷◌, ◌++◌}
use Rattle.std.proofs.Common.{map, codes, refl, sym, None, All, append_assoc, append-nil, decimal, get_or, arith}
use Rattle.std.proofs.lemmas.Bool.{and_from, ltb-true}
use Rattle.std.proofs.lemmas.Bool.Decides.{nat_tests}
use Rattle.std.proofs.lemmas.List.Elements.{All-head, All-tail}
use Rattle.std.proofs.lemmas.Fmt.{digits_decimal, digits_value-decimal, first_decimal, decimal_digit}
use Rattle.std.proofs.lemmas.Str.Parse.{IsNumeralModel, numerals_by_value, tells_all_ascii_digits}
use Rattle.std.specs.List.{list_all, flat_map}
use Rattle.std.specs.Str.{all_ascii_digits}
use Rattle.std.specs.Str.Parse.{digits_value}
use Rattle.std.specs.Char.{is_ascii_digit}
use Rattle.semver_texts.specs.declared.grammar.Grammar.TheVariants.{Crate}
use Rattle.semver_ranges.specs.declared.range.Op.{Op}
use Rattle.semver_ranges.specs.declared.range.Op.TheVariants.{Lt, Lte, Gt, Gte, Eq}
use Rattle.semver_ranges.specs.declared.range.Compat.{Compat}
use Rattle.semver_ranges.specs.declared.operator.Operator.{Operator}
use Rattle.semver_ranges.specs.declared.operator.Operator.TheVariants.{Equal, Less, LessOrEqual, Greater, GreaterOrEqual}
use Rattle.semver_ranges.specs.RangeTree.{PartialTree, three, Simple, RangeTree, empty, simples, SetTree, is_blank, is_wildcard}
use Rattle.semver_ranges.specs.RangeTree.{SpellsPartial, SpellsOperator, SpellsSimple, SpellsSimples, SpellsRange, Spells}
use Rattle.semver_texts.specs.Texts.{is_number, is_part}
use Rattle.semver_texts.specs.Texts.{is_part_byte, Text, is_empty, joined}
use Rattle.semver_texts.specs.Versions.{numbers, IdentifierValue, numeric, alphanumeric, PlainVersion}
use Rattle.semver_ranges.specs.Partials.{fits_u64, kept, stated}
use Rattle.semver_ranges.specs.RewritingTable.{PlainComparator, PlainRange, PlainSet, written_cell, written_simple, written_range}
use Rattle.semver_ranges.specs.RewritingTable.{written_set, cell, cell_raised, fits, term_fits, comparator}
use Rattle.semver_ranges.specs.Terms.{of_simple, terms}
use Rattle.semver_ranges.proofs.Tests.{list_all-weaker}
use Rattle.semver_ranges.specs.PrintedRanges.{op_text, comparator_text, range_text, set_text, is_kept, is_printable_version}
use Rattle.semver_ranges.specs.PrintedRanges.{IsPrintableRange, IsPrintableSet}
use Rattle.semver_texts.specs.PrintedText.{identifier_text, plain_text}

-- std's lemmas about decimals apply to `all_ascii_digits` and `digits_value`
own : IsNumeralModel (λ ds. all_ascii_digits ds ≡ true) (digits_value 10)
own = numerals_by_value _ tells_all_ascii_digits

pub decimal_digits : (n : ℕ) → fits_u64 n ≡ true → all_ascii_digits (decimal n) ≡ true
decimal_digits n e = digits_decimal own n (ltb-true _ _ e)

decimal_value : (n : ℕ) → fits_u64 n ≡ true → digits_value 10 (decimal n) ≡ n
decimal_value n e = digits_value-decimal own n (ltb-true _ _ e)

-- digits that don't begin with 0 are a number
no_zero_first : (t : Text) → all_ascii_digits t ≡ true → 48 < get_or t 0 0 → is_number t ≡ true
no_zero_first [] e h = absurd (omega arith)
no_zero_first (c ∷ t) e h = grind (arith, nat_tests)

pub decimal_number : (n : ℕ) → fits_u64 n ≡ true → is_number (decimal n) ≡ true
decimal_number zero e = rw (decimal_digit 0 (omega arith))
decimal_number (suc n) e =
    no_zero_first (decimal (suc n)) (decimal_digits (suc n) e) (first_decimal (suc n) (omega arith) (ltb-true _ _ e))

pub digits_no_wildcard : (t : Text) → all_ascii_digits t ≡ true → is_wildcard t ≡ false
digits_no_wildcard [] e = refl
digits_no_wildcard (b ∷ []) e = grind (arith, nat_tests)
digits_no_wildcard (b ∷ c ∷ t) e = refl

no_wildcard : (n : ℕ) → fits_u64 n ≡ true → is_wildcard (decimal n) ≡ false
no_wildcard n e = digits_no_wildcard (decimal n) (decimal_digits n e)

digit_part_bytes : (t : Text) → all_ascii_digits t ≡ true → list_all is_part_byte t ≡ true
digit_part_bytes = list_all-weaker is_ascii_digit is_part_byte (λ b digit. rw digit)

number_part : (t : Text) → is_number t ≡ true → is_part t ≡ true
number_part [] e = cc
number_part (b ∷ t) e = digit_part_bytes (b ∷ t) (grind arith)

-- the text of an identifier that passes `is_kept` is a part, and is kept as that identifier
identifier_part : (i : IdentifierValue) → is_kept i ≡ true → is_part (identifier_text i) ≡ true
identifier_part (numeric n) e = rw e (number_part (decimal n) (decimal_number n e))
identifier_part (alphanumeric t) e = grind arith

identifier_kept : (i : IdentifierValue) → is_kept i ≡ true → kept (identifier_text i) ≡ i
identifier_kept (numeric n) e = rw e (rw (decimal_digits n e, decimal_value n e, e))
identifier_kept (alphanumeric t) e = grind arith

identifiers_parts : (is : List IdentifierValue) → list_all is_kept is ≡ true → list_all is_part (map identifier_text is) ≡ true
identifiers_parts [] e = refl
identifiers_parts (i ∷ is) e = grind (arith, identifier_part i, identifiers_parts is)

identifiers_kept : (is : List IdentifierValue) → list_all is_kept is ≡ true → map kept (map identifier_text is) ≡ is
identifiers_kept [] e = refl
identifiers_kept (i ∷ is) e = grind (arith, identifier_kept i, identifiers_kept is)

-- the partial version with the numbers and the pre-release of a version
abbrev version_tree : PlainVersion → PartialTree
version_tree v = three (decimal v.major) (decimal v.minor) (decimal v.patch) (map identifier_text v.pre) []

-- the term with the operator and the version of a comparator
abbrev operator_of : Op → Operator
operator_of Lt = Less
operator_of Lte = LessOrEqual
operator_of Gt = Greater
operator_of Gte = GreaterOrEqual
operator_of Eq = Equal

abbrev simple_of : PlainComparator → Simple
simple_of c = record { operator = operator_of c.op; partial = version_tree c.version }

operator_spells : (op : Op) → SpellsOperator Crate (operator_of op) (op_text op)
operator_spells Lt = ([], refl, refl)
operator_spells _ = ([], refl, refl)

-- whether the versions of all comparators are printable
abbrev pub are_printable : List PlainComparator → Bool
are_printable cs = list_all (λ c. is_printable_version c.version) cs

-- the syntax tree of a range of comparators; below, that of a set
abbrev range_of : List PlainComparator → RangeTree
range_of [] = empty
range_of (c ∷ cs) = simples (simple_of c) (map simple_of cs)

abbrev tree_of : List PlainRange → SetTree
tree_of ranges = map (λ r. range_of r.comparators) ranges

module _ (v : PlainVersion) (h : is_printable_version v ≡ true) where
  stated_numbers : stated (version_tree v) ≡ numbers v
  stated_numbers =
      let major : fits_u64 v.major ≡ true = grind arith in
      let minor : fits_u64 v.minor ≡ true = grind arith in
      let patch : fits_u64 v.patch ≡ true = grind arith in simp (no_wildcard, decimal_value)

  version_spells : SpellsPartial (version_tree v) (plain_text v)
  version_spells = (
    grind (arith, decimal_number v.major, decimal_number v.minor, decimal_number v.patch),
    (identifiers_parts v.pre (grind arith), refl),
    rw append-nil,
  )

comparator_spells : (c : PlainComparator) → is_printable_version c.version ≡ true → SpellsSimple Crate (simple_of c) (comparator_text c)
comparator_spells c h = (op_text c.op, plain_text c.version, operator_spells c.op, version_spells c.version h, refl)

simples_spell : (c : PlainComparator) (cs : List PlainComparator) → are_printable (c ∷ cs) ≡ true
    → SpellsSimples Crate (simple_of c) (map simple_of cs) (joined (codes " ") (map comparator_text (c ∷ cs)))
simples_spell c [] e = comparator_spells c (grind arith)
simples_spell c (next ∷ cs) e =
    (comparator_text c, codes " ", _, comparator_spells c (grind arith), (refl, refl), simples_spell next cs (grind arith), refl)

module _ (bound_pre : List IdentifierValue) (mode : Compat) where
  -- a term with three numbers and an operator of comparators has no raised bound, so its comparator
  -- doesn't depend on `bound_pre`
  of_three : (op : Op) (v : PlainVersion) → written_cell bound_pre (cell mode (operator_of op) (numbers v)) (numbers v) v ≡ comparator op v ∷ []
  of_three Lt v = refl
  of_three _ v = refl

  comparator_again : (c : PlainComparator) → is_printable_version c.version ≡ true → written_simple bound_pre mode (simple_of c) ≡ c ∷ []
  comparator_again c h = rw (stated_numbers c.version h, identifiers_kept c.version.pre (grind arith)) (of_three c.op c.version)

  no_bound : (op : Op) (v : PlainVersion) → cell_raised (cell mode (operator_of op) (numbers v)) (numbers v) ≡ None
  no_bound Lt v = refl
  no_bound _ v = refl

  comparator_fits : (c : PlainComparator) → is_printable_version c.version ≡ true → term_fits mode (of_simple (simple_of c)) ≡ true
  comparator_fits c h = rw (stated_numbers c.version h, no_bound c.op c.version) (grind arith)

  comparators_again : (cs : List PlainComparator) → are_printable cs ≡ true
      → flat_map (written_simple bound_pre mode) (map simple_of cs) ≡ cs
  comparators_again [] e = refl
  comparators_again (c ∷ cs) e = rw (comparator_again c (grind arith), comparators_again cs (grind arith))

  comparators_fit : (cs : List PlainComparator) → are_printable cs ≡ true
      → list_all (term_fits mode) (map of_simple (map simple_of cs)) ≡ true
  comparators_fit [] e = refl
  comparators_fit (c ∷ cs) e = grind (arith, comparator_fits c, comparators_fit cs)

  -- a tree spells the text, is rewritten to the given comparators or ranges, and fits
  record Again (spells : Type 0) (again : Type 0) (fitting : Bool) : Type 0 where
    spelled : spells
    same : again
    fit : fitting ≡ true

  abbrev RangeAgain : List PlainComparator → Type 0
  RangeAgain cs = Again (SpellsRange Crate (range_of cs) (joined (codes " ") (map comparator_text cs)))
      (written_range bound_pre mode (range_of cs) ≡ cs) (list_all (term_fits mode) (terms (range_of cs)))

  range_again : (cs : List PlainComparator) → not (is_empty cs) ≡ true → are_printable cs ≡ true → RangeAgain cs
  range_again [] some e = cc
  range_again (c ∷ cs) some e =
      record { spelled = simples_spell c cs e; same = comparators_again _ e; fit = comparators_fit (c ∷ cs) e }

  set_again : (before : Text) (r : PlainRange) (rs : List PlainRange) → list_all (is_blank Crate) before ≡ true
      → All (IsPrintableRange mode) (r ∷ rs)
      → Again (Spells (tree_of (r ∷ rs)) (before ++ joined (codes " || ") (map range_text (r ∷ rs))))
      ((written_set bound_pre mode (tree_of (r ∷ rs))).ranges ≡ r ∷ rs) (fits mode (tree_of (r ∷ rs)))
  set_again before r [] b h =
      let p = All-head (IsPrintableRange mode) r [] h in
      let here = range_again r.comparators p.0 p.2 in record {
        spelled = (before, range_text r, [], b, here.spelled, refl, rw append-nil);
        same = λ i. record { comparators = here.same i; compat = sym p.1 i } ∷ [];
        fit = and_from _ _ here.fit refl;
      }
  set_again before r (next ∷ rs) b h =
      let p = All-head (IsPrintableRange mode) r (next ∷ rs) h in
      let here = range_again r.comparators p.0 p.2 in
      let more = set_again (codes " ") next rs refl (All-tail (IsPrintableRange mode) r (next ∷ rs) h) in record {
        spelled = (_, _, (before, range_text r, codes " ", b, here.spelled, refl, refl), more.spelled, simp append_assoc);
        same = λ i. record { comparators = here.same i; compat = sym p.1 i } ∷ more.same i;
        fit = and_from _ _ here.fit more.fit;
      }

-- the text of a printable set is spelled by a tree that fits, and is rewritten to that set with any
-- pre-release for raised bounds
pub printed_again : (bound_pre : List IdentifierValue) (s : PlainSet) → IsPrintableSet s
    → (tree : SetTree) × Spells tree (set_text s) × (fits s.compat tree ≡ true) × (written_set bound_pre s.compat tree ≡ s)
printed_again bound_pre s h = go s.ranges h.0 h.1 where
  go : (rs : List PlainRange) → not (is_empty rs) ≡ true → All (IsPrintableRange s.compat) rs
      → (tree : SetTree) × Spells tree (joined (codes " || ") (map range_text rs)) × (fits s.compat tree ≡ true)
      × (written_set bound_pre s.compat tree ≡ record { ranges = rs; compat = s.compat })
  go [] some h = cc
  go (r ∷ rs) some h =
      let again = set_again bound_pre s.compat [] r rs refl h in
      (tree_of (r ∷ rs), again.spelled, again.fit, λ i. record { ranges = again.same i; compat = s.compat })
