-- The clauses of `RangeSet::parse` and `RangeSet::parse_exact`, from `IsAnswer`, which states their
-- results in terms of the reader.
use Rattle.std.proofs.Common.{List, ◌≡◌, ◌⊎◌, true, [], refl, sym, ap, ◌∙◌, subst, inl, inr, IsTrue, Result, Ok, Err, Some, None}
use Rattle.std.proofs.lemmas.Bool.{both_ways}
use Rattle.std.specs.Prelude.{IfOk}
use Rattle.std.specs.List.{list_all}
use Rattle.std.specs.Result.{IsOkAnd}
use Rattle.semver_texts.specs.declared.grammar.Grammar.TheVariants.{Crate}
use Rattle.semver_ranges.specs.declared.range.Compat.{Compat}
use Rattle.semver_ranges.specs.declared.range_set.RangeSet.{RangeSet}
use Rattle.semver_ranges.specs.declared.range_set.RangeError.{RangeError}
use Rattle.semver_ranges.specs.declared.range_set.RangeError.TheVariants.{NotARange, NumberTooLarge, OutOfMemory}
use Rattle.semver_ranges.specs.RangeTree.{SetTree, Spells}
use Rattle.semver_ranges.specs.RangeTexts.{IsTooLarge, RefusesExactly}
use Rattle.semver_texts.specs.Texts.{Text}
use Rattle.semver_texts.specs.Versions.{IdentifierValue, PlainVersion}
use Rattle.semver_ranges.specs.CrateMeaning.{meets_tree}
use Rattle.semver_ranges.specs.RewritingTable.{PlainSet, fits, written_set, rewritten}
use Rattle.semver_ranges.specs.ExactBounds.{lowest_pre_release}
use Rattle.semver_ranges.specs.SatisfiedComparators.{meets_set, meets_tree_or_bounds}
use Rattle.semver_ranges.specs.PrintedRanges.{is_kept, IsPrintableSet, set_text}
use Rattle.semver_ranges.specs.Steps.Reading.{read}
use Rattle.semver_ranges.specs.RangeViews.{set_of}
use Rattle.semver_ranges.specs.Steps.Answers.{IsAnswer}
use Rattle.semver_ranges.proofs.ReadingComplete.{tree_read}
use Rattle.semver_ranges.proofs.ReadingSound.{read_sound}
use Rattle.semver_ranges.proofs.Meanings.{some_agrees, own_meaning_meets, agree_on_releases}
use Rattle.semver_ranges.proofs.PrintedLaws.{printed_again}
use Rattle.semver_ranges.proofs.AnsweredLaws.{written_printable}
use Rattle.semver_ranges.proofs.ExactLaws.{some_means}

-- the tree that the reader finds is the only one that spells the text
read_one : (t : Text) (tree tree' : SetTree) → read Crate t ≡ Some tree → Spells tree' t → tree ≡ tree'
read_one t tree tree' e h = cc (tree_read Crate tree' t h)

none_read : (t : Text) (tree : SetTree) → read Crate t ≡ None → Spells tree t → ⊥
none_read t tree e h = cc (tree_read Crate tree t h)

unfit : (t : Text) (mode : Compat) (tree : SetTree) → read Crate t ≡ Some tree → fits mode tree ≡ true → IsTooLarge mode t → ⊥
unfit t mode tree e f (tree', s, large) = cc (read_one t tree tree' e s)

-- `Says` is true of the set of each possible result that has one
abbrev EachSet : List IdentifierValue → Text → Compat → (RangeSet → Type 0) → Type 0
EachSet bound_pre t mode Says = (r : Result RangeSet RangeError) → IsAnswer bound_pre t mode r → IfOk r Says

-- the clauses with any pre-release for raised bounds
module _ (bound_pre : List IdentifierValue) (t : Text) (mode : Compat) where
  pub as_rewritten : EachSet bound_pre t mode (λ set. (tree : SetTree) → Spells tree t → set_of set ≡ written_set bound_pre mode tree)
  as_rewritten (Ok set) h = λ tree s. rw (← read_one t h.0 tree h.1 s) h.3
  as_rewritten (Err e) h = tt

  pub refusals : (r : Result RangeSet RangeError) → IsAnswer bound_pre t mode r → RefusesExactly mode t r
  refusals (Ok set) h =
      let spelled = read_sound Crate t h.0 h.1 in record {
        accepted = (h.0, spelled, h.2);
        not_a_range = (λ e. cc, λ no. absurd (no (h.0, spelled)));
        too_large = (λ e. cc, λ s. absurd (unfit t mode h.0 h.1 h.2 s));
        out_of_memory = λ e. cc;
      }
  refusals (Err NotARange) h = record {
    accepted = tt;
    not_a_range = (λ e (tree, s). none_read t tree h s, λ no. refl);
    too_large = (λ e. cc, λ (tree, s, large). absurd (none_read t tree h s));
    out_of_memory = λ e. cc;
  }
  refusals (Err NumberTooLarge) h =
      let spelled = read_sound Crate t h.0 h.1 in record {
        accepted = tt;
        not_a_range = (λ e. cc, λ no. absurd (no (h.0, spelled)));
        too_large = (λ e. (h.0, spelled, h.2), λ s. refl);
        out_of_memory = λ e. cc;
      }
  refusals (Err OutOfMemory) h =
      let spelled = read_sound Crate t h.0 h.1 in record {
        accepted = tt;
        not_a_range = (λ e. cc, λ no. absurd (no (h.0, spelled)));
        too_large = (λ e. cc, λ s. absurd (unfit t mode h.0 h.1 h.2 s));
        out_of_memory = λ e. (h.0, spelled, h.2);
      }

  -- some tree spells the text of a printable set, fits, and is rewritten to that set
  again : (s : PlainSet) → IsPrintableSet s → s.compat ≡ mode → t ≡ set_text s
      → (tree : SetTree) × Spells tree t × (fits mode tree ≡ true) × (written_set bound_pre mode tree ≡ s)
  again s p m e = rw (e, ← m) (printed_again bound_pre s p)

  pub reads_back : (r : Result RangeSet RangeError) → IsAnswer bound_pre t mode r
      → (s : PlainSet) → IsPrintableSet s → s.compat ≡ mode → t ≡ set_text s → (r ≡ Err OutOfMemory) ⊎ IsOkAnd r (λ set. set_of set ≡ s)
  reads_back (Ok set) h s p m e = let found = again s p m e in inr (as_rewritten (Ok set) h found.0 found.1 ∙ found.3)
  reads_back (Err NotARange) h s p m e = let found = again s p m e in absurd (none_read t found.0 h found.1)
  reads_back (Err NumberTooLarge) h s p m e = let found = again s p m e in
      absurd (both_ways _ (rw (read_one t h.0 found.0 h.1 found.1) at h.2) found.2)
  reads_back (Err OutOfMemory) h s p m e = inl refl

  pub printable : list_all is_kept bound_pre ≡ true → EachSet bound_pre t mode (λ set. IsPrintableSet (set_of set))
  printable keeps (Ok set) h =
      subst IsPrintableSet (sym h.3) (written_printable bound_pre keeps mode h.0 t (read_sound Crate t h.0 h.1) h.2)
  printable keeps (Err e) h = tt

module _ (t : Text) (mode : Compat) where
  pub meaning : EachSet [] t mode
      (λ set. (tree : SetTree) (v : PlainVersion) → Spells tree t → meets_set v (set_of set) ≡ meets_tree_or_bounds mode tree v)
  meaning (Ok set) h = λ tree v s. ap (meets_set v) (as_rewritten [] t mode (Ok set) h tree s) ∙ some_agrees mode tree v
  meaning (Err e) h = tt

  pub releases : EachSet [] t mode
      (λ set. (tree : SetTree) (v : PlainVersion) → Spells tree t → v.pre ≡ [] → meets_set v (set_of set) ≡ meets_tree mode tree v)
  releases (Ok set) h = λ tree v s e. ap (meets_set v) (as_rewritten [] t mode (Ok set) h tree s)
      ∙ agree_on_releases mode tree v e
  releases (Err e) h = tt

  pub implied : EachSet [] t mode (λ set. (tree : SetTree) (v : PlainVersion) → Spells tree t → IsTrue (meets_tree mode tree v)
      → IsTrue (meets_set v (set_of set)))
  implied (Ok set) h = λ tree v s own. ap (meets_set v) (as_rewritten [] t mode (Ok set) h tree s)
      ∙ own_meaning_meets mode tree v own
  implied (Err e) h = tt

  -- the clauses for exact bounds
  pub exact_meaning : EachSet lowest_pre_release t mode
      (λ set. (tree : SetTree) (v : PlainVersion) → Spells tree t → meets_set v (set_of set) ≡ meets_tree mode tree v)
  exact_meaning (Ok set) h = λ tree v s. ap (meets_set v) (as_rewritten _ t mode (Ok set) h tree s)
      ∙ some_means mode tree v
  exact_meaning (Err e) h = tt

  pub exact_printable : EachSet lowest_pre_release t mode (λ set. IsPrintableSet (set_of set))
  exact_printable r h = printable lowest_pre_release t mode refl r h

  pub printed_back : EachSet lowest_pre_release t mode
      (λ set. (tree : SetTree) × Spells tree (set_text (set_of set)) × IsTrue (fits mode tree)
      × (rewritten mode tree ≡ set_of set))
  printed_back (Ok set) h =
      let found = printed_again [] (set_of set) (exact_printable (Ok set) h) in
      let same : (set_of set).compat ≡ mode = ap (λ s. s.compat) h.3 in
      (found.0, found.1, subst (λ x. fits x found.0 ≡ true) same found.2, subst (λ x. rewritten x found.0 ≡ set_of set) same found.3)
  printed_back (Err e) h = tt
