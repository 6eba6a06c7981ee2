-- What the rewritten set of a text of Cargo or npm is: the one of each tree of the text. Its
-- comparators mean the text for releases, it can be printed, and the printed text gives it again.
use Rattle.std.proofs.Common.{◌≡◌, true, [], ◌∷◌, sym, ap, ◌∙◌, subst}
use Rattle.std.proofs.lemmas.List.Folds.{flat_map-map}
use Rattle.std.specs.Prelude.{IfOk, IsTrue, Result, Ok, Err}
use Rattle.semver_texts.specs.Texts.{Text}
use Rattle.semver_texts.specs.Versions.{PlainVersion}
use Rattle.semver_texts.specs.declared.grammar.Grammar.TheVariants as grammar
use Rattle.semver_ranges.specs.declared.range.Compat.{Compat}
use Rattle.semver_ranges.specs.declared.range.Compat.TheVariants.{Cargo, Npm}
use Rattle.semver_ranges.specs.declared.range_set.RangeError.{RangeError}
use Rattle.semver_ranges.specs.declared.range_set.RangeSet.{RangeSet}
use Rattle.semver_ranges.specs.PrintedRanges.{IsPrintableSet, set_text}
use Rattle.semver_ranges.specs.RangeTree.{SetTree, Spells, simples}
use Rattle.semver_ranges.specs.RangeViews.{set_of}
use Rattle.semver_ranges.specs.RewritingTable.{PlainSet, fits, rewritten}
use Rattle.semver_ranges.specs.SatisfiedComparators.{meets_set}
use Rattle.semver_ranges.proofs.AnsweredLaws.{set_printable}
use Rattle.semver_ranges.specs.declared.rewriting.Style.TheVariants.{Exact}
use Rattle.semver_ranges.specs.declared.dialect.Dialect.{Dialect}
use Rattle.semver_ranges.specs.declared.dialect.Dialect.TheVariants as dialect
use Rattle.tool_ranges.specs.Dialects.{HasSetAs, IsRewrittenAs, SpellsAs, fits_as, means_release, rewritten_as}
use Rattle.semver_ranges.specs.CargoGrammar.{as_read}
use Rattle.semver_ranges.specs.TermComparators.{printed_term}
use Rattle.tool_ranges.specs.Steps.Printed.{IsPrintedAs, printed_ranges}
use Rattle.tool_ranges.proofs.PrintableSets.{npm_prints, reads_back, requirement_printable}
use Rattle.tool_ranges.proofs.PrintedMeanings.{cargo_meets, npm_meets}
use Rattle.tool_ranges.proofs.PrintedSets.{npm_ranges}

-- the set that is printed for a tree is the rewritten one, means the tree for releases, and can be
-- printed if the numbers of the tree fit
pub record Rewrites (d : Dialect) (mode : Compat) : Type 0 where
  pub same : (t : Text) (tree : SetTree) → SpellsAs d tree t
      → record { ranges = printed_ranges Exact d mode tree; compat = mode } ≡ rewritten_as d tree
  pub meets : (tree : SetTree) (set : PlainSet) (v : PlainVersion) → v.pre ≡ []
      → set ≡ record { ranges = printed_ranges Exact d mode tree; compat = mode } → meets_set v set ≡ means_release d tree v
  pub prints : (t : Text) (tree : SetTree) → SpellsAs d tree t → fits_as d tree ≡ true → IsPrintableSet (rewritten_as d tree)

pub npm_rewrites : Rewrites dialect.Npm Npm
npm_rewrites = record {
  same = λ t tree h. ap (λ ranges. record { ranges = ranges; compat = Npm }) (npm_ranges tree);
  meets = λ tree set v release is. npm_meets v release tree set is;
  prints = λ t tree h fit. set_printable grammar.Npm npm_prints Npm tree t h.spelled fit;
}

cargo_same : (t : Text) (tree : SetTree) → SpellsAs dialect.Cargo tree t
    → record { ranges = printed_ranges Exact dialect.Cargo Cargo tree; compat = Cargo } ≡ rewritten_as dialect.Cargo tree
cargo_same t (simples first others ∷ []) h =
    ap (λ cs. record { ranges = record { comparators = cs; compat = Cargo } ∷ []; compat = Cargo })
    (flat_map-map (printed_term Exact dialect.Cargo) as_read (first ∷ others))
cargo_same t _ h = absurd h.comparators

pub cargo_rewrites : Rewrites dialect.Cargo Cargo
cargo_rewrites = record {
  same = cargo_same;
  meets = λ tree set v release is. cargo_meets v release tree set is;
  prints = λ t tree h fit. requirement_printable tree t h.comparators fit;
}

module _ {d : Dialect} {mode : Compat} (by : Rewrites d mode) (t : Text) where
  abbrev Printed : Result RangeSet RangeError → Type 0
  Printed r = IfOk r (λ set. IsPrintedAs Exact d mode t (set_of set))

  pub as_rewritten : (r : Result RangeSet RangeError) → Printed r
      → IfOk r (λ set. IsRewrittenAs d t (set_of set))
  as_rewritten (Ok set) is = λ tree h. is tree h ∙ by.same t tree h
  as_rewritten (Err e) is = tt

  pub releases : (r : Result RangeSet RangeError) → Printed r → IfOk r (λ set. (tree : SetTree) (v : PlainVersion)
      → SpellsAs d tree t → v.pre ≡ [] → meets_set v (set_of set) ≡ means_release d tree v)
  releases (Ok set) is = λ tree v h release. by.meets tree (set_of set) v release (is tree h)
  releases (Err e) is = tt

  one_printable : (set : PlainSet) → HasSetAs d t → IsPrintedAs Exact d mode t set → IsPrintableSet set
  one_printable set (tree, h, fit) is = subst IsPrintableSet (sym (is tree h ∙ by.same t tree h)) (by.prints t tree h fit)

  pub printable : (r : Result RangeSet RangeError) → IfOk r (λ _. HasSetAs d t) → Printed r → IfOk r (λ set. IsPrintableSet (set_of set))
  printable (Ok set) has is = one_printable (set_of set) has is
  printable (Err e) has is = tt

  pub read_again : (r : Result RangeSet RangeError) → IfOk r (λ _. HasSetAs d t) → Printed r
      → IfOk r (λ set. (tree : SetTree) × Spells tree (set_text (set_of set)) × IsTrue (fits mode tree)
      × (rewritten mode tree ≡ set_of set))
  read_again (Ok set) (tree, h, fit) is = reads_back mode (set_of set) (one_printable (set_of set) (tree, h, fit) is)
      (ap (λ (s : PlainSet). s.compat) (is tree h))
  read_again (Err e) has is = tt
