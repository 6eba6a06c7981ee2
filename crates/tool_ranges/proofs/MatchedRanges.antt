-- Testing a version with the terms of each range, as they are read, has the result that the
-- definitions give for the tree.
use Rattle.std.proofs.Common.{◌≡◌, Bool, true, false, ◌&&◌, ◌||◌, if◌then◌else◌, List, [], ◌∷◌, map, refl, sym, ap, ◌∙◌}
use Rattle.std.proofs.Math.Bool.{and-true, or-false}
use Rattle.std.specs.List.{list_all, list_any}
use Rattle.std.proofs.lemmas.List.Folds.{list_all-map}
use Rattle.semver_texts.specs.Texts.{is_empty}
use Rattle.semver_texts.specs.Versions.{PlainVersion, without_build}
use Rattle.semver_texts.proofs.Lists.{by_test}
use Rattle.semver_ranges.specs.declared.range.Compat.{Compat}
use Rattle.semver_ranges.specs.declared.range.Compat.TheVariants as mode
use Rattle.semver_ranges.specs.RangeTree.{PartialTree, RangeTree, Simple, SetTree, empty, hyphen, simples}
use Rattle.semver_ranges.specs.Partials.{stated, states_nothing}
use Rattle.semver_ranges.specs.CrateMeaning.{meets_term}
use Rattle.semver_ranges.specs.StatedPreReleases.{counts_in, states_pre_release_at}
use Rattle.semver_ranges.specs.Terms.{Term, of_nothing, of_simple, left_side, right_side, terms}
use Rattle.semver_ranges.specs.Steps.RangeEvents.{wildcard, yielded}
use Rattle.semver_ranges.proofs.Tables.{nothing_is}
use Rattle.semver_ranges.proofs.Tests.{list_any-mapped}
use Rattle.version_sets.specs.PreReleaseRules.{numbers_fit}
use Rattle.version_sets.specs.declared.rules.PreReleases.{PreReleases}
use Rattle.version_sets.specs.declared.rules.PreReleases.TheVariants.{ByDialect, Included, Excluded}
use Rattle.semver_ranges.specs.declared.dialect.Dialect.{Dialect}
use Rattle.semver_ranges.specs.declared.dialect.Dialect.TheVariants.{Cargo, Npm, CrateCargo, CrateNpm}
use Rattle.tool_ranges.specs.declared.matching.Progress.{Progress}
use Rattle.semver_ranges.specs.CargoGrammar.{as_read}
use Rattle.semver_ranges.specs.CargoGrammar.{comparators_of}
use Rattle.tool_ranges.specs.CargoMeaning as cargo
use Rattle.tool_ranges.specs.Steps.TextEvents.{ranges_of}
use Rattle.tool_ranges.specs.Meanings.{meant_by}
use Rattle.tool_ranges.specs.NpmMeaning as npm
use Rattle.tool_ranges.specs.Steps.Matching.{Says, range_every, range_met, rule_of, is_met, takes_all, term_met}

and_twice : (b : Bool) → b ≡ (b && (b && true))
and_twice true = refl
and_twice false = refl

or_twice : (b : Bool) → (b || false) ≡ (b || (b || false))
or_twice true = refl
or_twice false = refl

-- a test of terms that has the same result for an empty range as for a wildcard, and for both sides
-- of a hyphen range if neither states a number
module _ (f : Term → Bool) (nothing : f of_nothing ≡ f (of_simple wildcard))
    (none : (l r : PartialTree) → stated l ≡ [] → stated r ≡ [] → f (of_simple (right_side r)) ≡ f (of_simple (left_side l))) where
  pub all_terms : (x : RangeTree) → list_all (λ s. f (of_simple s)) (yielded x) ≡ list_all f (terms x)
  all_terms empty = rw nothing refl
  all_terms (simples first others) = sym (list_all-map f of_simple (first ∷ others))
  all_terms (hyphen l r) = by_test (states_nothing r)
      (λ y. by_test (states_nothing l)
      (λ z. let same = none l r (nothing_is (stated l) z) (nothing_is (stated r) y) in
      rw (y, z) (and-true (f (of_simple (left_side l))) ∙ and_twice (f (of_simple (left_side l)))
      ∙ ap (λ b. f (of_simple (left_side l)) && (b && true)) (sym same)))
      (λ n. rw (y, n) refl))
      (λ n. by_test (states_nothing l) (λ z. rw (n, z) refl) (λ m. rw (n, m) refl))

  any_terms : (x : RangeTree) → list_any (λ s. f (of_simple s)) (yielded x) ≡ list_any f (terms x)
  any_terms empty = rw nothing refl
  any_terms (simples first others) = sym (list_any-mapped f (λ s. f (of_simple s)) of_simple (λ s. refl) (first ∷ others))
  any_terms (hyphen l r) = by_test (states_nothing r)
      (λ y. by_test (states_nothing l)
      (λ z. let same = none l r (nothing_is (stated l) z) (nothing_is (stated r) y) in
      rw (y, z) (or_twice (f (of_simple (left_side l))) ∙ ap (λ b. f (of_simple (left_side l)) || (b || false)) (sym same)))
      (λ n. rw (y, n) refl))
      (λ n. by_test (states_nothing l) (λ z. rw (n, z) refl) (λ m. rw (n, m) refl))

module _ (v : PlainVersion) where
  -- whether a version counts in a range, found from the terms as they are read
  counts_so : (r : RangeTree)
      → (is_empty v.pre || list_any (λ s. states_pre_release_at (of_simple s) v) (yielded r)) ≡ counts_in r v
  counts_so r = ap (λ b. is_empty v.pre || b) (any_terms (λ t. states_pre_release_at t v) refl (λ l r a b. rw (a, b) refl) r)

  -- ---- npm, by default
  none_met : (p : PartialTree) → states_nothing p ≡ true
      → (npm.meets_one ByDialect (left_side p) v ≡ true) × (npm.meets_one ByDialect (right_side p) v ≡ true)
      × (npm.meets_one Included (left_side p) v ≡ true) × (npm.meets_one Included (right_side p) v ≡ true)
  none_met p y = let e = nothing_is (stated p) y in rw e (refl, refl, refl, refl)

  pub default_simples : (r : RangeTree) → list_all (λ s. npm.meets_one ByDialect s v) (yielded r) ≡ npm.meets_range ByDialect r v
  default_simples empty = refl
  default_simples (simples first others) = refl
  default_simples (hyphen l r) = by_test (states_nothing r)
      (λ y. rw (y, (none_met r y).1) refl)
      (λ n. by_test (states_nothing l)
      (λ y. rw (n, y, (none_met l y).0) (and-true _))
      (λ m. rw (n, m) (ap (λ b. npm.meets_one ByDialect (left_side l) v && b) (and-true _))))

  default_range : (r : RangeTree) → range_met Npm false v (yielded r) ≡ (npm.meets_range ByDialect r v && counts_in r v)
  default_range r = λ i. default_simples r i && counts_so r i

  every_range : (r : RangeTree) → range_every (yielded r) ≡ npm.is_every_release r
  every_range r = all_terms npm.matches_everything refl (λ l r' a b. rw (a, b) refl) r

  pub npm_default : (tree : SetTree)
      → (if list_any range_every (map yielded tree) then is_empty v.pre
      else list_any (range_met Npm false v) (map yielded tree)) ≡ npm.meets_by_default tree v
  npm_default tree = λ i. if list_any-mapped range_every npm.is_every_release yielded every_range tree i then is_empty v.pre
      else list_any-mapped (range_met Npm false v) (λ r. npm.meets_range ByDialect r v && counts_in r v) yielded default_range tree i

  -- ---- npm, with every pre-release within the bounds
  pub included_range : (r : RangeTree) → range_met Npm true v (yielded r) ≡ npm.meets_range Included r v
  included_range empty = refl
  included_range (simples first others) = and-true _
  included_range (hyphen l r) = by_test (states_nothing r)
      (λ y. rw (y, (none_met r y).3) (and-true _))
      (λ n. by_test (states_nothing l)
      (λ y. rw (n, y, (none_met l y).2) (and-true _ ∙ and-true _))
      (λ m. rw (n, m) (and-true _ ∙ ap (λ b. npm.meets_one Included (left_side l) v && b) (and-true _))))

  npm_included : (tree : SetTree)
      → list_any (range_met Npm true v) (map yielded tree) ≡ list_any (λ r. npm.meets_range Included r v) tree
  npm_included tree = list_any-mapped (range_met Npm true v) (λ r. npm.meets_range Included r v) yielded included_range tree

  -- ---- Cargo
  module _ (all : Bool) where
    each_met : (ss : List Simple) → list_all (term_met Cargo all v) (map as_read ss) ≡ list_all (λ s. cargo.meets_one (rule_of all) s v) ss
    each_met ss = list_all-map (term_met Cargo all v) as_read ss

    some_stated : (ss : List Simple) → list_any (λ s. states_pre_release_at (of_simple s) v) (map as_read ss)
        ≡ list_any (λ s. states_pre_release_at (of_simple s) v) ss
    some_stated ss = list_any-mapped (λ s. states_pre_release_at (of_simple s) v) (λ s. states_pre_release_at (of_simple s) v) as_read
        (λ s. refl) ss

  pub cargo_default : (tree : SetTree) → list_any (range_met Cargo false v) (ranges_of Cargo tree) ≡ cargo.meets_by_default tree v
  cargo_default tree = or-false _
      ∙ (λ i. each_met false (comparators_of tree) i && (is_empty v.pre || some_stated false (comparators_of tree) i))

  cargo_included : (tree : SetTree)
      → list_any (range_met Cargo true v) (ranges_of Cargo tree) ≡ cargo.meets_requirement Included tree v
  cargo_included tree = or-false _ ∙ and-true _ ∙ each_met true (comparators_of tree)

  -- ---- the crate
  module _ (d : Dialect) (compat : Compat)
      (of : (all : Bool) (s : Simple) → term_met d all v s ≡ meets_term compat (of_simple s) v) where
    own_terms : (all : Bool) (r : RangeTree) → list_all (term_met d all v) (yielded r) ≡ list_all (λ t. meets_term compat t v) (terms r)
    own_terms all r = each (yielded r) ∙ all_terms (λ t. meets_term compat t v) refl (λ l r' a b. rw (a, b) refl) r where
      each : (ss : List Simple) → list_all (term_met d all v) ss ≡ list_all (λ s. meets_term compat (of_simple s) v) ss
      each [] = refl
      each (s ∷ ss) = λ i. of all s i && each ss i

    own_default : (tree : SetTree) → list_any (range_met d false v) (map yielded tree)
        ≡ list_any (λ r. list_all (λ t. meets_term compat t v) (terms r) && counts_in r v) tree
    own_default tree = list_any-mapped (range_met d false v) (λ r. list_all (λ t. meets_term compat t v) (terms r) && counts_in r v)
        yielded (λ r i. own_terms false r i && counts_so r i) tree

    own_included : (tree : SetTree) → list_any (range_met d true v) (map yielded tree)
        ≡ list_any (λ r. list_all (λ t. meets_term compat t v) (terms r)) tree
    own_included tree = list_any-mapped (range_met d true v) (λ r. list_all (λ t. meets_term compat t v) (terms r))
        yielded (λ r. and-true _ ∙ own_terms true r) tree

    own_release : (tree : SetTree) → (is_empty v.pre && list_any (range_met d false v) (map yielded tree))
        ≡ (is_empty v.pre && list_any (λ r. list_all (λ t. meets_term compat t v) (terms r)) tree)
    own_release tree = by_test (is_empty v.pre)
        (λ y. ap (λ b. is_empty v.pre && b) (list_any-mapped (range_met d false v) (λ r. list_all (λ t. meets_term compat t v) (terms r))
        yielded (λ r. ap (λ b. list_all (term_met d false v) (yielded r)
        && (b || list_any (λ s. states_pre_release_at (of_simple s) v) (yielded r))) y ∙ and-true _ ∙ own_terms false r) tree))
        (λ n. rw n refl)

-- ---- all dialects

module _ (v : PlainVersion) (fit : numbers_fit v ≡ true) where
  pub means : (d : Dialect) (rule : PreReleases) (tree : SetTree) (progress : Progress) → Says d (takes_all rule) v progress tree
      → is_met d rule v progress ≡ meant_by d rule tree (without_build v)
  means Cargo ByDialect tree progress says = says.0 ∙ cargo_default v tree
  means Cargo Included tree progress says = says.0 ∙ cargo_included v tree
  means Cargo Excluded tree progress says = ap (λ b. is_empty v.pre && b) (says.0 ∙ cargo_default v tree)
  means Npm ByDialect tree progress says = (λ i. if says.1 i then is_empty v.pre else says.0 i) ∙ npm_default v tree
  means Npm Included tree progress says = says.0 ∙ npm_included v tree
  means Npm Excluded tree progress says =
      ap (λ b. is_empty v.pre && b) ((λ i. if says.1 i then is_empty v.pre else says.0 i) ∙ npm_default v tree)
  means CrateCargo ByDialect tree progress says = says.0 ∙ own_default v CrateCargo mode.Cargo (λ all s. refl) tree ∙ rw fit refl
  means CrateCargo Included tree progress says = says.0 ∙ own_included v CrateCargo mode.Cargo (λ all s. refl) tree ∙ rw fit refl
  means CrateCargo Excluded tree progress says =
      ap (λ b. is_empty v.pre && b) says.0 ∙ own_release v CrateCargo mode.Cargo (λ all s. refl) tree ∙ rw fit refl
  means CrateNpm ByDialect tree progress says = says.0 ∙ own_default v CrateNpm mode.Npm (λ all s. refl) tree ∙ rw fit refl
  means CrateNpm Included tree progress says = says.0 ∙ own_included v CrateNpm mode.Npm (λ all s. refl) tree ∙ rw fit refl
  means CrateNpm Excluded tree progress says =
      ap (λ b. is_empty v.pre && b) says.0 ∙ own_release v CrateNpm mode.Npm (λ all s. refl) tree ∙ rw fit refl
