-- What the proofs require of a table that gives the comparators of each term.
use Rattle.std.proofs.Common.{◌≡◌, ℕ, true, List, [], ◌∷◌, Bool, refl}
use Rattle.semver_ranges.specs.declared.range.Compat.{Compat}
use Rattle.semver_ranges.specs.declared.range.Op.TheVariants.{Gte}
use Rattle.semver_ranges.specs.RangeTree.{PartialTree, Simple}
use Rattle.semver_texts.specs.Texts.{is_empty}
use Rattle.semver_texts.specs.Versions.{IdentifierValue}
use Rattle.semver_ranges.specs.Partials.{stated, zero_version}
use Rattle.semver_ranges.specs.Terms.{left_side, right_side}
use Rattle.semver_ranges.specs.Steps.RangeEvents.{wildcard}
use Rattle.semver_ranges.specs.RewritingTable.{PlainComparator, comparator, simple_fits, written_simple}

-- a side of a hyphen range that states no number gives `>=0.0.0`, and so does the wildcard for an
-- empty range. Such a right side fits, and so does the wildcard
pub record IsTable (fit : Simple → Bool) (written : Simple → List PlainComparator) : Type 0 where
  pub left : (p : PartialTree) → stated p ≡ [] → written (left_side p) ≡ comparator Gte zero_version ∷ []
  pub right : (p : PartialTree) → stated p ≡ [] → written (right_side p) ≡ comparator Gte zero_version ∷ []
  pub fits : (p : PartialTree) → stated p ≡ [] → fit (right_side p) ≡ true
  pub empty : written wildcard ≡ comparator Gte zero_version ∷ []
  pub empty_fits : fit wildcard ≡ true

pub nothing_is : (s : List ℕ) → is_empty s ≡ true → s ≡ []
nothing_is [] e = refl
nothing_is (n ∷ s) e = cc

-- the table of `RewritingTable` is one, with any pre-release for raised bounds
pub port_table : (bound_pre : List IdentifierValue) (mode : Compat) → IsTable (simple_fits mode) (written_simple bound_pre mode)
port_table bound_pre mode = record {
  left = λ p e. rw e;
  right = λ p e. rw e;
  fits = λ p e. rw e;
  empty = refl;
  empty_fits = refl;
}
