-- A version satisfies the comparators of a text if and only if it satisfies the text, except for
-- pre-releases of raised bounds.
use Rattle.std.proofs.Common.{◌≡◌, true, false, [], refl, sym, ap, ◌∙◌, IsTrue, Option, Some, None}
use Rattle.std.proofs.Math.Bool.{or-false}
use Rattle.std.proofs.lemmas.Bool.{or_left}
use Rattle.semver_ranges.specs.declared.range.Compat.{Compat}
use Rattle.semver_ranges.specs.RangeTree.{SetTree}
use Rattle.semver_texts.specs.Texts.{is_empty}
use Rattle.semver_texts.specs.Versions.{PlainVersion}
use Rattle.semver_ranges.specs.Partials.{pre_release}
use Rattle.semver_ranges.specs.Terms.{terms}
use Rattle.semver_ranges.specs.CrateMeaning.{meets_tree}
use Rattle.semver_ranges.specs.RewritingTable.{rewritten}
use Rattle.semver_ranges.specs.SatisfiedComparators.{meets_set, is_pre_release_of, meets_term_or_bound, meets_tree_or_bounds}
use Rattle.semver_ranges.proofs.Rows.{row}
use Rattle.semver_ranges.proofs.SetMeanings.{stated_shape, set_meets}
use Rattle.semver_ranges.proofs.Tests.{list_all-weaker, list_any-weaker, list_all-same, list_any-same}

-- a version satisfies the comparators if and only if there is a range such that, for each of its
-- terms, it satisfies the term or is a pre-release of the term's raised bound
pub some_agrees : (mode : Compat) (tree : SetTree) (v : PlainVersion) → meets_set v (rewritten mode tree) ≡ meets_tree_or_bounds mode tree v
some_agrees mode tree v = set_meets [] mode v (λ term. meets_term_or_bound mode term v)
    (λ s. row v mode s.operator (stated_shape s.partial) (pre_release s.partial)) (sym (or-false _)) tree

own_meaning_weaker : (mode : Compat) (tree : SetTree) (v : PlainVersion) → meets_tree mode tree v ≡ true
    → meets_tree_or_bounds mode tree v ≡ true
own_meaning_weaker mode tree v = list_any-weaker _ _
    (λ r. list_all-weaker _ _ (λ term. or_left _ _) (terms r)) tree

-- a release isn't a pre-release of a bound
no_pre_release : (v : PlainVersion) (bound : Option PlainVersion) → is_empty v.pre ≡ true → is_pre_release_of v bound ≡ false
no_pre_release v None e = refl
no_pre_release v (Some bound) e = rw e

on_releases : (mode : Compat) (tree : SetTree) (v : PlainVersion) → is_empty v.pre ≡ true
    → meets_tree_or_bounds mode tree v ≡ meets_tree mode tree v
on_releases mode tree v e =
    list_any-same _ _ (λ r. list_all-same _ _ (λ term.
    rw (no_pre_release v _ e) (or-false _)) (terms r)) tree

pub agree_on_releases : (mode : Compat) (tree : SetTree) (v : PlainVersion) → v.pre ≡ []
    → meets_set v (rewritten mode tree) ≡ meets_tree mode tree v
agree_on_releases mode tree v e = some_agrees mode tree v ∙ on_releases mode tree v (ap is_empty e)

pub own_meaning_meets : (mode : Compat) (tree : SetTree) (v : PlainVersion) → IsTrue (meets_tree mode tree v)
    → IsTrue (meets_set v (rewritten mode tree))
own_meaning_meets mode tree v h = some_agrees mode tree v ∙ own_meaning_weaker mode tree v h
