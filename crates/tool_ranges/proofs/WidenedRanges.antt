-- A version that satisfies a range satisfies each one that the range is widened to, under each rule for
-- pre-releases.
use Rattle.std.proofs.Common.{arith, rules, ◌≡◌, Bool, true, false, ◌&&◌, ◌||◌, List, [], ◌∷◌, refl, sym, ap₂, subst, ◌∙◌}
use Rattle.std.proofs.lemmas.Bool.{and_parts}
use Rattle.std.specs.List.{list_all, list_any}
use Rattle.semver_texts.proofs.Lists.{by_test}
use Rattle.semver_texts.specs.Texts.{is_empty}
use Rattle.semver_texts.specs.Versions.{PlainVersion, VersionValue, without_build}
use Rattle.semver_ranges.specs.RangeTree.{Simple, SetTree}
use Rattle.semver_ranges.specs.StatedPreReleases.{states_pre_release_at}
use Rattle.semver_ranges.specs.Terms.{of_simple}
use Rattle.version_sets.specs.PreReleaseRules.{numbers_fit}
use Rattle.version_sets.specs.VersionSets.{Fits}
use Rattle.version_sets.specs.declared.rules.PreReleases.{PreReleases}
use Rattle.version_sets.specs.declared.rules.PreReleases.TheVariants.{ByDialect, Included, Excluded}
use Rattle.semver_ranges.specs.declared.dialect.Dialect.{Dialect}
use Rattle.semver_ranges.specs.declared.dialect.Dialect.TheVariants.{Cargo, Npm, CrateCargo, CrateNpm}
use Rattle.tool_ranges.specs.declared.matching.Progress.{Progress}
use Rattle.tool_ranges.specs.Meanings.{meant_by}
use Rattle.tool_ranges.specs.Steps.Matching.{begun, counts, is_met, met_by, range_every, range_met, takes_all, term_met}
use Rattle.tool_ranges.specs.Steps.TextEvents.{ranges_of}
use Rattle.tool_ranges.specs.Widening.{AreWidened, AreWidenedTerms, alternatives}
use Rattle.tool_ranges.proofs.MatchedMeanings.{same_plain}
use Rattle.tool_ranges.proofs.MatchedRanges.{means}
use Rattle.tool_ranges.proofs.WidenedTerms.{widened_everything, widened_met, widened_named}

pub same_ranges : (d : Dialect) (tree : SetTree) → alternatives d tree ≡ ranges_of d tree
same_ranges Cargo tree = refl
same_ranges Npm tree = refl
same_ranges CrateCargo tree = refl
same_ranges CrateNpm tree = refl

both : {a b : Bool} → a ≡ true → b ≡ true → (a && b) ≡ true
both e f = rw (e, f) refl

either : (a b c d : Bool) → (a ≡ true → c ≡ true) → (b ≡ true → d ≡ true) → (a || b) ≡ true → (c || d) ≡ true
either true b c d f g e = rw (f refl) refl
either false true true d f g e = refl
either false true false d f g e = g refl
either false false c d f g e = cc

module _ (d : Dialect) (all : Bool) (v : PlainVersion) where
  terms_met : (ss rs : List Simple) → AreWidenedTerms ss rs → list_all (term_met d all v) ss ≡ true → list_all (term_met d all v) rs ≡ true
  terms_met [] [] are e = refl
  terms_met (s ∷ ss) (r ∷ rs) are e =
      let parts = and_parts (term_met d all v s) _ e in
      both (widened_met d all v s r are.0 parts.0) (terms_met ss rs are.1 parts.1)
  terms_met [] (r ∷ rs) are e = absurd are
  terms_met (s ∷ ss) [] are e = absurd are

  terms_named : is_empty v.pre ≡ false → (ss rs : List Simple) → AreWidenedTerms ss rs → list_all (term_met d all v) ss ≡ true
      → list_any (λ s. states_pre_release_at (of_simple s) v) ss ≡ true → list_any (λ s. states_pre_release_at (of_simple s) v) rs ≡ true
  terms_named pre [] [] are met e = e
  terms_named pre (s ∷ ss) (r ∷ rs) are met e =
      let parts = and_parts (term_met d all v s) _ met in
      either _ _ _ _ (widened_named d all v s r are.0 pre parts.0) (terms_named pre ss rs are.1 parts.1) e
  terms_named pre [] (r ∷ rs) are met e = absurd are
  terms_named pre (s ∷ ss) [] are met e = absurd are

  pre_if : counts all v ≡ false → is_empty v.pre ≡ false
  pre_if isnt = not_second all (is_empty v.pre) isnt where
    not_second : (a b : Bool) → (a || b) ≡ false → b ≡ false
    not_second a b e = grind arith

  range_kept : (ss rs : List Simple) → AreWidenedTerms ss rs → range_met d all v ss ≡ true → range_met d all v rs ≡ true
  range_kept ss rs are e =
      let parts = and_parts (list_all (term_met d all v) ss) _ e in
      both (terms_met ss rs are parts.0)
      (by_test (counts all v) (λ yes. rw yes refl)
      (λ isnt. let named = rw isnt at parts.1 in rw isnt (terms_named (pre_if isnt) ss rs are parts.0 named)))

  some_kept : (old new : List (List Simple)) → AreWidened old new → list_any (range_met d all v) old ≡ true
      → list_any (range_met d all v) new ≡ true
  some_kept [] new are e = cc
  some_kept (ss ∷ old) [] are e = absurd are
  some_kept (ss ∷ old) (rs ∷ new) are e = either _ _ _ _ (range_kept ss rs are.0) (some_kept old new are.1) e

-- ---- whether some range matches everything

same_every : (ss rs : List Simple) → AreWidenedTerms ss rs → range_every ss ≡ range_every rs
same_every [] [] are = refl
same_every (s ∷ ss) (r ∷ rs) are = ap₂ (λ a b. a && b) (widened_everything s r are.0) (same_every ss rs are.1)
same_every [] (r ∷ rs) are = absurd are
same_every (s ∷ ss) [] are = absurd are

same_some_every : (old new : List (List Simple)) → AreWidened old new → list_any range_every old ≡ list_any range_every new
same_some_every [] new are = sym are
same_some_every (ss ∷ old) [] are = absurd are
same_some_every (ss ∷ old) (rs ∷ new) are = ap₂ (λ a b. a || b) (same_every ss rs are.0) (same_some_every old new are.1)

-- ---- ranges

module _ (v : PlainVersion) (fit : numbers_fit v ≡ true) (d : Dialect) (rule : PreReleases) where
  abbrev progress_of : List (List Simple) → Progress
  progress_of ranges = record (begun true) {
    met = list_any (range_met d (takes_all rule) v) ranges;
    matched_all = list_any range_every ranges;
  }

  met_kept : (d : Dialect) (all : Bool) (p q : Progress) → (p.met ≡ true → q.met ≡ true) → p.matched_all ≡ q.matched_all
      → met_by d all v p ≡ true → met_by d all v q ≡ true
  met_kept Npm false p q kept same e = by_test q.matched_all
      (λ y. let is : is_empty v.pre ≡ true = rw (same ∙ y) at e in rw y is)
      (λ n. let is : p.met ≡ true = rw (same ∙ n) at e in rw n (kept is))
  met_kept Npm true p q kept same e = kept e
  met_kept Cargo all p q kept same e = kept e
  met_kept CrateCargo all p q kept same e = kept e
  met_kept CrateNpm all p q kept same e = kept e

  rule_kept : (rule : PreReleases) (p q : Progress) → (p.met ≡ true → q.met ≡ true) → p.matched_all ≡ q.matched_all
      → is_met d rule v p ≡ true → is_met d rule v q ≡ true
  rule_kept Excluded p q kept same e =
      let parts = and_parts (is_empty v.pre) _ e in both parts.0 (met_kept d false p q kept same parts.1)
  rule_kept ByDialect p q kept same e = met_kept d false p q kept same e
  rule_kept Included p q kept same e = met_kept d true p q kept same e

  meaning_kept : (old new : SetTree) → AreWidened (alternatives d old) (alternatives d new)
      → meant_by d rule old (without_build v) ≡ true → meant_by d rule new (without_build v) ≡ true
  meaning_kept old new are e =
      let are = subst (AreWidened (ranges_of d old)) (same_ranges d new)
      (subst (λ ranges. AreWidened ranges (alternatives d new)) (same_ranges d old) are) in
      let p = progress_of (ranges_of d old) in
      let q = progress_of (ranges_of d new) in
      sym (means v fit d rule new q (refl, refl))
      ∙ rule_kept rule p q (some_kept d (takes_all rule) v (ranges_of d old) (ranges_of d new) are)
      (same_some_every (ranges_of d old) (ranges_of d new) are) (means v fit d rule old p (refl, refl) ∙ e)

-- every version that satisfies a range satisfies the one that it is widened to
pub widened_meaning : (d : Dialect) (rule : PreReleases) (old new : SetTree) (v : VersionValue) → Fits v.plain
    → AreWidened (alternatives d old) (alternatives d new) → meant_by d rule old v ≡ true → meant_by d rule new v ≡ true
widened_meaning d rule old new v small are e =
    let fits : numbers_fit v.plain ≡ true = search rules in
    same_plain d rule new v (without_build v.plain) refl
    ∙ meaning_kept v.plain fits d rule old new are (same_plain d rule old (without_build v.plain) v refl ∙ e)
