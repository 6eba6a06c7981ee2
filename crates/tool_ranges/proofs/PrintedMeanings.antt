-- A version satisfies the comparators of a text in Cargo's or npm's dialect if and only if it
-- satisfies the text: a release, and with `Included` any version.
use Rattle.std.proofs.Common.{◌≡◌, ℕ, Bool, true, false, ◌&&◌, ◌||◌, if◌then◌else◌, List, [], ◌∷◌, map, refl, sym, ap, ◌∙◌}
use Rattle.std.proofs.Math.Bool.{and-true}
use Rattle.std.proofs.lemmas.Bool.{or_left}
use Rattle.std.proofs.lemmas.List.{map-append}
use Rattle.std.proofs.lemmas.List.Folds.{list_all-append}
use Rattle.std.specs.List.{flat_map, list_all, list_any}
use Rattle.std.specs.Ordering.{is_ge}
use Rattle.semver_texts.specs.Precedence.{pre_cmp}
use Rattle.semver_texts.specs.Texts.{is_empty}
use Rattle.semver_texts.specs.Versions.{IdentifierValue, PlainVersion}
use Rattle.semver_texts.proofs.Lists.{by_test}
use Rattle.semver_ranges.specs.declared.range.Compat.{Compat}
use Rattle.semver_ranges.specs.declared.range.Compat.TheVariants as mode
use Rattle.semver_ranges.specs.SatisfiedComparators.{meets_comparator, meets_range, meets_set}
use Rattle.semver_ranges.specs.Partials.{filled, stated, zero_filled}
use Rattle.semver_ranges.specs.declared.operator.Operator.{Operator}
use Rattle.semver_ranges.specs.declared.operator.Operator.TheVariants.{Less, Greater, GreaterOrEqual, Hyphen}
use Rattle.semver_ranges.specs.RangeTree.{Simple, SetTree}
use Rattle.semver_ranges.specs.RewritingTable.{PlainSet}
use Rattle.semver_ranges.specs.StatedPreReleases.{states_pre_release_at}
use Rattle.semver_ranges.specs.Terms.{of_simple}
use Rattle.semver_ranges.specs.Steps.Answers.{range_of_simples}
use Rattle.semver_ranges.specs.Steps.RangeEvents.{yielded}
use Rattle.semver_ranges.proofs.Rows.{Shape}
use Rattle.semver_ranges.proofs.SetMeanings.{stated_shape}
use Rattle.semver_ranges.proofs.Tests.{list_all-weaker, list_any-weaker, list_any-same}
use Rattle.semver_ranges.specs.declared.rewriting.Style.{Style}
use Rattle.semver_ranges.specs.declared.rewriting.Style.TheVariants.{Exact, Lowest}
use Rattle.version_sets.specs.declared.rules.PreReleases.TheVariants.{ByDialect, Included}
use Rattle.tool_ranges.specs.AnySize.{comparator_any, range_any, set_any}
use Rattle.tool_ranges.specs.CargoMeaning as cargo
use Rattle.tool_ranges.specs.NpmMeaning as npm
use Rattle.tool_ranges.specs.NpmMeaning.{asks_nothing_by, is_zero, matches_everything, meets_by_count}
use Rattle.semver_ranges.specs.declared.dialect.Dialect.{Dialect}
use Rattle.semver_ranges.specs.declared.dialect.Dialect.TheVariants.{Cargo, Npm}
use Rattle.semver_ranges.specs.TermComparators.{printed_term}
use Rattle.tool_ranges.specs.Steps.Matching.{range_every, range_met, term_met}
use Rattle.tool_ranges.specs.Steps.TextEvents.{ranges_of}
use Rattle.tool_ranges.specs.Steps.Printed.{printed_ranges}
use Rattle.tool_ranges.proofs.AnySizes.{asks_any, pre_any, release_set}
use Rattle.tool_ranges.proofs.MatchedRanges.{cargo_default, included_range, npm_default}
use Rattle.tool_ranges.proofs.MatchedTerms.{all_means, none_any, release_means}
use Rattle.tool_ranges.proofs.SideComparators.{both_sided, lowest_ge, term_meets}

-- ---- terms and ranges

module _ (style : Style) (d : Dialect) (all : Bool) (v : PlainVersion)
    (each : (s : Simple) → list_all (meets_comparator v) (map comparator_any (printed_term style d s)) ≡ term_met d all v s) where
  terms_meet : (ss : List Simple)
      → list_all (meets_comparator v) (map comparator_any (flat_map (printed_term style d) ss)) ≡ list_all (term_met d all v) ss
  terms_meet [] = refl
  terms_meet (s ∷ ss) =
      ap (list_all (meets_comparator v)) (map-append comparator_any (printed_term style d s) (flat_map (printed_term style d) ss))
      ∙ list_all-append (meets_comparator v) (map comparator_any (printed_term style d s)) _
      ∙ (λ i. each s i && terms_meet ss i)

  ranges_meet : (mode : Compat) (rs : List (List Simple))
      → list_any (meets_range v) (map range_any (map (range_of_simples (printed_term style d) mode) rs))
      ≡ list_any (λ ss. list_all (term_met d all v) ss) rs
  ranges_meet mode [] = refl
  ranges_meet mode (ss ∷ rs) = λ i. terms_meet ss i || ranges_meet mode rs i

-- ---- npm, with every pre-release within the bounds

module _ (v : PlainVersion) where
  included_term : (s : Simple) → list_all (meets_comparator v) (map comparator_any (printed_term Lowest Npm s)) ≡ term_met Npm true v s
  included_term s =
      term_meets Lowest refl v (lowest_ge v) Npm s (both_sided s.operator (stated_shape s.partial) (pre_any s.partial) (none_any s)).1
      ∙ all_means s v Npm

  included_ranges : (tree : SetTree)
      → list_any (λ ss. list_all (term_met Npm true v) ss) (map yielded tree) ≡ list_any (λ r. npm.meets_range Included r v) tree
  included_ranges [] = refl
  included_ranges (r ∷ tree) = λ i. (sym (and-true _) ∙ included_range v r) i || included_ranges tree i

  pub included_meets : (tree : SetTree) (set : PlainSet)
      → set ≡ record { ranges = printed_ranges Lowest Npm mode.Npm tree; compat = mode.Npm }
      → meets_set v (set_any set) ≡ npm.meets_npm Included tree v
  included_meets tree set is = ap (λ s. meets_set v (set_any s)) is
      ∙ ranges_meet Lowest Npm true v included_term mode.Npm (map yielded tree) ∙ included_ranges tree

-- ---- releases

module _ (v : PlainVersion) (release : v.pre ≡ []) where
  is_release : is_empty v.pre ≡ true
  is_release = ap is_empty release

  release_ge : is_ge (pre_cmp v.pre []) ≡ true
  release_ge = ap (λ q. is_ge (pre_cmp q [])) release

  cargo_term : (s : Simple) → list_all (meets_comparator v) (map comparator_any (printed_term Exact Cargo s)) ≡ term_met Cargo false v s
  cargo_term s =
      term_meets Exact refl v release_ge Cargo s (both_sided s.operator (stated_shape s.partial) (pre_any s.partial) (none_any s)).0
      ∙ release_means s v Cargo release

  npm_term : (s : Simple) → list_all (meets_comparator v) (map comparator_any (printed_term Exact Npm s)) ≡ term_met Npm false v s
  npm_term s =
      term_meets Exact refl v release_ge Npm s (both_sided s.operator (stated_shape s.partial) (pre_any s.partial) (none_any s)).1
      ∙ release_means s v Npm release

  -- a release counts in each range
  counted : (d : Dialect) (ss : List Simple) → list_all (term_met d false v) ss ≡ range_met d false v ss
  counted d ss = sym (ap (λ b. list_all (term_met d false v) ss
      && (b || list_any (λ s. states_pre_release_at (of_simple s) v) ss)) is_release ∙ and-true _)

  ranges_counted : (d : Dialect) (rs : List (List Simple)) → list_any (λ ss. list_all (term_met d false v) ss) rs ≡ list_any (range_met d false v) rs
  ranges_counted d rs = list_any-same (λ ss. list_all (term_met d false v) ss) (range_met d false v) (counted d) rs

  pub cargo_meets : (tree : SetTree) (set : PlainSet)
      → set ≡ record { ranges = printed_ranges Exact Cargo mode.Cargo tree; compat = mode.Cargo }
      → meets_set v set ≡ cargo.meets_requirement ByDialect tree v
  cargo_meets tree set is = sym (release_set v set is_release) ∙ ap (λ s. meets_set v (set_any s)) is
      ∙ ranges_meet Exact Cargo false v cargo_term mode.Cargo (ranges_of Cargo tree)
      ∙ ranges_counted Cargo (ranges_of Cargo tree) ∙ cargo_default v tree

  -- a release satisfies a term that matches everything
  met : (operator : Operator) {s : List ℕ} → Shape s → (p : List IdentifierValue) → asks_nothing_by operator (is_empty s) (is_zero (filled s p)) ≡ true
      → meets_by_count ByDialect operator s (filled s p) v ≡ true
  met Less s p e = cc
  met Greater s p e = cc
  met GreaterOrEqual Shape.none p e = refl
  met GreaterOrEqual (Shape.one x) p e = or_left _ _ e
  met GreaterOrEqual (Shape.two x y) p e = or_left _ _ e
  met GreaterOrEqual (Shape.three x y w) p e = or_left _ _ e
  met Hyphen Shape.none p e = refl
  met Hyphen (Shape.one x) p e = or_left _ _ e
  met Hyphen (Shape.two x y) p e = or_left _ _ e
  met Hyphen (Shape.three x y w) p e = or_left _ _ e
  met _ Shape.none p e = refl
  met _ (Shape.one x) p e = cc
  met _ (Shape.two x y) p e = cc
  met _ (Shape.three x y w) p e = cc

  term_of_all : (s : Simple) → matches_everything (of_simple s) ≡ true → term_met Npm false v s ≡ true
  term_of_all s e = met s.operator (stated_shape s.partial) (pre_any s.partial) (asks_any s.operator (stated s.partial) (zero_filled s.partial) ∙ e)

  range_of_all : (ss : List Simple) → range_every ss ≡ true → range_met Npm false v ss ≡ true
  range_of_all ss e = sym (counted Npm ss)
      ∙ list_all-weaker (λ s. matches_everything (of_simple s)) (term_met Npm false v) term_of_all ss e

  every_range : (rs : List (List Simple)) → list_any (range_met Npm false v) rs
      ≡ (if list_any range_every rs then is_empty v.pre else list_any (range_met Npm false v) rs)
  every_range rs = by_test (list_any range_every rs)
      (λ y. rw y (list_any-weaker range_every (range_met Npm false v) range_of_all rs y ∙ sym is_release))
      (λ n. rw n refl)

  pub npm_meets : (tree : SetTree) (set : PlainSet)
      → set ≡ record { ranges = printed_ranges Exact Npm mode.Npm tree; compat = mode.Npm }
      → meets_set v set ≡ npm.meets_npm ByDialect tree v
  npm_meets tree set is = sym (release_set v set is_release) ∙ ap (λ s. meets_set v (set_any s)) is
      ∙ ranges_meet Exact Npm false v npm_term mode.Npm (map yielded tree)
      ∙ ranges_counted Npm (map yielded tree) ∙ every_range (map yielded tree) ∙ npm_default v tree
