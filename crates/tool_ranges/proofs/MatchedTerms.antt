-- For a term that was read, the test of a version has the result that the definition gives for the
-- term of the tree.
use Rattle.std.proofs.Common.{◌≡◌, ℕ, Bool, true, false, not, ◌&&◌, ◌==◌, if◌then◌else◌, nat_eq, List, [], ◌∷◌, length, refl, sym, ap, ◌∙◌}
use Rattle.std.proofs.Math.Bool.{and-false, and-true}
use Rattle.std.specs.Cmp.Lexicographic.{pointwise}
use Rattle.semver_texts.specs.Digits.{digits_in, identifiers_by, plain_by}
use Rattle.semver_texts.specs.Texts.{is_empty}
use Rattle.semver_texts.specs.Versions.{IdentifierValue, PlainVersion, numbers}
use Rattle.semver_texts.specs.declared.grammar.Digits.TheVariants.{AnySize}
use Rattle.semver_texts.proofs.Lists.{by_test}
use Rattle.semver_ranges.specs.declared.grammar.Simple as read
use Rattle.semver_ranges.specs.declared.operator.Operator.{Operator}
use Rattle.semver_ranges.specs.RangeTree.{Simple}
use Rattle.semver_ranges.specs.Partials.{pre_release, stated, zero_filled}
use Rattle.semver_ranges.specs.StatedPreReleases.{states_pre_release_at}
use Rattle.semver_ranges.specs.Terms.{of_simple}
use Rattle.semver_ranges.specs.Steps.CursorViews.{IsSimpleOf}
use Rattle.semver_ranges.specs.Steps.PartialViews.{stated_of, version_of}
use Rattle.semver_ranges.proofs.SetMeanings.{stated_shape}
use Rattle.semver_ranges.specs.declared.dialect.Dialect.{Dialect}
use Rattle.semver_ranges.specs.declared.dialect.Dialect.TheVariants.{Cargo, Npm, CrateCargo, CrateNpm}
use Rattle.semver_ranges.specs.DialectTable.{grammar_of}
use Rattle.tool_ranges.specs.NpmMeaning.{asks_nothing_by, is_zero, matches_everything}
use Rattle.tool_ranges.specs.Steps.Matching.{states_at, term_met}
use Rattle.semver_ranges.specs.Sides.{term_fits}
use Rattle.tool_ranges.specs.Steps.Table.{is_counted_within, is_within}
use Rattle.tool_ranges.proofs.CargoCells.{cargo_all, cargo_counted, cargo_release, own_within}
use Rattle.semver_ranges.proofs.FitCells.{term_stated}
use Rattle.tool_ranges.proofs.NpmCells.{npm_all, npm_counted, npm_release}

none_is : (is : List IdentifierValue) → is_empty is ≡ true → is ≡ []
none_is [] e = refl
none_is (i ∷ is) e = cc

pub none_any : (s : Simple) → (length (stated s.partial) == 3) ≡ false → identifiers_by AnySize (pre_release s.partial) ≡ []
none_any s n = rw n refl

none_kept : (s : Simple) → (length (stated s.partial) == 3) ≡ false → pre_release s.partial ≡ []
none_kept s n = rw n refl

-- whether a version is within the bounds of a term; if `by_default` is true, within those for
-- pre-releases that count by default
abbrev pub is_within_interval : Dialect → Bool → Operator → List ℕ → PlainVersion → PlainVersion → Bool
is_within_interval d by_default operator s z v = if by_default then is_counted_within d operator s (plain_by (digits_in (grammar_of d)) z) v
    else is_within d operator s (plain_by (digits_in (grammar_of d)) z) v

module _ (s : Simple) (v : PlainVersion) where
  abbrev Means : Dialect → Bool → Bool → Type 0
  Means d all by_default = is_within_interval d by_default s.operator (stated s.partial) (zero_filled s.partial) v ≡ term_met d all v s

  pub all_means : (d : Dialect) → Means d true false
  all_means Cargo = sym (cargo_all v s.operator (stated_shape s.partial) _ (none_any s))
  all_means Npm = sym (npm_all v s.operator (stated_shape s.partial) _ (none_any s))
  all_means CrateCargo = sym (own_within v s.operator (stated_shape s.partial) _ (none_kept s)).0
  all_means CrateNpm = sym (own_within v s.operator (stated_shape s.partial) _ (none_kept s)).1

  pub release_means : (d : Dialect) → v.pre ≡ [] → Means d false false
  release_means Cargo release = sym (cargo_release v release s.operator (stated_shape s.partial) _ (none_any s))
  release_means Npm release = sym (npm_release v release s.operator (stated_shape s.partial) _ (none_any s))
  release_means CrateCargo release = sym (own_within v s.operator (stated_shape s.partial) _ (none_kept s)).0
  release_means CrateNpm release = sym (own_within v s.operator (stated_shape s.partial) _ (none_kept s)).1

  counted_means : (d : Dialect) → is_empty v.pre ≡ false → Means d false true
  counted_means Cargo pre = sym (cargo_counted v pre s.operator (stated_shape s.partial) _ (none_any s))
  counted_means Npm pre = sym (npm_counted v s.operator (stated_shape s.partial) _ (none_any s))
  counted_means CrateCargo pre = sym (own_within v s.operator (stated_shape s.partial) _ (none_kept s)).0
  counted_means CrateNpm pre = sym (own_within v s.operator (stated_shape s.partial) _ (none_kept s)).1

  pub term_means : (d : Dialect) (all by_default : Bool) → by_default ≡ (not all && not (is_empty v.pre)) → Means d all by_default
  term_means d true by_default e = rw e (all_means d)
  term_means d false by_default e = by_test (is_empty v.pre)
      (λ y. rw (e ∙ ap not y) (release_means d (none_is v.pre y)))
      (λ n. rw (e ∙ ap not n) (counted_means d n))

-- ---- a term that was read
module _ (d : Dialect) (s : Simple) (simple : read.Simple) (is : IsSimpleOf s simple) (fit : term_fits d s ≡ true) where
  pub same_read : (stated_of simple.partial ≡ stated s.partial) × (version_of simple.partial ≡ zero_filled s.partial)
  same_read = is.1.1 (sym is.1.0 ∙ term_stated d s fit)

  pub of_tree : (says : Operator → List ℕ → PlainVersion → Bool)
      → says simple.operator (stated_of simple.partial) (version_of simple.partial) ≡ says s.operator (stated s.partial) (zero_filled s.partial)
  of_tree says i = says (is.0 i) (same_read.0 i) (same_read.1 i)

  -- whether it states the numbers of a version, and a pre-release
  pub stated_at : (v : PlainVersion) → states_at simple.partial v ≡ states_pre_release_at (of_simple s) v
  stated_at v = of_tree (λ f n z. not (is_empty z.pre) && pointwise nat_eq (numbers v) n)

  -- whether it matches everything
  pub everything : asks_nothing_by simple.operator (is_empty (stated_of simple.partial)) (is_zero (version_of simple.partial))
      ≡ matches_everything (of_simple s)
  everything = of_tree (λ f n z. asks_nothing_by f (is_empty n) (is_zero z))

  -- whether a version satisfies it: `a` for a release, and `b` for a pre-release
  pub each_kind : (v : PlainVersion) (all a b : Bool)
      → a ≡ is_within_interval d false simple.operator (stated_of simple.partial) (version_of simple.partial) v
      → b ≡ is_within_interval d (not all) simple.operator (stated_of simple.partial) (version_of simple.partial) v
      → (if is_empty v.pre then a else b) ≡ term_met d all v s
  each_kind v all a b e f = by_test (is_empty v.pre)
      (λ y. rw y (e ∙ of_tree (λ f n z. is_within_interval d false f n z v)
      ∙ term_means s v d all false (sym (ap (λ b. not all && not b) y ∙ and-false (not all)))))
      (λ n. rw n (f ∙ of_tree (λ f n z. is_within_interval d (not all) f n z v)
      ∙ term_means s v d all (not all) (sym (ap (λ b. not all && not b) n ∙ and-true (not all)))))
