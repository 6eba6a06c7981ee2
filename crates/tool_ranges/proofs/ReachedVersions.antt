-- Whether some version that satisfies a range text is at or above another one, found from the events
-- of the text.
use Rattle.std.proofs.Common.{◌≡◌, Bool, true, false, ◌&&◌, ◌||◌, List, ◌∷◌, refl, sym, ap, ◌∙◌, subst, true≢false, rules}
use Rattle.std.specs.Prelude.{◌↔◌}
use Rattle.std.proofs.lemmas.Bool.{and_parts}
use Rattle.std.specs.List.{list_all}
use Rattle.semver_texts.specs.Texts.{Text, is_empty}
use Rattle.semver_texts.specs.Versions.{PlainVersion, VersionValue, without_build}
use Rattle.semver_texts.proofs.Lists.{by_test}
use Rattle.semver_ranges.specs.RangeTree.{SetTree, Simple}
use Rattle.semver_ranges.specs.StatedPreReleases.{states_pre_release_at}
use Rattle.semver_ranges.specs.Steps.RangeEvents.{Event, event_fits, one_simple}
use Rattle.semver_ranges.specs.Terms.{of_simple}
use Rattle.version_sets.specs.AtOrAbove.{HasAtOrAbove}
use Rattle.version_sets.specs.PreReleaseRules.{numbers_fit}
use Rattle.version_sets.specs.declared.conjunction.Conjunction.{Conjunction}
use Rattle.version_sets.specs.declared.rules.PreReleases.{PreReleases}
use Rattle.version_sets.specs.declared.rules.PreReleases.TheVariants.{ByDialect, Included, Excluded}
use Rattle.version_sets.specs.Steps.Ends.{in_each}
use Rattle.version_sets.specs.VersionSets.{Fits, IsPreRelease, IsRelease}
use Rattle.semver_ranges.specs.declared.checked.Checked.{Checked}
use Rattle.semver_ranges.specs.declared.dialect.Dialect.{Dialect}
use Rattle.tool_ranges.specs.declared.matching.Progress.{Progress}
use Rattle.tool_ranges.specs.AtOrAbove as ofs
use Rattle.tool_ranges.specs.Meanings.{meant_by}
use Rattle.tool_ranges.specs.Dialects.{SpellsAs}
use Rattle.semver_ranges.specs.DialectTable.{grammar_of}
use Rattle.tool_ranges.specs.NpmMeaning.{matches_everything}
use Rattle.semver_ranges.specs.Sides.{term_fits}
use Rattle.semver_ranges.specs.Steps.Checked.{HasEvents}
use Rattle.tool_ranges.specs.Steps.TextEvents.{events_in, ranges_of}
use Rattle.tool_ranges.specs.Steps.Matching.{after, begun, counts, ended, is_met, taken, takes_all, takes_releases, term_met}
use Rattle.tool_ranges.specs.Steps.Reaching.{may_count, states_some}
use Rattle.tool_ranges.proofs.BuiltSets.{every_is_met, met_is_met, met_of}
use Rattle.tool_ranges.proofs.MatchedEvents.{says_so}
use Rattle.tool_ranges.proofs.MatchedMeanings.{same_plain}
use Rattle.tool_ranges.proofs.MatchedRanges.{means}
use Rattle.tool_ranges.proofs.ReadingLaws.{one_tree}

or_left : (a b : Bool) → a ≡ true → (a || b) ≡ true
or_left a b e = rw e refl

or_right : (a b : Bool) → b ≡ true → (a || b) ≡ true
or_right true b e = refl
or_right false b e = e

or_other : (a b : Bool) → (a || b) ≡ true → a ≡ false → b ≡ true
or_other a b e n = rw n at e

or_assoc : (a b c : Bool) → ((a || b) || c) ≡ (a || (b || c))
or_assoc true b c = refl
or_assoc false b c = refl

or_false : (b : Bool) → (b || false) ≡ b
or_false true = refl
or_false false = refl

and_true : (b : Bool) → (b && true) ≡ b
and_true true = refl
and_true false = refl

and_or : (k a b : Bool) → (k && (a || b)) ≡ ((k && a) || (k && b))
and_or true a b = refl
and_or false a b = refl

-- ---- versions of a kind that pass tests

module _ (K : PlainVersion → Type 0) (x : PlainVersion) where
  pub has_same : (f g : PlainVersion → Bool) → ((v : PlainVersion) → K v → f v ≡ g v) → HasAtOrAbove K f x → HasAtOrAbove K g x
  has_same f g same has = (has.0, has.1, sym (same has.0 has.1) ∙ has.2, has.3)

  pub has_or : (f g h : PlainVersion → Bool) (a b : Bool) → ((v : PlainVersion) → K v → h v ≡ (f v || g v))
      → (a ≡ true) ↔ HasAtOrAbove K f x → (b ≡ true) ↔ HasAtOrAbove K g x → ((a || b) ≡ true) ↔ HasAtOrAbove K h x
  has_or f g h a b is one other = (
    λ e. by_test a
        (λ y. let found = one.0 y in (found.0, found.1, is found.0 found.1 ∙ or_left _ _ found.2, found.3))
        (λ n. let found = other.0 (or_other a b e n) in (found.0, found.1, is found.0 found.1 ∙ or_right _ _ found.2, found.3)),
    λ has. by_test (f has.0)
        (λ y. or_left a b (one.1 (has.0, has.1, y, has.3)))
        (λ n. or_right a b (other.1 (has.0, has.1, or_other _ _ (sym (is has.0 has.1) ∙ has.2) n, has.3))),
  )

-- ---- the terms of a range that name a pre-release

module _ (here : Conjunction) (x : PlainVersion) where
  -- some pre-release that isn't below x satisfies the terms, and one of those that are left names it
  abbrev pub HasStated : List Event → Type 0
  HasStated es = HasAtOrAbove IsPreRelease (λ v. in_each here v && states_some es v) x

  -- some pre-release that isn't below x satisfies the terms, and this one names it
  abbrev pub HasNamed : Simple → Type 0
  HasNamed s = HasAtOrAbove IsPreRelease (λ v. in_each here v && states_pre_release_at (of_simple s) v) x

  module _ (s : Simple) (es : List Event) where
    both : (v : PlainVersion) → (in_each here v && states_some (one_simple s ∷ es) v)
        ≡ ((in_each here v && states_pre_release_at (of_simple s) v) || (in_each here v && states_some es v))
    both v = and_or (in_each here v) (states_pre_release_at (of_simple s) v) (states_some es v)

    pub stated_first : HasNamed s → HasStated (one_simple s ∷ es)
    stated_first has = (has.0, has.1, both has.0 ∙ or_left _ _ has.2, has.3)

    pub stated_later : HasStated es → HasStated (one_simple s ∷ es)
    stated_later has = (has.0, has.1, both has.0 ∙ or_right _ _ has.2, has.3)

    pub stated_other : ¬ (HasNamed s) → HasStated (one_simple s ∷ es) → HasStated es
    stated_other none has = by_test (in_each here has.0 && states_pre_release_at (of_simple s) has.0)
        (λ y. absurd (none (has.0, has.1, y, has.3)))
        (λ n. (has.0, has.1, or_other _ _ (sym (both has.0) ∙ has.2) n, has.3))

  pub none_stated : (es : List Event) → ((v : PlainVersion) → states_some es v ≡ false) → ¬ (HasStated es)
  none_stated es none has =
      let parts = and_parts (in_each here has.0) (states_some es has.0) has.2 in
      true≢false (sym parts.1 ∙ none has.0)

-- ---- whether some version that satisfies the terms of a range counts in it

counts_excluded : (e m s : Bool) → e ≡ true → (e && (m && ((false || e) || s))) ≡ m
counts_excluded true m s y = and_true m
counts_excluded false m s y = cc

counts_release : (e m s : Bool) → e ≡ true → (m && ((false || e) || s)) ≡ m
counts_release true m s y = and_true m
counts_release false m s y = cc

counts_stated : (e m s : Bool) → e ≡ false → (m && ((false || e) || s)) ≡ (m && s)
counts_stated true m s n = cc
counts_stated false m s n = refl

module _ (here : Conjunction) (x : PlainVersion) (es : List Event) where
  -- whether a version satisfies the terms of a range, and counts in it
  abbrev pub is_one : PreReleases → PlainVersion → Bool
  is_one rule v = may_count rule v && (in_each here v && (counts (takes_all rule) v || states_some es v))

  release_is_one : (rule : PreReleases) (v : PlainVersion) → is_empty v.pre ≡ true → is_one rule v ≡ in_each here v
  release_is_one Excluded v e = counts_excluded (is_empty v.pre) (in_each here v) (states_some es v) e
  release_is_one Included v e = and_true (in_each here v)
  release_is_one ByDialect v e = counts_release (is_empty v.pre) (in_each here v) (states_some es v) e

  stated_is_one : (v : PlainVersion) → is_empty v.pre ≡ false → is_one ByDialect v ≡ (in_each here v && states_some es v)
  stated_is_one v e = counts_stated (is_empty v.pre) (in_each here v) (states_some es v) e

  module _ (no : ¬ (HasAtOrAbove IsRelease (in_each here) x)) where
    is_pre : (rule : PreReleases) (has : HasAtOrAbove Fits (is_one rule) x) → is_empty (has.0).pre ≡ false
    is_pre rule has = by_test (is_empty (has.0).pre)
        (λ y. absurd (no (has.0, (has.1, y), sym (release_is_one rule has.0 y) ∙ has.2, has.3)))
        (λ n. n)

    pub only_releases : (rule : PreReleases) → rule ≡ Excluded → (false ≡ true) ↔ HasAtOrAbove Fits (is_one rule) x
    only_releases rule e = (
      λ y. absurd (true≢false (sym y)),
      λ has. let has = subst (λ rule. HasAtOrAbove Fits (is_one rule) x) e has in
          sym (is_pre Excluded has)
          ∙ (and_parts (is_empty (has.0).pre) (in_each here has.0 && (counts false has.0 || states_some es has.0)) has.2).0,
    )

    pub all_pre_releases : (rule : PreReleases) (b : Bool) → rule ≡ Included → (b ≡ true) ↔ HasAtOrAbove IsPreRelease (in_each here) x
        → (b ≡ true) ↔ HasAtOrAbove Fits (is_one rule) x
    all_pre_releases rule b e is = (
      λ y. let has = is.0 y in
          subst (λ rule. HasAtOrAbove Fits (is_one rule) x) (sym e) (has.0, (has.1).0, and_true (in_each here has.0) ∙ has.2, has.3),
      λ some. let has = subst (λ rule. HasAtOrAbove Fits (is_one rule) x) e some in
          is.1 (has.0, (has.1, is_pre Included has), sym (and_true (in_each here has.0)) ∙ has.2, has.3),
    )

    pub stated_pre_releases : (rule : PreReleases) (b : Bool) → rule ≡ ByDialect → (b ≡ true) ↔ HasStated here x es
        → (b ≡ true) ↔ HasAtOrAbove Fits (is_one rule) x
    stated_pre_releases rule b e is = (
      λ y. let has = is.0 y in
          subst (λ rule. HasAtOrAbove Fits (is_one rule) x) (sym e)
          (has.0, (has.1).0, stated_is_one has.0 (has.1).1 ∙ has.2, has.3),
      λ some. let has = subst (λ rule. HasAtOrAbove Fits (is_one rule) x) e some in
          let pre = is_pre ByDialect has in
          is.1 (has.0, (has.1, pre), sym (stated_is_one has.0 pre) ∙ has.2, has.3),
    )

-- ---- what is known after some events

-- what is known of each version after some events is what is kept for all versions: those that
-- satisfy the terms of the current range, where that range begins, whether some version that isn't
-- below x satisfies an earlier range, and whether the current range or an earlier one matches
-- everything
pub record Knows (d : Dialect) (rule : PreReleases) (x : PlainVersion) (here : Conjunction) (begin : Checked)
    (found matches_all matched_all : Bool) (progress : PlainVersion → Progress) (left : List Event) : Type 0 where
  pub range : List Event
  pub has : HasEvents (grammar_of d) begin range
  pub fit : list_all (event_fits (term_fits d)) range ≡ true
  pub meets : (v : PlainVersion) → Fits v → in_each here v ≡ (progress v).here
  pub matches : (v : PlainVersion) → Fits v → matches_all ≡ (progress v).matches_all
  pub matched : (v : PlainVersion) → Fits v → matched_all ≡ (progress v).matched_all
  pub counted : (v : PlainVersion) → Fits v
      → ((progress v).counts || states_some left v) ≡ (counts (takes_all rule) v || states_some range v)
  pub finds : (found ≡ true) ↔ HasAtOrAbove Fits (λ v. may_count rule v && (progress v).met) x

module _ (d : Dialect) (rule : PreReleases) (x : PlainVersion) where
  pub knows_first : (here : Conjunction) (begin : Checked) (es : List Event) → ((v : PlainVersion) → Fits v → in_each here v ≡ true)
      → HasEvents (grammar_of d) begin es → list_all (event_fits (term_fits d)) es ≡ true
      → Knows d rule x here begin false true false (λ v. begun (counts (takes_all rule) v)) es
  knows_first here begin es all has fit = record {
    range = es;
    has = has;
    fit = fit;
    meets = all;
    matches = λ v small. refl;
    matched = λ v small. refl;
    counted = λ v small. refl;
    finds = (λ e. cc, λ no. absurd (true≢false (sym (and_parts (may_count rule no.0) false no.2).1)));
  }

  module _ (here : Conjunction) (begin : Checked) (found matches_all matched_all : Bool) (progress : PlainVersion → Progress)
      (left : List Event) (known : Knows d rule x here begin found matches_all matched_all progress left) where
    pub knows_term : (s : Simple) (others : List Event) (next : Conjunction) (every : Bool) → left ≡ one_simple s ∷ others
        → ((v : PlainVersion) → Fits v → in_each next v ≡ (in_each here v && term_met d (takes_all rule) v s))
        → every ≡ matches_everything (of_simple s)
        → Knows d rule x next begin found (matches_all && every) matched_all (λ v. taken d (takes_all rule) v s (progress v)) others
    knows_term s others next every is meets all = record {
      range = known.range;
      has = known.has;
      fit = known.fit;
      meets = λ v small. meets v small ∙ ap (λ b. b && term_met d (takes_all rule) v s) (known.meets v small);
      matches = λ v small. ap (λ b. b && every) (known.matches v small) ∙ ap (λ b. (progress v).matches_all && b) all;
      matched = known.matched;
      counted = λ v small.
          or_assoc (progress v).counts (states_pre_release_at (of_simple s) v) (states_some others v)
          ∙ ap (λ es. (progress v).counts || states_some es v) (sym is) ∙ known.counted v small;
      finds = known.finds;
    }

    pub matched_more : (v : PlainVersion) → Fits v
        → (matched_all || matches_all) ≡ (ended (counts (takes_all rule) v) (progress v)).matched_all
    matched_more v small i = known.matched v small i || known.matches v small i

    -- whether some version that isn't below x satisfies the current range, too
    module _ (none : (v : PlainVersion) → states_some left v ≡ false) (some : Bool)
        (is : (some ≡ true) ↔ HasAtOrAbove Fits
        (λ v. may_count rule v && (in_each here v && (counts (takes_all rule) v || states_some known.range v))) x) where
      counts_here : (v : PlainVersion) → Fits v → (counts (takes_all rule) v || states_some known.range v) ≡ (progress v).counts
      counts_here v small = sym (known.counted v small) ∙ ap (λ b. (progress v).counts || b) (none v) ∙ or_false (progress v).counts

      pub found_more : ((found || some) ≡ true)
          ↔ HasAtOrAbove Fits (λ v. may_count rule v && (ended (counts (takes_all rule) v) (progress v)).met) x
      found_more = has_or Fits x _ _ _ found some
          (λ v small. and_or (may_count rule v) (progress v).met ((progress v).here && (progress v).counts)
          ∙ (λ i. (may_count rule v && (progress v).met)
          || (may_count rule v && (sym (known.meets v small) i && sym (counts_here v small) i))))
          known.finds is

      pub knows_range : (others : List Event) (next : Conjunction) (terms : Checked)
          → ((v : PlainVersion) → Fits v → in_each next v ≡ true)
          → HasEvents (grammar_of d) terms others → list_all (event_fits (term_fits d)) others ≡ true
          → Knows d rule x next terms (found || some) true (matched_all || matches_all)
          (λ v. ended (counts (takes_all rule) v) (progress v)) others
      knows_range others next terms all has fit = record {
        range = others;
        has = has;
        fit = fit;
        meets = all;
        matches = λ v small. refl;
        matched = matched_more;
        counted = λ v small. refl;
        finds = found_more;
      }

-- ---- at the end of the text

-- the kinds that count under a rule are those that the rule's test has
may_be_met : (rule : PreReleases) (v : PlainVersion) (p : Progress) → met_of rule v p ≡ (may_count rule v && p.met)
may_be_met Excluded v p = refl
may_be_met Included v p = refl
may_be_met ByDialect v p = refl

module _ (d : Dialect) (rule : PreReleases) (x : PlainVersion) (t : Text) (tree other : SetTree) (spelled : SpellsAs d tree t)
    (also : SpellsAs d other t) (progress : PlainVersion → Progress)
    (same : (v : PlainVersion) → Fits v
    → after d (takes_all rule) v (begun (counts (takes_all rule) v)) (events_in (ranges_of d tree)) ≡ progress v) where
  abbrev last : PlainVersion → Progress
  last v = ended (counts (takes_all rule) v) (progress v)

  is_meant : (v : VersionValue) → Fits v.plain → is_met d rule v.plain (last v.plain) ≡ meant_by d rule other v
  is_meant v small =
      let fits : numbers_fit v.plain ≡ true = search rules in
      means v.plain fits d rule tree (last v.plain)
      (says_so d (takes_all rule) v.plain t tree spelled (last v.plain) (ap (ended (counts (takes_all rule) v.plain)) (same v.plain small)))
      ∙ same_plain d rule tree (without_build v.plain) v refl
      ∙ ap (λ tree. meant_by d rule tree v) (one_tree d tree other t spelled also)

  abbrev pub HasResult : Bool → Type 0
  HasResult b = (b ≡ true) ↔ ofs.HasAtOrAbove (record { dialect = d; pre_releases = rule }) other x

  by_test_of : (b : Bool) (test : PlainVersion → Bool) → ((v : PlainVersion) → Fits v → is_met d rule v (last v) ≡ test v)
      → (b ≡ true) ↔ HasAtOrAbove Fits test x → HasResult b
  by_test_of b test is has = (
    λ e. let found = has.0 e in
        (without_build found.0, found.1, sym (is_meant (without_build found.0) found.1) ∙ is found.0 found.1 ∙ found.2, found.3),
    λ some. has.1 ((some.0).plain, some.1, sym (is (some.0).plain some.1) ∙ is_meant some.0 some.1 ∙ some.2, some.3),
  )

  module _ (every : Bool) (matched : (v : PlainVersion) → Fits v → every ≡ (last v).matched_all) where
    -- each release satisfies the text, and no pre-release does
    pub every_release : (all : Conjunction) (b : Bool) → (every && takes_releases d rule) ≡ true
        → ((v : PlainVersion) → Fits v → in_each all v ≡ true) → (b ≡ true) ↔ HasAtOrAbove IsRelease (in_each all) x → HasResult b
    every_release all b e is has = by_test_of b (λ v. is_empty v.pre)
        (λ v small. every_is_met d rule v (last v) (ap (λ b. b && takes_releases d rule) (sym (matched v small)) ∙ e)) (
          λ y. let found = has.0 y in (found.0, (found.1).0, (found.1).1, found.3),
          λ some. has.1 (some.0, (some.1, some.2), is some.0 some.1, some.3),
        )

    -- a version satisfies the text if it satisfies some range
    pub some_range : (b : Bool) → (every && takes_releases d rule) ≡ false
        → (b ≡ true) ↔ HasAtOrAbove Fits (λ v. may_count rule v && (last v).met) x → HasResult b
    some_range b e has = by_test_of b (λ v. may_count rule v && (last v).met)
        (λ v small. met_is_met d rule v (last v) (ap (λ b. b && takes_releases d rule) (sym (matched v small)) ∙ e)
        ∙ may_be_met rule v (last v)) has
