-- The first boundary of a kind is the lowest version of that kind in a set. The lowest version in a
-- set is the lower of the first boundaries of both kinds.
use Rattle.std.proofs.Common.{arith, ◌≡◌, ◌≢◌, ◌<◌, ◌^◌, ℕ, ◌↔◌, Bool, true, false, ◌&&◌, cond, List, [], ◌∷◌, refl, Ordering, is_lt}
use Rattle.std.proofs.Common.{sym, ap, ◌∙◌, subst, true≢false, Less, Option, Some, None, map, Bor}
use Rattle.std.specs.Option.{option_copied}
use Rattle.std.specs.Prelude.{MatchOption, IfSome, slice_get, option_map}
use Rattle.semver_texts.specs.Digits.{plain_kept}
use Rattle.semver_texts.specs.VersionViews.{version_value}
use Rattle.semver_texts.specs.declared.version.Version.{Version}
use Rattle.version_sets.specs.Comparisons.{TellsLowest, IsLowestOf, LowestIsPreRelease}
use Rattle.version_sets.specs.Combinations.{IsKept}
use Rattle.version_sets.specs.Steps.Combined.{combined_sets}
use Rattle.version_sets.specs.Steps.Lower.{lower}
use Rattle.version_sets.specs.declared.set_operations.Combination.{Combination}
use Rattle.semver_texts.specs.Texts.{is_empty}
use Rattle.semver_texts.specs.Versions.{PlainVersion, VersionValue, without_build}
use Rattle.semver_texts.specs.Precedence.{precedence}
use Rattle.version_sets.specs.Boundaries.{is_inside}
use Rattle.version_sets.specs.VersionSets.{SetValue, contains, Fits, IsIn, IsRelease, IsPreRelease, IsWithin, AreBoundaries, IsNormal, IsLowest, HasNone}
use Rattle.version_sets.specs.Steps.Within.{IsFirstInside, IsOfKindWithin}
use Rattle.semver_texts.specs.Steps.PrecedenceLaws.{precedence_total}
use Rattle.version_sets.proofs.SetLaws.{contains-release, contains-pre_release, contains-combined, combined-normal}
use Rattle.version_sets.proofs.BoundaryLaws.{is_inside-first, is_inside-below, by_order, turned_below}
use Rattle.version_sets.proofs.SweepLaws.{by_test}

-- o is the lowest version with P in a set, or `None` if no version with P is in it
abbrev pub TellsPlain : (PlainVersion → Type 0) → SetValue → Option PlainVersion → Type 0
TellsPlain P set o = MatchOption o (HasNone P set) (IsLowest P set)

-- the first boundary of a kind P is the lowest version of that kind in the set
first_tells : (set : SetValue) (P : PlainVersion → Type 0) (xs : List PlainVersion) → AreBoundaries P xs
    → ((v : PlainVersion) → P v → Fits v × (contains set v ≡ is_inside precedence xs v)) → TellsPlain P set (slice_get xs 0)
first_tells set P [] s is = λ v k h. true≢false (sym h.1 ∙ (is v k).1)
first_tells set P (b ∷ ys) s is =
    let k = s.are_of_kind.0 in
    record {
      is_of_kind = k;
      is_in = ((is b k).0, (is b k).1 ∙ is_inside-first precedence precedence_total b ys s.increase.0);
      lowest = λ w k h l. true≢false (sym h.1 ∙ (is w k).1 ∙ is_inside-below precedence w (b ∷ ys) l);
    }

module _ (set : SetValue) (s : IsNormal set) where
  pub first_release : TellsPlain IsRelease set (slice_get set.releases 0)
  first_release = first_tells set IsRelease set.releases s.releases (λ v k. (k.0, contains-release set v k.1))

  pub first_pre_release : TellsPlain IsPreRelease set (slice_get set.pre_releases 0)
  first_pre_release = first_tells set IsPreRelease set.pre_releases s.pre_releases (λ v k. (k.0, contains-pre_release set v k.1))

  pub pre_release_is : (p : PlainVersion) → slice_get set.pre_releases 0 ≡ Some p → IsPreRelease p
  pre_release_is p e = let told = subst (TellsPlain IsPreRelease set) e first_pre_release in told.is_of_kind

-- ---- the lowest version of either kind

-- a version with K is one with R or with Q, which are both kinds of K
module _ (set : SetValue) (K R Q : PlainVersion → Type 0) (by_kind : (w : PlainVersion) (G : Type 0) → K w → (R w → G) → (Q w → G) → G)
    (of_r : (w : PlainVersion) → R w → K w) (of_q : (w : PlainVersion) → Q w → K w) where
  neither : HasNone R set → HasNone Q set → HasNone K set
  neither r q = λ v k h. by_kind v _ k (λ is. r v is h) (λ is. q v is h)

  -- a version in the set is the lowest if none with R and none with Q in the set is below it
  lower_one : (b : PlainVersion) → K b → IsIn b set → ((w : PlainVersion) → R w → IsIn w set → precedence w b ≢ Less)
      → ((w : PlainVersion) → Q w → IsIn w set → precedence w b ≢ Less) → IsLowest K set b
  lower_one b k h f g = record { is_of_kind = k; is_in = h; lowest = λ w is i. by_kind w _ is (λ r. f w r i) (λ q. g w q i) }

  below_then : (b v p : PlainVersion) → precedence v b ≢ Less → precedence v p ≡ Less → precedence b p ≡ Less
  below_then b v p n e =
      by_order (precedence v b) (λ l. absurd (n l)) (λ t. sym (precedence_total.congr v b p t) ∙ e)
      (λ g. precedence_total.trans b v p (turned_below precedence precedence_total v b g) e)

  -- the lower of the lowest with R and the lowest with Q is the lowest with K in the set
  lower_is : (r p : Option PlainVersion) → TellsPlain R set r → TellsPlain Q set p → TellsPlain K set (lower r p)
  lower_is None None f g = neither f g
  lower_is (Some b) None l g = lower_one b (of_r b l.is_of_kind) l.is_in l.lowest (λ w k h. absurd (g w k h))
  lower_is None (Some p) f m = lower_one p (of_q p m.is_of_kind) m.is_in (λ w k h e. f w k h) m.lowest
  lower_is (Some b) (Some p) l m = at (is_lt (precedence b p)) refl
    where
      less : (o : Ordering) → is_lt o ≡ true → o ≡ Less
      less o e = grind arith

      at : (t : Bool) → is_lt (precedence b p) ≡ t → TellsPlain K set (cond t (Some b) (Some p))
      at true e = lower_one b (of_r b l.is_of_kind) l.is_in l.lowest
          (λ w k h below. m.lowest w k h (precedence_total.trans w b p below (less _ e)))
      at false e = lower_one p (of_q p m.is_of_kind) m.is_in
          (λ w k h below. true≢false (sym (ap is_lt (below_then b w p (l.lowest w k h) below)) ∙ e)) m.lowest

module _ (set : SetValue) where
  -- a version is a release or a pre-release
  of_kinds : (w : PlainVersion) (G : Type 0) → Fits w → (IsRelease w → G) → (IsPreRelease w → G) → G
  of_kinds w G fits f g = by_test (is_empty w.pre) (λ t. f (fits, t)) (λ t. g (fits, t))

  pub first_is : IsNormal set → TellsPlain Fits set (lower (slice_get set.releases 0) (slice_get set.pre_releases 0))
  first_is s = lower_is set Fits IsRelease IsPreRelease of_kinds (λ w k. k.0) (λ w k. k.0) _ _ (first_release set s) (first_pre_release set s)

  -- what is first inside the boundaries of a kind is the lowest version of that kind in the set
  inside_tells : (P : PlainVersion → Type 0) (xs : List PlainVersion) (found : Option PlainVersion)
      → ((v : PlainVersion) → P v → Fits v × (contains set v ≡ is_inside precedence xs v)) → IsFirstInside P xs found → TellsPlain P set found
  inside_tells P xs None is none = λ v p h. true≢false (sym h.1 ∙ (is v p).1 ∙ none v p)
  inside_tells P xs (Some c) is (p, inside, least) = record {
    is_of_kind = p;
    is_in = ((is c p).0, (is c p).1 ∙ inside);
    lowest = λ w q h. least w q (sym (is w q).1 ∙ h.1);
  }

  -- the lowest version with numbers within a limit
  module _ (most : ℕ) (small : most < 2 ^ 64) where
    within_fits : (v : PlainVersion) → IsWithin most v → Fits v
    within_fits v w = (omega (arith, small, w.0), omega (arith, small, w.1), omega (arith, small, w.2))

    within_kinds : (w : PlainVersion) (G : Type 0) → IsWithin most w → (IsOfKindWithin true most w → G) → (IsOfKindWithin false most w → G) → G
    within_kinds w G within f g = by_test (is_empty w.pre) (λ t. f (within, t)) (λ t. g (within, t))

    pub first_within : (r p : Option PlainVersion) → IsFirstInside (IsOfKindWithin true most) set.releases r
        → IsFirstInside (IsOfKindWithin false most) set.pre_releases p → TellsPlain (IsWithin most) set (lower r p)
    first_within r p first_r first_p =
        lower_is set (IsWithin most) (IsOfKindWithin true most) (IsOfKindWithin false most) within_kinds (λ w k. k.0) (λ w k. k.0) r p
        (inside_tells (IsOfKindWithin true most) set.releases r (λ v k. (within_fits v k.0, contains-release set v k.1)) first_r)
        (inside_tells (IsOfKindWithin false most) set.pre_releases p (λ v k. (within_fits v k.0, contains-pre_release set v k.1)) first_p)

    pub within_pre_release : (p : PlainVersion) (found : Option PlainVersion) → IsFirstInside (IsOfKindWithin false most) set.pre_releases found
        → found ≡ Some p → IsPreRelease p
    within_pre_release p found first is =
        let told = subst (IsFirstInside (IsOfKindWithin false most) set.pre_releases) is first in (within_fits p told.0.0, told.0.1)

  -- a set is empty if and only if it has no boundaries
  empty_lists : (xs ys : List PlainVersion) → TellsPlain IsRelease set (slice_get xs 0) → TellsPlain IsPreRelease set (slice_get ys 0)
      → (is_empty xs && is_empty ys ≡ true) ↔ ((v : PlainVersion) → ¬ IsIn v set)
  empty_lists [] [] f g = (λ _ v h. neither set Fits IsRelease IsPreRelease of_kinds (λ w k. k.0) (λ w k. k.0) f g v h.0 h, λ _. refl)
  empty_lists (b ∷ xs) ys f g = (λ h. absurd (true≢false (sym h)), λ none. absurd (none b f.is_in))
  empty_lists [] (b ∷ ys) f g = (λ h. absurd (true≢false (sym h)), λ none. absurd (none b g.is_in))

  pub tells_empty : IsNormal set → (r : Bool) → r ≡ (is_empty set.releases && is_empty set.pre_releases)
      → (r ≡ true) ↔ ((v : PlainVersion) → ¬ IsIn v set)
  tells_empty s r e =
      let is = empty_lists set.releases set.pre_releases (first_release set s) (first_pre_release set s) in
      (λ h. is.0 (sym e ∙ h), λ none. e ∙ is.1 none)

-- ---- the lowest version as a result

module _ {X : Type 0} (f : X → PlainVersion) (P : PlainVersion → Type 0) (set : SetValue) where
  pub told_some : (o : Option X) → TellsPlain P set (option_map f o) → IfSome o (λ x. IsLowest P set (f x))
  told_some None t = tt
  told_some (Some x) t = t

  pub told_none : (o : Option X) → TellsPlain P set (option_map f o) → (o ≡ None) ↔ HasNone P set
  told_none None t = (λ _. t, λ _. refl)
  told_none (Some x) t = (λ e. cc, λ none. absurd (none (f x) t.is_of_kind t.is_in))

pub first_map : {X : Type 0} (f : X → PlainVersion) (xs : List X) → option_map f (slice_get xs 0) ≡ slice_get (map f xs) 0
first_map f [] = refl
first_map f (x ∷ xs) = refl

-- the first element of a list, from a reference to it
pub first_copied : {X : Type 0} (f : X → PlainVersion) (o : Option (Bor X)) (xs ys : List X) → option_copied o ≡ slice_get xs 0 → xs ≡ ys
    → option_map (λ x. f x.now) o ≡ slice_get (map f ys) 0
first_copied {X = X} f o xs ys e is = after o ∙ ap (option_map f) e ∙ ap (λ l. option_map f (slice_get l 0)) is ∙ first_map f ys
  where
    after : (o : Option (Bor X)) → option_map (λ x. f x.now) o ≡ option_map f (option_copied o)
    after None = refl
    after (Some x) = refl

-- the result is the lowest version in the set, as it is kept and without build metadata, or `None`
-- if and only if the set is empty
pub record IsTold (K : PlainVersion → Type 0) (set : SetValue) (lowest : Option Version) : Type 0 where
  pub is_lowest : IfSome lowest (λ v. (p : PlainVersion) × IsLowest K set p × ((version_value v).plain ≡ plain_kept p))
  pub no_build : IfSome lowest (λ v. (version_value v).build ≡ [])
  pub none : (lowest ≡ None) ↔ HasNone K set

pub is_told : (K : PlainVersion → Type 0) (set : SetValue) (o : Option PlainVersion) → TellsPlain K set o → (lowest : Option Version)
    → option_map version_value lowest ≡ option_map (λ v. without_build (plain_kept v)) o → IsTold K set lowest
is_told K set None told None e = record { is_lowest = tt; no_build = tt; none = (λ _. told, λ _. refl) }
is_told K set None told (Some v) e = absurd (cc)
is_told K set (Some w) told None e = absurd (cc)
is_told K set (Some w) told (Some v) e =
    let same : version_value v ≡ without_build (plain_kept w) = cc in
    record {
      is_lowest = (w, told, ap (λ (u : VersionValue). u.plain) same);
      no_build = ap (λ (u : VersionValue). u.build) same;
      none = (λ n. cc, λ none. absurd (none w told.is_of_kind told.is_in));
    }

module _ (how : Combination) (a b : SetValue) (s : IsNormal a) (t : IsNormal b) where
  -- the lowest version in a combination is the lowest that it keeps of the two sets
  pub kept_lower_one : (v : VersionValue) → v.build ≡ [] → IsLowest Fits (combined_sets how a b) v.plain → IsLowestOf (IsKept how a b) v
  kept_lower_one v no_build l = record {
    is_one = (l.is_in.0, sym (contains-combined how a b s t v.plain) ∙ l.is_in.1);
    no_build = no_build;
    lowest = λ w kept. l.lowest w kept.0 (kept.0, contains-combined how a b s t w ∙ kept.1);
  }

  -- the result for a combination is the lowest version that it keeps
  pub kept_lowest : (lowest : Option Version) → IsTold Fits (combined_sets how a b) lowest → TellsLowest (IsKept how a b) lowest
  kept_lowest None told = λ v kept. told.none.0 refl v kept.0 (kept.0, contains-combined how a b s t v ∙ kept.1)
  kept_lowest (Some version) told =
      let w : VersionValue = without_build told.is_lowest.0 in (
        w,
        kept_lower_one w refl told.is_lowest.1,
        λ i. record { plain = told.is_lowest.2 i; build = told.no_build i },
      )

  -- if the first pre-release is the lowest version in a combination, the lowest version that it
  -- keeps is a pre-release
  pub kept_pre_release : (p : PlainVersion) → slice_get (combined_sets how a b).pre_releases 0 ≡ Some p
      → IsLowest Fits (combined_sets how a b) p
      → LowestIsPreRelease (IsKept how a b)
  kept_pre_release p is l =
      let v : VersionValue = record { plain = p; build = [] } in
      (v, pre_release_is (combined_sets how a b) (combined-normal how a b s t) p is, kept_lower_one v refl l)
