-- There is at most one lowest version.
use Rattle.std.proofs.Common.{IfSome, ◌≡◌, ◌≢◌, ◌↔◌, [], refl, sym, ap, ◌∙◌, Option, Some, None, option_map}
use Rattle.std.proofs.Common.{IfOk, Result, alloc_error}
use Rattle.std.specs.Cmp.{IsTotalOrder}
use Rattle.std.specs.Ordering.{ordering_reverse}
use Rattle.std.specs.declared.alloc.AllocError.{AllocError}
use Rattle.std.specs.declared.cmp.Ordering.{Ordering}
use Rattle.std.specs.declared.cmp.Ordering.TheVariants.{Less, Equal, Greater}
use Rattle.semver_texts.specs.Digits.{plain_kept}
use Rattle.semver_parser.specs.Precedence.{precedence}
use Rattle.semver_parser.specs.Versions.{PlainVersion}
use Rattle.semver_parser.specs.VersionViews.{version_value}
use Rattle.semver_parser.specs.declared.version.Version.{Version}
use Rattle.semver_versions.specs.VersionRefs.{VersionRefValue, owned_value}
use Rattle.version_sets.specs.VersionSets.{SetValue, IsIn, IsLowest, IsRelease, HasNone}
use Rattle.version_sets.specs.Comparisons.{IsLowestOf, TellsLowest}
use Rattle.version_sets.specs.Releases.{release_value}
use Rattle.version_sets.specs.declared.Release.{Release}
use Rattle.result_laws.specs.OneResult.{AreOne, itself}
use Rattle.result_laws.proofs.OneResult.{one_made, of_ok}
use Rattle.result_laws.proofs.SameSets.{plainly}

-- the clauses of a call about the lowest version with K in a set: which it is, that it has no build
-- metadata, and when there is none
abbrev IsThat : (K : PlainVersion → Type 0) → SetValue → Option Version → Type 0
IsThat K set x = IfSome x (λ version. (v : PlainVersion) × IsLowest K set v × ((version_value version).plain ≡ plain_kept v))

abbrev HasNoBuild : Option Version → Type 0
HasNoBuild x = IfSome x (λ version. (version_value version).build ≡ [])

abbrev IsNoneIfNone : (K : PlainVersion → Type 0) → SetValue → Option Version → Type 0
IsNoneIfNone K set x = (x ≡ None) ↔ HasNone K set

-- the clause of `lowest_owned` about that version
abbrev IsOwned : (K : PlainVersion → Type 0) → SetValue → Option VersionRefValue → Type 0
IsOwned K set x = IfSome x (λ version. (v : PlainVersion) × IsLowest K set v × (version ≡ owned_value (plain_kept v)))

-- these clauses imply `TellsLowest`, which is how the clauses of a comparison are stated
lower_one : (K : PlainVersion → Type 0) (set : SetValue) (x : Option Version) → IsThat K set x → HasNoBuild x → IsNoneIfNone K set x
    → TellsLowest (λ v. K v × IsIn v set) x
lower_one K set None lowest no_build none = λ v one. none.0 refl v one.0 one.1
lower_one K set (Some version) (v, lowest, is) no_build none =
    let tells : IsLowestOf (λ v. K v × IsIn v set) (plainly v) = record {
      is_one = (lowest.is_of_kind, lowest.is_in);
      no_build = refl;
      lowest = λ w one. lowest.lowest w one.0 one.1;
    } in
    (plainly v, tells, λ i. record { plain = is i; build = no_build i })

module _ (total : IsTotalOrder precedence) (exact : (v w : PlainVersion) → (precedence v w ≡ Equal) ↔ (v ≡ w)) where
  -- two versions are equal if neither is below the other
  level : (v w : PlainVersion) → precedence v w ≢ Less → precedence w v ≢ Less → v ≡ w
  level v w p q = by_order (precedence v w) refl
    where
      by_order : (o : Ordering) → precedence v w ≡ o → v ≡ w
      by_order Less e = absurd (p e)
      by_order Equal e = (exact v w).0 e
      by_order Greater e = absurd (q (total.antisymm w v ∙ ap ordering_reverse e))

  pub one_lowest : (IsOne : PlainVersion → Type 0) (x y : Option Version) → TellsLowest IsOne x → TellsLowest IsOne y
      → option_map version_value x ≡ option_map version_value y
  one_lowest IsOne None None p q = refl
  one_lowest IsOne None (Some w) p q = absurd (p _ q.1.is_one)
  one_lowest IsOne (Some v) None p q = absurd (q _ p.1.is_one)
  one_lowest IsOne (Some v) (Some w) p q =
      let plain : p.0.plain ≡ q.0.plain = level _ _ (q.1.lowest _ p.1.is_one) (p.1.lowest _ q.1.is_one) in
      let build : p.0.build ≡ q.0.build = p.1.no_build ∙ sym q.1.no_build in
      ap Some (p.2 ∙ (λ i. record { plain = plain_kept (plain i); build = build i }) ∙ sym q.2)

  -- two results of a call with these clauses count as the same
  pub one_call : (K : PlainVersion → Type 0) (set : SetValue) (r s : Result (Option Version) AllocError)
      → IfOk r (IsThat K set) → IfOk r HasNoBuild → IfOk r (IsNoneIfNone K set)
      → IfOk s (IsThat K set) → IfOk s HasNoBuild → IfOk s (IsNoneIfNone K set) → AreOne alloc_error (option_map version_value) r s
  one_call K set r s p b n p' b' n' = one_made (option_map version_value) r s (λ x y is is'. one_lowest _ x y
      (lower_one K set x (of_ok _ is p) (of_ok _ is b) (of_ok _ is n)) (lower_one K set y (of_ok _ is' p') (of_ok _ is' b') (of_ok _ is' n')))

  one_owned : (K : PlainVersion → Type 0) (set : SetValue) (x y : Option VersionRefValue)
      → IsOwned K set x → (x ≡ None) ↔ HasNone K set → IsOwned K set y → (y ≡ None) ↔ HasNone K set → x ≡ y
  one_owned K set None y p n q n' = sym (n'.1 (n.0 refl))
  one_owned K set x None p n q n' = n.1 (n'.0 refl)
  one_owned K set (Some a) (Some b) (v, p, is) n (w, q, is') n' =
      let e = level v w (q.lowest v p.is_of_kind p.is_in) (p.lowest w q.is_of_kind q.is_in) in
      ap Some (is ∙ ap (λ u. owned_value (plain_kept u)) e ∙ sym is')

  -- two results of `lowest_owned` are equal
  pub one_owned_call : (K : PlainVersion → Type 0) (set : SetValue) (r s : Result (Option VersionRefValue) AllocError)
      → IfOk r (IsOwned K set) → IfOk r (λ x. (x ≡ None) ↔ HasNone K set)
      → IfOk s (IsOwned K set) → IfOk s (λ x. (x ≡ None) ↔ HasNone K set) → AreOne alloc_error itself r s
  one_owned_call K set r s p n p' n' = one_made itself r s (λ x y is is'. one_owned K set x y (of_ok _ is p) (of_ok _ is n) (of_ok _ is' p') (of_ok _ is' n'))

  pub one_lowest_release : (set : SetValue) (x y : Option Release) → IfSome x (λ r. IsLowest IsRelease set (release_value r))
      → (x ≡ None) ↔ HasNone IsRelease set → IfSome y (λ r. IsLowest IsRelease set (release_value r))
      → (y ≡ None) ↔ HasNone IsRelease set → x ≡ y
  one_lowest_release set None y p n q n' = sym (n'.1 (n.0 refl))
  one_lowest_release set x None p n q n' = n.1 (n'.0 refl)
  one_lowest_release set (Some a) (Some b) p n q n' =
      let e = level (release_value a) (release_value b) (q.lowest (release_value a) p.is_of_kind p.is_in)
      (p.lowest (release_value b) q.is_of_kind q.is_in) in
      ap Some (λ i. record { major = (e i).major; minor = (e i).minor; patch = (e i).patch })
