-- The clauses of a result of `upgrade`, from what is known where it is returned.
use Rattle.std.proofs.Common.{◌≡◌, ◌↔◌, ◌≢◌, Ok, Err, ap, refl, sym, subst, ◌∙◌, true, Equal, Less, inl, inr}
use Rattle.std.specs.Prelude.{Option, Some, None, Result, IfOk, IfSome}
use Rattle.std.specs.Result.{IsErrAnd}
use Rattle.std.specs.Cmp.{tied_itself}
use Rattle.semver_texts.specs.Steps.PrecedenceLaws.{precedence_total}
use Rattle.semver_texts.specs.Digits.{digits_in}
use Rattle.semver_texts.specs.Precedence.{precedence}
use Rattle.semver_texts.specs.Texts.{Text}
use Rattle.semver_texts.specs.ToolVersions.{IsVersionTextIn, SpellsIn, before_numbers}
use Rattle.semver_texts.specs.Versions.{PlainVersion, VersionValue}
use Rattle.semver_texts.specs.declared.grammar.Grammar.{Grammar}
use Rattle.semver_versions.specs.VersionRefs.{IsVersionRefIn, VersionRefValue, version_of, version_ref_after}
use Rattle.semver_versions.proofs.DialectVersionRefs.{its_version_in}
use Rattle.semver_versions.proofs.ReadTexts.{one_version_in, read_of}
use Rattle.semver_ranges.specs.RangeTree.{SetTree}
use Rattle.semver_ranges.specs.declared.range_set.RangeError.{RangeError}
use Rattle.semver_ranges.specs.declared.range_set.RangeError.TheVariants as range_error
use Rattle.version_sets.specs.VersionSets.{Fits}
use Rattle.tool_ranges.specs.Dialects.{HasSetAs, IsTextAs, IsTooLargeAs, RefusesAs, SpellsAs}
use Rattle.semver_ranges.specs.DialectTable.{grammar_of}
use Rattle.tool_ranges.specs.Satisfying.{Satisfies}
use Rattle.tool_ranges.specs.declared.meaning.Rules.{Rules}
use Rattle.range_terms.specs.WrittenTerms.{terms_in}
use Rattle.range_upgrades.specs.Alternatives.{HasBars}
use Rattle.range_upgrades.specs.OneResult.{AreOne, seen}
use Rattle.range_upgrades.specs.RaisedRanges.{IsUpgraded}
use Rattle.range_upgrades.proofs.RaisedResults.{upgraded_one}
use Rattle.range_upgrades.specs.Upgrades.{HasVersionFrom, HasVersionFromText, IsSatisfied, LosesNone}
use Rattle.range_upgrades.specs.declared.upgrade.UpgradeError.{UpgradeError}
use Rattle.range_upgrades.specs.declared.upgrade.UpgradeError.TheVariants.{CannotUpgrade, InvalidRange, InvalidVersion, OutOfMemory}

-- a text has at most one borrowed version
one_ref : (d : Grammar) (text : Text) (a b : VersionRefValue) → IsVersionRefIn d text a → IsVersionRefIn d text b → a ≡ b
one_ref d text a b (u, spells, is) (w, spelled, other) =
    is ∙ ap (version_ref_after (digits_in d) (before_numbers text)) (one_version_in d u w text spells spelled) ∙ sym other

not_below : (v : PlainVersion) → precedence v v ≢ Less
not_below v e = let tied : precedence v v ≡ Equal = tied_itself precedence_total v in let never : Equal ≡ Less = sym tied ∙ e in cc

-- the string is a range whose numbers fit
pub record IsValid (m : Rules) (range : Text) : Type 0 where
  pub is_range : HasSetAs m.dialect range
  pub fits : ¬ (IsTooLargeAs m.dialect range)

module _ {S : Type 0} (bytes : S → Text) (m : Rules) (range version : Text) where
  -- what is known of a raised range
  pub record IsRaisedTo (o : VersionRefValue) (new : Text) : Type 0 where
    pub satisfied : IsSatisfied m new (version_of o)
    pub loses_none : HasBars range → LosesNone m range new
    pub style : (tree : SetTree) (spelled : SpellsAs m.dialect tree range)
        → IsUpgraded m range o (terms_in m.dialect tree range spelled) new

  -- what is known of a result, if the version is valid
  abbrev pub IsResultOf : VersionRefValue → Result (Option S) UpgradeError → Type 0
  IsResultOf o (Ok None) = IsValid m range × HasVersionFrom m range (version_of o).plain
  IsResultOf o (Ok (Some new)) =
      IsValid m range × ¬ (HasVersionFrom m range (version_of o).plain) × Fits (version_of o).plain × IsRaisedTo o (bytes new)
  IsResultOf o (Err InvalidVersion) = ⊥
  IsResultOf o (Err (InvalidRange range_error.NotARange)) = ¬ (IsTextAs m.dialect range)
  IsResultOf o (Err (InvalidRange range_error.NumberTooLarge)) = IsTooLargeAs m.dialect range
  IsResultOf o (Err (InvalidRange range_error.OutOfMemory)) = ⊥
  IsResultOf o (Err CannotUpgrade) = IsValid m range × ¬ (HasVersionFrom m range (version_of o).plain)
      × ((tree : SetTree) (spelled : SpellsAs m.dialect tree range) (new : Text)
      → ¬ (IsUpgraded m range o (terms_in m.dialect tree range spelled) new))
  IsResultOf o (Err OutOfMemory) = IsValid m range

  -- the clauses of `upgrade`
  pub record Clauses (r : Result (Option S) UpgradeError) : Type 0 where
    pub invalid_version : (r ≡ Err InvalidVersion) ↔ ¬ (IsVersionTextIn (grammar_of m.dialect) version)
    pub not_a_range : (r ≡ Err (InvalidRange range_error.NotARange))
        ↔ (IsVersionTextIn (grammar_of m.dialect) version × ¬ (IsTextAs m.dialect range))
    pub too_large : (r ≡ Err (InvalidRange range_error.NumberTooLarge))
        ↔ (IsVersionTextIn (grammar_of m.dialect) version × IsTooLargeAs m.dialect range)
    pub range_memory : r ≢ Err (InvalidRange range_error.OutOfMemory)
    pub accepted : IfOk r (λ _. HasSetAs m.dialect range)
    pub contains : IfOk r (λ found. IfSome found (λ new. Satisfies m version (bytes new) (Ok true)))
    pub none : IfOk r (λ found. (found ≡ None) ↔ HasVersionFromText m range version)
    pub above : r ≡ Err CannotUpgrade → ¬ (HasVersionFromText m range version)
    pub loses_none : HasBars range → IfOk r (λ found. IfSome found (λ new. LosesNone m range (bytes new)))
    pub again : IfOk r (λ found. IfSome found (λ new. HasVersionFromText m (bytes new) version))
    pub style : IfOk r (λ found. IfSome found (λ new. (tree : SetTree) (spelled : SpellsAs m.dialect tree range) (v : VersionRefValue)
        → IsVersionRefIn (grammar_of m.dialect) version v → IsUpgraded m range v (terms_in m.dialect tree range spelled) (bytes new)))
    pub cannot_upgrade : r ≡ Err CannotUpgrade → (tree : SetTree) (spelled : SpellsAs m.dialect tree range) (v : VersionRefValue) (new : Text)
        → IsVersionRefIn (grammar_of m.dialect) version v → ¬ (IsUpgraded m range v (terms_in m.dialect tree range spelled) new)

  -- of an invalid version
  pub invalid_version : ¬ (IsVersionTextIn (grammar_of m.dialect) version) → Clauses (Err InvalidVersion)
  invalid_version not = record {
    invalid_version = (λ e. not, λ n. refl);
    not_a_range = (λ e. let other = e in cc, λ p. absurd (not p.0));
    too_large = (λ e. let other = e in cc, λ p. absurd (not p.0));
    range_memory = λ e. cc;
    accepted = tt;
    contains = tt;
    none = tt;
    above = λ e. let other = e in cc;
    loses_none = λ bars. tt;
    again = tt;
    style = tt;
    cannot_upgrade = λ e. let other = e in cc;
  }

  module _ (o : VersionRefValue) (read : IsVersionRefIn (grammar_of m.dialect) version o) where
    spelled : SpellsIn (grammar_of m.dialect) (version_of o) version
    spelled = subst (λ v. SpellsIn (grammar_of m.dialect) v version) (its_version_in (grammar_of m.dialect) o read.0 version read read.1) read.1

    valid : IsVersionTextIn (grammar_of m.dialect) version
    valid = (version_of o, spelled)

    to_text : (t : Text) → HasVersionFrom m t (version_of o).plain → HasVersionFromText m t version
    to_text t has = (version_of o, spelled, has)

    from_text : HasVersionFromText m range version → HasVersionFrom m range (version_of o).plain
    from_text (v, spells, has) =
        subst (λ (u : VersionValue). HasVersionFrom m range u.plain) (its_version_in (grammar_of m.dialect) o v version read spells) has

    again_of : Fits (version_of o).plain → (new : Text) → IsSatisfied m new (version_of o) → HasVersionFromText m new version
    again_of fits new met = to_text new (version_of o, fits, not_below (version_of o).plain, met)

    pub clauses : (r : Result (Option S) UpgradeError) → IsResultOf o r → Clauses r
    clauses (Ok None) (is, has) = record {
      invalid_version = (λ e. let other = e in cc, λ not. absurd (not valid));
      not_a_range = (λ e. let other = e in cc, λ p. absurd (p.1 (is.is_range.0, is.is_range.1)));
      too_large = (λ e. let other = e in cc, λ p. absurd (is.fits p.1));
      range_memory = λ e. cc;
      accepted = is.is_range;
      contains = tt;
      none = (λ e. to_text range has, λ h. refl);
      above = λ e. let other = e in cc;
      loses_none = λ bars. tt;
      again = tt;
      style = tt;
      cannot_upgrade = λ e. let other = e in cc;
    }
    clauses (Ok (Some new)) (is, not, fits, raised) = record {
      invalid_version = (λ e. let other = e in cc, λ n. absurd (n valid));
      not_a_range = (λ e. let other = e in cc, λ p. absurd (p.1 (is.is_range.0, is.is_range.1)));
      too_large = (λ e. let other = e in cc, λ p. absurd (is.fits p.1));
      range_memory = λ e. cc;
      accepted = is.is_range;
      contains = inr (version_of o, spelled, raised.satisfied);
      none = (λ e. let other = e in cc, λ h. absurd (not (from_text h)));
      above = λ e. let other = e in cc;
      loses_none = raised.loses_none;
      again = again_of fits (bytes new) raised.satisfied;
      style = λ tree spelled v is. subst (λ u. IsUpgraded m range u (terms_in m.dialect tree range spelled) (bytes new))
          (one_ref (grammar_of m.dialect) version o v read is) (raised.style tree spelled);
      cannot_upgrade = λ e. let other = e in cc;
    }
    clauses (Err InvalidVersion) never = absurd never
    clauses (Err (InvalidRange range_error.NotARange)) not = record {
      invalid_version = (λ e. let other = e in cc, λ n. absurd (n valid));
      not_a_range = (λ e. (valid, not), λ p. refl);
      too_large = (λ e. let other = e in cc, λ p. absurd (not (p.1.0, p.1.1)));
      range_memory = λ e. cc;
      accepted = tt;
      contains = tt;
      none = tt;
      above = λ e. let other = e in cc;
      loses_none = λ bars. tt;
      again = tt;
      style = tt;
      cannot_upgrade = λ e. let other = e in cc;
    }
    clauses (Err (InvalidRange range_error.NumberTooLarge)) large = record {
      invalid_version = (λ e. let other = e in cc, λ n. absurd (n valid));
      not_a_range = (λ e. let other = e in cc, λ p. absurd (p.1 (large.0, large.1)));
      too_large = (λ e. (valid, large), λ p. refl);
      range_memory = λ e. cc;
      accepted = tt;
      contains = tt;
      none = tt;
      above = λ e. let other = e in cc;
      loses_none = λ bars. tt;
      again = tt;
      style = tt;
      cannot_upgrade = λ e. let other = e in cc;
    }
    clauses (Err (InvalidRange range_error.OutOfMemory)) never = absurd never
    clauses (Err CannotUpgrade) (is, not, none) = record {
      invalid_version = (λ e. let other = e in cc, λ n. absurd (n valid));
      not_a_range = (λ e. let other = e in cc, λ p. absurd (p.1 (is.is_range.0, is.is_range.1)));
      too_large = (λ e. let other = e in cc, λ p. absurd (is.fits p.1));
      range_memory = λ e. cc;
      accepted = tt;
      contains = tt;
      none = tt;
      above = λ e h. not (from_text h);
      loses_none = λ bars. tt;
      again = tt;
      style = tt;
      cannot_upgrade = λ e tree spelled v new is upgraded. none tree spelled new
          (subst (λ u. IsUpgraded m range u (terms_in m.dialect tree range spelled) new) (one_ref (grammar_of m.dialect) version v o is read) upgraded);
    }
    clauses (Err OutOfMemory) is = record {
      invalid_version = (λ e. let other = e in cc, λ n. absurd (n valid));
      not_a_range = (λ e. let other = e in cc, λ p. absurd (p.1 (is.is_range.0, is.is_range.1)));
      too_large = (λ e. let other = e in cc, λ p. absurd (is.fits p.1));
      range_memory = λ e. cc;
      accepted = tt;
      contains = tt;
      none = tt;
      above = λ e. let other = e in cc;
      loses_none = λ bars. tt;
      again = tt;
      style = tt;
      cannot_upgrade = λ e. let other = e in cc;
    }

-- ---- two results

-- a version that is contained in a range was read
some_ref : (m : Rules) (version range : Text) → Satisfies m version range (Ok true)
    → (o : VersionRefValue) × IsVersionRefIn (grammar_of m.dialect) version o
some_ref m version range (inl is) = let e = is.1 in cc
some_ref m version range (inr is) =
    (version_ref_after (digits_in (grammar_of m.dialect)) (before_numbers version) is.0, (is.0, is.1, refl))

module _ {S : Type 0} (bytes : S → Text) (m : Rules) (range version : Text) where
  abbrev Known : Result (Option S) UpgradeError → Type 0
  Known r = Clauses bytes m range version r

  -- a result that isn't one of the errors of the input
  bad_version : (r : Result (Option S) UpgradeError) → Known r → Known (Err InvalidVersion) → r ≡ Err InvalidVersion
  bad_version r p q = p.invalid_version.1 (q.invalid_version.0 refl)

  bad_range : (r : Result (Option S) UpgradeError) → Known r → Known (Err (InvalidRange range_error.NotARange))
      → r ≡ Err (InvalidRange range_error.NotARange)
  bad_range r p q = p.not_a_range.1 (q.not_a_range.0 refl)

  bad_number : (r : Result (Option S) UpgradeError) → Known r → Known (Err (InvalidRange range_error.NumberTooLarge))
      → r ≡ Err (InvalidRange range_error.NumberTooLarge)
  bad_number r p q = p.too_large.1 (q.too_large.0 refl)

  -- an upgrade is possible, or it isn't
  not_both : (new : S) → Known (Ok (Some new)) → Known (Err CannotUpgrade) → ⊥
  not_both new p q =
      let o = some_ref m version (bytes new) p.contains in
      let tree = p.accepted in
      q.cannot_upgrade refl tree.0 tree.1 o.0 (bytes new) o.1 (p.style tree.0 tree.1 o.0 o.1)

  same_new : (a b : S) → Known (Ok (Some a)) → Known (Ok (Some b)) → bytes a ≡ bytes b
  same_new a b p q =
      let o = some_ref m version (bytes a) p.contains in
      let tree = p.accepted in
      upgraded_one m range o.0 (terms_in m.dialect tree.0 range tree.1) (bytes a) (bytes b) (p.style tree.0 tree.1 o.0 o.1)
      (q.style tree.0 tree.1 o.0 o.1)

  one_cannot : (s : Result (Option S) UpgradeError) → Known (Err CannotUpgrade) → Known s → AreOne bytes (Err CannotUpgrade) s
  one_cannot (Ok None) p q = absurd (p.above refl (q.none.0 refl))
  one_cannot (Ok (Some b)) p q = absurd (not_both b q p)
  one_cannot (Err InvalidVersion) p q = let e = bad_version _ p q in cc
  one_cannot (Err (InvalidRange range_error.NotARange)) p q = let e = bad_range _ p q in cc
  one_cannot (Err (InvalidRange range_error.NumberTooLarge)) p q = let e = bad_number _ p q in cc
  one_cannot (Err (InvalidRange range_error.OutOfMemory)) p q = absurd (q.range_memory refl)
  one_cannot (Err CannotUpgrade) p q = inl refl
  one_cannot (Err OutOfMemory) p q = inr (inr refl)

  one_none : (s : Result (Option S) UpgradeError) → Known (Ok None) → Known s → AreOne bytes (Ok None) s
  one_none (Ok None) p q = inl refl
  one_none (Ok (Some b)) p q = let e = q.none.1 (p.none.0 refl) in cc
  one_none (Err InvalidVersion) p q = let e = bad_version _ p q in cc
  one_none (Err (InvalidRange range_error.NotARange)) p q = let e = bad_range _ p q in cc
  one_none (Err (InvalidRange range_error.NumberTooLarge)) p q = let e = bad_number _ p q in cc
  one_none (Err (InvalidRange range_error.OutOfMemory)) p q = absurd (q.range_memory refl)
  one_none (Err CannotUpgrade) p q = absurd (q.above refl (p.none.0 refl))
  one_none (Err OutOfMemory) p q = inr (inr refl)

  one_some : (a : S) (s : Result (Option S) UpgradeError) → Known (Ok (Some a)) → Known s → AreOne bytes (Ok (Some a)) s
  one_some a (Ok None) p q = let e = p.none.1 (q.none.0 refl) in cc
  one_some a (Ok (Some b)) p q = inl (ap (λ t. Ok (Some t)) (same_new a b p q))
  one_some a (Err InvalidVersion) p q = let e = bad_version _ p q in cc
  one_some a (Err (InvalidRange range_error.NotARange)) p q = let e = bad_range _ p q in cc
  one_some a (Err (InvalidRange range_error.NumberTooLarge)) p q = let e = bad_number _ p q in cc
  one_some a (Err (InvalidRange range_error.OutOfMemory)) p q = absurd (q.range_memory refl)
  one_some a (Err CannotUpgrade) p q = absurd (not_both a p q)
  one_some a (Err OutOfMemory) p q = inr (inr refl)

  pub one_result : (r s : Result (Option S) UpgradeError) → Known r → Known s → AreOne bytes r s
  one_result (Ok None) s p q = one_none s p q
  one_result (Ok (Some a)) s p q = one_some a s p q
  one_result (Err InvalidVersion) s p q = inl (ap (seen bytes) (sym (bad_version s q p)))
  one_result (Err (InvalidRange range_error.NotARange)) s p q = inl (ap (seen bytes) (sym (bad_range s q p)))
  one_result (Err (InvalidRange range_error.NumberTooLarge)) s p q = inl (ap (seen bytes) (sym (bad_number s q p)))
  one_result (Err (InvalidRange range_error.OutOfMemory)) s p q = absurd (p.range_memory refl)
  one_result (Err CannotUpgrade) s p q = one_cannot s p q
  one_result (Err OutOfMemory) s p q = inr (inl refl)

-- what is known if reading the range succeeds, or runs out of memory
pub valid_range : {A : Type 0} (m : Rules) (range : Text) (read : A) → RefusesAs {A = A} m.dialect range (Ok read) → IsValid m range
valid_range m range read refused = record {
  is_range = refused.accepted;
  fits = λ large. let e = refused.too_large.1 large in cc;
}

-- the other errors
pub unread : {S A : Type 0} (bytes : S → Text) (m : Rules) (range version : Text) (o : VersionRefValue) (error : RangeError)
    → RefusesAs {A = A} m.dialect range (Err error) → error ≢ range_error.OutOfMemory → IsResultOf bytes m range version o (Err (InvalidRange error))
unread bytes m range version o range_error.NotARange refused enough = refused.not_a_range.0 refl
unread bytes m range version o range_error.NumberTooLarge refused enough = refused.too_large.0 refl
unread bytes m range version o range_error.OutOfMemory refused enough = enough refl

-- an error that `?` made of another one
pub err_is : {A : Type 0} {E : Type 0} (r : Result A E) (e : E) → IsErrAnd r (λ x. x ≡ e) → r ≡ Err e
err_is (Ok x) e is = absurd is
err_is (Err x) e is = ap Err is

-- the numbers of a version that was read fit
pub read_fits : (d : Grammar) (text : Text) (o : VersionRefValue) → IsVersionRefIn d text o → Fits (version_of o).plain
read_fits d text o is =
    let w = (read_of d is.0 text is.1).2 in
    subst (λ (v : VersionValue). Fits v.plain) (its_version_in d o is.0 text is is.1) (w.major, w.minor, w.patch)
