-- There is at most one raised range, and when there is none.
use Rattle.std.proofs.Common.{Bool, ℕ, [], ◌∷◌, true, false, not, refl, ◌≡◌, ◌++◌, ap, ap₂, sym, subst, ◌∙◌, inl, inr}
use Rattle.std.specs.Prelude.{IfSome, is_some, Option, Some, None, List, slice_range}
use Rattle.semver_texts.specs.Texts.{Text, is_empty}
use Rattle.semver_versions.specs.VersionRefs.{VersionRefValue, version_of}
use Rattle.tool_ranges.specs.Widening.{IsWidened}
use Rattle.tool_ranges.specs.declared.meaning.Rules.{Rules}
use Rattle.range_terms.specs.WrittenTerms.{WrittenTerm}
use Rattle.range_upgrades.specs.Alternatives.{HasBars, last_of}
use Rattle.range_upgrades.specs.RaisedRanges.{IsExtended, IsInPlace, IsOneMore, IsOnlyRaised, IsRaised, IsRaisedRange, IsReplaced, IsUpgraded}
use Rattle.range_upgrades.specs.Upgrades.{IsSatisfied}
use Rattle.range_upgrades.specs.declared.alternatives.Alternative.{Alternative}
use Rattle.range_upgrades.specs.declared.raised_versions.Form.{Form}
use Rattle.range_upgrades.specs.declared.raised_versions.Form.TheVariants.{AsWritten, InFull}
use Rattle.range_upgrades.proofs.RaisedTerms.{one_part, some_is}
use Rattle.range_upgrades.specs.RaisedRanges.{IsRaisedFrom, last_version, raised_word}
use Rattle.semver_ranges.specs.declared.dialect.Dialect.{Dialect}

pub one_replaced : (t : Text) (last : Alternative) (raised a b : Text) → IsReplaced t last raised a → IsReplaced t last raised b → a ≡ b
one_replaced t last raised a b p q =
    p.whole ∙ ap₂ (λ x y. x ++ (raised ++ y)) (one_part p.up_to q.up_to) (one_part p.from q.from) ∙ sym q.whole

pub one_extended : (t : Text) (last : Alternative) (raised a b : Text) → IsExtended t last raised a → IsExtended t last raised b → a ≡ b
one_extended t last raised a b p q =
    let end : p.end ≡ q.end = some_is (sym p.others ∙ q.others) in
    let between : p.between ≡ q.between = p.bars.is ∙ ap (λ e. slice_range t e last.start) end ∙ sym q.bars.is in
    p.whole ∙ ap₂ (λ x y. x ++ (p.between ++ (raised ++ y))) (one_part p.up_to q.up_to) (one_part p.from q.from)
    ∙ ap (λ x. q.before ++ (x ++ (raised ++ q.after))) between ∙ sym q.whole

-- the last alternative is raised in one way
pub raised_one : (d : Dialect) (form : Form) (t : Text) (v : VersionRefValue) (last : Alternative) (at : ℕ) (xs : List WrittenTerm) (a b : Text)
    → IsRaisedFrom d form t v last at xs a → IsRaisedFrom d form t v last at xs b → a ≡ b
raised_one d form t v last at [] a b p q = one_part p q
raised_one d form t v last at (x ∷ xs) a b (inl p) (inl q) = raised_one d form t v last at xs a b p.1 q.1
raised_one d form t v last at (x ∷ xs) a b (inl p) (inr q) = absurd (p.0 q.2)
raised_one d form t v last at (x ∷ xs) a b (inr p) (inl q) = absurd (q.0 p.2)
raised_one d form t v last at (x ∷ xs) a b (inr p) (inr q) =
    p.6
    ∙ ap₂ (λ kept rest. kept ++ (raised_word d form v x ++ rest)) (one_part p.4 q.4)
    (raised_one d form t v last (last_version x).span.end xs p.1 q.1 p.5 q.5)
    ∙ sym q.6

module _ (d : Dialect) (form : Form) (t : Text) (v : VersionRefValue) (terms : List WrittenTerm) (last : Alternative)
    (is_last : last_of terms ≡ Some last) where
  same_last : (other : Alternative) → last_of terms ≡ Some other → other ≡ last
  same_last other is = some_is (sym is ∙ is_last)

  -- ---- no string, if a part of it is missing

  pub no_raised_in_place : ((s : Text) → ¬ (IsRaised d form t v last terms s)) → (s : Text) → ¬ (IsInPlace d form t v terms s)
  no_raised_in_place not s p = not p.raised (subst (λ a. IsRaised d form t v a terms p.raised) (same_last p.last p.is_last) p.raises)

  pub no_raised_one_more : ((s : Text) → ¬ (IsRaised d form t v last terms s)) → (s : Text) → ¬ (IsOneMore d form t v terms s)
  no_raised_one_more not s p = not p.raised (subst (λ a. IsRaised d form t v a terms p.raised) (same_last p.last p.is_last) p.raises)

  replaced : (s : Text) (p : IsInPlace d form t v terms s) → IsReplaced t last p.raised s
  replaced s p = subst (λ a. IsReplaced t a p.raised s) (same_last p.last p.is_last) p.replaces

  extended : (s : Text) (p : IsOneMore d form t v terms s) → IsExtended t last p.raised s
  extended s p = subst (λ a. IsExtended t a p.raised s) (same_last p.last p.is_last) p.extends

  pub no_replaced : ((raised s : Text) → ¬ (IsReplaced t last raised s)) → (s : Text) → ¬ (IsInPlace d form t v terms s)
  no_replaced not s p = not p.raised s (replaced s p)

  pub no_extended : ((raised s : Text) → ¬ (IsExtended t last raised s)) → (s : Text) → ¬ (IsOneMore d form t v terms s)
  no_extended not s p = not p.raised s (extended s p)

  -- ---- one string

  module _ (raised : Text) (only : IsOnlyRaised d form t v last terms raised) (new : Text) where
    pub is_in_place : IsReplaced t last raised new → IsInPlace d form t v terms new
    is_in_place replaces = record { last = last; raised = raised; is_last = is_last; raises = only.0; replaces = replaces }

    pub only_in_place : IsReplaced t last raised new → (s : Text) → IsInPlace d form t v terms s → s ≡ new
    only_in_place replaces s p =
        let is : p.raised ≡ raised = only.1 p.raised (subst (λ a. IsRaised d form t v a terms p.raised) (same_last p.last p.is_last) p.raises) in
        one_replaced t last raised s new (subst (λ r. IsReplaced t last r s) is (replaced s p)) replaces

    pub is_one_more : IsExtended t last raised new → IsOneMore d form t v terms new
    is_one_more extends = record { last = last; raised = raised; is_last = is_last; raises = only.0; extends = extends }

    pub only_one_more : IsExtended t last raised new → (s : Text) → IsOneMore d form t v terms s → s ≡ new
    only_one_more extends s p =
        let is : p.raised ≡ raised = only.1 p.raised (subst (λ a. IsRaised d form t v a terms p.raised) (same_last p.last p.is_last) p.raises) in
        one_extended t last raised s new (subst (λ r. IsExtended t last r s) is (extended s p)) extends

module _ (m : Rules) (form : Form) (t : Text) (v : VersionRefValue) (terms : List WrittenTerm) where
  -- ---- no result

  pub no_last : last_of terms ≡ None → (s : Text) → ¬ (IsRaisedRange m form t v terms s)
  no_last none s (inl p) = let e = sym none ∙ p.0.is_last in cc
  no_last none s (inr p) = let e = sym none ∙ p.0.is_last in cc

  pub no_in_place : ((s : Text) → ¬ (IsInPlace m.dialect form t v terms s)) → (s : Text) → ¬ (IsRaisedRange m form t v terms s)
  no_in_place not s (inl p) = not s p.0
  no_in_place not s (inr p) = not p.1.replaced p.1.in_place

  -- the string with the last alternative raised in place
  module _ (new : Text) (only : (s : Text) → IsInPlace m.dialect form t v terms s → s ≡ new) where
    pub not_satisfied : ¬ (IsSatisfied m new (version_of v)) → (s : Text) → ¬ (IsRaisedRange m form t v terms s)
    not_satisfied not s (inl p) = not (subst (λ r. IsSatisfied m r (version_of v)) (only s p.0) p.1)
    not_satisfied not s (inr p) = not (subst (λ r. IsSatisfied m r (version_of v)) (only p.1.replaced p.1.in_place) p.1.satisfied)

    -- the last alternative can't be raised in place
    module _ (bars : HasBars t) (narrows : ¬ (IsWidened m.dialect t new)) where
      added : (s : Text) → IsRaisedRange m form t v terms s
          → IsOneMore m.dialect form t v terms s × IsSatisfied m s (version_of v) × IsWidened m.dialect t s
      added s (inl p) = absurd (narrows (subst (IsWidened m.dialect t) (only s p.0) (p.2 bars)))
      added s (inr p) = (p.0, p.2, p.3)

      pub no_more : ((s : Text) → ¬ (IsOneMore m.dialect form t v terms s)) → (s : Text) → ¬ (IsRaisedRange m form t v terms s)
      no_more not s is = not s (added s is).0

      -- the string with the last alternative raised as one more
      module _ (more : Text) (only_more : (s : Text) → IsOneMore m.dialect form t v terms s → s ≡ more) where
        pub more_not_satisfied : ¬ (IsSatisfied m more (version_of v)) → (s : Text) → ¬ (IsRaisedRange m form t v terms s)
        more_not_satisfied not s is = not (subst (λ r. IsSatisfied m r (version_of v)) (only_more s (added s is).0) (added s is).1)

        pub more_narrows : ¬ (IsWidened m.dialect t more) → (s : Text) → ¬ (IsRaisedRange m form t v terms s)
        more_narrows not s is = not (subst (IsWidened m.dialect t) (only_more s (added s is).0) (added s is).2)

-- ---- both forms

pub some_more : {A : Type 0} {P Q : A → Type 0} (o : Option A) → ((x : A) → P x → Q x) → IfSome o P → IfSome o Q
some_more None more is = tt
some_more (Some x) more is = more x is

pub none_of : {A : Type 0} (o : Option A) → is_some o ≡ false → o ≡ None
none_of None e = refl
none_of (Some x) e = cc

pub pre_of : (b : Bool) → not b ≡ true → b ≡ false
pre_of true e = cc
pre_of false e = refl

module _ (m : Rules) (t : Text) (v : VersionRefValue) (terms : List WrittenTerm)
    (none : (s : Text) → ¬ (IsRaisedRange m AsWritten t v terms s)) where
  pub not_pre : not (is_empty (version_of v).plain.pre) ≡ false → (s : Text) → ¬ (IsUpgraded m t v terms s)
  not_pre release s (inl is) = none s is
  not_pre release s (inr is) = let e : true ≡ false = ap not (sym is.0) ∙ release in cc

  pub in_full : is_empty (version_of v).plain.pre ≡ false → (s : Text) → IsRaisedRange m InFull t v terms s → IsUpgraded m t v terms s
  in_full pre s is = inr (pre, none, is)

  pub no_form : ((s : Text) → ¬ (IsRaisedRange m InFull t v terms s)) → (s : Text) → ¬ (IsUpgraded m t v terms s)
  no_form not s (inl is) = none s is
  no_form not s (inr is) = not s is.2

-- ---- one result

module _ (m : Rules) (t : Text) (v : VersionRefValue) (terms : List WrittenTerm) where
  in_place_one : (form : Form) (a b : Text) → IsInPlace m.dialect form t v terms a → IsInPlace m.dialect form t v terms b → a ≡ b
  in_place_one form a b p q =
      only_in_place m.dialect form t v terms q.last q.is_last q.raised
      (q.raises, λ s is. raised_one m.dialect form t v q.last q.last.start terms s q.raised is q.raises) b q.replaces a p

  one_more_one : (form : Form) (a b : Text) → IsOneMore m.dialect form t v terms a → IsOneMore m.dialect form t v terms b → a ≡ b
  one_more_one form a b p q =
      only_one_more m.dialect form t v terms q.last q.is_last q.raised
      (q.raises, λ s is. raised_one m.dialect form t v q.last q.last.start terms s q.raised is q.raises) b q.extends a p

  range_one : (form : Form) (a b : Text) → IsRaisedRange m form t v terms a → IsRaisedRange m form t v terms b → a ≡ b
  range_one form a b (inl p) (inl q) = in_place_one form a b p.0 q.0
  range_one form a b (inl p) (inr q) =
      absurd (q.1.narrows (subst (IsWidened m.dialect t) (in_place_one form a q.1.replaced p.0 q.1.in_place) (p.2 q.1.bars)))
  range_one form a b (inr p) (inl q) =
      absurd (p.1.narrows (subst (IsWidened m.dialect t) (in_place_one form b p.1.replaced q.0 p.1.in_place) (q.2 p.1.bars)))
  range_one form a b (inr p) (inr q) = one_more_one form a b p.0 q.0

  pub upgraded_one : (a b : Text) → IsUpgraded m t v terms a → IsUpgraded m t v terms b → a ≡ b
  upgraded_one a b (inl p) (inl q) = range_one AsWritten a b p q
  upgraded_one a b (inl p) (inr q) = absurd (q.1 a p)
  upgraded_one a b (inr p) (inl q) = absurd (p.1 b q)
  upgraded_one a b (inr p) (inr q) = range_one InFull a b p.2 q.2
