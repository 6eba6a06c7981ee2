-- A string has one error, an error one span, and repairs lead to one valid string or to none.
use Rattle.std.proofs.Common.{◌≡◌, ◌∙◌, ◌<◌, ◌-◌, ◌++◌, ◌⊎◌, ℕ, zero, suc, Bool, Option, Some, None, List, [], ◌∷◌, sym, ap, subst, length}
use Rattle.std.proofs.Common.{arith, drop, take, inl, inr}
use Rattle.std.proofs.lemmas.Bool.{cases_order, true≢false}
use Rattle.semver_texts.specs.Texts.{Text}
use Rattle.invalid_strings.specs.declared.reasons.Reason.{Reason}
use Rattle.range_terms.specs.declared.term.Span.{Span}
use Rattle.semver_ranges.specs.declared.dialect.Dialect.{Dialect}
use Rattle.repaired_strings.specs.Errors.{IsErrorAt, IsValid}
use Rattle.repaired_strings.specs.Repairs.{AreRepairs, HasNoRepair, IsBeyondRepair, IsErrorOver, IsRepairOf, LeadsTo, replacement_at}
use Rattle.repaired_strings.specs.Spans.{IsRunAround, IsSpanOf, is_of_same_kind, kind_at}
use Rattle.repaired_strings.specs.declared.errors.Expected.{Expected}

same_span : (x y : Span) → x.start ≡ y.start → x.end ≡ y.end → x ≡ y
same_span x y start end = λ i. record { start = start i; end = end i }

module _ (p : ℕ → Bool) (t : Text) (k : ℕ) where
  not_before : (x y : Span) → IsRunAround p t k x → IsRunAround p t k y → ¬ (x.start < y.start)
  not_before x y a b less =
      let within = a.end in
      let till = b.start in
      absurd (true≢false (sym (a.all (y.start - 1) (omega (arith, less)) (omega (arith, less, within, till)))
      ∙ b.before (omega (arith, less))))

  not_after : (x y : Span) → IsRunAround p t k x → IsRunAround p t k y → ¬ (x.end < y.end)
  not_after x y a b less =
      let from = b.start in
      let till = a.end in
      let within = b.within in
      absurd (true≢false (sym (b.all x.end (omega (arith, from, till)) less) ∙ a.after (omega (arith, less, within))))

  one_run : (x y : Span) → IsRunAround p t k x → IsRunAround p t k y → x ≡ y
  one_run x y a b = same_span x y
      (elim (cases_order x.start y.start) [
        | inl same ↦ same
        | inr (inl less) ↦ absurd (not_before x y a b less)
        | inr (inr more) ↦ absurd (not_before y x b a more)
      ])
      (elim (cases_order x.end y.end) [
        | inl same ↦ same
        | inr (inl less) ↦ absurd (not_after x y a b less)
        | inr (inr more) ↦ absurd (not_after y x b a more)
      ])

pub one_span : (t : Text) (k : ℕ) (kind : Option ℕ) (x y : Span) → IsSpanOf t k kind x → IsSpanOf t k kind y → x ≡ y
one_span t k None x y (start, end) (start', end') = same_span x y (start ∙ sym start') (end ∙ sym end')
one_span t k (Some b) x y a c = one_run (is_of_same_kind b) t k x y a c

module _ (e : Expected) (d : Dialect)
    (one_offset : (t : Text) (m n : ℕ) (x y : Reason) → IsErrorAt e d t m x → IsErrorAt e d t n y → m ≡ n)
    (one_reason : (t : Text) (m n : ℕ) (x y : Reason) → IsErrorAt e d t m x → IsErrorAt e d t n y → x ≡ y)
    (invalid : (t : Text) (n : ℕ) (x : Reason) → IsErrorAt e d t n x → ¬ (IsValid e d t)) where
  same_over : (t : Text) (r r' : Reason) (s s' : Span) → IsErrorOver e d t r s → IsErrorOver e d t r' s'
      → (r ≡ r') × (s ≡ s')
  same_over t r r' s s' a b =
      let reason : r ≡ r' = one_reason t a.offset b.offset r r' a.error b.error in
      let offset : a.offset ≡ b.offset = one_offset t a.offset b.offset r r' a.error b.error in (
        reason,
        one_span t b.offset (kind_at t b.offset r') s s'
            (subst (λ x. IsSpanOf t b.offset (kind_at t b.offset x) s) reason
            (subst (λ n. IsSpanOf t n (kind_at t n r) s) offset a.spans)) b.spans,
      )

  same_new : (t : Text) (r r' : Reason) (s s' : Span) → (r ≡ r') × (s ≡ s') → replacement_at e t r s ≡ replacement_at e t r' s'
  same_new t r r' s s' (reason, span) = ap (λ x. replacement_at e t x s) reason ∙ ap (replacement_at e t r') span

  one_step : (t u v : Text) → IsRepairOf e d t u → IsRepairOf e d t v → u ≡ v
  one_step t u v a b =
      let over = same_over t a.reason b.reason a.span b.span a.error b.error in
      let new : a.new ≡ b.new =
      let found = sym a.found ∙ same_new t a.reason b.reason a.span b.span over ∙ b.found in cc in
      a.is ∙ ap (λ s. take s.start t ++ (a.new ++ drop s.end t)) over.1
      ∙ ap (λ w. take b.span.start t ++ (w ++ drop b.span.end t)) new ∙ sym b.is

  has_repair : (t u : Text) → IsRepairOf e d t u → ¬ (HasNoRepair e d t)
  has_repair t u a b =
      let over = same_over t a.reason b.reason a.span b.span a.error b.error in
      absurd (let found = sym a.found ∙ same_new t a.reason b.reason a.span b.span over ∙ b.none in cc)

  never_valid : (t u : Text) → IsRepairOf e d t u → ¬ (IsValid e d t)
  never_valid t u a valid = invalid t a.error.offset a.reason a.error.error valid

  -- repairs that lead to valid texts lead to the same one
  one_end : (xs ys : List Text) (t u v : Text) → LeadsTo e d t xs u → IsValid e d u → LeadsTo e d t ys v → IsValid e d v → u ≡ v
  one_end [] [] t u v is valid is' valid' = sym is ∙ is'
  one_end [] (y ∷ ys) t u v is valid (step, more) valid' = absurd (never_valid t y step (subst (IsValid e d) (sym is) valid))
  one_end (x ∷ xs) [] t u v (step, more) valid is valid' = absurd (never_valid t x step (subst (IsValid e d) (sym is) valid'))
  one_end (x ∷ xs) (y ∷ ys) t u v (step, more) valid (step', more') valid' =
      let same : y ≡ x = one_step t y x step' step in
      one_end xs ys x u v more valid (subst (λ w. LeadsTo e d w ys v) same more') valid'

  -- and then no others end at an error that can't be repaired, or go on for longer
  no_other : (n : ℕ) (xs ys : List Text) (t u v : Text) → LeadsTo e d t xs u → IsValid e d u → length xs < n → LeadsTo e d t ys v
      → HasNoRepair e d v ⊎ (length ys ≡ n) → ⊥
  no_other n [] [] t u v is valid few is' (inl none) =
      invalid v none.error.offset none.reason none.error.error (subst (IsValid e d) (sym is ∙ is') valid)
  no_other n [] [] t u v is valid few is' (inr all) = absurd (omega (arith, few, all))
  no_other n [] (y ∷ ys) t u v is valid few (step, more) why = never_valid t y step (subst (IsValid e d) (sym is) valid)
  no_other n (x ∷ xs) [] t u v (step, more) valid few is (inl none) = has_repair t x step (subst (HasNoRepair e d) (sym is) none)
  no_other n (x ∷ xs) [] t u v (step, more) valid few is (inr all) = absurd (omega (arith, few, all))
  no_other zero (x ∷ xs) (y ∷ ys) t u v a valid few b why = absurd (omega (arith, few))
  no_other (suc n) (x ∷ xs) (y ∷ ys) t u v (step, more) valid few (step', more') why =
      let same : y ≡ x = one_step t y x step' step in
      no_other n xs ys x u v more valid (omega (arith, few)) (subst (λ w. LeadsTo e d w ys v) same more') (one_less why)
    where
      one_less : HasNoRepair e d v ⊎ (suc (length ys) ≡ suc n) → HasNoRepair e d v ⊎ (length ys ≡ n)
      one_less (inl none) = inl none
      one_less (inr all) = inr (omega (arith, all))

  pub one_repaired : (t u v : Text) → AreRepairs e d t u → IsValid e d u → AreRepairs e d t v → IsValid e d v → u ≡ v
  one_repaired t u v a valid b valid' = one_end a.texts b.texts t u v a.leads valid b.leads valid'

  pub never_beyond : (t u : Text) → AreRepairs e d t u → IsValid e d u → ¬ (IsBeyondRepair e d t)
  never_beyond t u a valid b = no_other 32 a.texts b.texts t u b.last a.leads valid a.few b.leads b.why
