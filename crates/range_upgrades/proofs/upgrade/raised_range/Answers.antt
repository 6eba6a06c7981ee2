use Rattle.std.proofs.Common.{◌≡◌, Bool, true, false, inl, inr, string_bytes, subst, sym, ◌∙◌}
use Rattle.std.specs.Prelude.{◌↔◌, Some}
use Rattle.semver_texts.specs.Texts.{Text}
use Rattle.semver_versions.specs.VersionRefs.{version_of}
use Rattle.tool_ranges.specs.Widening.{IsWidened}
use Rattle.range_terms.specs.WrittenTerms.{terms_in}
use Rattle.range_upgrades.specs.Alternatives.{HasBars, last_of}
use Rattle.range_upgrades.specs.RaisedRanges.{IsInPlace, IsOneMore, NeedsOneMore}
use Rattle.range_upgrades.specs.Upgrades.{IsSatisfied, LosesNone}
use Rattle.range_upgrades.proofs.RaisedResults.{more_narrows, more_not_satisfied, no_in_place, no_last, no_more, not_satisfied}
use Rattle.range_upgrades.proofs.Satisfied.{none_lost, true_not_false}
use Rattle.range_upgrades.proofs.upgrade.raised_range.Goals as goal

-- a test that is false, of what holds
unsatisfied : {P : Type 0} {b : Bool} → (b ≡ true) ↔ P → b ≡ false → ¬ P
unsatisfied is e p = true_not_false (sym (is.1 p) ∙ e)

pub returns-in_default-clause-none : goal.returns-in_default-clause-none
returns-in_default-clause-none c = λ none tree spelled.
    let m = c.args.meaning in
    let form = c.args.form in
    let t = c.args.range.now in
    let v = c.args.version.now in
    let all = terms_in m.dialect tree t spelled in
    no_last m form t v all (sym (c.last_alternative.ensures tree spelled) ∙ c.in_default.is)

pub returns-in_default-in_place-clause-none : goal.returns-in_default-in_place-clause-none
returns-in_default-in_place-clause-none c = λ none tree spelled.
    let m = c.args.meaning in
    let form = c.args.form in
    let t = c.args.range.now in
    let v = c.args.version.now in
    let all = terms_in m.dialect tree t spelled in
    let is_last : last_of all ≡ Some c.in-Some.last = sym (c.last_alternative.ensures tree spelled) ∙ c.in-Some.is in
    no_in_place m form t v all (λ s. c.in_ok-in_place.ensures.none c.in_default-in_place.is tree spelled s is_last)

pub returns-then-not-is_satisfied-clause-none : goal.returns-then-not-is_satisfied-clause-none
returns-then-not-is_satisfied-clause-none c = λ none tree spelled.
    let m = c.args.meaning in
    let form = c.args.form in
    let t = c.args.range.now in
    let v = c.args.version.now in
    let all = terms_in m.dialect tree t spelled in
    let is_last : last_of all ≡ Some c.in-Some.last = sym (c.last_alternative.ensures tree spelled) ∙ c.in-Some.is in
    let new = string_bytes c.in-Some-in_place.in_place in
    let only : (s : Text) → IsInPlace m.dialect form t v all s → s ≡ new =
    λ s. (rw c.in-Some-in_place.is at c.in_ok-in_place.ensures.only) tree spelled s is_last in
    not_satisfied m form t v all new only (λ met. unsatisfied c.is_satisfied.ensures c.if-not-is_satisfied.true
    (subst (λ r. IsSatisfied m r (version_of v)) (sym c.as_str.ensures.value) met))

pub returns-then-not-has_bars-clause-satisfied : goal.returns-then-not-has_bars-clause-satisfied
returns-then-not-has_bars-clause-satisfied c =
    let m = c.args.meaning in
    let v = c.args.version.now in
    let new = string_bytes c.in-Some-in_place.in_place in
    let met : IsSatisfied m new (version_of v) =
    subst (λ r. IsSatisfied m r (version_of v)) c.as_str.ensures.value (c.is_satisfied.ensures.0 c.if-not-is_satisfied.false) in
    met

pub returns-then-not-has_bars-clause-loses_none : goal.returns-then-not-has_bars-clause-loses_none
returns-then-not-has_bars-clause-loses_none c = λ has.
    absurd (true_not_false
    (sym (c.has_bars.ensures.1 (subst HasBars (sym c.as_bytes.ensures.value) has)) ∙ c.if-not-has_bars.true))

pub returns-then-not-has_bars-clause-style : goal.returns-then-not-has_bars-clause-style
returns-then-not-has_bars-clause-style c = λ tree spelled.
    let m = c.args.meaning in
    let form = c.args.form in
    let t = c.args.range.now in
    let v = c.args.version.now in
    let all = terms_in m.dialect tree t spelled in
    let is_last : last_of all ≡ Some c.in-Some.last = sym (c.last_alternative.ensures tree spelled) ∙ c.in-Some.is in
    let new = string_bytes c.in-Some-in_place.in_place in
    let in_place : IsInPlace m.dialect form t v all new = (rw c.in-Some-in_place.is at c.in_ok-in_place.ensures.some) tree spelled is_last in
    let met : IsSatisfied m new (version_of v) =
    subst (λ r. IsSatisfied m r (version_of v)) c.as_str.ensures.value (c.is_satisfied.ensures.0 c.if-not-is_satisfied.false) in
    inl (
      in_place,
      met,
      λ has. absurd (true_not_false
          (sym (c.has_bars.ensures.1 (subst HasBars (sym c.as_bytes.ensures.value) has)) ∙ c.if-not-has_bars.true)),
    )

pub returns-then-is_widened-clause-satisfied : goal.returns-then-is_widened-clause-satisfied
returns-then-is_widened-clause-satisfied c =
    let m = c.args.meaning in
    let v = c.args.version.now in
    let new = string_bytes c.in-Some-in_place.in_place in
    let met : IsSatisfied m new (version_of v) =
    subst (λ r. IsSatisfied m r (version_of v)) c.as_str.ensures.value (c.is_satisfied.ensures.0 c.if-not-is_satisfied.false) in
    met

pub returns-then-is_widened-clause-loses_none : goal.returns-then-is_widened-clause-loses_none
returns-then-is_widened-clause-loses_none c = λ has.
    let m = c.args.meaning in
    let t = c.args.range.now in
    subst (LosesNone m t) c.as_str-2.ensures.value
    (none_lost m t c.as_str-2.result.now (c.is_widened.ensures.widened.0 c.if-is_widened.true)
    (c.is_widened.ensures.keeps c.if-is_widened.true))

pub returns-then-is_widened-clause-style : goal.returns-then-is_widened-clause-style
returns-then-is_widened-clause-style c = λ tree spelled.
    let m = c.args.meaning in
    let form = c.args.form in
    let t = c.args.range.now in
    let v = c.args.version.now in
    let all = terms_in m.dialect tree t spelled in
    let is_last : last_of all ≡ Some c.in-Some.last = sym (c.last_alternative.ensures tree spelled) ∙ c.in-Some.is in
    let new = string_bytes c.in-Some-in_place.in_place in
    let in_place : IsInPlace m.dialect form t v all new = (rw c.in-Some-in_place.is at c.in_ok-in_place.ensures.some) tree spelled is_last in
    let met : IsSatisfied m new (version_of v) =
    subst (λ r. IsSatisfied m r (version_of v)) c.as_str.ensures.value (c.is_satisfied.ensures.0 c.if-not-is_satisfied.false) in
    let is : (c.is_widened.result ≡ true) ↔ IsWidened m.dialect t new =
    subst (λ r. (c.is_widened.result ≡ true) ↔ IsWidened m.dialect t r) c.as_str-2.ensures.value c.is_widened.ensures.widened in
    inl (in_place, met, λ has. is.0 c.if-is_widened.true)

pub returns-in_default-longer-clause-none : goal.returns-in_default-longer-clause-none
returns-in_default-longer-clause-none c = λ none tree spelled.
    let m = c.args.meaning in
    let form = c.args.form in
    let t = c.args.range.now in
    let v = c.args.version.now in
    let all = terms_in m.dialect tree t spelled in
    let is_last : last_of all ≡ Some c.in-Some.last = sym (c.last_alternative.ensures tree spelled) ∙ c.in-Some.is in
    let new = string_bytes c.in-Some-in_place.in_place in
    let only : (s : Text) → IsInPlace m.dialect form t v all s → s ≡ new =
    λ s. (rw c.in-Some-in_place.is at c.in_ok-in_place.ensures.only) tree spelled s is_last in
    let is : (c.is_widened.result ≡ true) ↔ IsWidened m.dialect t new =
    subst (λ r. (c.is_widened.result ≡ true) ↔ IsWidened m.dialect t r) c.as_str-2.ensures.value c.is_widened.ensures.widened in
    let narrows : ¬ (IsWidened m.dialect t new) = unsatisfied is c.if-is_widened.false in
    let bars : HasBars t = subst HasBars c.as_bytes.ensures.value (c.has_bars.ensures.0 c.if-not-has_bars.false) in
    no_more m form t v all new only bars narrows
    (λ s. c.in_ok-longer.ensures.none c.in_default-longer.is tree spelled s is_last)

pub returns-then-not-is_satisfied-2-clause-none : goal.returns-then-not-is_satisfied-2-clause-none
returns-then-not-is_satisfied-2-clause-none c = λ none tree spelled.
    let m = c.args.meaning in
    let form = c.args.form in
    let t = c.args.range.now in
    let v = c.args.version.now in
    let all = terms_in m.dialect tree t spelled in
    let is_last : last_of all ≡ Some c.in-Some.last = sym (c.last_alternative.ensures tree spelled) ∙ c.in-Some.is in
    let new = string_bytes c.in-Some-in_place.in_place in
    let only : (s : Text) → IsInPlace m.dialect form t v all s → s ≡ new =
    λ s. (rw c.in-Some-in_place.is at c.in_ok-in_place.ensures.only) tree spelled s is_last in
    let is : (c.is_widened.result ≡ true) ↔ IsWidened m.dialect t new =
    subst (λ r. (c.is_widened.result ≡ true) ↔ IsWidened m.dialect t r) c.as_str-2.ensures.value c.is_widened.ensures.widened in
    let narrows : ¬ (IsWidened m.dialect t new) = unsatisfied is c.if-is_widened.false in
    let bars : HasBars t = subst HasBars c.as_bytes.ensures.value (c.has_bars.ensures.0 c.if-not-has_bars.false) in
    let more = string_bytes c.in-Some-longer.longer in
    let only_more : (s : Text) → IsOneMore m.dialect form t v all s → s ≡ more =
    λ s. (rw c.in-Some-longer.is at c.in_ok-longer.ensures.only) tree spelled s is_last in
    more_not_satisfied m form t v all new only bars narrows more only_more
    (λ met. unsatisfied c.is_satisfied-2.ensures c.if-not-is_satisfied-2.true
    (subst (λ r. IsSatisfied m r (version_of v)) (sym c.as_str-3.ensures.value) met))

pub returns-then-is_widened-2-clause-satisfied : goal.returns-then-is_widened-2-clause-satisfied
returns-then-is_widened-2-clause-satisfied c =
    let m = c.args.meaning in
    let v = c.args.version.now in
    let more = string_bytes c.in-Some-longer.longer in
    let more_met : IsSatisfied m more (version_of v) =
    subst (λ r. IsSatisfied m r (version_of v)) c.as_str-3.ensures.value (c.is_satisfied-2.ensures.0 c.if-not-is_satisfied-2.false) in
    more_met

pub returns-then-is_widened-2-clause-loses_none : goal.returns-then-is_widened-2-clause-loses_none
returns-then-is_widened-2-clause-loses_none c = λ has.
    let m = c.args.meaning in
    let t = c.args.range.now in
    subst (LosesNone m t) c.as_str-4.ensures.value
    (none_lost m t c.as_str-4.result.now (c.is_widened-2.ensures.widened.0 c.if-is_widened-2.true)
    (c.is_widened-2.ensures.keeps c.if-is_widened-2.true))

pub returns-then-is_widened-2-clause-style : goal.returns-then-is_widened-2-clause-style
returns-then-is_widened-2-clause-style c = λ tree spelled.
    let m = c.args.meaning in
    let form = c.args.form in
    let t = c.args.range.now in
    let v = c.args.version.now in
    let all = terms_in m.dialect tree t spelled in
    let is_last : last_of all ≡ Some c.in-Some.last = sym (c.last_alternative.ensures tree spelled) ∙ c.in-Some.is in
    let new = string_bytes c.in-Some-in_place.in_place in
    let in_place : IsInPlace m.dialect form t v all new = (rw c.in-Some-in_place.is at c.in_ok-in_place.ensures.some) tree spelled is_last in
    let met : IsSatisfied m new (version_of v) =
    subst (λ r. IsSatisfied m r (version_of v)) c.as_str.ensures.value (c.is_satisfied.ensures.0 c.if-not-is_satisfied.false) in
    let is : (c.is_widened.result ≡ true) ↔ IsWidened m.dialect t new =
    subst (λ r. (c.is_widened.result ≡ true) ↔ IsWidened m.dialect t r) c.as_str-2.ensures.value c.is_widened.ensures.widened in
    let narrows : ¬ (IsWidened m.dialect t new) = unsatisfied is c.if-is_widened.false in
    let bars : HasBars t = subst HasBars c.as_bytes.ensures.value (c.has_bars.ensures.0 c.if-not-has_bars.false) in
    let more = string_bytes c.in-Some-longer.longer in
    let one_more : IsOneMore m.dialect form t v all more = (rw c.in-Some-longer.is at c.in_ok-longer.ensures.some) tree spelled is_last in
    let more_met : IsSatisfied m more (version_of v) =
    subst (λ r. IsSatisfied m r (version_of v)) c.as_str-3.ensures.value (c.is_satisfied-2.ensures.0 c.if-not-is_satisfied-2.false) in
    let more_is : (c.is_widened-2.result ≡ true) ↔ IsWidened m.dialect t more =
    subst (λ r. (c.is_widened-2.result ≡ true) ↔ IsWidened m.dialect t r) c.as_str-4.ensures.value c.is_widened-2.ensures.widened in
    let needed : NeedsOneMore m form t v all =
    record { bars = bars; replaced = new; in_place = in_place; satisfied = met; narrows = narrows } in
    inr (one_more, needed, more_met, more_is.0 c.if-is_widened-2.true)

pub returns-clause-none : goal.returns-clause-none
returns-clause-none c = λ none tree spelled.
    let m = c.args.meaning in
    let form = c.args.form in
    let t = c.args.range.now in
    let v = c.args.version.now in
    let all = terms_in m.dialect tree t spelled in
    let is_last : last_of all ≡ Some c.in-Some.last = sym (c.last_alternative.ensures tree spelled) ∙ c.in-Some.is in
    let new = string_bytes c.in-Some-in_place.in_place in
    let only : (s : Text) → IsInPlace m.dialect form t v all s → s ≡ new =
    λ s. (rw c.in-Some-in_place.is at c.in_ok-in_place.ensures.only) tree spelled s is_last in
    let is : (c.is_widened.result ≡ true) ↔ IsWidened m.dialect t new =
    subst (λ r. (c.is_widened.result ≡ true) ↔ IsWidened m.dialect t r) c.as_str-2.ensures.value c.is_widened.ensures.widened in
    let narrows : ¬ (IsWidened m.dialect t new) = unsatisfied is c.if-is_widened.false in
    let bars : HasBars t = subst HasBars c.as_bytes.ensures.value (c.has_bars.ensures.0 c.if-not-has_bars.false) in
    let more = string_bytes c.in-Some-longer.longer in
    let only_more : (s : Text) → IsOneMore m.dialect form t v all s → s ≡ more =
    λ s. (rw c.in-Some-longer.is at c.in_ok-longer.ensures.only) tree spelled s is_last in
    let more_is : (c.is_widened-2.result ≡ true) ↔ IsWidened m.dialect t more =
    subst (λ r. (c.is_widened-2.result ≡ true) ↔ IsWidened m.dialect t r) c.as_str-4.ensures.value c.is_widened-2.ensures.widened in
    more_narrows m form t v all new only bars narrows more only_more (unsatisfied more_is c.if-is_widened-2.false)
