use Rattle.std.proofs.Common.{◌≡◌, ◌++◌, ◌&&◌, true, false, map, Some, None, Option, refl, sym, ap, ◌∙◌, append-nil, append_assoc}
use Rattle.std.specs.Prelude.{is_some, option_map}
use Rattle.semver_ranges.specs.RangeTree.{Simple}
use Rattle.semver_ranges.specs.RangeViews.{comparator_of}
use Rattle.semver_ranges.specs.Steps.CursorViews.{IsSimpleOf}
use Rattle.semver_ranges.specs.Steps.PartialViews.{side_value, version_of}
use Rattle.semver_ranges.specs.declared.table.Side.{Side}
use Rattle.semver_ranges.specs.Sides.{term_fits}
use Rattle.semver_ranges.specs.TermComparators.{at_side, lower_comparator, printed_term, upper_comparator}
use Rattle.semver_ranges.specs.Sides.{ends_past}
use Rattle.semver_ranges.proofs.PrintedTerms.{apart_sides, both_sides, lower_rises, printed_so, pushed, upper_rises}
use Rattle.semver_ranges.proofs.rewriting.push.Goals as goal
use Rattle.semver_ranges.proofs.rewriting.push.Goals.{Joined-first, in-Some+in_ok-lower_comparator+in_ok-push-2, in_default}

some_value : (o : Option Side) → is_some (option_map side_value o) ≡ is_some o
some_value None = refl
some_value (Some side) = refl

pub returns-then-is_some-is_past : goal.returns-then-is_some-is_past
returns-then-is_some-is_past c = λ s is fit.
    let old = c.args.comparators.now.items in
    let lower = option_map side_value c.sides-first.result.0 in
    let upper = option_map side_value c.sides-first.result.1 in
    let one : (is_some lower && ends_past upper) ≡ true = (λ i. (some_value c.sides-first.result.0 ∙ sym c.is_some.ensures) i && sym c.is_past.ensures i)
    ∙ c.if-is_some-is_past.true in
    pushed old _ c.in_ok-as_comparator.field-0 _ c.in_ok-push.ensures.items c.in_ok-as_comparator.ensures.value
    ∙ ap (λ cs. map comparator_of old ++ cs) (both_sides c.args.style lower upper (version_of c.args.simple.now.partial) one
    ∙ printed_so c.args.dialect s c.args.simple.now is fit c.args.style lower upper c.sides-first.ensures.lower c.sides-first.ensures.upper)

lower_pushed : (c : Joined-first) (s : Simple) → IsSimpleOf s c.args.simple.now → term_fits c.args.dialect s ≡ true
    → map comparator_of c.match-first.comparators.items ≡ map comparator_of c.args.comparators.now.items
    ++ at_side (lower_comparator c.args.style) (option_map side_value c.sides-first.result.0) (version_of c.args.simple.now.partial)
lower_pushed c s is fit =
    let old = c.args.comparators.now.items in
    let z = version_of c.args.simple.now.partial in
    elim c.match-first.branch [
      | in-Some+in_ok-lower_comparator+in_ok-push-2 w ↦
          let lower = ap (option_map side_value) w.in-Some.is in
          ap (λ cs. map comparator_of cs.items) w.comparators-is
          ∙ pushed old _ w.in_ok-lower_comparator.field-0 _ w.in_ok-push-2.ensures.items (w.in_ok-lower_comparator.ensures
          (lower_rises c.args.dialect s c.args.simple.now is fit (Some (side_value w.in-Some.side)) (sym lower ∙ c.sides-first.ensures.lower)))
          ∙ ap (λ o. map comparator_of old ++ at_side (lower_comparator c.args.style) o z) (sym lower)
      | in_default w ↦
          ap (λ cs. map comparator_of cs.items) w.comparators-is ∙ sym (append-nil (map comparator_of old))
          ∙ ap (λ o. map comparator_of old ++ at_side (lower_comparator c.args.style) o z) (sym (ap (option_map side_value) w.in_default.is))
    ]

-- if the comparators of the lower side were pushed, those of the upper side complete the term's
-- comparators
both_pushed : (c : Joined-first) (s : Simple) → IsSimpleOf s c.args.simple.now → term_fits c.args.dialect s ≡ true
    → map comparator_of c.match-first.comparators.items
    ++ at_side (upper_comparator c.args.style) (option_map side_value c.sides-first.result.1) (version_of c.args.simple.now.partial)
    ≡ map comparator_of c.args.comparators.now.items ++ printed_term c.args.style c.args.dialect s
both_pushed c s is fit =
    let old = map comparator_of c.args.comparators.now.items in
    let z = version_of c.args.simple.now.partial in
    let lower = option_map side_value c.sides-first.result.0 in
    let upper = option_map side_value c.sides-first.result.1 in
    let apart : (is_some lower && ends_past upper) ≡ false =
    (λ i. (some_value c.sides-first.result.0 ∙ sym c.is_some.ensures) i && sym c.is_past.ensures i) ∙ c.if-is_some-is_past.false in
    ap (λ cs. cs ++ at_side (upper_comparator c.args.style) upper z) (lower_pushed c s is fit)
    ∙ append_assoc old (at_side (lower_comparator c.args.style) lower z) (at_side (upper_comparator c.args.style) upper z)
    ∙ ap (λ cs. old ++ cs) (apart_sides c.args.style lower upper z apart
    ∙ printed_so c.args.dialect s c.args.simple.now is fit c.args.style lower upper c.sides-first.ensures.lower c.sides-first.ensures.upper)

pub returns-in_ok-push-3 : goal.returns-in_ok-push-3
returns-in_ok-push-3 c = λ s is fit.
    let joined = (goal.at.returns-in_ok-push-3 c).Joined-first in
    let so_far = c.match-first.comparators.items in
    let upper = ap (option_map side_value) c.in-Some-last.is in
    pushed so_far _ c.in_ok-upper_comparator.field-0 _ c.in_ok-push-3.ensures.items (c.in_ok-upper_comparator.ensures
    (upper_rises c.args.dialect s c.args.simple.now is fit (Some (side_value c.in-Some-last.side)) (sym upper ∙ c.sides-first.ensures.upper)))
    ∙ ap (λ o. map comparator_of so_far ++ at_side (upper_comparator c.args.style) o (version_of c.args.simple.now.partial)) (sym upper)
    ∙ both_pushed joined s is fit

pub returns-in_default-last : goal.returns-in_default-last
returns-in_default-last c = λ s is fit.
    let joined = (goal.at.returns-in_default-last c).Joined-first in
    let so_far = map comparator_of c.match-first.comparators.items in
    sym (append-nil so_far)
    ∙ ap (λ o. so_far ++ at_side (upper_comparator c.args.style) o (version_of c.args.simple.now.partial)) (sym (ap (option_map side_value) c.in_default-last.is))
    ∙ both_pushed joined s is fit
