use Rattle.std.proofs.Common.{◌++◌, ap, append_assoc, refl, string_bytes, ◌∙◌}
use Rattle.range_terms.specs.WrittenTerms.{terms_in}
use Rattle.range_upgrades.specs.RaisedRanges.{IsReplaced}
use Rattle.range_upgrades.proofs.RaisedResults.{is_in_place, no_raised_in_place, no_replaced, only_in_place}
use Rattle.range_upgrades.proofs.raised_ranges.raised_in_place.Goals as goal
use Rattle.range_upgrades.proofs.raised_ranges.raised_in_place.Goals.{In_ok-push_str-2}

pub returns-in_default-clause-none : goal.returns-in_default-clause-none
returns-in_default-clause-none c = λ none tree spelled s is_last.
    no_replaced c.args.dialect c.args.form c.args.range.now c.args.version.now (terms_in c.args.dialect tree c.args.range.now spelled)
    c.args.last.now is_last (λ raised s p. c.in_default.ensures.none refl p.before p.up_to) s

pub returns-in_default-part-clause-none : goal.returns-in_default-part-clause-none
returns-in_default-part-clause-none c = λ none tree spelled s is_last.
    no_replaced c.args.dialect c.args.form c.args.range.now c.args.version.now (terms_in c.args.dialect tree c.args.range.now spelled)
    c.args.last.now is_last (λ raised s p. c.in_default-part.ensures.none refl p.after p.from) s

pub returns-then-not-branch-clause-none : goal.returns-then-not-branch-clause-none
returns-then-not-branch-clause-none c = λ none tree spelled s is_last.
    no_raised_in_place c.args.dialect c.args.form c.args.range.now c.args.version.now (terms_in c.args.dialect tree c.args.range.now spelled)
    c.args.last.now is_last (c.in_ok-push_alternative.ensures.none c.if-not-branch.true tree spelled) s

-- the string consists of its three parts
replaces : (c : In_ok-push_str-2) → IsReplaced c.args.range.now c.args.last.now (c.in_ok-push_alternative.ensures.pushed c.if-not-branch.false).0
    (string_bytes c.push_str-2.new.self)
replaces c =
    let pushed = c.in_ok-push_alternative.ensures.pushed c.if-not-branch.false in
    let before = c.in-Some.before.now in
    let after = c.in-Some-part.after.now in
    record {
      before = before;
      after = after;
      up_to = c.in-Some.ensures.some;
      from = c.in-Some-part.ensures.some;
      whole = c.in_ok-push_str-2.ensures.bytes
          ∙ ap (λ bytes. bytes ++ after) (pushed.1 ∙ ap (λ bytes. bytes ++ pushed.0)
          (c.in_ok-push_str.ensures.bytes ∙ ap (λ bytes. bytes ++ before) c.in_ok-new.ensures.bytes))
          ∙ append_assoc before pushed.0 after;
    }

pub returns-clause-some : goal.returns-clause-some
returns-clause-some c = λ tree spelled is_last.
    let pushed = c.in_ok-push_alternative.ensures.pushed c.if-not-branch.false in
    is_in_place c.args.dialect c.args.form c.args.range.now c.args.version.now (terms_in c.args.dialect tree c.args.range.now spelled)
    c.args.last.now is_last pushed.0 (pushed.2 tree spelled) (string_bytes c.push_str-2.new.self)
    (replaces (goal.at.returns-clause-some c).In_ok-push_str-2)

pub returns-clause-only : goal.returns-clause-only
returns-clause-only c = λ tree spelled s is_last is.
    let pushed = c.in_ok-push_alternative.ensures.pushed c.if-not-branch.false in
    only_in_place c.args.dialect c.args.form c.args.range.now c.args.version.now (terms_in c.args.dialect tree c.args.range.now spelled)
    c.args.last.now is_last pushed.0 (pushed.2 tree spelled) (string_bytes c.push_str-2.new.self)
    (replaces (goal.at.returns-clause-only c).In_ok-push_str-2) s is
