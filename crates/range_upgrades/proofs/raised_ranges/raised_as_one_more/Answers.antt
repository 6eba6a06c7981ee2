use Rattle.std.proofs.Common.{◌++◌, ap, append_assoc, refl, string_bytes, subst, sym, ◌∙◌}
use Rattle.range_terms.specs.WrittenTerms.{terms_in}
use Rattle.range_upgrades.specs.RaisedRanges.{IsExtended, IsPart}
use Rattle.range_upgrades.proofs.RaisedResults.{is_one_more, no_extended, no_raised_one_more, only_one_more}
use Rattle.range_upgrades.proofs.RaisedTerms.{some_is}
use Rattle.range_upgrades.proofs.raised_ranges.raised_as_one_more.Goals as goal
use Rattle.range_upgrades.proofs.raised_ranges.raised_as_one_more.Goals.{In_ok-push_str-3}

pub returns-in_default-part-clause-none : goal.returns-in_default-part-clause-none
returns-in_default-part-clause-none c = λ none tree spelled s is_last.
    no_extended c.args.dialect c.args.form c.args.range.now c.args.version.now (terms_in c.args.dialect tree c.args.range.now spelled)
    c.args.last.now is_last (λ raised s p. c.in_default-part.ensures.none refl p.before p.up_to) s

pub returns-in_default-part-2-clause-none : goal.returns-in_default-part-2-clause-none
returns-in_default-part-2-clause-none c = λ none tree spelled s is_last.
    no_extended c.args.dialect c.args.form c.args.range.now c.args.version.now (terms_in c.args.dialect tree c.args.range.now spelled)
    c.args.last.now is_last (λ raised s p. c.in_default-part-2.ensures.none refl p.between
    (subst (λ at. IsPart c.args.range.now at c.args.last.now.start p.between) (some_is (sym p.others ∙ c.in-Some.is)) p.bars)) s

pub returns-in_default-part-3-clause-none : goal.returns-in_default-part-3-clause-none
returns-in_default-part-3-clause-none c = λ none tree spelled s is_last.
    no_extended c.args.dialect c.args.form c.args.range.now c.args.version.now (terms_in c.args.dialect tree c.args.range.now spelled)
    c.args.last.now is_last (λ raised s p. c.in_default-part-3.ensures.none refl p.after p.from) s

pub returns-then-not-branch-clause-none : goal.returns-then-not-branch-clause-none
returns-then-not-branch-clause-none c = λ none tree spelled s is_last.
    no_raised_one_more c.args.dialect c.args.form c.args.range.now c.args.version.now (terms_in c.args.dialect tree c.args.range.now spelled)
    c.args.last.now is_last (c.in_ok-push_alternative.ensures.none c.if-not-branch.true tree spelled) s

-- the string consists of its four parts
extends : (c : In_ok-push_str-3) → IsExtended c.args.range.now c.args.last.now (c.in_ok-push_alternative.ensures.pushed c.if-not-branch.false).0
    (string_bytes c.push_str-3.new.self)
extends c =
    let pushed = c.in_ok-push_alternative.ensures.pushed c.if-not-branch.false in
    let before = c.in-Some-part.before.now in
    let between = c.in-Some-part-2.between.now in
    let after = c.in-Some-part-3.after.now in
    record {
      end = c.in-Some.end;
      before = before;
      between = between;
      after = after;
      others = c.in-Some.is;
      up_to = c.in-Some-part.ensures.some;
      bars = c.in-Some-part-2.ensures.some;
      from = c.in-Some-part-3.ensures.some;
      whole = c.in_ok-push_str-3.ensures.bytes
          ∙ ap (λ bytes. bytes ++ after) (pushed.1 ∙ ap (λ bytes. bytes ++ pushed.0)
          (c.in_ok-push_str-2.ensures.bytes ∙ ap (λ bytes. bytes ++ between)
          (c.in_ok-push_str.ensures.bytes ∙ ap (λ bytes. bytes ++ before) c.in_ok-new.ensures.bytes)))
          ∙ append_assoc (before ++ between) pushed.0 after ∙ append_assoc before between (pushed.0 ++ after);
    }

pub returns-clause-some : goal.returns-clause-some
returns-clause-some c = λ tree spelled is_last.
    let pushed = c.in_ok-push_alternative.ensures.pushed c.if-not-branch.false in
    is_one_more c.args.dialect c.args.form c.args.range.now c.args.version.now (terms_in c.args.dialect tree c.args.range.now spelled)
    c.args.last.now is_last pushed.0 (pushed.2 tree spelled) (string_bytes c.push_str-3.new.self)
    (extends (goal.at.returns-clause-some c).In_ok-push_str-3)

pub returns-clause-only : goal.returns-clause-only
returns-clause-only c = λ tree spelled s is_last is.
    let pushed = c.in_ok-push_alternative.ensures.pushed c.if-not-branch.false in
    only_one_more c.args.dialect c.args.form c.args.range.now c.args.version.now (terms_in c.args.dialect tree c.args.range.now spelled)
    c.args.last.now is_last pushed.0 (pushed.2 tree spelled) (string_bytes c.push_str-3.new.self)
    (extends (goal.at.returns-clause-only c).In_ok-push_str-3) s is
