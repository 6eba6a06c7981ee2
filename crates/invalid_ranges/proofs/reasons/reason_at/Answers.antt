use Rattle.std.proofs.Common.{◌≡◌, ◌∙◌, ◌++◌, ap, codes, subst, take, rules}
use Rattle.std.specs.Prelude.{◌↔◌, IsTrue}
use Rattle.semver_texts.specs.Texts.{Text}
use Rattle.invalid_strings.specs.Reasons.{byte_at}
use Rattle.tool_ranges.specs.Dialects.{IsTextAs}
use Rattle.invalid_ranges.specs.RangeReasons.{reason_by}
use Rattle.invalid_ranges.proofs.reasons.reason_at.Goals as goal

pub returns : goal.returns
returns c =
    let d = c.args.dialect in
    let complete = c.is_range-complete.result in
    let letter = c.is_range-letter.result in
    let prefix : Text = c.range-prefix.result.now in
    let taken : prefix ≡ take c.args.offset c.args.text.now = search rules in
    record {
      complete = complete;
      letter = letter;
      is_complete = subst (λ t. IsTrue complete ↔ IsTextAs d t) taken c.is_range-complete.ensures;
      takes_letter = subst (λ t. IsTrue letter ↔ IsTextAs d t)
          (c.as_str.ensures.value ∙ c.join.ensures.joined ∙ ap (λ p. p ++ codes "a") taken) c.is_range-letter.ensures;
      is = c.reason_by.ensures
          ∙ (λ i. reason_by d complete letter ((c.as_bytes-2.ensures.value ∙ taken) i)
          ((c.byte_at-next.ensures ∙ ap (λ t. byte_at t c.args.offset) c.as_bytes.ensures.value) i));
    }
