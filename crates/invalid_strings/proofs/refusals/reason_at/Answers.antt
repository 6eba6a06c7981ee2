use Rattle.std.proofs.Common.{◌∙◌, ap, append-nil, subst, sym}
use Rattle.std.specs.Prelude.{◌↔◌, IsTrue}
use Rattle.semver_versions.specs.AnyLength.{IsVersionAtAnyLength}
use Rattle.invalid_strings.specs.Reasons.{reason_by}
use Rattle.invalid_strings.proofs.refusals.reason_at.Goals as goal

pub returns : goal.returns
returns c too_long =
    let d = c.args.grammar in
    let version = c.is_version-version.result in
    record {
      version = version;
      letter = c.takes-letter.result;
      zero = c.takes-zero.result;
      too_long = c.args.too_long;
      is_version = subst (λ t. IsTrue version ↔ IsVersionAtAnyLength d t) (c.as_bytes-bytes.ensures.value ∙ sym (append-nil c.args.prefix.now)) c.is_version-version.ensures;
      takes_letter = c.takes-letter.ensures.takes;
      takes_zero = c.takes-zero.ensures.takes;
      is_too_long = too_long;
      is = c.reason_by.ensures
          ∙ ap (λ p. reason_by d version c.takes-letter.result c.takes-zero.result c.args.too_long p c.args.next) c.as_bytes-bytes.ensures.value;
    }
