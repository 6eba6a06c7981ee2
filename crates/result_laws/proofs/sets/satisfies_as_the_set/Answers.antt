use Rattle.std.proofs.Common.{◌≡◌, Bool, Result, Ok, ap, sym, ◌∙◌}
use Rattle.semver_texts.specs.Digits.{digits_in, plain_by, version_by}
use Rattle.semver_versions.specs.VersionRefs.{kept_version_of}
use Rattle.version_sets.specs.VersionSets.{contains}
use Rattle.tool_ranges.specs.Dialects.{HasSetAs, IsTextAs, IsTooLargeAs}
use Rattle.semver_ranges.specs.DialectTable.{grammar_of}
use Rattle.tool_ranges.proofs.ReadSets.{same_refusal}
use Rattle.tool_ranges.proofs.ReadingLaws.{answered_too}
use Rattle.version_sets.specs.declared.VersionSet.{VersionSet}
use Rattle.result_laws.specs.OneResult.{itself}
use Rattle.result_laws.proofs.OneResult.{one, of_ok}
use Rattle.result_laws.proofs.sets.satisfies_as_the_set.Goals as goal
use Rattle.result_laws.proofs.sets.satisfies_as_the_set.Goals.{in-Ok, in-Err}

inner : {a b : Bool} {E : Type 0} → ◌≡◌ {A = Result Bool E} (Ok a) (Ok b) → a ≡ b
inner e = cc

pub returns : goal.returns
returns c =
    let dialect = c.args.meaning.dialect in
    let range = c.args.range.now in
    let w = version_by (digits_in (grammar_of dialect)) (kept_version_of c.args.version.now) in
    let r = c.satisfies.ensures in
    elim c.match-read.branch [
      | in-Ok o ↦ record {
        same = rw o.contains-is (one itself _ c.satisfies.result
            (answered_too (IsTextAs dialect range) (IsTooLargeAs dialect range) (HasSetAs dialect range) o.in-Ok.set _
            o.in-Ok.ensures.refusals)
            r.refusals
            (λ a b is is' text. sym (inner is) ∙ o.contains_ref.ensures.of_version
            ∙ ap (λ d. contains o.in-Ok.set (plain_by d (kept_version_of c.args.version.now).plain))
            o.in-Ok.ensures.digits
            ∙ o.in-Ok.ensures.meaning text.0 w text.1 (c.numbers_of_refs_fit.ensures.major, c.numbers_of_refs_fit.ensures.minor, c.numbers_of_refs_fit.ensures.patch) ∙ sym (of_ok _ is' r.meaning text.0 text.1)));
      }
      | in-Err o ↦ record {
        same = rw o.contains-is (one itself _ c.satisfies.result
            (same_refusal VersionSet Bool (IsTextAs dialect range) (IsTooLargeAs dialect range) (HasSetAs dialect range) o.in-Err.error
            o.in-Err.ensures.refusals)
            r.refusals (λ a b is is' text. cc));
      }
    ]
