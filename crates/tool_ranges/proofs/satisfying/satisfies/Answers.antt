use Rattle.std.proofs.Common.{◌≡◌, ◌∙◌, Err, ap, inl, inr, refl, sym}
use Rattle.semver_texts.specs.Digits.{digits_in, version_by}
use Rattle.semver_versions.specs.VersionRefs.{VersionRefValue, kept_version_of, version_of}
use Rattle.semver_ranges.specs.DialectTable.{grammar_of}
use Rattle.tool_ranges.specs.Meanings.{meant_as}
use Rattle.tool_ranges.proofs.SatisfiesErrors.{refused_range}
use Rattle.tool_ranges.proofs.satisfying.satisfies.Goals as goal

pub returns-in_default : goal.returns-in_default
returns-in_default c = record { answer = inl (rw c.grammar.ensures.grammar at (c.in_default.ensures.none.0 refl), refl) }

pub returns-in-Ok : goal.returns-in-Ok
returns-in-Ok c =
    let d = c.args.meaning.dialect in
    let o = c.in-Some.borrowed in
    let borrowed = (c.in-Some.ensures.borrowed o).0 refl in
    let digits : o.digits ≡ digits_in (grammar_of d) = ap (λ (o : VersionRefValue). o.digits) borrowed.2 ∙ ap digits_in c.grammar.ensures.grammar in
    let same : version_by (digits_in (grammar_of d)) (kept_version_of o) ≡ version_of o = ap (λ read. version_by read (kept_version_of o)) (sym digits) in
    record {
      answer = inr (
        version_of o,
        rw c.grammar.ensures.grammar at c.in-Some.ensures.version,
        (
          c.in-Ok.ensures.refusals.accepted,
          λ tree spelled. c.in-Ok.ensures.meaning tree spelled ∙ ap (meant_as c.args.meaning tree) same,
        ),
      );
    }

pub returns-in-Err : goal.returns-in-Err
returns-in-Err c = record {
  answer = inr (
    version_of c.in-Some.borrowed,
    rw c.grammar.ensures.grammar at c.in-Some.ensures.version,
    refused_range c.args.meaning (version_of c.in-Some.borrowed) c.args.range.now c.in-Err.error c.in-Err.ensures.refusals
        (λ h. c.in-Err.ensures.no_memory (ap Err h)),
  );
}
