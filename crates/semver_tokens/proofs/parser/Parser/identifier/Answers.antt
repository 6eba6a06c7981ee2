use Rattle.std.proofs.Common.{◌∙◌, subst, List, ℕ}
use Rattle.std.specs.String.{string_bytes}
use Rattle.std.proofs.lemmas.Result.{err_from_is_err_and}
use Rattle.semver_tokens.specs.ParserState.{IsStateFrom}
use Rattle.semver_texts.specs.VersionGrammar.{SpellsIdentifier}
use Rattle.semver_texts.specs.Versions.{numeric}
use Rattle.semver_tokens.proofs.ReadingSteps.{reads_refused, reads_other}
use Rattle.semver_tokens.proofs.IdentifierTexts.{unless_out_of_memory, read_may_run_out, front_has_value, reads_text}
use Rattle.semver_tokens.proofs.parser.Parser.identifier.Goals as goal

pub returns-in_err-number-clause-answer : goal.returns-in_err-number-clause-answer
returns-in_err-number-clause-answer c =
    let p = err_from_is_err_and c.from_residual.result c.from_residual.ensures.1 in
    unless_out_of_memory c.from_residual.result (rw (p.1, p.2)
    (reads_refused SpellsIdentifier c.args.self.now c.pass_identifier.new.self _ c.in_err-number.ensures.passes))

pub returns-in_default-from_str-clause-out_of_memory : goal.returns-in_default-from_str-clause-out_of_memory
returns-in_default-from_str-clause-out_of_memory c =
    read_may_run_out c.args.self.now c.pass_identifier.new.self c.in_ok-number.ensures.passes

pub returns-in_default-from_str-clause-text_taken : goal.returns-in_default-from_str-clause-text_taken
returns-in_default-from_str-clause-text_taken c =
    let text : List ℕ = c.self.inside.rest.now in
    let from : IsStateFrom text c.args.self.now = subst (IsStateFrom text) c.self.view_is c.self.invariant.spelled in (
      c.identifier_front.result.now,
      reads_text text _ _ _ c.in_ok-number.field-0 from c.in_ok-number.ensures c.in_default.is c.identifier_front.ensures,
    )

pub returns-clause-answer : goal.returns-clause-answer
returns-clause-answer c =
    let text : List ℕ = c.self.inside.rest.now in
    let from : IsStateFrom text c.args.self.now = subst (IsStateFrom text) c.self.view_is c.self.invariant.spelled in
    reads_text text (string_bytes c.in-Ok.kept) _ _ c.in_ok-number.field-0 from c.in_ok-number.ensures c.in_default.is
    (c.in-Ok.ensures.ok ∙ c.identifier_front.ensures)

pub returns-in-Some-clause-answer : goal.returns-in-Some-clause-answer
returns-in-Some-clause-answer c =
    let text : List ℕ = c.self.inside.rest.now in
    let from : IsStateFrom text c.args.self.now = subst (IsStateFrom text) c.self.view_is c.self.invariant.spelled in
    let passes = c.in_ok-number.ensures.passes in
    let value = front_has_value text _ _ c.in_ok-number.field-0 from passes c.in_ok-number.ensures.number in
    reads_other SpellsIdentifier _ _ _ (numeric c.in-Some.number) passes (rw c.in-Some.is at value)
