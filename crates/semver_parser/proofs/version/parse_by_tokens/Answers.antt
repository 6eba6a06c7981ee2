use Rattle.std.proofs.Common.{◌≡◌, ℕ, refl, sym, ap, ◌∙◌, List, []}
use Rattle.std.proofs.lemmas.Result.{err_from_is_err_and}
use Rattle.semver_tokens.specs.ParserState.{ParserState}
use Rattle.semver_tokens.specs.ParserSteps.{tail}
use Rattle.semver_tokens.specs.ParserViews.{error_value, UnlessOutOfMemory}
use Rattle.semver_texts.specs.VersionViews.{version_value}
use Rattle.semver_tokens.specs.declared.parser.Error.{Error}
use Rattle.semver_tokens.proofs.IdentifierTexts.{unless_out_of_memory, unless_err, if_err}
use Rattle.semver_parser.proofs.ParseFacts.{at_bad_start, lexer_has_memory, at_error, at_refusal, at_end, tail_given, at_tail_refusal}
use Rattle.semver_parser.proofs.version.parse_by_tokens.Goals as goal
use Rattle.semver_parser.proofs.version.parse_by_tokens.Goals.{Else-is_eof}

pub returns-in_err-parser : goal.returns-in_err-parser
returns-in_err-parser c =
    let p = err_from_is_err_and c.from_residual.result c.from_residual.ensures.1 in
    let bad = c.in_err-parser.ensures.lexer in
    let outcome = unless_out_of_memory c.from_residual.result
    (rw (p.1, p.2) (at_bad_start c.args.input.now c.in_err-parser.field-0.0 bad)) in
    record { outcome = outcome; out_of_memory = (rw (p.1, p.2) (lexer_has_memory _ c.in_err-parser.field-0.0 bad.0 bad.1)) }

pub returns-in_err-version : goal.returns-in_err-version
returns-in_err-version c =
    let text = c.args.input.now in
    let p = err_from_is_err_and c.from_residual-in_err-version.result c.from_residual-in_err-version.ensures.1 in
    let e : Error = c.in_err-version.field-0.0 in
    let state = c.in_ok-parser.ensures.ok in
    let outcome : UnlessOutOfMemory c.from_residual-in_err-version.result _ = rw (p.1, p.2)
    (unless_err e (at_error text c.in_ok-parser.parser c.version.new.self (error_value e) state) c.in_err-version.ensures.answer) in
    record {
      outcome = outcome;
      out_of_memory = (rw (p.1, p.2)
          (if_err e (at_refusal text c.in_ok-parser.parser c.version.new.self state) c.in_err-version.ensures.out_of_memory));
    }

pub returns-then-is_eof : goal.returns-then-is_eof
returns-then-is_eof c =
    record {
      outcome = at_end c.args.input.now c.in_ok-parser.parser c.version.new.self
          _ c.in_ok-parser.ensures.ok c.in_ok-version.ensures.answer
          (c.if-is_eof.ensures.answer.0 refl);
      out_of_memory = tt;
    }

-- some token is left
some_left : (c : Else-is_eof) → ¬ (c.version.new.self.remaining ≡ [])
some_left c = λ none. let e = c.if-is_eof.ensures.answer.1 none in cc

pub returns-in_err-rest : goal.returns-in_err-rest
returns-in_err-rest c =
    let text : List ℕ = c.args.input.now in
    let p = err_from_is_err_and c.from_residual-in_err-rest.result c.from_residual-in_err-rest.ensures.1 in
    let e : Error = c.in_err-rest.field-0.0 in
    let s : ParserState = c.in_ok-parser.parser in
    let t : ParserState = c.version.new.self in
    let some = some_left (goal.at.returns-in_err-rest c).Else-is_eof in
    let same = c.is_eof.ensures.after in
    let given = tail_given text s t (version_value c.in_ok-version.version) c.in_ok-parser.ensures.ok c.in_ok-version.ensures.answer some in
    let refusal = at_tail_refusal text s t (version_value c.in_ok-version.version) c.in_ok-parser.ensures.ok c.in_ok-version.ensures.answer
    some in
    let outcome : UnlessOutOfMemory c.from_residual-in_err-rest.result _ = rw (p.1, p.2)
    (unless_err e (λ d. given _ (d ∙ ap tail same)) c.in_err-rest.ensures.answer) in
    record {
      outcome = outcome;
      out_of_memory = (rw (p.1, p.2)
          (if_err e (λ d. refusal (sym (rw same) ∙ d.1)) c.in_err-rest.ensures.out_of_memory));
    }

pub returns : goal.returns
returns c =
    let outcome = tail_given c.args.input.now c.in_ok-parser.parser c.version.new.self
    _ c.in_ok-parser.ensures.ok c.in_ok-version.ensures.answer (some_left (goal.at.returns c).Else-is_eof) _
    (c.in_ok-rest.ensures.answer ∙ rw c.is_eof.ensures.after) in
    record { outcome = outcome; out_of_memory = tt }
