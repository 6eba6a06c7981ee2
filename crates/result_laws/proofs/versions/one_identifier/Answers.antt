use Rattle.std.proofs.Common.{subst, sym}
use Rattle.semver_tokens.specs.ParserState.{ParserState}
use Rattle.result_laws.proofs.VersionResults.{IsRead, one_identifier, one_left, one_memory}
use Rattle.result_laws.proofs.versions.one_identifier.Goals as goal

pub returns : goal.returns
returns c =
    let one = c.identifier in
    let other = c.identifier-2 in
    let a : IsRead c.args.one.now one.result one.new.self =
    record { answer = one.ensures.answer; text_taken = one.ensures.text_taken } in
    let b : IsRead c.args.other.now other.result other.new.self =
    record { answer = other.ensures.answer; text_taken = other.ensures.text_taken } in
    let same : IsRead c.args.one.now other.result other.new.self =
    subst (λ (before : ParserState). IsRead before other.result other.new.self) (sym c.requires) b in
    record {
      one = one_identifier c.args.one.now _ _ _ _ a same;
      state = one_left c.args.one.now _ _ _ _ a same;
      memory = one_memory c.args.one.now _ _ _ _ a same;
    }
