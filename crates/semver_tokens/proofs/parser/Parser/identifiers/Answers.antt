use Rattle.std.proofs.Common.{map}
use Rattle.std.proofs.lemmas.Result.{err_from_is_err_and}
use Rattle.std.proofs.lemmas.List.{map_push}
use Rattle.semver_texts.specs.VersionViews.{identifier_value}
use Rattle.semver_tokens.specs.ParserViews.{error_value}
use Rattle.semver_tokens.proofs.IdentifierTexts.{unless_out_of_memory, unless_err, if_err}
use Rattle.semver_tokens.proofs.VersionTaking.{AreAfterMark, mark_popped, part_refused, part_runs_out}
use Rattle.semver_tokens.proofs.VersionTaking.{part_runs_out_after, part_before_dot, part_ends}
use Rattle.semver_tokens.proofs.parser.Parser.identifiers.Goals as goal
use Rattle.semver_tokens.proofs.parser.Parser.identifiers.Goals.{In_ok-pop}

pub returns-in_err-pop-clause-answer : goal.returns-in_err-pop-clause-answer
returns-in_err-pop-clause-answer c =
    let p = err_from_is_err_and c.from_residual.result c.from_residual.ensures.1 in
    unless_out_of_memory c.from_residual.result (rw (p.1, p.2)
    (mark_popped c.args.self.now c.loop-identifiers.self _ c.loop-identifiers.invariant _ c.in_err-pop.ensures))

-- the mark was taken
after_mark : (c : In_ok-pop) → AreAfterMark c.args.self.now (map identifier_value c.loop-identifiers.identifiers.items) c.pop.new.self
after_mark c =
    mark_popped c.args.self.now c.loop-identifiers.self _ c.loop-identifiers.invariant _ c.in_ok-pop.ensures

pub returns-in_err-identifier-clause-answer : goal.returns-in_err-identifier-clause-answer
returns-in_err-identifier-clause-answer c =
    let p = err_from_is_err_and c.from_residual-in_err-identifier.result c.from_residual-in_err-identifier.ensures.1 in
    let k = after_mark (goal.at.returns-in_err-identifier-clause-answer c).In_ok-pop in
    rw (p.1, p.2) (unless_err c.in_err-identifier.field-0.0
    (part_refused c.args.self.now c.pop.new.self c.identifier.new.self _ k (error_value c.in_err-identifier.field-0.0))
    c.in_err-identifier.ensures.answer)

pub returns-in_err-identifier-clause-out_of_memory : goal.returns-in_err-identifier-clause-out_of_memory
returns-in_err-identifier-clause-out_of_memory c =
    let p = err_from_is_err_and c.from_residual-in_err-identifier.result c.from_residual-in_err-identifier.ensures.1 in
    let k = after_mark (goal.at.returns-in_err-identifier-clause-out_of_memory c).In_ok-pop in
    rw (p.1, p.2) (if_err c.in_err-identifier.field-0.0 (part_runs_out c.args.self.now c.pop.new.self c.identifier.new.self _ k)
    c.in_err-identifier.ensures.out_of_memory)

pub returns-in_default-clause-out_of_memory : goal.returns-in_default-clause-out_of_memory
returns-in_default-clause-out_of_memory c =
    part_runs_out_after c.args.self.now c.pop.new.self c.identifier.new.self _
    (after_mark (goal.at.returns-in_default-clause-out_of_memory c).In_ok-pop)
    (identifier_value c.in_ok-identifier.identifier) c.in_ok-identifier.ensures.answer

pub loop-identifiers-preserved : goal.loop-identifiers-preserved
loop-identifiers-preserved c =
    let k = after_mark (goal.at.loop-identifiers-preserved c).In_ok-pop in
    rw (c.in-Ok.ensures.items, map_push identifier_value c.loop-identifiers.identifiers.items c.in_ok-identifier.identifier)
    (part_before_dot c.args.self.now c.pop.new.self c.identifier.new.self _ k
    (identifier_value c.in_ok-identifier.identifier) c.in_ok-identifier.ensures.answer (c.at_dot.ensures.0 c.if-not-at_dot.false))

pub returns-then-not-at_dot-clause-answer : goal.returns-then-not-at_dot-clause-answer
returns-then-not-at_dot-clause-answer c =
    let k = after_mark (goal.at.returns-then-not-at_dot-clause-answer c).In_ok-pop in
    rw (c.in-Ok.ensures.items, map_push identifier_value c.loop-identifiers.identifiers.items c.in_ok-identifier.identifier)
    (part_ends c.args.self.now c.pop.new.self c.identifier.new.self _ k
    (identifier_value c.in_ok-identifier.identifier) c.in_ok-identifier.ensures.answer (λ dot. cc (c.at_dot.ensures.1 dot)))
