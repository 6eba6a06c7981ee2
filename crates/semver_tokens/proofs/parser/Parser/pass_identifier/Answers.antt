use Rattle.std.proofs.Common.{sym, arith, [], ◌∷◌, ◌++◌, false}
use Rattle.std.proofs.lemmas.Result.{err_from_is_err_and}
use Rattle.semver_tokens.specs.Tokens.{Hyphen}
use Rattle.semver_tokens.proofs.IdentifierSteps.{ReadsMore, nothing_read, run_given, hyphen_given, identifier_ends, takes_none, not_alone}
use Rattle.semver_tokens.proofs.parser.Parser.pass_identifier.Goals as goal
use Rattle.semver_tokens.proofs.parser.Parser.pass_identifier.Goals.{In_ok-pop}

pub returns-in_err-number : goal.returns-in_err-number
returns-in_err-number c =
    let p = err_from_is_err_and c.from_residual.result c.from_residual.ensures.1 in
    rw (p.1, p.2) (takes_none _ _ _ (run_given c.args.self.now c.args.self.now _ (nothing_read c.args.self.now) _ c.in_err-number.ensures))

pub loop-number-init : goal.loop-number-init
loop-number-init c =
    let k = run_given c.args.self.now c.args.self.now _ (nothing_read c.args.self.now) _ c.in_ok-number.ensures in
    record { front = k.0 ∷ []; taken = k.1.taken; number = k.2 }

pub returns-in_err-pop : goal.returns-in_err-pop
returns-in_err-pop c =
    let p = err_from_is_err_and c.from_residual-in_err-pop.result c.from_residual-in_err-pop.ensures.1 in
    let k = c.loop-number.invariant in
    rw (p.1, p.2) (takes_none _ _ _ (hyphen_given c.args.self.now c.loop-number.self k.front k.taken
    (c.at_hyphen.ensures.0 c.loop-number-test.true) _ c.in_err-pop.ensures))

-- the hyphen was taken
after_hyphen : (c : In_ok-pop) → ReadsMore c.args.self.now c.loop-number.self c.loop-number.invariant.front Hyphen false c.pop.new.self
after_hyphen c =
    let k = c.loop-number.invariant in hyphen_given c.args.self.now c.loop-number.self k.front k.taken
    (c.at_hyphen.ensures.0 c.loop-number-test.true) _ c.in_ok-pop.ensures

pub returns-in_err-run : goal.returns-in_err-run
returns-in_err-run c =
    let p = err_from_is_err_and c.from_residual-in_err-run.result c.from_residual-in_err-run.ensures.1 in
    let k = after_hyphen (goal.at.returns-in_err-run c).In_ok-pop in
    rw (p.1, p.2) (takes_none _ _ _ (run_given c.args.self.now c.pop.new.self _ k.taken _ c.in_err-run.ensures))

pub loop-number-preserved : goal.loop-number-preserved
loop-number-preserved c =
    let front = c.loop-number.invariant.front in
    let r = run_given c.args.self.now c.pop.new.self _ (after_hyphen (goal.at.loop-number-preserved c).In_ok-pop).taken _
    c.in_ok-run.ensures in
    record { front = (front ++ Hyphen ∷ []) ++ r.0 ∷ []; taken = r.1.taken; number = sym (not_alone front Hyphen r.0) }

pub loop-number-smaller : goal.loop-number-smaller
loop-number-smaller c =
    let k = after_hyphen (goal.at.loop-number-smaller c).In_ok-pop in
    let r = run_given c.args.self.now c.pop.new.self _ k.taken _ c.in_ok-run.ensures in
    omega (arith, k.shorter, r.1.shorter)

pub returns : goal.returns
returns c =
    let k = c.loop-number.invariant in identifier_ends c.args.self.now c.loop-number.self k.front c.loop-number.number k.taken k.number
    (λ looked. cc (c.at_hyphen.ensures.1 looked))
