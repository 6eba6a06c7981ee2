use Rattle.std.proofs.Common.{arith, subst}
use Rattle.semver_versions.specs.Steps.Reading.{IsShort}
use Rattle.semver_versions.proofs.ReadTexts.{short_of, short_borrowed}
use Rattle.semver_versions.proofs.reader.read_ref.Goals as goal

pub returns-then-not-is_short : goal.returns-then-not-is_short
returns-then-not-is_short c = λ w.
    c.is_short.ensures.no c.if-not-is_short.true
    (subst (IsShort c.args.grammar) (omega arith) (short_of c.args.grammar w.0 c.args.input.now w.1))

pub returns : goal.returns
returns c =
    short_borrowed c.args.grammar c.args.input.now c.read_ref_at_any_length.result
    (subst (IsShort c.args.grammar) (omega arith) (c.is_short.ensures.yes c.if-not-is_short.false)) c.read_ref_at_any_length.ensures
