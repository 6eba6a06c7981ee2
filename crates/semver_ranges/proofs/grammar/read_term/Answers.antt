use Rattle.std.proofs.Common.{refl, ap, arith, length}
use Rattle.semver_ranges.proofs.CursorSteps.{simple_found}
use Rattle.semver_ranges.proofs.ReadingSteps.{operator_shorter}
use Rattle.semver_ranges.proofs.grammar.read_term.Goals as goal

pub returns : goal.returns
returns c =
    let d = c.args.grammar in
    let t = c.args.text.now in
    let found = c.in_ok-version.ensures in
    let short = operator_shorter d t in
    record {
      version = _;
      simple = simple_found d t c.read_operator-operator.result.1.now c.in_ok-version.version.after.now c.after_blanks.result.now _ found.0
          c.read_operator-operator.ensures found.1 c.after_blanks.ensures;
      word = rw (← c.read_operator-operator.ensures, found.1) refl;
      from = refl;
      is = found.2;
      within = omega (arith, short, ap (λ f. length f.1) c.read_operator-operator.ensures);
      upper = refl;
    }
