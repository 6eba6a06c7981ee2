use Rattle.std.proofs.Common.{Some, arith}
use Rattle.semver_texts.specs.Texts.{Text}
use Rattle.semver_texts.specs.declared.grammar.Grammar.TheVariants.{Cargo}
use Rattle.semver_ranges.specs.TextItems.{one_term}
use Rattle.semver_ranges.proofs.ComparatorSteps.{events_next, no_events, some_left}
use Rattle.semver_ranges.proofs.ItemSteps.{comparator_shorter, left_next}
use Rattle.semver_ranges.proofs.cursor.Cursor.read_comparator.Goals as goal

pub returns : goal.returns
returns c =
    let t : Text = c.args.self.now.rest.now in
    let u : Text = c.in_ok-term.rest.now in
    let (x, is, upper, within, found) = c.in_ok-term.ensures in
    let less = comparator_shorter c.args.is_first t (one_term x) u found in
    rw c.requires.begun (record {
      x = one_term x;
      is = (is, within);
      whole = left_next Cargo c.args.is_first t (Some (one_term x, u)) found;
      left = events_next c.args.is_first t x u found (some_left c.args.is_first t c.requires.some) upper;
      fewer = omega (arith, less.0);
      shorter = omega (arith, less.0);
    })

pub returns-in_err-term : goal.returns-in_err-term
returns-in_err-term c =
    let t : Text = c.args.self.now.rest.now in
    let none = c.in_err-term.ensures in
    rw c.from_residual.ensures (record {
      found = none;
      left = no_events c.args.is_first t none (some_left c.args.is_first t c.requires.some);
      begins_after = c.requires.begun;
    })
