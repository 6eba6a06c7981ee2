use Rattle.std.proofs.Common.{◌≡◌, ℕ, [], length, get_or, drop, sym, ap, ◌∙◌, subst, arith}
use Rattle.std.specs.List.{prefix_len}
use Rattle.std.proofs.lemmas.List.{drop_all}
use Rattle.semver_texts.specs.Texts.{Text, is_dotted_byte}
use Rattle.semver_texts.specs.Steps.DottedParts.{is_run_byte, runs_stand}
use Rattle.semver_texts.proofs.DottedParts.{IsRead, at_end, no_run, none_read, other_ends}
use Rattle.semver_texts.proofs.dotted.parts_len.Goals as goal

pub returns-then-not-is_between_runs : goal.returns-then-not-is_between_runs
returns-then-not-is_between_runs c =
    let other = no_run c.args.hyphens (get_or c.args.bytes.now c.loop-at.at 0)
    (sym c.is_ascii_alphanumeric.ensures.value ∙ c.if-is_ascii_alphanumeric.false)
    (sym c.is_between_runs.ensures ∙ c.if-not-is_between_runs.true) in
    let ends = other_ends c.args.hyphens c.args.bytes.now c.loop-at.at c.loop-at.in_run c.loop-at-test.true other
    (sym c.is_between_runs.ensures ∙ c.if-not-is_between_runs.true) in
    rw c.then_some.ensures (at_end c.args.hyphens c.args.bytes.now c.loop-at.at c.loop-at.in_run ends.0 ends.1 c.loop-at.invariant)

pub returns-then-not-in_run : goal.returns-then-not-in_run
returns-then-not-in_run c =
    none_read c.args.hyphens c.args.bytes.now c.loop-at.at c.loop-at-test.true
    (sym c.is_run_byte.ensures ∙ c.if-is_run_byte.false)
    (sym c.is_between_runs.ensures ∙ c.if-not-is_between_runs.false)
    (subst (IsRead c.args.hyphens c.args.bytes.now c.loop-at.at) c.if-not-in_run.true c.loop-at.invariant)

pub returns : goal.returns
returns c =
    let bytes : Text = c.args.bytes.now in
    let none : drop (length bytes) bytes ≡ [] = drop_all (length bytes) bytes (omega arith) in
    rw c.then_some-2.ensures (at_end c.args.hyphens bytes (length bytes) c.loop-at.in_run (ap (prefix_len is_dotted_byte) none)
    (ap (runs_stand (is_run_byte c.args.hyphens) c.loop-at.in_run) none)
    (subst (λ (n : ℕ). IsRead c.args.hyphens bytes n c.loop-at.in_run) (omega arith) c.loop-at.invariant))
