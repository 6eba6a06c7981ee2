use Rattle.std.proofs.Common.{[], sym, ◌∙◌}
use Rattle.semver_versions.proofs.ReadVersions.{has_version_ref, no_parts, they_fit}
use Rattle.semver_versions.proofs.reader.after_numbers.Goals as goal

pub returns-then-not-fit : goal.returns-then-not-fit
returns-then-not-fit c = λ text before n at v w.
    c.fit.ensures.no c.if-not-fit.true (they_fit w c.args.rest.now c.args.major c.args.minor c.args.patch n)

pub returns-then-is_empty : goal.returns-then-is_empty
returns-then-is_empty c = λ text before n at.
    rw (c.with_parts.ensures, c.digits.ensures)
    (has_version_ref c.args.grammar text c.args.rest.now [] [] c.args.major c.args.minor c.args.patch n
    (no_parts c.args.grammar c.args.rest.now (sym c.is_empty.ensures ∙ c.if-is_empty.true))
    (c.fit.ensures.yes c.if-not-fit.false) before c.args.numbers_end at)
