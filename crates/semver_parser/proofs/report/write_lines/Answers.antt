use Rattle.std.proofs.Common.{codes, ◌++◌}
use Rattle.std.proofs.KnownBytes.{Appends-trans}
use Rattle.semver_parser.specs.ReportLines.{line}
use Rattle.semver_parser.specs.Steps.Shown.{shown_text}
use Rattle.semver_texts.proofs.Writes.{begins_with, begins_then, stops}
use Rattle.semver_parser.proofs.report.write_lines.Goals as goal

pub returns-in_err-write_line-clause-writes : goal.returns-in_err-write_line-clause-writes
returns-in_err-write_line-clause-writes g c =
    let cargo = line (codes "cargo: ") (shown_text c.args.cargo.now) in
    let npm = line (codes "npm: ") (shown_text c.args.npm.now) in
    stops _ _ _ _ c.from_residual.ensures.0 (begins_with _ _ _ npm (begins_with _ _ _ cargo c.in_err-write_line.ensures))

pub returns-in_err-write_line-2-clause-writes : goal.returns-in_err-write_line-2-clause-writes
returns-in_err-write_line-2-clause-writes g c =
    let version = line (codes "version: ") (shown_text c.args.version.now) in
    let cargo = line (codes "cargo: ") (shown_text c.args.cargo.now) in
    let npm = line (codes "npm: ") (shown_text c.args.npm.now) in
    stops _ _ _ _ c.from_residual-in_err-write_line-2.ensures.0 (begins_with _ _ _ npm
    (begins_then _ _ _ version cargo c.in_ok-write_line.ensures c.in_err-write_line-2.ensures))

pub returns-in_err-write_line-3-clause-writes : goal.returns-in_err-write_line-3-clause-writes
returns-in_err-write_line-3-clause-writes g c =
    let version = line (codes "version: ") (shown_text c.args.version.now) in
    let cargo = line (codes "cargo: ") (shown_text c.args.cargo.now) in
    let npm = line (codes "npm: ") (shown_text c.args.npm.now) in
    let both = Appends-trans _ _ _ version cargo c.in_ok-write_line.ensures c.in_ok-write_line-2.ensures in
    stops _ _ _ _ c.from_residual-in_err-write_line-3.ensures.0 (begins_then _ _ _
    (version ++ cargo) npm both c.in_err-write_line-3.ensures)
