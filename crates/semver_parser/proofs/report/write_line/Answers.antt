use Rattle.semver_texts.proofs.Writes.{begins_with, begins_then, stops, writes_then}
use Rattle.std.proofs.KnownBytes.{Appends-trans}
use Rattle.semver_parser.proofs.report.write_line.Goals as goal

pub returns-in_err-write_text : goal.returns-in_err-write_text
returns-in_err-write_text g c =
    stops _ _ _ _ c.from_residual.ensures.0 (begins_with _ _ _ _ (begins_with _ _ _ _ c.in_err-write_text.ensures))

pub returns-in_err-write_text-2 : goal.returns-in_err-write_text-2
returns-in_err-write_text-2 g c =
    let shown = rw c.as_str.ensures at c.in_err-write_text-2.ensures in
    stops _ _ _ _ c.from_residual-in_err-write_text-2.ensures.0 (begins_with _ _ _ _
    (begins_then _ _ _ _ _ c.in_ok-write_text.ensures shown))

pub returns : goal.returns
returns g c =
    let shown = rw c.as_str.ensures at c.in_ok-write_text-2.ensures in
    writes_then _ _ _ _ _ _ (Appends-trans _ _ _ _ _ c.in_ok-write_text.ensures shown) c.write_text-3.ensures
