use Rattle.std.proofs.Common.{string_bytes}
use Rattle.range_upgrades.proofs.Results.{Clauses, one_result}
use Rattle.range_upgrades.proofs.laws.one_upgrade.Goals as goal

pub returns : goal.returns
returns c =
    let r = c.upgrade-first.ensures in
    let s = c.upgrade-second.ensures in
    let first : Clauses string_bytes c.args.meaning c.args.range.now c.args.version.now c.upgrade-first.result = record {
      invalid_version = r.invalid_version;
      not_a_range = r.not_a_range;
      too_large = r.too_large;
      range_memory = r.range_memory;
      accepted = r.accepted;
      contains = r.contains;
      none = r.none;
      above = r.above;
      loses_none = r.loses_none;
      again = r.again;
      style = r.style;
      cannot_upgrade = r.cannot_upgrade;
    } in
    let second : Clauses string_bytes c.args.meaning c.args.range.now c.args.version.now c.upgrade-second.result = record {
      invalid_version = s.invalid_version;
      not_a_range = s.not_a_range;
      too_large = s.too_large;
      range_memory = s.range_memory;
      accepted = s.accepted;
      contains = s.contains;
      none = s.none;
      above = s.above;
      loses_none = s.loses_none;
      again = s.again;
      style = s.style;
      cannot_upgrade = s.cannot_upgrade;
    } in
    record { one = one_result string_bytes c.args.meaning c.args.range.now c.args.version.now c.upgrade-first.result c.upgrade-second.result first second }
