use Rattle.tool_ranges.proofs.rewriting.rewrite.Goals as goal
use Rattle.std.proofs.Common.{rules, subst, sym}
use Rattle.semver_ranges.proofs.FitCells.{own_fits}
use Rattle.tool_ranges.proofs.ReadSets.{Refused}

pub returns-in-Cargo : goal.returns-in-Cargo
returns-in-Cargo c =
    let e = c.rewrite.ensures in
    rw c.in-Cargo.is (record {
      refusals = e.refusals;
      as_rewritten = e.as_rewritten;
      releases = e.releases;
      printable = e.printable;
      reads_back = e.reads_back;
    })

pub returns-in-Npm : goal.returns-in-Npm
returns-in-Npm c =
    let e = c.rewrite-in-Npm.ensures in
    rw c.in-Npm.is (record {
      refusals = e.refusals;
      as_rewritten = e.as_rewritten;
      releases = e.releases;
      printable = e.printable;
      reads_back = e.reads_back;
    })

pub returns-in-CrateCargo : goal.returns-in-CrateCargo
returns-in-CrateCargo c =
    let e = c.parse_exact.ensures in
    rw c.in-CrateCargo.is (record {
      refusals = subst (Refused c.args.range.now c.parse_exact.result) (λ i s. sym (own_fits s).0 i) e.refusals;
      as_rewritten = e.as_rewritten;
      releases = search rules;
      printable = e.printable;
      reads_back = e.reads_back;
    })

pub returns-in-CrateNpm : goal.returns-in-CrateNpm
returns-in-CrateNpm c =
    let e = c.parse_exact-in-CrateNpm.ensures in
    rw c.in-CrateNpm.is (record {
      refusals = subst (Refused c.args.range.now c.parse_exact-in-CrateNpm.result) (λ i s. sym (own_fits s).1 i) e.refusals;
      as_rewritten = e.as_rewritten;
      releases = search rules;
      printable = e.printable;
      reads_back = e.reads_back;
    })
