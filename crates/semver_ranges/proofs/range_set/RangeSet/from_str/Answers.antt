use Rattle.semver_ranges.proofs.range_set.RangeSet.from_str.Goals as goal

pub returns : goal.returns
returns c =
    let parsed = c.parse.ensures in
    record {
      parsed = record {
        refusals = parsed.refusals;
        as_rewritten = parsed.as_rewritten;
        meaning = parsed.meaning;
        releases = parsed.releases;
        implied = parsed.implied;
        printable = parsed.printable;
        reads_back = parsed.reads_back;
      };
    }
