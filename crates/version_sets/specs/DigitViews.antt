-- Comparators as they are kept, for identifiers of digits that are read as numbers of any size.
use Rattle.std.specs.Prelude.{map}
use Rattle.semver_texts.specs.Digits.{plain_kept}
use Rattle.semver_ranges.specs.RewritingTable.{PlainComparator, PlainRange, PlainSet}

-- a comparator as it is kept: a number of 2^64 or more in its pre-release is kept as its text
abbrev pub comparator_kept : PlainComparator → PlainComparator
comparator_kept c = record { op = c.op; version = plain_kept c.version }

-- a range of comparators as it is kept
abbrev pub range_kept : PlainRange → PlainRange
range_kept r =
    record { comparators = map comparator_kept r.comparators; compat = r.compat }

-- a set of comparators as it is kept
abbrev pub set_kept : PlainSet → PlainSet
set_kept s = record { ranges = map range_kept s.ranges; compat = s.compat }
