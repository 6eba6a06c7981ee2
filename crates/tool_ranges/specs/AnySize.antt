-- The zero-filled versions and the comparators with which Cargo's and npm's dialects compare a
-- version. Their identifiers of digits are numbers of any size, as in SemVer 2.0.0.
use Rattle.std.specs.Prelude.{map}
use Rattle.semver_texts.specs.Digits.{plain_by}
use Rattle.semver_texts.specs.Versions.{PlainVersion}
use Rattle.semver_texts.specs.declared.grammar.Digits.TheVariants.{AnySize}
use Rattle.semver_ranges.specs.Partials.{zero_filled}
use Rattle.semver_ranges.specs.RangeTree.{PartialTree}
use Rattle.semver_ranges.specs.RewritingTable.{PlainComparator, PlainRange, PlainSet}

-- the zero-filled version, whose identifiers of digits are numbers of any size
abbrev pub zero_filled_any : PartialTree → PlainVersion
zero_filled_any p = plain_by AnySize (zero_filled p)

-- a comparator, in which identifiers of digits are numbers of any size
abbrev pub comparator_any : PlainComparator → PlainComparator
comparator_any c = record { op = c.op; version = plain_by AnySize c.version }

-- a range of comparators, in which identifiers of digits are numbers of any size
abbrev pub range_any : PlainRange → PlainRange
range_any r = record { comparators = map comparator_any r.comparators; compat = r.compat }

-- a set of comparators, in which identifiers of digits are numbers of any size
abbrev pub set_any : PlainSet → PlainSet
set_any s = record { ranges = map range_any s.ranges; compat = s.compat }
