-- The values of ranges, as contracts see them, independent of where they are in memory.
use Rattle.std.specs.Prelude.{map, string_bytes}
use Rattle.semver_ranges.specs.declared.range.Identifier.{Identifier}
use Rattle.semver_ranges.specs.declared.range.Identifier.TheVariants.{Numeric, AlphaNumeric}
use Rattle.semver_ranges.specs.declared.range.Comparator.{Comparator}
use Rattle.semver_ranges.specs.declared.range.Range.{Range}
use Rattle.semver_ranges.specs.declared.range_set.RangeSet.{RangeSet}
use Rattle.semver_texts.specs.Versions.{IdentifierValue, numeric, alphanumeric}
use Rattle.semver_ranges.specs.RewritingTable.{PlainComparator, PlainRange, PlainSet}

-- the value of an identifier
abbrev pub identifier_of : Identifier → IdentifierValue
identifier_of (Numeric n) = numeric n
identifier_of (AlphaNumeric s) = alphanumeric (string_bytes s)

-- the value of a comparator
abbrev pub comparator_of : Comparator → PlainComparator
comparator_of c =
    record {
      op = c.op;
      version = record {
        major = c.major;
        minor = c.minor;
        patch = c.patch;
        pre = map identifier_of c.pre.items;
      };
    }

-- the value of a range
abbrev pub range_of : Range → PlainRange
range_of r = record { comparators = map comparator_of r.comparator_set.items; compat = r.compat }

-- the value of a range set
abbrev pub set_of : RangeSet → PlainSet
set_of s = record { ranges = map range_of s.ranges.items; compat = s.compat }
