-- The comparators of a range with exact bounds: those of the table, except that a raised bound is
-- written with the pre-release `0`. So no pre-release of that bound is below it.
use Rattle.std.specs.Prelude.{List, [], ◌∷◌}
use Rattle.semver_ranges.specs.declared.range.Compat.{Compat}
use Rattle.semver_ranges.specs.RangeTree.{SetTree}
use Rattle.semver_texts.specs.Versions.{IdentifierValue, numeric, PlainVersion}
use Rattle.semver_ranges.specs.RewritingTable.{PlainSet, with_pre_release, written_set}

-- the lowest pre-release: `0`
abbrev pub lowest_pre_release : List IdentifierValue
lowest_pre_release = numeric 0 ∷ []

-- a bound that is written exactly, such as `2.0.0-0`: every version below it is below all
-- pre-releases of the bound
abbrev pub exact_bound : PlainVersion → PlainVersion
exact_bound bound = with_pre_release lowest_pre_release bound

-- the set that a tree is rewritten to with exact bounds: as `rewritten`, but with `<up(k)-0`
-- instead of `<up(k)`
abbrev pub rewritten_exactly : Compat → SetTree → PlainSet
rewritten_exactly mode tree = written_set lowest_pre_release mode tree
