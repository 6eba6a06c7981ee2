-- Which number of a term is too large.
use Rattle.std.specs.Prelude.{ℕ, not, if◌then◌else◌, List, nat_le}
use Rattle.std.specs.Prelude.{Option, Some, None, unwrap_or}
use Rattle.std.specs.List.{list_all, prefix_len}
use Rattle.semver_texts.specs.Texts.{is_empty}
use Rattle.semver_ranges.specs.RangeTree.{Simple}
use Rattle.semver_ranges.specs.Partials.{stated, zero_filled}
use Rattle.semver_ranges.specs.declared.dialect.Dialect.{Dialect}
use Rattle.semver_ranges.specs.DialectTable.{limit}
use Rattle.semver_ranges.specs.Sides.{raised_index, sides, term_fits}

-- the index of the first number above the limit, if there is one
abbrev pub first_above : ℕ → List ℕ → Option ℕ
first_above most ns = if list_all (λ n. nat_le n most) ns then None
    else Some (prefix_len (λ n. nat_le n most) ns)

-- the index of the number of a term that is too large, if the term doesn't fit: that of its first
-- number above the limit, or if there is none, that of the number that is raised for one of its
-- sides and can't be
abbrev pub too_large : Dialect → Simple → Option ℕ
too_large dialect s = if term_fits dialect s then None
    else Some (unwrap_or (first_above (limit dialect) (stated s.partial))
    (raised_index (sides dialect s.operator (stated s.partial)
    (not (is_empty (zero_filled s.partial).pre)))))
