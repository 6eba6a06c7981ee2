use Rattle.std.proofs.Common.{sym, subst}
use Rattle.semver_ranges.specs.RangeTree.{PartialTree, SpellsPartial}
use Rattle.semver_ranges.specs.Steps.PartialViews.{AreWritten}
use Rattle.semver_ranges.proofs.LongWords.{reads_same, reads_some}
use Rattle.semver_ranges.proofs.npm_lengths.is_short_word.Goals as goal
use Rattle.semver_ranges.proofs.npm_lengths.is_short_word.Goals.{In-Some}

-- the components that were read are those of the partial version that spells the text
written : (c : In-Some) (p : PartialTree) → SpellsPartial p c.after_v-partial.result.now → AreWritten p c.in-Some.written
written c p h =
    let found = c.in-Some.ensures in
    subst (λ q. AreWritten q c.in-Some.written) (reads_same p found.0 c.after_v-partial.result.now c.in-Some.field-0-1.now h found.1)
    found.2

pub is_short_partial-requires : goal.is_short_partial-requires
is_short_partial-requires c =
    let h = subst (SpellsPartial c.requires.0) (sym c.after_v-partial.ensures) c.requires.1 in
    (c.requires.0, h, written (goal.at.is_short_partial-requires c).In-Some c.requires.0 h)

pub returns-in-Some : goal.returns-in-Some
returns-in-Some c = λ p spelled.
    let h = subst (SpellsPartial p) (sym c.after_v-partial.ensures) spelled in
    c.is_short_partial.ensures p h (written (goal.at.returns-in-Some c).In-Some p h)

pub returns-in-None : goal.returns-in-None
returns-in-None c = λ p spelled.
    let h = subst (SpellsPartial p) (sym c.after_v-partial.ensures) spelled in
    absurd (reads_some p c.after_v-partial.result.now h c.in-None.ensures)
