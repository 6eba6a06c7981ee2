use Rattle.std.proofs.Common.{◌≡◌, ◌++◌, string_bytes}
use Rattle.semver_texts.specs.Texts.{Text}
use Rattle.semver_ranges.specs.RangeTree.{SetTree}
use Rattle.tool_ranges.specs.Dialects.{SpellsAs}
use Rattle.range_terms.specs.WrittenTerms.{terms_in}
use Rattle.range_upgrades.proofs.RaisedTerms.{Goes}
use Rattle.range_upgrades.proofs.raised_ranges.push_alternative.Given as goal

abbrev pub invariant-loop-term : goal.invariant-loop-term
invariant-loop-term l = (done : Text) × (string_bytes l.raised ≡ string_bytes l.initial.raised ++ done)
    × ((tree : SetTree) (spelled : SpellsAs l.dialect tree l.range)
    → Goes l.dialect l.form l.range l.version l.last (terms_in l.dialect tree l.range spelled) done l.copied l.term-iterator)
