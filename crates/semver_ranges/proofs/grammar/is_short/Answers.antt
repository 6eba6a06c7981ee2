use Rattle.std.proofs.Common.{◌-◌, ap, sym, length, ◌∙◌, arith}
use Rattle.std.proofs.lemmas.List.{length-take-le}
use Rattle.semver_ranges.specs.RangeTree.{is_short_word}
use Rattle.semver_ranges.specs.Steps.CursorViews.{role_of}
use Rattle.semver_ranges.proofs.LongWords.{back_within, front_spells, short_word}
use Rattle.semver_ranges.proofs.grammar.is_short.Goals as goal

pub returns-then-len-le-MAX_SAFE_BUILD_LENGTH : goal.returns-then-len-le-MAX_SAFE_BUILD_LENGTH
returns-then-len-le-MAX_SAFE_BUILD_LENGTH c = λ p w. sym (short_word (role_of c.args.role) p w.back _ w.spelled
    (back_within p c.args.text.now c.args.rest.now w) (omega arith))

pub is_short_word-requires : goal.is_short_word-requires
is_short_word-requires c = (c.requires.0, front_spells c.requires.0 c.args.text.now c.args.rest.now c.requires.1)

pub returns : goal.returns
returns c = λ p w.
    c.is_short_word.ensures p (front_spells p c.args.text.now c.args.rest.now w)
    ∙ ap (is_short_word (role_of c.args.role) p) (length-take-le (length c.args.text.now - length c.args.rest.now) c.args.text.now
    (omega arith))
