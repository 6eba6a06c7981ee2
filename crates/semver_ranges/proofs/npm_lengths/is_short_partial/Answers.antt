use Rattle.std.proofs.Common.{refl, sym, ◌∙◌, arith}
use Rattle.std.proofs.lemmas.Bool.{and_left}
use Rattle.semver_ranges.proofs.LongWords.{marks_within, parts_told, version_is}
use Rattle.semver_ranges.proofs.npm_lengths.is_short_partial.Goals as goal

pub overflow_sub-version : goal.overflow_sub-version
overflow_sub-version c =
    omega (arith, marks_within c.requires.0 c.args.written.now c.args.partial.now c.requires.1 c.requires.2, c.marked_len.ensures)

pub overflow_sub-numbers : goal.overflow_sub-numbers
overflow_sub-numbers c =
    omega (
      arith,
      marks_within c.requires.0 c.args.written.now c.args.partial.now c.requires.1 c.requires.2,
      c.marked_len.ensures,
      c.marked_len-2.ensures,
    )

pub returns-then-not-has_short_parts : goal.returns-then-not-has_short_parts
returns-then-not-has_short_parts c = λ p h w.
    let told = parts_told p c.args.written.now c.args.partial.now _ _ h w
    (rw (c.marked_len.ensures, c.marked_len-2.ensures) refl) refl in
    sym (and_left _ _ (sym told ∙ sym c.has_short_parts.ensures ∙ c.if-not-has_short_parts.true))

pub returns : goal.returns
returns c = λ p h w.
    let told = parts_told p c.args.written.now c.args.partial.now _ _ h w
    (rw (c.marked_len.ensures, c.marked_len-2.ensures) refl) refl in
    c.is_short_version.ensures p w (rw c.marked_len.ensures (version_is p c.args.written.now c.args.partial.now h w))
    ∙ rw (sym told ∙ sym c.has_short_parts.ensures ∙ c.if-not-has_short_parts.false) refl
