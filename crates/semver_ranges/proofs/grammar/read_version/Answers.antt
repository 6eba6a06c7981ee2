use Rattle.std.proofs.Common.{refl, sym, ap, ◌∙◌}
use Rattle.semver_ranges.specs.Steps.Reading.{component, with_first}
use Rattle.std.proofs.Math.Bool.{and-false}
use Rattle.semver_ranges.specs.Steps.CursorViews.{role_of}
use Rattle.semver_ranges.proofs.LongWords.{before_rest, word_is_read, word_is_no_word}
use Rattle.semver_ranges.proofs.grammar.read_version.Goals as goal
use Rattle.semver_ranges.proofs.grammar.read_version.Goals.{else-ends_word-via-then-ends_word+else-takes, else-ends_word-via-else-ends_word}

pub takes-requires : goal.takes-requires
takes-requires c =
    let found = c.in_ok-components.ensures in
    (found.0, before_rest c.args.grammar c.args.text.now c.after_v.result.now c.in_ok-components.after.now found.0 c.after_v.ensures found.1)

pub returns-then-takes : goal.returns-then-takes
returns-then-takes c =
    let d = c.args.grammar in
    let found = c.in_ok-components.ensures in
    let before = before_rest d c.args.text.now c.after_v.result.now c.in_ok-components.after.now found.0 c.after_v.ensures found.1 in (
      found.0,
      word_is_read d (role_of c.args.role) c.args.text.now c.after_v.result.now c.in_ok-components.after.now found.0
          c.after_v.ensures found.1 (sym (c.takes.ensures found.0 before found.2) ∙ c.if-takes.true)
          (sym c.ends_word.ensures ∙ c.if-ends_word.true),
      record {
        from = refl;
        after = refl;
        read = ap (λ t. with_first (component t)) (sym c.after_v.ensures) ∙ found.1;
        written = found.2;
      },
    )

pub returns-else-ends_word : goal.returns-else-ends_word
returns-else-ends_word c =
    let d = c.args.grammar in
    let found = c.in_ok-components.ensures in
    let before = before_rest d c.args.text.now c.after_v.result.now c.in_ok-components.after.now found.0 c.after_v.ensures found.1 in
    let none = word_is_no_word d (role_of c.args.role) c.args.text.now c.after_v.result.now c.in_ok-components.after.now found.0
    c.after_v.ensures found.1 in
    elim c.else-ends_word.branch [
      | else-ends_word-via-then-ends_word+else-takes w ↦
          none (rw (sym (w.takes.ensures found.0 before found.2) ∙ w.if-takes.false) refl)
      | else-ends_word-via-else-ends_word w ↦ none (rw (sym c.ends_word.ensures ∙ w.if-ends_word.false) (and-false _))
    ]
