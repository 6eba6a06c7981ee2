use Rattle.std.proofs.Common.{◌≡◌, ◌++◌, [], ap, append-nil, append_assoc, refl, sym, subst, string_bytes, ◌∙◌}
use Rattle.range_terms.specs.WrittenTerms.{WrittenVersion, term_value, terms_in, version_value}
use Rattle.range_terms.specs.WrittenTexts.{version_text}
use Rattle.range_upgrades.specs.RaisedRanges.{IsPart, last_version}
use Rattle.range_upgrades.specs.RaisedVersions.{HasRaised, raised_version}
use Rattle.range_upgrades.proofs.Satisfied.{true_not_false}
use Rattle.range_upgrades.proofs.RaisedTerms.{Goes, goes_first, goes_last, goes_on, goes_past, none_last, only_last, stops}
use Rattle.range_upgrades.proofs.raised_ranges.push_alternative.Goals as goal

pub loop-term-init : goal.loop-term-init
loop-term-init c = (
  [],
  sym (append-nil (string_bytes c.args.raised.now)),
  λ tree spelled.
      goes_first c.args.dialect c.args.form c.args.range.now c.args.version.now c.args.last.now
      (terms_in c.args.dialect tree c.args.range.now spelled) c.into_iter-term-iterator.result [] refl
      (c.into_iter-term-iterator.ensures.into_iter_gives ∙ c.of_range-term-items.ensures tree spelled),
)

pub loop-term-preserved-then-not-is_to_raise : goal.loop-term-preserved-then-not-is_to_raise
loop-term-preserved-then-not-is_to_raise c = let so_far = c.loop-term.invariant in (
  so_far.0,
  so_far.1,
  λ tree spelled.
      goes_past c.args.dialect c.args.form c.args.range.now c.args.version.now c.args.last.now
      (terms_in c.args.dialect tree c.args.range.now spelled) so_far.0 c.loop-term.copied (term_value c.in-Some.term)
      c.loop-term.term-iterator c.next.new.self c.in-Some.ensures.steps
      (λ raise. true_not_false (sym (c.is_to_raise.ensures.1 raise) ∙ c.if-not-is_to_raise.true)) (so_far.2 tree spelled),
)

pub returns-in_default-clause-none : goal.returns-in_default-clause-none
returns-in_default-clause-none c = λ none tree spelled.
    let so_far = c.loop-term.invariant in
    stops c.args.dialect c.args.form c.args.range.now c.args.version.now c.args.last.now
    (terms_in c.args.dialect tree c.args.range.now spelled) so_far.0 c.loop-term.copied (term_value c.in-Some.term)
    c.loop-term.term-iterator c.next.new.self c.in-Some.ensures.steps (c.is_to_raise.ensures.0 c.if-not-is_to_raise.false)
    (so_far.2 tree spelled)
    (λ has kept part. c.in_default.ensures.none refl
    (subst (λ w. HasRaised c.in-Some.term.operator w c.args.version.now) (sym c.last_version-written.ensures) has))

pub returns-in_default-part-clause-none : goal.returns-in_default-part-clause-none
returns-in_default-part-clause-none c = λ none tree spelled.
    let so_far = c.loop-term.invariant in
    stops c.args.dialect c.args.form c.args.range.now c.args.version.now c.args.last.now
    (terms_in c.args.dialect tree c.args.range.now spelled) so_far.0 c.loop-term.copied (term_value c.in-Some.term)
    c.loop-term.term-iterator c.next.new.self c.in-Some.ensures.steps (c.is_to_raise.ensures.0 c.if-not-is_to_raise.false)
    (so_far.2 tree spelled)
    (λ has kept part. c.in_default-part.ensures.none refl kept
    (subst (λ (w : WrittenVersion). IsPart c.args.range.now c.loop-term.copied w.span.start kept) (sym c.last_version-written.ensures) part))

pub loop-term-preserved : goal.loop-term-preserved
loop-term-preserved c =
    let d = c.args.dialect in
    let form = c.args.form in
    let t = c.args.range.now in
    let v = c.args.version.now in
    let x = term_value c.in-Some.term in
    let so_far = c.loop-term.invariant in
    let done = so_far.0 in
    let kept = c.in-Some-part.kept.now in
    let pushed = kept ++ version_text (version_value c.in-Some-raised_version.new) in
    let is = c.last_version-written.ensures in
    let word : version_value c.in-Some-raised_version.new ≡ raised_version d form c.in-Some.term.operator (last_version x) v =
    c.in-Some-raised_version.ensures.some ∙ ap (λ w. raised_version d form c.in-Some.term.operator w v) is in (
      done ++ pushed,
      c.in_ok-push_raised.ensures ∙ ap (λ bytes. bytes ++ pushed) so_far.1 ∙ append_assoc (string_bytes c.args.raised.now) done pushed,
      λ tree spelled.
          let all = terms_in d tree t spelled in
          subst (λ (w : WrittenVersion). Goes d form t v c.args.last.now all (done ++ pushed) w.span.end c.next.new.self) (sym is)
          (goes_on d form t v c.args.last.now all done (done ++ pushed) kept c.loop-term.copied x
          c.loop-term.term-iterator c.next.new.self c.in-Some.ensures.steps (c.is_to_raise.ensures.0 c.if-not-is_to_raise.false)
          (subst (λ w. HasRaised c.in-Some.term.operator w v) is c.in-Some-raised_version.ensures.exists)
          (subst (λ (w : WrittenVersion). IsPart t c.loop-term.copied w.span.start kept) is c.in-Some-part.ensures.some)
          (ap (λ w. done ++ (kept ++ version_text w)) word) (so_far.2 tree spelled)),
    )

pub returns-in_default-part-2-clause-none : goal.returns-in_default-part-2-clause-none
returns-in_default-part-2-clause-none c = λ none tree spelled.
    let so_far = c.loop-term.invariant in
    none_last c.args.dialect c.args.form c.args.range.now c.args.version.now c.args.last.now
    (terms_in c.args.dialect tree c.args.range.now spelled) so_far.0 c.loop-term.copied c.loop-term.term-iterator
    c.in-None.ensures.steps.0 (c.in_default-part-2.ensures.none refl) (so_far.2 tree spelled)

pub returns-clause-pushed : goal.returns-clause-pushed
returns-clause-pushed c = λ e.
    let so_far = c.loop-term.invariant in
    let kept = c.in-Some-part-2.kept.now in (
      so_far.0 ++ kept,
      c.in_ok-push_str.ensures.bytes ∙ ap (λ bytes. bytes ++ kept) so_far.1 ∙ append_assoc (string_bytes c.args.raised.now) so_far.0 kept,
      λ tree spelled.
          let d = c.args.dialect in
          let all = terms_in d tree c.args.range.now spelled in (
            goes_last d c.args.form c.args.range.now c.args.version.now c.args.last.now all so_far.0 kept c.loop-term.copied
                c.loop-term.term-iterator c.in-None.ensures.steps.0 c.in-Some-part-2.ensures.some (so_far.2 tree spelled),
            only_last d c.args.form c.args.range.now c.args.version.now c.args.last.now all so_far.0 kept c.loop-term.copied
                c.loop-term.term-iterator c.in-None.ensures.steps.0 c.in-Some-part-2.ensures.some (so_far.2 tree spelled),
          ),
    )
