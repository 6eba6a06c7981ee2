use Rattle.std.proofs.Common.{[], ◌++◌, ◌∙◌, List, ap, append_assoc, append-nil, codes, map, refl, rules, sym}
use Rattle.std.proofs.Output.{has_written_append, has_written_of_eq}
use Rattle.version_sets.specs.SetRanges.{intervals, npm_range, range_text_by}
use Rattle.version_sets.specs.Steps.ComparatorRefs.{interval_value, others_text}
use Rattle.version_sets.proofs.printing.write_others.Goals as goal

pub loop-next-init : goal.loop-next-init
loop-next-init g c = λ plain. ([], record { wrote = record { parts = []; calls = refl; whole = refl }; plain = plain }, refl)

pub loop-next-preserved : goal.loop-next-preserved
loop-next-preserved g c = λ plain.
    let kind = g.T.Boundary.kind in
    let place = g.T.Boundary.place in
    let (text, wrote, whole) = c.loop-next.invariant plain in
    let joint = c.args.joint.now in
    let next = range_text_by joint (npm_range (interval_value c.in-Some.next)) in
    let bars = c.in_ok-write_str.ensures.writes wrote.plain (search rules) in
    let more = c.in_ok-write_interval.ensures bars.plain (search rules) in (
      text ++ (codes " || " ++ next),
      has_written_append _ _ _ _ _ _ wrote (has_written_append _ _ _ _ _ _ bars more),
      append_assoc text (codes " || " ++ next) (others_text joint (intervals kind (map place c.in-Some.others.now)))
          ∙ ap (λ rs. text ++ others_text joint rs) (sym c.in-Some.ensures.first) ∙ whole,
    )

pub returns : goal.returns
returns g c = λ plain ok.
    let kind = g.T.Boundary.kind in
    let place = g.T.Boundary.place in
    let (text, wrote, whole) = c.loop-next.invariant plain in
    has_written_of_eq _ _ _ _ _
    (sym (append-nil text) ∙ ap (λ (xs : List g.row.T.Denot). text ++ others_text c.args.joint.now (intervals kind (map place xs))) (sym c.in_default.ensures.none)
    ∙ whole) wrote
