use Rattle.std.proofs.Common.{◌++◌, ◌∷◌, [], length, refl, sym, ap, ◌∙◌, map-id, append-nil, length-append}
use Rattle.std.specs.List.{flat_map, repeat}
use Rattle.std.proofs.Output.{has_written_styled_append, has_written_styled_of_eq}
use Rattle.std.proofs.lemmas.Grind.{flat_map-append}
use Rattle.std.proofs.lemmas.Iterator.{YieldsList-from_chars}
use Rattle.std.proofs.lemmas.Iterator.Consumers.{YieldsList-end}
use Rattle.invalid_strings.specs.Escaping.{escaped_character}
use Rattle.invalid_strings.proofs.Writes.{repeat-add}
use Rattle.invalid_strings.proofs.escaped.write_marks.Goals as goal

pub loop-character-preserved : goal.loop-character-preserved
loop-character-preserved g c = λ flush.
    let so_far = c.loop-character.invariant flush in
    let x = c.in-Some.character in
    let before = flat_map escaped_character c.loop-character.yielded in
    let mark = c.args.mark.now in
    let shown = ap (λ t. before ++ t) (sym (append-nil (escaped_character x)))
    ∙ sym (flat_map-append escaped_character c.loop-character.yielded (x ∷ [])) in
    let more = ap (λ n. repeat (length before) mark ++ repeat n mark) c.columns.ensures
    ∙ sym (repeat-add (length before) (length (escaped_character x)) mark)
    ∙ ap (λ n. repeat n mark) (sym (length-append before (escaped_character x)) ∙ ap length shown) in
    has_written_styled_of_eq _ _ _ _ _ more (has_written_styled_append _ _ _ _ _ _ so_far (c.in_ok-write_times.ensures so_far.flush refl))

pub returns : goal.returns
returns g c = λ flush ok.
    let read = YieldsList-from_chars c.args.text.now c.utf8.text cc in
    let yielded = c.loop-character.yielded in
    let end = YieldsList-end read yielded _ c.loop-character.yielded_by _ _ c.in-None.is c.next.ensures.steps in
    let marks = ap (λ cs. repeat (length (flat_map escaped_character cs)) c.args.mark.now) (sym (map-id yielded) ∙ end.0) in
    has_written_styled_of_eq _ _ _ _ _ marks (c.loop-character.invariant flush)
