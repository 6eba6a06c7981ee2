use Rattle.std.proofs.Common.{◌++◌, ◌∷◌, [], refl, sym, ap, ◌∙◌, map-id, append-nil}
use Rattle.std.specs.List.{flat_map}
use Rattle.std.proofs.Output.{has_written_styled_append, has_written_styled_of_eq}
use Rattle.std.proofs.lemmas.Grind.{flat_map-append}
use Rattle.std.proofs.lemmas.Iterator.{YieldsList-from_chars}
use Rattle.std.proofs.lemmas.Iterator.Consumers.{YieldsList-end}
use Rattle.invalid_strings.specs.Escaping.{escaped_character}
use Rattle.invalid_strings.proofs.Writes.{plainly}
use Rattle.invalid_strings.proofs.escaped.write_escaped.Goals as goal

pub loop-character-preserved : goal.loop-character-preserved
loop-character-preserved g c = λ flush.
    let so_far = c.loop-character.invariant flush in
    let x = c.in-Some.character in
    let more = ap (λ t. flat_map escaped_character c.loop-character.yielded ++ t) (sym (append-nil (escaped_character x)))
    ∙ sym (flat_map-append escaped_character c.loop-character.yielded (x ∷ [])) in
    has_written_styled_of_eq _ _ _ _ _ more
    (has_written_styled_append _ _ _ _ _ _ so_far (c.in_ok-write_character.ensures so_far.flush refl))

pub returns-clause-styled : goal.returns-clause-styled
returns-clause-styled g c = λ flush ok.
    let read = YieldsList-from_chars c.args.text.now c.utf8.text cc in
    let yielded = c.loop-character.yielded in
    let end = YieldsList-end read yielded _ c.loop-character.yielded_by _ _ c.in-None.is c.next.ensures.steps in
    has_written_styled_of_eq _ _ _ _ _ (ap (flat_map escaped_character) (sym (map-id yielded) ∙ end.0))
    (c.loop-character.invariant flush)

pub returns-clause-writes : goal.returns-clause-writes
returns-clause-writes g c = λ plain ok. plainly _ _ _ _ plain (returns-clause-styled g c plain.flush ok)
