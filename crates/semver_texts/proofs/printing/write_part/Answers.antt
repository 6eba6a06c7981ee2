use Rattle.std.proofs.Common.{rules, sym, ◌∙◌}
use Rattle.std.proofs.Output.{has_written_append, has_written_of_eq}
use Rattle.semver_texts.proofs.Joins.{marked_some}
use Rattle.semver_texts.proofs.printing.write_part.Goals as goal

pub returns : goal.returns
returns g c = λ text known plain ok.
    let lead = c.in_ok-write_str.ensures.writes plain (search rules) in
    let items = c.write_joined.ensures text known lead.plain ok in
    let some = sym c.is_empty.ensures ∙ c.if-is_empty.false in
    has_written_of_eq _ _ _ _ _ (marked_some text c.args.mark.now c.args.items.now some) (has_written_append _ _ _ _ _ _ lead items)
