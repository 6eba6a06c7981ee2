use Rattle.std.specs.List.{concat}
use Rattle.release_filter.proofs.Pieces.{took_both, took_pieces, took_text}
use Rattle.release_filter.proofs.laws.pieces_do_not_matter.Goals as goal

pub returns-clause-composed : goal.returns-clause-composed
returns-clause-composed c = took_both c.precedence_is_total.ensures.total

pub returns-clause-whole : goal.returns-clause-whole
returns-clause-whole c = λ s t u pieces old mid new a b.
    let total = c.precedence_is_total.ensures.total in
    took_text total s t u (concat pieces) old mid new (took_pieces total s t pieces old mid a) b
