use Rattle.release_filter.specs.LineTexts.{end_byte}
use Rattle.release_filter.proofs.Cuts.{first_of_all, first_of_none}
use Rattle.release_filter.proofs.line_texts.first_line.Goals as goal

pub returns-in-Some-clause-first : goal.returns-in-Some-clause-first
returns-in-Some-clause-first c =
    first_of_all (end_byte c.args.ending) c.args.bytes.now c.in-Some.line.now c.in-Some.ensures.front c.in-Some.ensures.whole

pub returns-in-None-clause-first : goal.returns-in-None-clause-first
returns-in-None-clause-first c =
    first_of_none (end_byte c.args.ending) c.args.bytes.now c.requires (c.whole_line.ensures.none c.in-None.is)
