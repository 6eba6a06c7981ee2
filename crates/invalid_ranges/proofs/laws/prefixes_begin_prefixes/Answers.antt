use Rattle.invalid_ranges.proofs.Places.{shorter_prefix, nothing_begins, text_begins}
use Rattle.invalid_ranges.proofs.laws.prefixes_begin_prefixes.Goals as goal

pub returns : goal.returns
returns c = record { shorter = shorter_prefix; empty = nothing_begins; whole = text_begins }
