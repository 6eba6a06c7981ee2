use Rattle.invalid_ranges.proofs.limit.+component_begin.Given as goal

abbrev pub decreases-component_begin : goal.decreases-component_begin
decreases-component_begin l = l.index
