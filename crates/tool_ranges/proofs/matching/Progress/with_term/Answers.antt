use Rattle.std.proofs.Common.{◌∙◌, ◌&&◌, ◌||◌}
use Rattle.tool_ranges.specs.Steps.Matching.{plain_of}
use Rattle.tool_ranges.proofs.MatchedTerms.{everything, stated_at}
use Rattle.tool_ranges.proofs.matching.Progress.with_term.Goals as goal

pub meets-requires : goal.meets-requires
meets-requires c = c.requires

pub returns : goal.returns
returns c = λ s all is fit e.
    let d = c.args.dialect in
    let simple = c.args.simple.now in
    let here = c.meets.ensures s all is fit e in
    let counts = c.is_stated_by.ensures ∙ stated_at d s simple is fit (plain_of c.args.version.now) in
    let matches_all = c.matches_everything.ensures ∙ everything d s simple is fit in
    λ i. record {
      here = c.args.self.here && here i;
      counts = c.args.self.counts || counts i;
      matches_all = c.args.self.matches_all && matches_all i;
      met = c.args.self.met;
      matched_all = c.args.self.matched_all;
    }
