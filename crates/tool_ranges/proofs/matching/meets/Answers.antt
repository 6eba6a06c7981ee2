use Rattle.std.proofs.Common.{ap, ◌∙◌}
use Rattle.std.proofs.lemmas.Bool.{and_parts}
use Rattle.semver_texts.specs.Digits.{digits_in}
use Rattle.version_sets.specs.Steps.Cuts.{is_in_interval}
use Rattle.tool_ranges.specs.Steps.Matching.{plain_of}
use Rattle.semver_ranges.proofs.FitCells.{read_fits}
use Rattle.tool_ranges.proofs.MatchedTerms.{is_within_interval, of_tree, term_means}
use Rattle.tool_ranges.proofs.matching.meets.Goals as goal

pub returns : goal.returns
returns c = λ s all is fit e.
    let d = c.args.dialect in
    let simple = c.args.simple.now in
    let v = plain_of c.args.version.now in
    c.contains.ensures
    ∙ ap (λ digits. is_in_interval digits c.interval_of.result v) (c.digits.ensures ∙ ap digits_in c.grammar.ensures.grammar)
    ∙ c.interval_of.ensures (and_parts simple.partial.fits _ (read_fits s simple is d ∙ fit)).1 v
    ∙ of_tree d s simple is fit (λ f n z. is_within_interval d c.args.by_default f n z v)
    ∙ term_means s v d all c.args.by_default e

pub interval_of-requires : goal.interval_of-requires
interval_of-requires c = c.requires.1.1.3
