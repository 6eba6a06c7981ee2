use Rattle.std.proofs.Common.{rules}
use Rattle.std.proofs.lemmas.Result.{IfOk-weaker}
use Rattle.semver_texts.proofs.Lists.{zip_same}
use Rattle.semver_texts.proofs.PartRuns.{parts_pass}
use Rattle.semver_texts.specs.Texts.{cut_at_dots}
use Rattle.semver_texts.specs.VersionViews.{identifier_value}
use Rattle.semver_ranges.specs.Partials.{kept}
use Rattle.version_sets.proofs.above_cuts.kept_parts.Goals as goal

pub text_of_parts-requires : goal.text_of_parts-requires
text_of_parts-requires c = parts_pass c.args.pre.now c.requires

pub returns : goal.returns
returns c =
    let cut = IfOk-weaker c.of_parts.result _ _
    (λ parts made. zip_same identifier_value kept (λ id part is. search rules) parts.items (cut_at_dots c.text_of_parts.result.now) made)
    c.of_parts.ensures.made in
    rw c.text_of_parts.ensures at cut
