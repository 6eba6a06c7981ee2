use Rattle.result_laws.proofs.VersionResults.{unless_both}
use Rattle.result_laws.proofs.versions.one_version_parse.Goals as goal

pub returns : goal.returns
returns c = record {
  one = unless_both _ _ (c.one_outcome.ensures.same_outcome c.args.input.now _ _) c.parse.ensures.outcome c.parse-2.ensures.outcome;
}
