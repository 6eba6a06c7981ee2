use Rattle.result_laws.proofs.VersionResults.{one_state}
use Rattle.result_laws.proofs.versions.one_lexer.Goals as goal

pub returns : goal.returns
returns c = record { one = one_state c.one_token_list.ensures.same_tokens c.args.input.now _ _ c.new.ensures.state c.new-2.ensures.state }
