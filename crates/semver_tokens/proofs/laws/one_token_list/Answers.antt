use Rattle.semver_tokens.proofs.TokenLists.{same_tokens}
use Rattle.semver_tokens.proofs.laws.one_token_list.Goals as goal

pub returns : goal.returns
returns c = record { same_tokens = λ text ts us rest other a b. same_tokens text 0 ts us rest other a b }
