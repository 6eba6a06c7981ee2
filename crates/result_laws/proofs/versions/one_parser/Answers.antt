use Rattle.result_laws.proofs.VersionResults.{one_parser}
use Rattle.result_laws.proofs.versions.one_parser.Goals as goal

pub returns : goal.returns
returns c =
    let a = c.new.ensures in
    let b = c.new-2.ensures in
    record {
      one = one_parser c.one_token_list.ensures.same_tokens c.args.input.now _ _
          (record { ok = a.ok; lexer = a.lexer; bad_start = a.bad_start })
          (record { ok = b.ok; lexer = b.lexer; bad_start = b.bad_start });
    }
