use Rattle.std.proofs.Common.{Ok, Err, ap}
use Rattle.std.proofs.lemmas.Result.{err_from_is_err_and}
use Rattle.std.specs.Prelude.{option_map}
use Rattle.semver_texts.specs.VersionViews.{version_value}
use Rattle.semver_tokens.specs.declared.parser.Error.TheVariants as error
use Rattle.semver_parser.proofs.VersionMemory.{may_run_out}
use Rattle.semver_parser.proofs.WholeText.{spelled_outcome}
use Rattle.semver_parser.proofs.ParseFacts.{all_of}
use Rattle.semver_parser.proofs.version.parse.Goals as goal

pub returns-in-Ok-Some : goal.returns-in-Ok-Some
returns-in-Ok-Some c =
    all_of c.args.input.now c.utf8.input (Ok c.in-Ok-Some.version) (spelled_outcome (version_value c.in-Ok-Some.version) c.args.input.now
    ((c.in-Ok-Some.ensures.exact (version_value c.in-Ok-Some.version)).0 (ap (option_map version_value) c.in-Ok-Some.field-0-is))) tt

pub returns-in_ok-parse_by_tokens-in-Ok-None : goal.returns-in_ok-parse_by_tokens-in-Ok-None
returns-in_ok-parse_by_tokens-in-Ok-None c =
    let told = c.in_ok-parse_by_tokens-in-Ok-None.ensures in
    all_of c.args.input.now c.utf8.input (Ok c.in_ok-parse_by_tokens-in-Ok-None.field-0) told.outcome told.out_of_memory

pub returns-in_err-parse_by_tokens-in-Ok-None : goal.returns-in_err-parse_by_tokens-in-Ok-None
returns-in_err-parse_by_tokens-in-Ok-None c =
    let told = c.in_err-parse_by_tokens-in-Ok-None.ensures in
    let p = err_from_is_err_and c.from_residual.result c.from_residual.ensures.1 in
    all_of c.args.input.now c.utf8.input c.from_residual.result (rw (p.1, p.2) told.outcome) (rw (p.1, p.2) told.out_of_memory)

pub returns-in-Err : goal.returns-in-Err
returns-in-Err c =
    let v = c.in-Err.ensures.out_of_memory in
    all_of c.args.input.now c.utf8.input (Err error.OutOfMemory) tt (may_run_out v.0 c.args.input.now v.1 v.2)
