use Rattle.semver_versions.proofs.DialectVersionRefs.{exactly_in, none_in, spelled_in, stand_in}
use Rattle.semver_versions.proofs.version.read_ref_in.Goals as goal

pub returns : goal.returns
returns c =
    let text = c.args.input.now in
    let found = c.read_ref.result in
    let is = c.read_ref.ensures in
    record {
      borrowed = exactly_in c.args.grammar text found is;
      none = none_in c.args.grammar text found is;
      version = spelled_in c.args.grammar text found is;
      places = stand_in c.args.grammar text found is;
    }
