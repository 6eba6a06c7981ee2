use Rattle.std.proofs.Common.{subst, sym}
use Rattle.semver_texts.specs.VersionViews.{version_value}
use Rattle.semver_tokens.specs.ParserState.{ParserState}
use Rattle.semver_tokens.specs.ParserViews.{UnlessOutOfMemory, step_of}
use Rattle.semver_tokens.specs.VersionReading.{ReadsVersion}
use Rattle.result_laws.proofs.VersionResults.{one_version}
use Rattle.result_laws.proofs.versions.one_version_of_parser.Goals as goal

pub returns : goal.returns
returns c =
    let other = c.version-2 in
    let same = subst
    (λ (before : ParserState). UnlessOutOfMemory other.result
    (ReadsVersion before (step_of version_value other.result other.new.self).0 other.new.self))
    (sym c.requires) other.ensures.answer in
    record { one = one_version c.args.one.now _ _ _ _ c.version.ensures.answer same }
