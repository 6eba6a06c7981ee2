use Rattle.invalid_strings.proofs.VersionLaws.{empty_prefix, shorter_prefix, version_prefix}
use Rattle.invalid_strings.proofs.laws.prefixes_begin_prefixes.Goals as goal

pub returns : goal.returns
returns c = record { shorter = shorter_prefix; empty = empty_prefix; whole = version_prefix }
