use Rattle.std.proofs.Common.{length, map}
use Rattle.semver_texts.specs.VersionViews.{identifier_value}
use Rattle.semver_tokens.proofs.VersionTaking.{AreBeforeMark}
use Rattle.semver_tokens.proofs.parser.Parser.identifiers.Given as goal

abbrev pub invariant-loop-identifiers : goal.invariant-loop-identifiers
invariant-loop-identifiers l = AreBeforeMark l.fn.self (map identifier_value l.identifiers.items) l.self

abbrev pub decreases-loop-identifiers : goal.decreases-loop-identifiers
decreases-loop-identifiers l = length l.self.remaining
