use Rattle.std.proofs.Common.{take}
use Rattle.semver_texts.specs.Texts.{Text}
use Rattle.invalid_strings.specs.Reasons.{byte_at}
use Rattle.semver_ranges.specs.DialectTable.{grammar_of}
use Rattle.semver_ranges.specs.declared.dialect.Dialect.{Dialect}
use Rattle.repaired_strings.proofs.OneError.{AreOneOfRanges, AreOneOfVersions, invalid, same_offset, same_reason}
use Rattle.repaired_strings.proofs.laws.one_error.Goals as goal

of_versions : (c : goal.After-one_reason-2) (d : Dialect) (t : Text) → AreOneOfVersions d t
of_versions c d t = record {
  offset = c.one_longest_prefix.ensures.same_offset (grammar_of d) t;
  reason = λ n. c.one_reason.ensures.same_reason (grammar_of d) (take n t) (byte_at t n);
}

of_ranges : (c : goal.After-one_reason-2) (d : Dialect) (t : Text) → AreOneOfRanges d t
of_ranges c d t = record {
  offset = c.one_offset.ensures.same_offset d t;
  limit = c.one_limit_offset.ensures.same_offset d t;
  reason = λ n. c.one_reason-2.ensures.same_reason d (take n t) (byte_at t n);
}

pub returns-clause-same_offset : goal.returns-clause-same_offset
returns-clause-same_offset c = λ e d t. same_offset d t (of_versions c d t) (of_ranges c d t) e

pub returns-clause-same_reason : goal.returns-clause-same_reason
returns-clause-same_reason c = λ e d t. same_reason d t (of_versions c d t) (of_ranges c d t) e

pub returns-clause-invalid : goal.returns-clause-invalid
returns-clause-invalid c = λ e d t. invalid d t (of_versions c d t) (of_ranges c d t) e
