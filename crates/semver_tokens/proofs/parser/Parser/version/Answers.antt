use Rattle.std.proofs.Common.{rules, map, refl}
use Rattle.std.proofs.lemmas.Result.{err_from_is_err_and}
use Rattle.semver_texts.specs.VersionViews.{identifier_value, version_value}
use Rattle.semver_texts.specs.Versions.{VersionValue}
use Rattle.semver_tokens.specs.Steps.Taking.{pre_release}
use Rattle.semver_tokens.proofs.IdentifierTexts.{unless_out_of_memory, unless_err, if_err}
use Rattle.semver_tokens.proofs.VersionTaking.{numbers_text, numbers_given, HasNumbers, IsPart, pre_given}
use Rattle.semver_tokens.proofs.VersionTaking.{pre_out, build_given, build_out, end_given}
use Rattle.semver_tokens.proofs.parser.Parser.version.Goals as goal
use Rattle.semver_tokens.proofs.parser.Parser.version.Goals.{In_ok-major, In_ok-pre}

pub returns-in_err-major-clause-answer : goal.returns-in_err-major-clause-answer
returns-in_err-major-clause-answer c =
    let p = err_from_is_err_and c.from_residual.result c.from_residual.ensures.1 in
    unless_out_of_memory c.from_residual.result (rw (p.1, p.2) (numbers_given c.args.self.now _ c.in_err-major.ensures))

numbers : (c : In_ok-major) → HasNumbers c.args.self.now (c.in_ok-major.major, c.in_ok-major.minor, c.in_ok-major.patch) c.numbers.new.self
numbers c = numbers_given c.args.self.now _ c.in_ok-major.ensures

-- ---- the pre-release

pub returns-in_err-pre-clause-answer : goal.returns-in_err-pre-clause-answer
returns-in_err-pre-clause-answer c =
    let p = err_from_is_err_and c.from_residual-in_err-pre.result c.from_residual-in_err-pre.ensures.1 in
    let k = numbers (goal.at.returns-in_err-pre-clause-answer c).In_ok-major in
    rw (p.1, p.2) (unless_err c.in_err-pre.field-0.0 (pre_given k c.at_hyphen-has_pre.result
    c.at_hyphen-has_pre.ensures _) c.in_err-pre.ensures.answer)

pub returns-in_err-pre-clause-out_of_memory : goal.returns-in_err-pre-clause-out_of_memory
returns-in_err-pre-clause-out_of_memory c =
    let p = err_from_is_err_and c.from_residual-in_err-pre.result c.from_residual-in_err-pre.ensures.1 in
    let k = numbers (goal.at.returns-in_err-pre-clause-out_of_memory c).In_ok-major in
    rw (p.1, p.2) (if_err c.in_err-pre.field-0.0 (pre_out k c.at_hyphen-has_pre.result c.at_hyphen-has_pre.ensures c.part.new.self)
    c.in_err-pre.ensures.out_of_memory)

pre : (c : In_ok-pre) → HasNumbers c.args.self.now (c.in_ok-major.major, c.in_ok-major.minor, c.in_ok-major.patch) c.numbers.new.self
    → IsPart c.args.self.now pre_release (numbers_text (c.in_ok-major.major, c.in_ok-major.minor, c.in_ok-major.patch))
    (map identifier_value c.in_ok-pre.pre.items) c.part.new.self
pre c k =
    pre_given k c.at_hyphen-has_pre.result c.at_hyphen-has_pre.ensures _ c.in_ok-pre.ensures.answer

-- ---- the build metadata

pub returns-in_err-build-clause-answer : goal.returns-in_err-build-clause-answer
returns-in_err-build-clause-answer c =
    let p = err_from_is_err_and c.from_residual-in_err-build.result c.from_residual-in_err-build.ensures.1 in
    let at = goal.at.returns-in_err-build-clause-answer c in
    let b = (pre at.In_ok-pre (numbers at.In_ok-major)).after in
    rw (p.1, p.2) (unless_err c.in_err-build.field-0.0 (build_given b c.at_plus-has_build.result
    c.at_plus-has_build.ensures _) c.in_err-build.ensures.answer)

pub returns-in_err-build-clause-out_of_memory : goal.returns-in_err-build-clause-out_of_memory
returns-in_err-build-clause-out_of_memory c =
    let p = err_from_is_err_and c.from_residual-in_err-build.result c.from_residual-in_err-build.ensures.1 in
    let at = goal.at.returns-in_err-build-clause-out_of_memory c in
    let b = (pre at.In_ok-pre (numbers at.In_ok-major)).after in
    rw (p.1, p.2) (if_err c.in_err-build.field-0.0 (build_out b c.at_plus-has_build.result c.at_plus-has_build.ensures c.part-2.new.self)
    c.in_err-build.ensures.out_of_memory)

-- ---- the end

pub returns-in_err-skip_whitespace-clause-answer : goal.returns-in_err-skip_whitespace-clause-answer
returns-in_err-skip_whitespace-clause-answer c =
    let p = err_from_is_err_and c.from_residual-in_err-skip_whitespace.result c.from_residual-in_err-skip_whitespace.ensures.1 in
    let at = goal.at.returns-in_err-skip_whitespace-clause-answer c in
    let b = (pre at.In_ok-pre (numbers at.In_ok-major)).after in
    let d = build_given b c.at_plus-has_build.result c.at_plus-has_build.ensures _
    c.in_ok-build.ensures.answer in
    unless_out_of_memory c.from_residual-in_err-skip_whitespace.result
    (rw (p.1, p.2) (end_given d.after _ c.in_err-skip_whitespace.ensures))

pub returns-clause-answer : goal.returns-clause-answer
returns-clause-answer c =
    let at = goal.at.returns-clause-answer c in
    let b = pre at.In_ok-pre (numbers at.In_ok-major) in
    let d = build_given b.after c.at_plus-has_build.result c.at_plus-has_build.ensures _
    c.in_ok-build.ensures.answer in
    let v : VersionValue = version_value (record {
      major = c.in_ok-major.major;
      minor = c.in_ok-major.minor;
      patch = c.in_ok-major.patch;
      pre = c.in_ok-pre.pre;
      build = c.in_ok-build.build;
    }) in
    end_given d.after _ c.in_ok-skip_whitespace.ensures v (record {
      pre_text = b.part_text;
      build_text = d.part_text;
      major = search rules;
      minor = search rules;
      patch = search rules;
      pre = b.spells;
      build = d.spells;
      spelled = refl;
    })
