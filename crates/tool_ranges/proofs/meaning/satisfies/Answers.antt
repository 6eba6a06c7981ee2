use Rattle.std.proofs.Common.{◌≡◌, ◌∙◌, ap, refl, subst, sym, IfOk, Bool, Result}
use Rattle.semver_texts.specs.Digits.{digits_in, version_by}
use Rattle.semver_texts.specs.Texts.{Text}
use Rattle.semver_texts.specs.Versions.{PlainVersion, VersionValue, without_build}
use Rattle.semver_texts.specs.declared.grammar.Digits.{Digits}
use Rattle.semver_ranges.specs.declared.range_set.RangeError.{RangeError}
use Rattle.semver_versions.specs.VersionRefs.{VersionRefValue, kept_version_of, version_of}
use Rattle.version_sets.specs.declared.rules.PreReleases.{PreReleases}
use Rattle.semver_ranges.specs.RangeTree.{SetTree}
use Rattle.tool_ranges.specs.Dialects.{RefusesAs, SpellsAs}
use Rattle.semver_ranges.specs.DialectTable.{grammar_of}
use Rattle.tool_ranges.specs.Meanings.{meant_by}
use Rattle.semver_ranges.specs.declared.dialect.Dialect.{Dialect}
use Rattle.tool_ranges.proofs.MatchedMeanings.{same_plain}
use Rattle.std.proofs.lemmas.Result.{IfOk-weaker}
use Rattle.tool_ranges.proofs.meaning.satisfies.Goals as goal
use Rattle.tool_ranges.proofs.meaning.satisfies.Goals.{After-read_by-version}

-- the result in a dialect for a version, whose build metadata doesn't count
record Answers (t : Text) (rule : PreReleases) (v : PlainVersion) (r : Result Bool RangeError) (d : Dialect) : Type 0 where
  pub refusals : RefusesAs d t r
  pub meaning : IfOk r (λ met. (tree : SetTree) → SpellsAs d tree t → met ≡ meant_by d rule tree (without_build v))

-- the same for a version that has build metadata
abbrev Says : Text → PreReleases → Result Bool RangeError → (d : Dialect) → VersionValue → Type 0
Says t rule r d w = IfOk r (λ met. (tree : SetTree) → SpellsAs d tree t → met ≡ meant_by d rule tree w)

with_build : (t : Text) (rule : PreReleases) (w : VersionValue) (r : Result Bool RangeError) (d : Dialect) → Answers t rule w.plain r d
    → Says t rule r d w
with_build t rule w r d is = IfOk-weaker r _ _ (λ met says tree spelled. says tree spelled ∙ same_plain d rule tree (without_build w.plain) w refl) is.meaning

-- the borrowed version is read as the dialect reads it
read_as_dialect : (o r : VersionRefValue) (read : Digits) (d : Dialect) → r ≡ record o { digits = read } → read ≡ digits_in (grammar_of d)
    → version_of r ≡ version_by (digits_in (grammar_of d)) (kept_version_of o)
read_as_dialect o r read d is digits = ap version_of is ∙ ap (λ read. version_by read (kept_version_of o)) digits

-- the version is read as the dialect reads it, so the result for it is the result for the version that is passed
told : (c : After-read_by-version) (result : Result Bool RangeError) (d : Dialect) → c.args.meaning.dialect ≡ d
    → Answers c.args.range.now c.args.meaning.pre_releases (version_of c.read_by-version.result).plain result d
    → RefusesAs c.args.meaning.dialect c.args.range.now result
    × Says c.args.range.now c.args.meaning.pre_releases result c.args.meaning.dialect
    (version_by (digits_in (grammar_of c.args.meaning.dialect)) (kept_version_of c.args.version.now))
told c result d is answers =
    let t = c.args.range.now in
    let rule = c.args.meaning.pre_releases in
    let r = c.read_by-version.result in
    let here = subst (Answers t rule (version_of r).plain result) (sym is) answers in
    let same = read_as_dialect c.args.version.now r _ c.args.meaning.dialect c.read_by-version.ensures.version
    (c.digits.ensures ∙ ap digits_in c.grammar.ensures.grammar) in
    (here.refusals, subst (Says t rule result c.args.meaning.dialect) same (with_build t rule (version_of r) result c.args.meaning.dialect here))

pub returns-in-Cargo : goal.returns-in-Cargo
returns-in-Cargo c =
    let e = c.answer.ensures in
    let both = told (goal.at.returns-in-Cargo c).After-read_by-version _ _ c.in-Cargo.is (record { refusals = e.refusals; meaning = e.meaning }) in
    record { refusals = both.0; no_memory = e.no_memory; meaning = both.1 }

pub returns-in-Npm : goal.returns-in-Npm
returns-in-Npm c =
    let e = c.answer-in-Npm.ensures in
    let both = told (goal.at.returns-in-Npm c).After-read_by-version _ _ c.in-Npm.is (record { refusals = e.refusals; meaning = e.meaning }) in
    record { refusals = both.0; no_memory = e.no_memory; meaning = both.1 }

pub returns-in-CrateCargo : goal.returns-in-CrateCargo
returns-in-CrateCargo c =
    let e = c.answer-in-CrateCargo.ensures in
    let both = told (goal.at.returns-in-CrateCargo c).After-read_by-version _ _ c.in-CrateCargo.is (record { refusals = e.refusals; meaning = e.meaning }) in
    record { refusals = both.0; no_memory = e.no_memory; meaning = both.1 }

pub returns-in-CrateNpm : goal.returns-in-CrateNpm
returns-in-CrateNpm c =
    let e = c.answer-in-CrateNpm.ensures in
    let both = told (goal.at.returns-in-CrateNpm c).After-read_by-version _ _ c.in-CrateNpm.is (record { refusals = e.refusals; meaning = e.meaning }) in
    record { refusals = both.0; no_memory = e.no_memory; meaning = both.1 }
