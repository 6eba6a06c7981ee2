use Rattle.std.proofs.Common.{◌≡◌, ◌∙◌, None, false, inl, string_bytes, sym}
use Rattle.std.proofs.lemmas.Result.{IfOk-weaker}
use Rattle.semver_texts.specs.Texts.{is_empty}
use Rattle.semver_versions.specs.VersionRefs.{version_of}
use Rattle.range_terms.specs.WrittenTerms.{terms_in}
use Rattle.range_upgrades.proofs.RaisedResults.{in_full, no_form, none_of, not_pre, pre_of, some_more}
use Rattle.range_upgrades.proofs.upgrade.raised_in_some_form.Goals as goal

pub returns-then-is_some-clause-style : goal.returns-then-is_some-clause-style
returns-then-is_some-clause-style c =
    some_more c.in_ok-as_written.as_written (λ new style tree spelled. inl (style tree spelled)) c.in_ok-as_written.ensures.style

pub returns-then-not-is_pre_release-clause-none : goal.returns-then-not-is_pre_release-clause-none
returns-then-not-is_pre_release-clause-none c = λ none tree spelled new.
    let written : c.in_ok-as_written.as_written ≡ None = none_of c.in_ok-as_written.as_written (sym c.is_some.ensures ∙ c.if-is_some.false) in
    not_pre c.args.meaning c.args.range.now c.args.version.now (terms_in c.args.meaning.dialect tree c.args.range.now spelled)
    (c.in_ok-as_written.ensures.none written tree spelled)
    (sym c.is_pre_release.ensures.of_version ∙ c.if-not-is_pre_release.true) new

pub returns-clause-style : goal.returns-clause-style
returns-clause-style c =
    let written : c.in_ok-as_written.as_written ≡ None = none_of c.in_ok-as_written.as_written (sym c.is_some.ensures ∙ c.if-is_some.false) in
    let pre : is_empty (version_of c.args.version.now).plain.pre ≡ false =
    pre_of _ (sym c.is_pre_release.ensures.of_version ∙ c.if-not-is_pre_release.false) in
    IfOk-weaker c.raised_range-2.result _ _
    (λ found is. some_more found (λ new style tree spelled.
    in_full c.args.meaning c.args.range.now c.args.version.now (terms_in c.args.meaning.dialect tree c.args.range.now spelled)
    (c.in_ok-as_written.ensures.none written tree spelled) pre (string_bytes new) (style tree spelled)) is)
    c.raised_range-2.ensures.style

pub returns-clause-none : goal.returns-clause-none
returns-clause-none c =
    let written : c.in_ok-as_written.as_written ≡ None = none_of c.in_ok-as_written.as_written (sym c.is_some.ensures ∙ c.if-is_some.false) in
    IfOk-weaker c.raised_range-2.result _ _
    (λ found is none tree spelled new.
    no_form c.args.meaning c.args.range.now c.args.version.now (terms_in c.args.meaning.dialect tree c.args.range.now spelled)
    (c.in_ok-as_written.ensures.none written tree spelled) (is none tree spelled) new)
    c.raised_range-2.ensures.none
