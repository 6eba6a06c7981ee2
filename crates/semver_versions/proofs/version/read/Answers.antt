use Rattle.std.proofs.Common.{refl, subst, sym, ◌∙◌}
use Rattle.semver_texts.specs.VersionGrammar.{SpellsVersion}
use Rattle.semver_texts.specs.VersionViews.{version_value}
use Rattle.semver_versions.proofs.BorrowedVersions.{has_some, exactly, if_err, kept_of}
use Rattle.semver_versions.proofs.version.read.Goals as goal

pub returns-in_err-version_in-clause-out_of_memory : goal.returns-in_err-version_in-clause-out_of_memory
returns-in_err-version_in-clause-out_of_memory c =
    if_err c.from_residual.result (has_some _ c.args.input.now c.in-Some.borrowed ((c.in-Some.ensures.borrowed c.in-Some.borrowed).0 refl)
    c.in_err-version_in.ensures.out_of_memory)

pub returns-clause-exact : goal.returns-clause-exact
returns-clause-exact c =
    let borrowed = (c.in-Some.ensures.borrowed c.in-Some.borrowed).0 refl in
    let same = kept_of _ c.args.input.now borrowed.0 borrowed.1 c.in-Some.borrowed borrowed ∙ sym c.in_ok-version_in.ensures.kept in
    exactly c.args.input.now (version_value c.in_ok-version_in.field-0)
    (subst (λ v. SpellsVersion v c.args.input.now) same borrowed.1)
