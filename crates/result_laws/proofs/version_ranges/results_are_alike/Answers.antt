use Rattle.std.proofs.Common.{◌≡◌, ap, subst, sym, ◌∙◌}
use Rattle.semver_texts.specs.Digits.{digits_in}
use Rattle.semver_ranges.specs.DialectTable.{grammar_of}
use Rattle.tool_ranges.specs.declared.meaning.Rules.{Rules}
use Rattle.version_sets.specs.VersionSets.{IsNormal}
use Rattle.result_laws.specs.SameSets.{AreAlikeRanges}
use Rattle.result_laws.proofs.version_ranges.results_are_alike.Goals as goal

pub returns : goal.returns
returns g c =
    let a = c.in-Ok.first in
    let b = c.in-Ok-second.second in
    let alike : AreAlikeRanges a b = λ meaning same.
    let digits : a.versions.digits ≡ b.versions.digits =
    c.ranges_read_digits.ensures.digits ∙ ap (λ (m : Rules). digits_in (grammar_of m.dialect)) meaning
    ∙ sym c.ranges_read_digits-2.ensures.digits in
    let versions : a.versions ≡ b.versions =
    c.one_set.ensures.same_set a.versions b.versions (subst IsNormal c.versions.ensures c.sets_are_normal.ensures.normal)
    (subst IsNormal c.versions-2.ensures c.sets_are_normal-2.ensures.normal) digits
    (λ v. (λ h. (h.0, sym (same v h.0) ∙ h.1), λ h. (h.0, same v h.0 ∙ h.1))) in
    λ i. record { versions = versions i; meaning = meaning i } in
    record { alike = rw (c.in-Ok.is, c.in-Ok-second.is) alike }
