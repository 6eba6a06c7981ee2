-- A range reads identifiers of digits as its dialect does.
use Rattle.std.proofs.Common.{◌≡◌, ap, subst, sym, ◌∙◌}
use Rattle.semver_texts.specs.Digits.{digits_in, plain_by}
use Rattle.semver_texts.specs.Texts.{Text}
use Rattle.semver_texts.specs.declared.grammar.Grammar.{Grammar}
use Rattle.semver_versions.specs.VersionRefs.{IsVersionRefIn, VersionRefValue, kept_version_of, version_of}
use Rattle.tool_ranges.specs.VersionRanges.{RangeValue, versions_grammar}
use Rattle.version_sets.specs.VersionSets.{SetValue, contains, contains_kept}

-- whether a set contains a version can be tested with its identifiers as they are kept, if the set
-- reads identifiers of digits as the grammar of the version does
pub borrowed_alike : (grammar : Grammar) (set : SetValue) (text : Text) (o : VersionRefValue) → set.digits ≡ digits_in grammar
    → IsVersionRefIn grammar text o → contains_kept set (kept_version_of o).plain ≡ contains set (version_of o).plain
borrowed_alike grammar set text o digits borrowed =
    let (v, spells, is) = borrowed in
    ap (λ d. contains set (plain_by d (kept_version_of o).plain)) (digits ∙ sym (ap (λ (p : VersionRefValue). p.digits) is))

-- a property of the grammar that a range returns holds for the grammar of its versions
pub in_its_grammar : (P : Grammar → Type 0) (inside range : RangeValue) (grammar : Grammar) → inside ≡ range
    → grammar ≡ versions_grammar inside → P grammar → P (versions_grammar range)
in_its_grammar P inside range grammar view told so = subst (λ (r : RangeValue). P (versions_grammar r)) view (subst P told so)
