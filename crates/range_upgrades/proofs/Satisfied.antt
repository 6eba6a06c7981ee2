-- From what a call says of a tree to which versions satisfy the range.
use Rattle.std.proofs.Common.{◌≡◌, ◌≢◌, ◌∙◌, ap, refl, sym, subst, Bool, true, false, true≢false}
use Rattle.std.specs.Prelude.{◌↔◌, Err}
use Rattle.semver_texts.specs.Digits.{digits_in, plain_by, version_by}
use Rattle.semver_texts.specs.Texts.{Text}
use Rattle.semver_texts.specs.Versions.{PlainVersion, VersionValue}
use Rattle.semver_versions.specs.VersionRefs.{VersionRefValue, kept_version_of, version_of}
use Rattle.tool_ranges.specs.AtOrAbove.{HasAtOrAbove}
use Rattle.tool_ranges.specs.Meanings.{meant_as, meant_by}
use Rattle.version_sets.specs.VersionSets.{Fits}
use Rattle.version_sets.specs.declared.rules.PreReleases.{PreReleases}
use Rattle.semver_ranges.specs.declared.range_set.RangeError.{RangeError}
use Rattle.semver_ranges.specs.declared.range_set.RangeError.TheVariants.{NotARange, NumberTooLarge, OutOfMemory}
use Rattle.semver_ranges.specs.RangeTree.{SetTree}
use Rattle.tool_ranges.specs.Dialects.{HasSetAs, RefusesAs, SpellsAs, fits_as}
use Rattle.semver_ranges.specs.DialectTable.{grammar_of}
use Rattle.semver_ranges.specs.declared.dialect.Dialect.{Dialect}
use Rattle.tool_ranges.specs.Widening.{IsWidened}
use Rattle.tool_ranges.specs.declared.meaning.Rules.{Rules}
use Rattle.range_upgrades.specs.Upgrades.{HasVersionFrom, IsReadIn, IsSatisfied, LosesNone}

-- a borrowed version reads identifiers of digits as its dialect does
pub digits_of : (d : Dialect) (o : VersionRefValue) → IsReadIn d o → o.digits ≡ digits_in (grammar_of d)
digits_of d o (text, read) = ap (λ (o : VersionRefValue). o.digits) read.2

-- a tree of a text is its only one
abbrev pub HaveOneTree : Type 0
HaveOneTree = (d : Dialect) (tree other : SetTree) (t : Text) → SpellsAs d tree t → SpellsAs d other t → tree ≡ other

module _ (same : HaveOneTree) (m : Rules) (t : Text) (o : VersionRefValue) (read : IsReadIn m.dialect o) where
  -- the version in the dialect, with its identifiers as the dialect reads them
  read_alike : plain_by (digits_in (grammar_of m.dialect)) (kept_version_of o).plain ≡ (version_of o).plain
  read_alike = ap (λ d. plain_by d (kept_version_of o).plain) (sym (digits_of m.dialect o read))

  -- what a tree of the range says of a version, the range does
  satisfied_by : (tree : SetTree) (w : VersionValue) → HasSetAs m.dialect t → SpellsAs m.dialect tree t → true ≡ meant_as m tree w → IsSatisfied m t w
  satisfied_by tree w is spelled met =
      (is, λ other spells. met ∙ ap (λ tree. meant_as m tree w) (same m.dialect tree other t spelled spells))

  -- a range has a version at or above another if and only if its tree has one
  pub range_has : HasSetAs m.dialect t → (has : Bool)
      → ((tree : SetTree) → SpellsAs m.dialect tree t
      → (has ≡ true) ↔ HasAtOrAbove m tree (plain_by (digits_in (grammar_of m.dialect)) (kept_version_of o).plain))
      → (has ≡ true) ↔ HasVersionFrom m t (version_of o).plain
  range_has is has told =
      let own = subst (λ (v : PlainVersion). (has ≡ true) ↔ HasAtOrAbove m is.0 v) read_alike (told is.0 is.1) in (
        λ e. let found = own.0 e in (found.0, found.1, found.3, satisfied_by is.0 found.0 is is.1 (sym found.2)),
        λ some. own.1 (some.0, some.1, sym (some.3.1 is.0 is.1), some.2),
      )

  -- a version satisfies a range if and only if it satisfies its tree
  pub range_met : HasSetAs m.dialect t → (met : Bool)
      → ((tree : SetTree) → SpellsAs m.dialect tree t
      → met ≡ meant_as m tree (version_by (digits_in (grammar_of m.dialect)) (kept_version_of o)))
      → (met ≡ true) ↔ IsSatisfied m t (version_of o)
  range_met is met told =
      let own = told is.0 is.1 ∙ ap (λ d. meant_as m is.0 (version_by d (kept_version_of o))) (sym (digits_of m.dialect o read)) in (
        λ e. satisfied_by is.0 (version_of o) is is.1 (sym e ∙ own),
        λ some. own ∙ sym (some.1 is.0 is.1),
      )

-- a string that couldn't be read, although there was enough memory, has no set
pub no_set : {A : Type 0} → HaveOneTree
    → (d : Dialect) (t : Text) (e : RangeError) → RefusesAs {A = A} d t (Err e) → e ≢ OutOfMemory → ¬ (HasSetAs d t)
no_set same d t NotARange refused enough set = refused.not_a_range.0 refl (set.0, set.1)
no_set same d t NumberTooLarge refused enough set =
    let large = refused.too_large.0 refl in
    true≢false (sym set.2 ∙ ap (fits_as d) (same d set.0 large.0 t set.1 large.1) ∙ large.2)
no_set same d t OutOfMemory refused enough set = enough refl

pub true_not_false : true ≡ false → ⊥
true_not_false = true≢false

-- no version is lost if each one that satisfies a tree of a range satisfies those of the range that it is widened to
pub none_lost : (m : Rules) (old new : Text) → IsWidened m.dialect old new
    → ((rule : PreReleases) (tree other : SetTree) (w : VersionValue) → SpellsAs m.dialect tree old → SpellsAs m.dialect other new
    → Fits w.plain → meant_by m.dialect rule tree w ≡ true → meant_by m.dialect rule other w ≡ true)
    → LosesNone m old new
none_lost m old new is keeps = λ w fits met. (
  (is.new_tree, is.new_spelled, is.new_fits),
  λ other spelled. sym (keeps m.pre_releases met.0.0 other w met.0.1 spelled fits (sym (met.1 met.0.0 met.0.1))),
)
