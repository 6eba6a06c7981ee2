-- Two results of a call that tests whether a range contains a version text are the same.
use Rattle.std.proofs.Common.{◌≡◌, Bool, refl, sym, ap, ◌∙◌, Result, Ok, Err}
use Rattle.semver_texts.specs.Texts.{Text}
use Rattle.semver_texts.specs.ToolVersions.{SpellsIn}
use Rattle.semver_texts.specs.Versions.{VersionValue}
use Rattle.semver_texts.specs.declared.grammar.Grammar.{Grammar}
use Rattle.version_sets.specs.VersionSets.{contains}
use Rattle.tool_ranges.specs.VersionRanges.{ContainsText, RangeValue}
use Rattle.tool_ranges.specs.declared.satisfying.SatisfiesError.{SatisfiesError}
use Rattle.tool_ranges.specs.declared.satisfying.SatisfiesError.TheVariants.{InvalidRange, InvalidVersion}

-- whether a range contains the version that a text spells
pub one_contained : ((grammar : Grammar) (v w : VersionValue) (text : Text) → SpellsIn grammar v text → SpellsIn grammar w text → v ≡ w)
    → (range : RangeValue) (text : Text) (r s : Result Bool SatisfiesError) → ContainsText range text r → ContainsText range text s → r ≡ s
one_contained same range text (Ok a) (Ok b) p q =
    ap Ok (p.2 ∙ ap (λ (v : VersionValue). contains range.versions v.plain) (same _ p.0 q.0 text p.1 q.1) ∙ sym q.2)
one_contained same range text (Ok a) (Err InvalidVersion) p q = absurd (q (p.0, p.1))
one_contained same range text (Err InvalidVersion) (Ok b) p q = absurd (p (q.0, q.1))
one_contained same range text (Err InvalidVersion) (Err InvalidVersion) p q = refl
one_contained same range text (Err (InvalidRange e)) s p q = absurd p
one_contained same range text r (Err (InvalidRange e)) p q = absurd q
