-- An error of the range is an allowed result of `satisfies`, and only one result is allowed.
use Rattle.std.proofs.Common.{◌≡◌, ◌∙◌, Bool, Ok, Err, ap, inl, inr, refl, subst, sym, true≢false}
use Rattle.std.specs.Prelude.{Result}
use Rattle.semver_texts.specs.ToolVersions.{SpellsIn}
use Rattle.semver_ranges.specs.declared.range_set.RangeError.{RangeError}
use Rattle.semver_ranges.specs.declared.range_set.RangeError.TheVariants.{NotARange, NumberTooLarge, OutOfMemory}
use Rattle.semver_texts.specs.Texts.{Text}
use Rattle.semver_texts.specs.Versions.{VersionValue}
use Rattle.semver_texts.specs.declared.grammar.Grammar.{Grammar}
use Rattle.tool_ranges.specs.Dialects.{HasSetAs, IsTooLargeAs, RefusesAs, fits_as}
use Rattle.tool_ranges.specs.Satisfying.{AnswersOf, Satisfies}
use Rattle.semver_ranges.specs.declared.dialect.Dialect.{Dialect}
use Rattle.tool_ranges.specs.declared.meaning.Rules.{Rules}
use Rattle.tool_ranges.specs.declared.satisfying.SatisfiesError.{SatisfiesError}
use Rattle.tool_ranges.specs.declared.satisfying.SatisfiesError.TheVariants.{InvalidRange, InvalidVersion}
use Rattle.tool_ranges.proofs.ReadingLaws.{one_tree}

pub refused_range : (m : Rules) (v : VersionValue) (t : Text) (e : RangeError) → RefusesAs {A = Bool} m.dialect t (Err e)
    → (e ≡ OutOfMemory → ⊥) → AnswersOf m v t (Err (InvalidRange e))
refused_range m v t NotARange by kept = by.not_a_range.0 refl
refused_range m v t NumberTooLarge by kept = by.too_large.0 refl
refused_range m v t OutOfMemory by kept = kept refl

not_both : (d : Dialect) (t : Text) → HasSetAs d t → IsTooLargeAs d t → ⊥
not_both d t (tree, spells, fit) (other, spelled, large) =
    true≢false (sym fit ∙ ap (fits_as d) (one_tree d tree other t spells spelled) ∙ large)

module _ (m : Rules) (v : VersionValue) (t : Text) where
  one_of : (r s : Result Bool SatisfiesError) → AnswersOf m v t r → AnswersOf m v t s → r ≡ s
  one_of (Ok a) (Ok b) (set, p) (_, q) = ap Ok (p set.0 set.1 ∙ sym (q set.0 set.1))
  one_of (Ok a) (Err InvalidVersion) p q = absurd q
  one_of (Ok a) (Err (InvalidRange NotARange)) (set, _) q = absurd (q (set.0, set.1))
  one_of (Ok a) (Err (InvalidRange NumberTooLarge)) (set, _) q = absurd (not_both m.dialect t set q)
  one_of (Ok a) (Err (InvalidRange OutOfMemory)) p q = absurd q
  one_of (Err InvalidVersion) s p q = absurd p
  one_of (Err (InvalidRange NotARange)) (Ok b) p (set, _) = absurd (p (set.0, set.1))
  one_of (Err (InvalidRange NotARange)) (Err InvalidVersion) p q = absurd q
  one_of (Err (InvalidRange NotARange)) (Err (InvalidRange NotARange)) p q = refl
  one_of (Err (InvalidRange NotARange)) (Err (InvalidRange NumberTooLarge)) p q = absurd (p (q.0, q.1))
  one_of (Err (InvalidRange NotARange)) (Err (InvalidRange OutOfMemory)) p q = absurd q
  one_of (Err (InvalidRange NumberTooLarge)) (Ok b) p (set, _) = absurd (not_both m.dialect t set p)
  one_of (Err (InvalidRange NumberTooLarge)) (Err InvalidVersion) p q = absurd q
  one_of (Err (InvalidRange NumberTooLarge)) (Err (InvalidRange NotARange)) p q = absurd (q (p.0, p.1))
  one_of (Err (InvalidRange NumberTooLarge)) (Err (InvalidRange NumberTooLarge)) p q = refl
  one_of (Err (InvalidRange NumberTooLarge)) (Err (InvalidRange OutOfMemory)) p q = absurd q
  one_of (Err (InvalidRange OutOfMemory)) s p q = absurd p

pub one_answer : ((g : Grammar) (v w : VersionValue) (t : Text) → SpellsIn g v t → SpellsIn g w t → v ≡ w) → (m : Rules)
    (version range : Text) (r s : Result Bool SatisfiesError) → Satisfies m version range r → Satisfies m version range s → r ≡ s
one_answer same m version range r s (inl p) (inl q) = p.1 ∙ sym q.1
one_answer same m version range r s (inl p) (inr (v, is, _)) = absurd (p.0 (v, is))
one_answer same m version range r s (inr (v, is, _)) (inl q) = absurd (q.0 (v, is))
one_answer same m version range r s (inr (v, is, p)) (inr (w, is', q)) =
    one_of m v range r s p (subst (λ u. AnswersOf m u range s) (same _ w v version is' is) q)
