-- After a word of a text is read, the rest of the text is shorter.
use Rattle.std.proofs.Common.{◌≡◌, ℕ, ◌<◌, ◌≤◌, Bool, true, [], ◌∷◌, length, ap, ◌==◌}
use Rattle.std.proofs.Common.{Some, arith, length-append}
use Rattle.semver_texts.specs.Texts.{Text}
use Rattle.semver_texts.specs.declared.grammar.Grammar.{Grammar}
use Rattle.semver_texts.specs.declared.grammar.Grammar.TheVariants.{Crate, Cargo, Npm}
use Rattle.semver_texts.proofs.Lists.{by_test}
use Rattle.semver_ranges.specs.RangeTree.{PartialTree}
use Rattle.semver_ranges.specs.Steps.Reading.{after_v, component, with_first}
use Rattle.semver_ranges.proofs.ReadingPieces.{PartialAt, component_sound, first_sound, is_component_byte, partial_starts, starts}

some_bytes : (p : ℕ → Bool) (t : Text) → starts p t ≡ true → 0 < length t
some_bytes p [] e = cc
some_bytes p (b ∷ t) e = omega arith

no_longer_v : (d : Grammar) (t : Text) → length (after_v d t) ≤ length t
no_longer_v Crate t = omega arith
no_longer_v Cargo t = omega arith
no_longer_v Npm [] = omega arith
no_longer_v Npm (b ∷ t) = by_test (b == 118)
    (λ e. rw e (omega arith))
    (λ e. rw e (omega arith))

pub rest_shorter : (d : Grammar) (t rest : Text) (p : PartialTree) → with_first (component (after_v d t)) ≡ Some (p, rest)
    → length rest < length t
rest_shorter d t rest p e =
    shorter (rw e at (first_sound (after_v d t) (component (after_v d t)) (component_sound (after_v d t))))
  where
    shorter : PartialAt (after_v d t) (Some (p, rest)) → length rest < length t
    shorter (w, spelled, text) =
        let some = some_bytes is_component_byte w (partial_starts p w spelled) in
        let long = no_longer_v d t in
        omega (arith, long, some, simp length-append at (ap length text))
