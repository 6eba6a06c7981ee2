use Rattle.std.proofs.Common.{◌≡◌, ℕ, ◌+◌, ◌<◌, Bool, true, false, not, List, length, get_or, is_lt, map, drop, refl, subst}
use Rattle.std.specs.Bool.{beq}
use Rattle.std.proofs.lemmas.List.{drop_more}
use Rattle.semver_texts.specs.Precedence.{precedence}
use Rattle.semver_texts.specs.Steps.PrecedenceLaws.{precedence_total}
use Rattle.semver_texts.specs.Versions.{PlainVersion}
use Rattle.version_sets.specs.Releases.{release_value}
use Rattle.version_sets.specs.Steps.Sweeps.{differ}
use Rattle.version_sets.specs.declared.release.Release.{Release}
use Rattle.version_sets.proofs.SearchLaws.{IsTurned, turn_next}
use Rattle.version_sets.proofs.boundaries.contains_release.Goals as goal

unlike : (a b : Bool) → differ a b ≡ not (beq a b)
unlike true true = refl
unlike true false = refl
unlike false true = refl
unlike false false = refl

next : (xs : List Release) (v : PlainVersion) (all : List PlainVersion) (i : ℕ) (d : Release) (known below : Bool) → i < length xs
    → below ≡ is_lt (precedence v (release_value (get_or xs i d))) → IsTurned precedence v all (map release_value (drop i xs)) known
    → IsTurned precedence v all (map release_value (drop (i + 1) xs)) (not (beq known (not below)))
next xs v all i d known below inside told w =
    subst (IsTurned precedence v all (map release_value (drop (i + 1) xs))) (unlike known (not below))
    (turn_next precedence precedence_total v all (release_value (get_or xs i d)) (map release_value (drop (i + 1) xs)) known below told
    (subst (λ (left : List Release). IsTurned precedence v all (map release_value left) known) (drop_more xs i d inside) w))

pub loop-boundary-preserved : goal.loop-boundary-preserved
loop-boundary-preserved c =
    next c.args.boundaries.now (release_value c.args.release.now) (map release_value c.args.boundaries.now) c.loop-boundary.boundary-index _
    c.loop-boundary.is_in c.is_below.result c.loop-boundary-test.true c.is_below.ensures c.loop-boundary.invariant
