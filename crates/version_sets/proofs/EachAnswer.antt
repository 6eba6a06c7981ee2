-- Results that are written one after the other, and the versions in a set with two boundaries.
use Rattle.std.proofs.Common.{◌≡◌, ℕ, ◌<◌, ◌≤◌, ◌==◌, Bool, true, not, ◌&&◌, List, [], ◌∷◌, map, take, set, length}
use Rattle.std.proofs.Common.{get_or}
use Rattle.std.proofs.Common.{refl, ap, ap₂, ◌∙◌, arith, Ordering, is_lt, Some}
use Rattle.std.proofs.lemmas.Bool.Decides.{nat_tests}
use Rattle.std.specs.List.{AllByRecursion}
use Rattle.std.specs.Ordering.{is_ge}
use Rattle.semver_texts.specs.Versions.{PlainVersion, IdentifierValue}
use Rattle.semver_texts.specs.Precedence.{precedence}
use Rattle.semver_versions.specs.declared.read_version.ReadVersion.{ReadVersion}
use Rattle.version_sets.specs.declared.release.Release.{Release}
use Rattle.version_sets.specs.Releases.{release_value}
use Rattle.version_sets.specs.Steps.Places.{set_of, version_place}
use Rattle.semver_texts.specs.declared.version.Version.{Version}
use Rattle.semver_texts.specs.declared.grammar.Digits.{Digits}
use Rattle.semver_texts.specs.declared.grammar.Digits.TheVariants.{Kept, AnySize}
use Rattle.version_sets.specs.VersionSets.{SetValue, contains_kept}
use Rattle.version_sets.specs.Steps.Between.{is_release_between}

-- the results for the first n elements are written, and P holds for these elements
pub record AreTold {X : Type 0} (f : X → Bool) (P : X → Type 0) (xs : List X) (answers : List Bool) (n : ℕ) : Type 0 where
  pub long : length answers ≡ length xs
  pub told : take n answers ≡ map f (take n xs)
  pub hold : AllByRecursion P (take n xs)

-- ---- two boundaries

between_both : (r s : Ordering) → (not (is_lt r) && is_lt s) ≡ (is_ge r && not (is_ge s && true))
between_both r s = grind arith

abbrev pub set_of_releases : Digits → List PlainVersion → SetValue
set_of_releases digits releases = record { releases = releases; pre_releases = []; digits = digits }

two_at : (from to : Release) (a b c : ℕ) (digits : Digits) (pre : List IdentifierValue)
    → let v : PlainVersion = record { major = a; minor = b; patch = c; pre = pre } in
    is_release_between from (Some to) v ≡ contains_kept (set_of_releases digits (release_value from ∷ release_value to ∷ [])) v
two_at from to a b c Kept [] =
    let v : PlainVersion = record { major = a; minor = b; patch = c; pre = [] } in
    between_both (precedence v (release_value from)) (precedence v (release_value to))
two_at from to a b c AnySize [] =
    let v : PlainVersion = record { major = a; minor = b; patch = c; pre = [] } in
    between_both (precedence v (release_value from)) (precedence v (release_value to))
two_at from to a b c Kept (id ∷ pre) = refl
two_at from to a b c AnySize (id ∷ pre) = refl

pub two_boundaries : (from to : Release) (digits : Digits) (v : PlainVersion)
    → is_release_between from (Some to) v ≡ contains_kept (set_of_releases digits (release_value from ∷ release_value to ∷ [])) v
two_boundaries from to digits v = two_at from to v.major v.minor v.patch digits v.pre

-- a set that has only these two boundaries contains the releases between them
pub between_two : (digits : Digits) (rs items : List Release) (ps : List ReadVersion) (n : ℕ) (set : SetValue) (vs : List Version)
    (d e : Release) → 2 ≤ length rs → length rs < 3 → rs ≡ items → true ≡ (n == 0) → n ≡ length ps → set_of digits items ps ≡ set
    → map (λ v. is_release_between (get_or rs 0 d) (Some (get_or rs 1 e)) (version_place v)) vs
    ≡ map (λ v. contains_kept set (version_place v)) vs
between_two digits [] items ps n set vs d e low high is none long told = absurd (omega arith)
between_two digits (a ∷ []) items ps n set vs d e low high is none long told = absurd (omega arith)
between_two digits (a ∷ b ∷ c ∷ rs) items ps n set vs d e low high is none long told = absurd (omega arith)
between_two digits (a ∷ b ∷ []) items (p ∷ ps) n set vs d e low high is none long told = absurd (grind (arith, nat_tests))
between_two digits (a ∷ b ∷ []) items [] n set vs d e low high is none long told =
    map-same vs
    (λ v. two_boundaries a b digits (version_place v) ∙ ap (λ its. contains_kept (set_of digits its []) (version_place v)) is
    ∙ ap (λ s. contains_kept s (version_place v)) told)
  where
    map-same : {f g : Version → Bool} (vs : List Version) → ((v : Version) → f v ≡ g v) → map f vs ≡ map g vs
    map-same [] same = refl
    map-same (v ∷ vs) same = ap₂ (λ b bs. b ∷ bs) (same v) (map-same vs same)
