-- A means of proof: how the numbers of a version compare with those of a release, if there is one.
use Rattle.std.specs.Prelude.{Bool, false, ◌∷◌, [], Option, Some, None}
use Rattle.std.specs.Ordering.{is_ge, nat_cmp, on, then_cmp}
use Rattle.std.specs.declared.cmp.Ordering.{Ordering}
use Rattle.semver_texts.specs.Versions.{PlainVersion, numeric}
use Rattle.version_sets.specs.declared.release.Release.{Release}
use Rattle.version_sets.specs.Releases.{release_value}

-- compares versions by their three numbers only
abbrev pub numbers_cmp : PlainVersion → PlainVersion → Ordering
numbers_cmp =
    then_cmp (on (λ (v : PlainVersion). v.major) nat_cmp)
    (then_cmp (on (λ (v : PlainVersion). v.minor) nat_cmp)
    (on (λ (v : PlainVersion). v.patch) nat_cmp))

-- whether the numbers of a version are at or above those of a release; false if no release is given
abbrev pub reaches : Option Release → PlainVersion → Bool
reaches None v = false
reaches (Some r) v = is_ge (numbers_cmp v (release_value r))

-- the lowest pre-release of the numbers of a release
abbrev pub lowest_place : Release → PlainVersion
lowest_place r =
    record { major = r.major; minor = r.minor; patch = r.patch; pre = numeric 0 ∷ [] }
