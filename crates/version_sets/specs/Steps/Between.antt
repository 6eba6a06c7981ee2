-- A means of proof, which no public clause cites: the releases that are not below one boundary, and
-- below another, if there is one.
use Rattle.std.specs.Prelude.{Bool, true, ◌&&◌, not, Option, Some, None, []}
use Rattle.std.specs.Ordering.{is_lt}
use Rattle.semver_texts.specs.Texts.{is_empty}
use Rattle.semver_texts.specs.Versions.{PlainVersion}
use Rattle.semver_texts.specs.Precedence.{precedence}
use Rattle.version_sets.specs.declared.release.Release.{Release}
use Rattle.version_sets.specs.Releases.{release_value}

-- whether a version is below a release, if one is given
abbrev pub is_below : PlainVersion → Option Release → Bool
is_below v None = true
is_below v (Some to) = is_lt (precedence v (release_value to))

-- whether a version is a release that is not below `from`, and is below `to`, if `to` is given
abbrev pub is_release_between : Release → Option Release → PlainVersion → Bool
is_release_between from to v =
    is_empty v.pre
    && (not (is_lt (precedence (record v { pre = [] }) (release_value from)))
    && is_below (record v { pre = [] }) to)
