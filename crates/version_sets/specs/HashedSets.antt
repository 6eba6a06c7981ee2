-- What the hash of a set is made of.
use Rattle.std.specs.Prelude.{◌++◌, flat_map}
use Rattle.std.specs.Hash as fed
use Rattle.std.specs.Hash.{HashWrites}
use Rattle.semver_texts.specs.Versions.{PlainVersion}
use Rattle.version_sets.specs.VersionSets.{SetValue}

-- the three numbers of a version
abbrev pub hashed_numbers : PlainVersion → HashWrites
hashed_numbers v = fed.u64 v.major ++ (fed.u64 v.minor ++ fed.u64 v.patch)

-- what `hash` writes: the numbers of the boundaries of both kinds
abbrev pub hashed_set : SetValue → HashWrites
hashed_set set = fed.slice hashed_numbers set.releases ++ flat_map hashed_numbers set.pre_releases
