-- npm's limits, with their names in node-semver 7.
use Rattle.std.specs.Prelude.{ℕ, ◌-◌}

-- the largest number of characters in a version: `MAX_LENGTH`
abbrev pub max_length : ℕ
max_length = 256

-- the largest number of characters in an identifier of the build metadata: `MAX_SAFE_BUILD_LENGTH`,
-- which a version has left after `0.0.0+`
abbrev pub max_build_length : ℕ
max_build_length = max_length - 6
