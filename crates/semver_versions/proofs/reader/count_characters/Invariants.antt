-- The characters before the offset `at` are counted.
use Rattle.std.proofs.Common.{◌≡◌, ◌≤◌, take}
use Rattle.semver_texts.specs.ToolVersions.{characters}
use Rattle.semver_versions.proofs.reader.count_characters.Given as goal

abbrev pub invariant-loop-at : goal.invariant-loop-at
invariant-loop-at l = (l.count ≡ characters (take l.at l.bytes)) × (l.count ≤ l.at)
