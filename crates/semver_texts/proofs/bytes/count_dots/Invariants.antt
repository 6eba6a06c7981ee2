-- `count` is the number of dots before `at`.
use Rattle.std.proofs.Common.{◌≡◌, ◌≤◌, take}
use Rattle.std.specs.List.{count_by}
use Rattle.semver_texts.specs.Texts.{is_dot}
use Rattle.semver_texts.proofs.bytes.count_dots.Given as goal

abbrev pub invariant-loop-at : goal.invariant-loop-at
invariant-loop-at l = (l.count ≡ count_by is_dot (take l.at l.bytes)) × (l.count ≤ l.at)
