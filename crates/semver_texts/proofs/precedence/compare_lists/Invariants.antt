use Rattle.std.proofs.Common.{◌≡◌, length}
use Rattle.std.specs.Cmp.Lexicographic.{slice_cmp}
use Rattle.semver_texts.specs.Precedence.{identifier_cmp}
use Rattle.semver_texts.proofs.precedence.compare_lists.Given as goal

-- the order of the two lists is that of their remaining identifiers
abbrev pub invariant-loop-first : goal.invariant-loop-first
invariant-loop-first g l =
    slice_cmp identifier_cmp (g.A.Identifiers.left l.fn.version) (g.B.Identifiers.left l.fn.other)
    ≡ slice_cmp identifier_cmp (g.A.Identifiers.left l.rest) (g.B.Identifiers.left l.others)

abbrev pub decreases-loop-first : goal.decreases-loop-first
decreases-loop-first g l = length (g.A.Identifiers.left l.rest)
