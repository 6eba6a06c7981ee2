-- The precedence of versions, as in section 11 of SemVer 2.0.0, on identifiers as they are kept.
use Rattle.std.specs.Prelude.{List, [], ◌∷◌}
use Rattle.std.specs.Ordering.{nat_cmp, on, then_cmp}
use Rattle.std.specs.Cmp.Lexicographic.{slice_cmp}
use Rattle.std.specs.declared.cmp.Ordering.{Ordering}
use Rattle.std.specs.declared.cmp.Ordering.TheVariants.{Less, Equal, Greater}
use Rattle.semver_texts.specs.Versions.{IdentifierValue, numeric, alphanumeric, PlainVersion}

-- numbers are compared as numbers, texts in ASCII order, and a number is below any text (11.4.1 to
-- 11.4.3)
abbrev pub identifier_cmp : IdentifierValue → IdentifierValue → Ordering
identifier_cmp (numeric m) (numeric n) = nat_cmp m n
identifier_cmp (numeric m) (alphanumeric t) = Less
identifier_cmp (alphanumeric s) (numeric n) = Greater
identifier_cmp (alphanumeric s) (alphanumeric t) = slice_cmp nat_cmp s t

-- no pre-release is above any. Two of them are compared from the left, and if one is a beginning of
-- the other, the longer one is higher (11.3, 11.4, 11.4.4)
abbrev pub pre_cmp : List IdentifierValue → List IdentifierValue → Ordering
pre_cmp [] [] = Equal
pre_cmp [] (y ∷ ys) = Greater
pre_cmp (x ∷ xs) [] = Less
pre_cmp (x ∷ xs) (y ∷ ys) = slice_cmp identifier_cmp (x ∷ xs) (y ∷ ys)

-- versions are compared by major, minor and patch as numbers, then by the pre-release (11.2, 11.3)
abbrev pub precedence : PlainVersion → PlainVersion → Ordering
precedence =
    then_cmp (on (λ (v : PlainVersion). v.major) nat_cmp)
    (then_cmp (on (λ (v : PlainVersion). v.minor) nat_cmp)
    (then_cmp (on (λ (v : PlainVersion). v.patch) nat_cmp)
    (on (λ (v : PlainVersion). v.pre) pre_cmp)))
