-- The number and the sign of each operator.
use Rattle.std.specs.Prelude.{ℤ, pos, [], codes}
use Rattle.semver_texts.specs.Texts.{Text}
use Rattle.semver_ranges.specs.declared.operator.Operator.{Operator}
use Rattle.semver_ranges.specs.declared.operator.Operator.TheVariants.{Bare, Equal, Less}
use Rattle.semver_ranges.specs.declared.operator.Operator.TheVariants.{LessOrEqual, Greater}
use Rattle.semver_ranges.specs.declared.operator.Operator.TheVariants.{GreaterOrEqual, Tilde, Caret}
use Rattle.semver_ranges.specs.declared.operator.Operator.TheVariants.{Hyphen}

-- its number in C; the operators of comparators have the same numbers there
abbrev pub number_of : Operator → ℤ
number_of Less = pos 0
number_of LessOrEqual = pos 1
number_of Greater = pos 2
number_of GreaterOrEqual = pos 3
number_of Equal = pos 4
number_of Tilde = pos 5
number_of Caret = pos 6
number_of Bare = pos 7
number_of Hyphen = pos 8

-- its sign, which is `~` for `~>`, too; for a hyphen range the hyphen
abbrev pub sign : Operator → Text
sign Bare = []
sign Equal = codes "="
sign Less = codes "<"
sign LessOrEqual = codes "<="
sign Greater = codes ">"
sign GreaterOrEqual = codes ">="
sign Tilde = codes "~"
sign Caret = codes "^"
sign Hyphen = codes "-"
