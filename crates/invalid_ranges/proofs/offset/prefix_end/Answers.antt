use Rattle.std.proofs.Common.{ℕ, Ok, Err}
use Rattle.std.specs.Prelude.{IfOk, Result}
use Rattle.semver_texts.specs.Texts.{Text}
use Rattle.invalid_strings.specs.Prefixes.{Begins, IsLongestPrefix}
use Rattle.tool_ranges.specs.Dialects.{IsTextAs}
use Rattle.invalid_ranges.specs.Prefixes.{BeginsAs}
use Rattle.semver_ranges.specs.declared.dialect.Dialect.{Dialect}
use Rattle.std.specs.Str.{IsUtf8}
use Rattle.invalid_ranges.proofs.Places.{completed, longest_as}
use Rattle.invalid_ranges.proofs.offset.prefix_end.Goals as goal

pub longest_prefix-requires : goal.longest_prefix-requires
longest_prefix-requires c = record { completions = completed c.args.dialect }

found_as : {E : Type 0} (dialect : Dialect) (t : Text) → IsUtf8 t → (r : Result ℕ E)
    → IfOk r (IsLongestPrefix (Begins (IsTextAs dialect)) t) → IfOk r (IsLongestPrefix (BeginsAs dialect) t)
found_as dialect t utf8 (Ok n) is = longest_as dialect t utf8 n is
found_as dialect t utf8 (Err e) is = tt

pub returns : goal.returns
returns c = found_as c.args.dialect c.args.text.now c.utf8.text c.longest_prefix.result c.longest_prefix.ensures
