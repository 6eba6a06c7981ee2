use Rattle.std.proofs.Common.{◌≡◌, Ok, Err, Option, length, string_bytes}
use Rattle.std.specs.Prelude.{IfOk, Result}
use Rattle.semver_parser.specs.Texts.{Text}
use Rattle.semver_parser.specs.declared.RangeError.{RangeError}
use Rattle.invalid_ranges.specs.Refusals.{IsRefusalAs}
use Rattle.semver_ranges.specs.declared.dialect.Dialect.{Dialect}
use Rattle.invalid_ranges.specs.declared.refusals.Refusal.{Refusal}
use Rattle.command_line.specs.RefusedLines.{line_of}
use Rattle.command_line.proofs.refused.refused_line.Goals as goal

-- the line is made from the offset and the reason that were found, if any
of_found : {S E : Type 0} (bytes : S → Text) (d : Dialect) (error : RangeError) (t : Text) (found : Option Refusal)
    → IsRefusalAs d t found → (r : Result S E) → IfOk r (λ line. bytes line ≡ line_of error found (length t))
    → IfOk r (λ line. (x : Option Refusal) × IsRefusalAs d t x × (bytes line ≡ line_of error x (length t)))
of_found bytes d error t found is (Ok line) written = (found, is, written)
of_found bytes d error t found is (Err e) written = tt

pub returns : goal.returns
returns c = record {
  line = of_found string_bytes c.args.dialect c.args.error.now c.args.text.now c.in_ok-found.found c.in_ok-found.ensures.refused
      c.line_of.result c.line_of.ensures;
}
