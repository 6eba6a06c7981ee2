-- The values that the calls of a parser return, independent of where they are in memory.
use Rattle.std.specs.Prelude.{map, codes, Option, Some, None, Result, Ok, Err, ⊤, ◌++◌, option_map}
use Rattle.std.specs.Prelude.{option_to_list}
use Rattle.semver_texts.specs.Texts.{Text}
use Rattle.semver_tokens.specs.ParserState as spec
use Rattle.semver_tokens.specs.ParserState.{ParserState, ErrorValue}
use Rattle.semver_tokens.specs.ParserSteps.{Step}
use Rattle.semver_tokens.specs.Views.{token_value}
use Rattle.semver_tokens.specs.declared.lexer.Token.{Token}
use Rattle.semver_tokens.specs.declared.lexer.Error.TheVariants as lexer_error
use Rattle.semver_tokens.specs.declared.parser.Error.{Error}
use Rattle.semver_tokens.specs.declared.parser.Error.TheVariants as error

-- the state of a lexer, with a token, if there is one, before what it has left
abbrev pub ahead : Option Token → ParserState → ParserState
ahead o s =
    record {
      remaining = option_to_list (option_map token_value o)
          ++ s.remaining;
      pending = s.pending;
    }

abbrev pub error_value : Error → ErrorValue
error_value error.UnexpectedEnd = spec.UnexpectedEnd
error_value (error.UnexpectedToken t) = spec.UnexpectedToken (token_value t)
error_value (error.Lexer (lexer_error.UnexpectedChar c)) = spec.Lexer c
error_value (error.MoreInput ts) = spec.MoreInput (map token_value ts.items)
error_value error.EmptyPredicate = spec.EmptyPredicate
error_value error.EmptyRange = spec.EmptyRange
error_value error.OutOfMemory = spec.OutOfMemory

-- the value of a result, if `view` gives the value in it
abbrev pub answer_of : {T A : Type 0} → (T → A) → Result T Error → Result A ErrorValue
answer_of view (Ok x) = Ok (view x)
answer_of view (Err e) = Err (error_value e)

-- the value of a result as above, and the state after it
abbrev pub step_of : {T A : Type 0} → (T → A) → Result T Error → ParserState → Step A
step_of view (Ok x) s = (Ok (view x), s)
step_of view (Err e) s = (Err (error_value e), s)

-- P, unless the result is out of memory; and below, P if it is
abbrev pub UnlessOutOfMemory : {T : Type 0} → Result T Error → Type 0 → Type 0
UnlessOutOfMemory (Err error.OutOfMemory) P = ⊤
UnlessOutOfMemory _ P = P

abbrev pub IfOutOfMemory : {T : Type 0} → Result T Error → Type 0 → Type 0
IfOutOfMemory (Err error.OutOfMemory) P = P
IfOutOfMemory _ P = ⊤

-- the sentence of an error, if all errors of its kind have the same one
abbrev pub fixed_text : Error → Option Text
fixed_text error.UnexpectedEnd = Some (codes "expected more input")
fixed_text error.EmptyPredicate = Some (codes "encountered empty predicate")
fixed_text error.EmptyRange = Some (codes "encountered empty range")
fixed_text error.OutOfMemory = Some (codes "out of memory")
fixed_text _ = None
