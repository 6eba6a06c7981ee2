-- The values of tokens, and of what a lexer returns, independent of where they are in memory.
use Rattle.std.specs.Prelude.{List, ◌++◌, map, Result, Ok, Err, option_to_list}
use Rattle.semver_tokens.specs.Tokens.{TokenValue, Eq, Gt, Lt, LtEq, GtEq, Caret, Tilde, Star, Dot}
use Rattle.semver_tokens.specs.Tokens.{Comma, Hyphen, Plus, Or, Whitespace, Numeric, AlphaNumeric}
use Rattle.semver_tokens.specs.ParserState.{ParserState}
use Rattle.semver_tokens.specs.declared.lexer.Token.{Token}
use Rattle.semver_tokens.specs.declared.lexer.Token.TheVariants as token
use Rattle.semver_tokens.specs.declared.lexer.Error.{Error}
use Rattle.semver_tokens.specs.declared.lexer.Error.TheVariants as error

abbrev pub token_value : Token → TokenValue
token_value token.Eq = Eq
token_value token.Gt = Gt
token_value token.Lt = Lt
token_value token.LtEq = LtEq
token_value token.GtEq = GtEq
token_value token.Caret = Caret
token_value token.Tilde = Tilde
token_value token.Star = Star
token_value token.Dot = Dot
token_value token.Comma = Comma
token_value token.Hyphen = Hyphen
token_value token.Plus = Plus
token_value token.Or = Or
token_value (token.Whitespace first after) = Whitespace first after
token_value (token.Numeric n) = Numeric n
token_value (token.AlphaNumeric text) = AlphaNumeric text.now

-- the value of an item that a lexer returns
abbrev pub item_value : Result Token Error → Result TokenValue Error
item_value (Ok t) = Ok (token_value t)
item_value (Err e) = Err e

-- the items that a lexer has left: the remaining tokens, and an error if a character is pending
abbrev pub items_left : ParserState → List (Result TokenValue Error)
items_left s =
    map (λ t. Ok t) s.remaining ++ map (λ c. Err (error.UnexpectedChar c))
    (option_to_list s.pending)
