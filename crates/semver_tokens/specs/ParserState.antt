-- The state of a parser, and the errors that its calls return.
use Rattle.std.specs.Prelude.{◌≡◌, ℕ, List, Option, slice_get, chars, drop}
use Rattle.semver_tokens.specs.Tokens.{TokenValue, AreTokensFrom, AreTokensOf}

-- the tokens that remain, and the character after the last of them if no token begins there
pub record ParserState : Type 0 where
  pub remaining : List TokenValue
  pub pending : Option ℕ

-- the value of an error, independent of where it is in memory
pub data ErrorValue : Type 0 where
  UnexpectedEnd : ErrorValue
  UnexpectedToken : TokenValue → ErrorValue
  -- the bad character
  Lexer : ℕ → ErrorValue
  MoreInput : List TokenValue → ErrorValue
  EmptyPredicate : ErrorValue
  EmptyRange : ErrorValue
  OutOfMemory : ErrorValue

-- the state at the beginning of a text: all its tokens, and the first character of the rest
abbrev pub IsStateOf : List ℕ → ParserState → Type 0
IsStateOf text s =
    (rest : List ℕ) × AreTokensOf text s.remaining rest × (s.pending ≡ slice_get (chars rest) 0)

-- the state at the offset `place` of some input, at which this text begins: the tokens from there
-- on, and the first character of the rest
pub record IsStateFrom (text : List ℕ) (s : ParserState) : Type 0 where
  pub input : List ℕ
  pub place : ℕ
  pub rest : List ℕ
  pub begins : text ≡ drop place input
  pub tokens : AreTokensFrom input place s.remaining rest
  pub pending : s.pending ≡ slice_get (chars rest) 0
