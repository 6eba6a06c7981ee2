-- A means of proof: the tokens of a text, found one after another from left to right, as the lexer
-- does. `Tokens` defines the tokens of a text, and the public clauses cite that.
use Prim.Native.Char.{code}
use Rattle.std.specs.Prelude.{ℕ, zero, suc, ◌+◌, Bool, ◌==◌, if◌then◌else◌, List, [], ◌∷◌, length}
use Rattle.std.specs.Prelude.{drop, Option, Some, None, slice_index, slice_get, chars, take_while}
use Rattle.std.specs.List.{prefix_len}
use Rattle.std.specs.Char.{is_ascii_alphanumeric}
use Rattle.std.specs.Str.Parse.{digits_value}
use Rattle.semver_tokens.specs.Tokens.{TokenValue, Eq, Gt, Lt, LtEq, GtEq, Caret, Tilde, Star, Dot}
use Rattle.semver_tokens.specs.Tokens.{Comma, Hyphen, Plus, Or, Whitespace, Numeric, AlphaNumeric}
use Rattle.semver_texts.specs.Texts.{is_space}
use Rattle.semver_texts.specs.Steps.Decimals.{is_number}
use Rattle.semver_tokens.specs.ParserState.{ParserState}

-- the token of letters and digits
unfoldable pub component : List ℕ → TokenValue
component run = if is_number run then Numeric (digits_value 10 run) else AlphaNumeric run

-- the sign at the beginning of two bytes, and its length
unfoldable pub sign : ℕ → ℕ → Option (TokenValue × ℕ)
sign b c =
    if b == code "=" then Some (Eq, 1)
    else (if b == code ">" then (if c == code "=" then Some (GtEq, 2) else Some (Gt, 1))
    else (if b == code "<" then (if c == code "=" then Some (LtEq, 2) else Some (Lt, 1))
    else (if b == code "^" then Some (Caret, 1)
    else (if b == code "~" then Some (Tilde, 1)
    else (if b == code "*" then Some (Star, 1)
    else (if b == code "." then Some (Dot, 1)
    else (if b == code "," then Some (Comma, 1)
    else (if b == code "-" then Some (Hyphen, 1)
    else (if b == code "+" then Some (Plus, 1)
    else (if b == code "|" then (if c == code "|" then Some (Or, 2) else None)
    else None))))))))))

-- the first token of the bytes at the offset `place`, and its length
unfoldable pub first_token : ℕ → List ℕ → Option (TokenValue × ℕ)
first_token place [] = None
first_token place (b ∷ bs) =
    if is_space b then Some (
      Whitespace place (place + prefix_len is_space (b ∷ bs)),
      prefix_len is_space (b ∷ bs),
    )
    else (if is_ascii_alphanumeric b then Some (
      component (take_while is_ascii_alphanumeric (b ∷ bs)),
      prefix_len is_ascii_alphanumeric (b ∷ bs),
    )
    else sign b (slice_index bs 0))

-- at most n tokens from the offset `place` on, and the rest of the text after them
unfoldable pub scan : ℕ → List ℕ → ℕ → List TokenValue × List ℕ
scan zero text place = ([], drop place text)
scan (suc n) text place =
    elim (first_token place (drop place text)) [
      | None ↦ ([], drop place text)
      | Some found ↦ (
        found.0 ∷ (scan n text (place + found.1)).0,
        (scan n text (place + found.1)).1,
      )
    ]

-- the state from the offset `place` on: the tokens, and the first character of the rest after them
unfoldable pub state_from : List ℕ → ℕ → ParserState
state_from text place =
    record {
      remaining = (scan (length text) text place).0;
      pending = slice_get
          (chars (scan (length text) text place).1) 0;
    }

-- the state that a lexer has left: as above, but empty after it returned the bad character
unfoldable pub state_left : List ℕ → ℕ → Bool → ParserState
state_left text place failed =
    if failed then record { remaining = []; pending = None } else state_from text place
