-- What a call of a parser takes from the state of the parser, and which state it leaves.
use Rattle.std.specs.Prelude.{ℕ, Bool, false, List, [], ◌∷◌, Option, Some, None, Result}
use Rattle.std.specs.Prelude.{Ok, Err, slice_get, if◌then◌else◌, is_some, not}
use Rattle.semver_tokens.specs.Tokens.{TokenValue, Dot, Numeric, is_wildcard}
use Rattle.semver_tokens.specs.ParserState.{ParserState, ErrorValue, UnexpectedEnd, UnexpectedToken}
use Rattle.semver_tokens.specs.ParserState.{Lexer}

-- a result, and the state after it
abbrev pub Step : Type 0 → Type 0
Step A = Result A ErrorValue × ParserState

-- takes the first token. If at most one token remains and a character is pending, nothing is taken,
-- and the character is returned as the error
abbrev pub pop_of : List TokenValue → Option ℕ → Step TokenValue
pop_of [] None = (Err UnexpectedEnd, record { remaining = []; pending = None })
pop_of [] (Some c) = (Err (Lexer c), record { remaining = []; pending = Some c })
pop_of (t ∷ []) None = (Ok t, record { remaining = []; pending = None })
pop_of (t ∷ []) (Some c) = (Err (Lexer c), record { remaining = t ∷ []; pending = Some c })
pop_of (t ∷ u ∷ ts) pending = (Ok t, record { remaining = u ∷ ts; pending = pending })

abbrev pub pop : ParserState → Step TokenValue
pop s = pop_of s.remaining s.pending

-- the first token, which isn't taken
abbrev pub look : ParserState → Option TokenValue
look s = slice_get s.remaining 0

-- if a step returned a value x, what `f` makes of x and of the state after it; otherwise the error
abbrev pub and_then : {A B : Type 0} → Step A → (A → ParserState → Step B) → Step B
and_then (Ok x, s) f = f x s
and_then (Err e, s) f = (Err e, s)

-- the value of a token that was taken. A token without a value is unexpected
abbrev pub valued : {A : Type 0} → Option A → TokenValue → ParserState → Step A
valued (Some a) t s = (Ok a, s)
valued None t s = (Err (UnexpectedToken t), s)

-- takes the first token, which must have a value
abbrev pub expect : {A : Type 0} → (TokenValue → Option A) → ParserState → Step A
expect value s = and_then (pop s) (λ t. valued (value t) t)

abbrev pub number_of : TokenValue → Option ℕ
number_of (Numeric n) = Some n
number_of _ = None

abbrev pub component_of : TokenValue → Option (Option ℕ)
component_of (Numeric n) = Some (Some n)
component_of t = if is_wildcard t then Some None else None

abbrev pub dot_of : TokenValue → Option (Unit {0})
dot_of Dot = Some tt
dot_of _ = None

-- takes a number
abbrev pub numeric : ParserState → Step ℕ
numeric s = expect number_of s

-- takes a number, or a wildcard, which is returned as `None`
abbrev pub component : ParserState → Step (Option ℕ)
component s = expect component_of s

-- takes a dot and a number
abbrev pub dot_numeric : ParserState → Step ℕ
dot_numeric s = and_then (expect dot_of s) (λ _. numeric)

-- returns a component, and whether it is a wildcard
abbrev pub with_wildcard : Option ℕ → ParserState → Step (Option ℕ × Bool)
with_wildcard n s = (Ok (n, not (is_some n)), s)

abbrev pub dot_component_at : Option TokenValue → ParserState → Step (Option ℕ × Bool)
dot_component_at (Some Dot) s = and_then (and_then (pop s) (λ _. component)) with_wildcard
dot_component_at _ s = (Ok (None, false), s)

-- takes a dot and a component, if a dot comes next
abbrev pub dot_component : ParserState → Step (Option ℕ × Bool)
dot_component s = dot_component_at (look s) s

-- takes all tokens that remain. If a character is pending, it stays, and is returned as the error
abbrev pub tail_of : List TokenValue → Option ℕ → Step (List TokenValue)
tail_of ts None = (Ok ts, record { remaining = []; pending = None })
tail_of ts (Some c) = (Err (Lexer c), record { remaining = []; pending = Some c })

abbrev pub tail : ParserState → Step (List TokenValue)
tail s = tail_of s.remaining s.pending
