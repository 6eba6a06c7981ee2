-- Reading one token ahead from a lexer, as the parser does.
use Rattle.std.proofs.Common.{◌≡◌, ℕ, List, [], ◌∷◌, ◌++◌, length, Some, None, Option, Result, Ok, Err, sym, refl, ap, ◌∙◌, ◌⊎◌, inl}
use Rattle.std.proofs.Common.{inr, IsUtf8, ◌<◌, arith, append_assoc}
use Rattle.std.proofs.lemmas.List.{map_push}
use Rattle.std.specs.Prelude.{map, IfNone, slice_get, chars, encode_utf8_all}
use Rattle.std.specs.Option.{option_transpose}
use Rattle.std.proofs.lemmas.Str.{chars-nil, encodes-chars}
use Rattle.std.specs.Iterator.{YieldsFirstBy}
use Rattle.semver_tokens.specs.Tokens.{TokenValue, IsBadStart, AreTokensFrom}
use Rattle.semver_tokens.specs.ParserState.{ParserState, IsStateOf}
use Rattle.semver_tokens.specs.ParserSteps.{Step, pop, tail}
use Rattle.semver_tokens.proofs.TokenLists.{same_tokens}
use Rattle.semver_tokens.proofs.LexerItems.{state_at_none, state_at_token, state_at_error}
use Rattle.semver_tokens.specs.Views.{token_value, item_value, items_left}
use Rattle.semver_tokens.specs.ParserViews.{ahead}
use Rattle.semver_tokens.specs.declared.lexer.Token.{Token}
use Rattle.semver_tokens.specs.declared.lexer.Error.{Error}
use Rattle.semver_tokens.specs.declared.lexer.Error.TheVariants.{UnexpectedChar}

-- ---- the results of `next` and `transpose`

pub record IsAhead (s : ParserState) (o : Option Token) (u : ParserState) : Type 0 where
  pub state : s ≡ ahead o u
  pub none : IfNone o (u ≡ record { remaining = []; pending = None })

pub next_ok : (s u : ParserState) (r : Option (Result Token Error)) (o : Option Token) → YieldsFirstBy item_value items_left s r u
    → option_transpose r ≡ Ok o → IsAhead s o u
next_ok s u None o gives e =
    let is : None ≡ o = cc in
    let q = state_at_none s u gives in rw (← is) (record { state = cc (q.0, q.1); none = q.1 })
next_ok s u (Some (Ok t)) o gives e =
    let is : Some t ≡ o = cc in rw (← is) (record { state = state_at_token s u (token_value t) gives; none = tt })
next_ok s u (Some (Err x)) o gives e = cc

pub next_err : (s u : ParserState) (r : Option (Result Token Error)) (x : Error) → YieldsFirstBy item_value items_left s r u
    → option_transpose r ≡ Err x → (c : ℕ) × (x ≡ UnexpectedChar c) × (s ≡ record { remaining = []; pending = Some c })
next_err s u None x gives e = cc
next_err s u (Some (Ok t)) x gives e = cc
next_err s u (Some (Err (UnexpectedChar c))) x gives e = (c, cc, state_at_error s u c gives)

-- if there is no token ahead, no token remains
pub remaining_none : {T : Type 0} (o : Option T) (u : ParserState) → IfNone o (u ≡ record { remaining = []; pending = None })
    → IfNone o (u.remaining ≡ [])
remaining_none None u e = ap (λ s. s.remaining) e
remaining_none (Some t) u e = tt

-- `pop` returns the first token, and the token that was read ahead is then the first one
pub pop_first : (s u : ParserState) (first : TokenValue) (o : Option Token) → IsAhead s o u
    → ◌≡◌ {A = Step TokenValue} (Ok first, ahead o u) (pop (record { remaining = first ∷ s.remaining; pending = s.pending }))
pop_first s u first o a = rw a.state (at_ahead o a.none)
  where
    at_ahead : (o : Option Token) → IfNone o (u ≡ record { remaining = []; pending = None })
        → ◌≡◌ {A = Step TokenValue} (Ok first, ahead o u) (pop (record { remaining = first ∷ (ahead o u).remaining; pending = u.pending }))
    at_ahead None none = rw none refl
    at_ahead (Some t) none = refl

-- ---- the start

-- a text with no tokens, but a pending character, is a bad start
pub bad_start_at_error : (text : List ℕ) (c : ℕ) → IsStateOf text (record { remaining = []; pending = Some c }) → IsBadStart text
bad_start_at_error text c state = at_rest state.0 state.1.ended state.1.spelled state.2
  where
    at_rest : (rest : List ℕ) → (rest ≡ []) ⊎ IsBadStart rest → text ≡ rest → Some c ≡ slice_get (chars rest) 0 → IsBadStart text
    at_rest rest (inr bad) same pending = rw same bad
    at_rest rest (inl empty) same pending = let none : None ≡ Some c = cc chars-nil in cc

-- a text whose first token was read ahead, or that has neither a token nor a pending character, isn't
-- a bad start
pub no_bad_start : (text : List ℕ) (o : Option Token) (u : ParserState) → IsUtf8 text
    → IfNone o (u ≡ record { remaining = []; pending = None }) → IsStateOf text (ahead o u) → ¬ (IsBadStart text)
no_bad_start text o u utf8 none state bad =
    let here : AreTokensFrom text 0 [] text = record { spelled = refl; in_place = tt; none_merge = tt; ended = inr bad } in
    let same = same_tokens text 0 _ _ _ _ here state.1 in
    no_token o none same.0 (ap (λ l. slice_get (chars l) 0) same.1 ∙ sym state.2)
  where
    no_char_empty : (cs bs : List ℕ) → encode_utf8_all cs ≡ bs → 0 < length bs → slice_get cs 0 ≡ None → ⊥
    no_char_empty [] bs e some n = omega (arith, ap length e)
    no_char_empty (c ∷ cs) bs e some n = cc

    no_token : (o : Option Token) → IfNone o (u ≡ record { remaining = []; pending = None }) → [] ≡ (ahead o u).remaining
        → slice_get (chars text) 0 ≡ u.pending → ⊥
    no_token (Some t) none empty no_char = cc
    no_token None none empty no_char = no_char_empty (chars text) text (encodes-chars text utf8) bad.0 (cc)

-- ---- the last token

-- if no token remains, and `next` returns no error, no character is pending
pub none_pending : (s u : ParserState) (r : Option (Result Token Error)) → YieldsFirstBy item_value items_left s r u → s.remaining ≡ []
    → ((x : Error) → ¬ (option_transpose r ≡ Err x)) → s.pending ≡ None
none_pending s u None gives none fine = cc ((state_at_none s u gives).0)
none_pending s u (Some (Ok t)) gives none fine = cc (state_at_token s u (token_value t) gives)
none_pending s u (Some (Err x)) gives none fine = absurd (fine x refl)

-- after one more token is gathered, the gathered tokens and those that remain are still all tokens
pub gathered_more : (ts us : List Token) (t : Token) (s u : ParserState) (all : List TokenValue) → us ≡ ts ++ t ∷ []
    → s ≡ record { remaining = token_value t ∷ u.remaining; pending = u.pending } → map token_value ts ++ s.remaining ≡ all
    → map token_value us ++ u.remaining ≡ all
gathered_more ts us t s u all pushed one sofar =
    cc (map_push token_value ts t, append_assoc (map token_value ts) (token_value t ∷ []) u.remaining)

-- the result of `tail` if no character is pending
pub tail_gives : (s : ParserState) (ts : List TokenValue) (o : Option Token) (end : ParserState) → ts ≡ s.remaining → s.pending ≡ None
    → o ≡ None → end ≡ record { remaining = []; pending = None } → ◌≡◌ {A = Step (List TokenValue)} (Ok ts, ahead o end) (tail s)
tail_gives s ts o end all no_pending no_token at_end = rw (all, no_token, at_end, no_pending) refl

pub none_is_no_token : (r : Option (Result Token Error)) → r ≡ None → (t : Token) → ¬ (r ≡ Some (Ok t))
none_is_no_token r e t f = cc

pub error_is_no_token : (r : Option (Result Token Error)) (x : Error) → r ≡ Some (Err x) → (t : Token) → ¬ (r ≡ Some (Ok t))
error_is_no_token r x e t f = cc
