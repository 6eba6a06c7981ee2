-- The states of a lexer before and after a call of `next`, as its result determines them.
use Rattle.std.proofs.Common.{◌≡◌, ℕ, List, [], ◌∷◌, Some, None, Option, Result, Ok, Err, sym, refl, ap, ◌∙◌}
use Rattle.std.specs.Iterator.{YieldsFirstBy}
use Rattle.semver_tokens.specs.Tokens.{TokenValue}
use Rattle.semver_tokens.specs.ParserState.{ParserState}
use Rattle.semver_tokens.specs.Views.{item_value, items_left}
use Rattle.semver_tokens.specs.declared.lexer.Token.{Token}
use Rattle.semver_tokens.specs.declared.lexer.Error.{Error}
use Rattle.semver_tokens.specs.declared.lexer.Error.TheVariants.{UnexpectedChar}

-- the state of a lexer that has these items left
abbrev state_of : List (Result TokenValue Error) → ParserState
state_of [] = record { remaining = []; pending = None }
state_of ((Ok t) ∷ items) = record { remaining = t ∷ (state_of items).remaining; pending = (state_of items).pending }
state_of ((Err (UnexpectedChar c)) ∷ items) = record { remaining = []; pending = Some c }

state_of-items : (ts : List TokenValue) (pending : Option ℕ)
    → state_of (items_left (record { remaining = ts; pending = pending })) ≡ record { remaining = ts; pending = pending }
state_of-items [] None = refl
state_of-items [] (Some c) = refl
state_of-items (t ∷ ts) pending =
    ap (λ s. record { remaining = t ∷ s.remaining; pending = s.pending }) (state_of-items ts pending)

same_state : (s t : ParserState) → items_left s ≡ items_left t → s ≡ t
same_state s t e = sym (state_of-items s.remaining s.pending) ∙ ap state_of e ∙ state_of-items t.remaining t.pending

-- the states if `next` returns nothing, and below, the state before it if it returns a token or an
-- error
pub state_at_none : (s u : ParserState) → (items_left s ≡ []) × (items_left u ≡ [])
    → (s ≡ record { remaining = []; pending = None }) × (u ≡ record { remaining = []; pending = None })
state_at_none s u e = (same_state s _ e.0, same_state u _ e.1)

pub state_at_token : (s u : ParserState) (t : TokenValue) → items_left s ≡ Ok t ∷ items_left u
    → s ≡ record { remaining = t ∷ u.remaining; pending = u.pending }
state_at_token s u t e = same_state s _ e

pub state_at_error : (s u : ParserState) (c : ℕ) → items_left s ≡ Err (UnexpectedChar c) ∷ items_left u
    → s ≡ record { remaining = []; pending = Some c }
state_at_error s u c e = sym (state_of-items s.remaining s.pending) ∙ ap state_of e

-- if `next` returns no token, no token remained
pub none_remains : (s u : ParserState) (r : Option (Result Token Error)) → YieldsFirstBy item_value items_left s r u
    → ((t : Token) → ¬ (r ≡ Some (Ok t))) → s.remaining ≡ []
none_remains s u None gives other = ap (λ z. z.remaining) (state_at_none s u gives).0
none_remains s u (Some (Ok t)) gives other = absurd (other t refl)
none_remains s u (Some (Err (UnexpectedChar c))) gives other = ap (λ z. z.remaining) (state_at_error s u c gives)

pub ended_state : (s : ParserState) (p : Option ℕ) → s.remaining ≡ [] → s.pending ≡ p → s ≡ record { remaining = []; pending = p }
ended_state s p none same = (λ i. record { remaining = none i; pending = same i })
