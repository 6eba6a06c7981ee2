-- The state that a lexer has left at the start, after each item, and after an error.
use Rattle.std.proofs.Common.{◌≡◌, ℕ, ◌+◌, ◌≤◌, Bool, true, false, List, [], ◌∷◌, length, drop, sym, refl, ap, inl, arith, length-drop}
use Rattle.std.proofs.Common.{Some, None, Ok}
use Rattle.std.specs.Prelude.{slice_get, chars}
use Rattle.std.proofs.lemmas.Str.{chars-nil}
use Rattle.semver_tokens.specs.Tokens.{TokenValue}
use Rattle.semver_tokens.specs.ParserState.{ParserState, IsStateOf, IsStateFrom}
use Rattle.semver_tokens.specs.Steps.Scanning.{first_token, scan, state_from, state_left}
use Rattle.semver_tokens.specs.Views.{items_left}
use Rattle.semver_tokens.proofs.FirstToken.{IsFound, first_token-found}
use Rattle.semver_tokens.proofs.TokenLists.{scan_finds, scan_is, tokens_cons, scan-none, length-tokens}

-- at the start, it is the state of the text
pub state_at_start : (text : List ℕ) → IsStateOf text (state_left text 0 false)
unfolding state_left state_from
state_at_start text = ((scan (length text) text 0).1, scan_finds text (length text) 0 (omega arith), refl)

-- at the offset `place`, it is the state of the text from there on
pub state_at_place : (text : List ℕ) (place : ℕ) → IsStateFrom (drop place text) (state_left text place false)
unfolding state_left state_from
state_at_place text place = record {
  input = text;
  place = place;
  rest = (scan (length text) text place).1;
  begins = refl;
  tokens = scan_finds text (length text) place (omega arith);
  pending = refl;
}

-- after the bad character, it is the state of an empty text
pub state_after_error : (text : List ℕ) (place : ℕ) → IsStateFrom [] (state_left text place true)
unfolding state_left
state_after_error text place = record {
  input = [];
  place = 0;
  rest = [];
  begins = refl;
  tokens = record { spelled = refl; in_place = tt; none_merge = tt; ended = inl refl };
  pending = sym (ap (λ cs. slice_get cs 0) chars-nil);
}

-- the state of a text is the state at the offset 0
pub from_start : (text : List ℕ) (s : ParserState) → IsStateOf text s → IsStateFrom text s
from_start text s w = record { input = text; place = 0; rest = w.0; begins = refl; tokens = w.1; pending = w.2 }

module _ (text : List ℕ) (place : ℕ) where
  -- if a token begins at the offset, it is the first item, and the items after it follow
  pub items_left-token : (t : TokenValue) (n : ℕ) → first_token place (drop place text) ≡ Some (t, n)
      → items_left (state_left text place false) ≡ Ok t ∷ items_left (state_left text (place + n) false)
  unfolding state_left state_from
  items_left-token t n e =
      let f : IsFound text place (drop place text) t n = first_token-found text place (drop place text) t n refl e in
      let all : scan (length text) text place ≡ (t ∷ (scan (length text) text (place + n)).0, (scan (length text) text (place + n)).1)
      = scan_is text (length text) place _ _ (tokens_cons text place t n _ _ f (scan_finds text (length text) (place + n) (omega arith)))
      (omega arith) in
      ap (λ p. items_left (record { remaining = p.0; pending = slice_get (chars p.1) 0 })) all

  -- if no token begins at the offset, the only item is the error for the character there, if there is
  -- one
  pub items_left-rest : first_token place (drop place text) ≡ None
      → items_left (state_left text place false) ≡ items_left (record { remaining = []; pending = slice_get (chars (drop place text)) 0 })
  unfolding state_left state_from
  items_left-rest none =
      ap (λ p. items_left (record { remaining = p.0; pending = slice_get (chars p.1) 0 }))
      (scan-none text (length text) place none)

-- after the bad character, no item is left
pub items_left-failed : (text : List ℕ) (place : ℕ) → items_left (state_left text place true) ≡ []
unfolding state_left
items_left-failed text place = refl

pub length_left : (text : List ℕ) (place : ℕ) (failed : Bool) → length (state_left text place failed).remaining ≤ length text
unfolding state_left state_from
length_left text place true = omega arith
length_left text place false =
    omega (arith, length-tokens text place _ _ (scan_finds text (length text) place (omega arith)), length-drop place text)
