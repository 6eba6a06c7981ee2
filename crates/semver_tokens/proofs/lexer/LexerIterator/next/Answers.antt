use Rattle.std.proofs.Common.{IsCharBoundary, Some, None, ◌≡◌, ℕ, ◌+◌, length, drop, true, false, List, [], ◌∷◌, Ok, Err, IsUtf8, sym, ◌∙◌}
use Rattle.std.proofs.Common.{ap, subst, arith}
use Rattle.std.specs.Prelude.{slice_get, chars, Option, Result}
use Rattle.semver_tokens.specs.Tokens.{TokenValue}
use Rattle.semver_tokens.specs.declared.lexer.Error.{Error}
use Rattle.semver_tokens.specs.declared.lexer.Error.TheVariants.{UnexpectedChar}
use Rattle.semver_tokens.specs.Steps.Scanning.{first_token, state_left}
use Rattle.semver_tokens.specs.Views.{token_value, items_left}
use Rattle.semver_tokens.proofs.Cuts.{cut_after_token}
use Rattle.semver_tokens.proofs.LexerSteps.{items_left-token, items_left-rest, items_left-failed}
use Rattle.semver_tokens.proofs.lexer.LexerIterator.next.Goals as goal
use Rattle.semver_tokens.proofs.lexer.LexerIterator.next.Goals.{In-Some, In_default}

pub returns-then-self-clause-steps : goal.returns-then-self-clause-steps
returns-then-self-clause-steps c =
    let none : items_left c.args.self.now ≡ [] = rw (← c.self.view_is, c.if-self.true) (items_left-failed _ _) in (none, none)

-- the token at the position
token_here : (c : In-Some)
    → first_token c.self.inside.position (drop c.self.inside.position c.self.inside.input.now)
    ≡ Some (token_value c.in-Some.token, c.in-Some.len)
token_here c = ap (first_token c.self.inside.position) (sym c.range_from-rest.ensures.value) ∙ sym c.in-Some.ensures

cut_after : (c : In-Some) → IsCharBoundary c.self.inside.input.now (c.self.inside.position + c.in-Some.len)
cut_after c =
    cut_after_token c.self.inside.input.now c.self.inside.position _ _ c.self.invariant.0
    (subst IsUtf8 c.range_from-rest.ensures.value c.range_from-rest.utf8) (token_here c)

-- the items that are left are this token and the items after it
item_here : (c : In-Some)
    → items_left c.args.self.now ≡ Ok (token_value c.in-Some.token)
    ∷ items_left (state_left c.self.inside.input.now (c.self.inside.position + c.in-Some.len) false)
item_here c = rw (← c.self.view_is, c.if-self.false) (items_left-token _ _ _ _ (token_here c))

pub overflow_add-self : goal.overflow_add-self
overflow_add-self c = omega (arith, (cut_after c).0)

pub invariant_of-self : goal.invariant_of-self
invariant_of-self c = cut_after (goal.at.invariant_of-self c).In-Some

pub returns-in-Some-clause-steps : goal.returns-in-Some-clause-steps
returns-in-Some-clause-steps c = rw c.if-self.false (item_here (goal.at.returns-in-Some-clause-steps c).In-Some)

pub returns-in-Some-clause-goes : goal.returns-in-Some-clause-goes
returns-in-Some-clause-goes c =
    let e = ap length (item_here (goal.at.returns-in-Some-clause-goes c).In-Some) in
    record { on = λ _. (tt, tt, rw c.if-self.false (omega (arith, e))); keeps = tt; rests = λ _. tt }

-- no token begins at the position, so the only item that is left is the error for the character
-- there, if there is one
rest_here : (c : In_default) (o : Option ℕ) → o ≡ slice_get (chars c.range_from-rest.result.now) 0
    → items_left c.args.self.now ≡ items_left (record { remaining = []; pending = o })
rest_here c o e =
    let none = ap (first_token c.self.inside.position) (sym c.range_from-rest.ensures.value) ∙ sym c.in_default.ensures in
    rw (← c.self.view_is, c.if-self.false)
    (items_left-rest _ _ none ∙ ap (λ p. items_left (record { remaining = []; pending = p }))
    (ap (λ bs. slice_get (chars bs) 0) (sym c.range_from-rest.ensures.value) ∙ sym e))

pub returns-in_err-character-clause-steps : goal.returns-in_err-character-clause-steps
returns-in_err-character-clause-steps c =
    let none = rest_here (goal.at.returns-in_err-character-clause-steps c).In_default None
    (c.in_err-character.ensures.steps.2 ∙ ap (λ bs. slice_get (chars bs) 0) c.chars.ensures.rest) in
    rw c.from_residual.ensures (none, none)

-- the error for that character is the only item that is left
bad_here : (c : goal.After-self-2-1)
    → items_left c.args.self.now ≡ Err (UnexpectedChar c.in_ok-character.character)
    ∷ items_left (state_left c.self.inside.input.now c.self.inside.position true)
bad_here c =
    rest_here (goal.at.returns-clause-steps c).In_default (Some c.in_ok-character.character)
    (c.in_ok-character.ensures.steps.2 ∙ ap (λ bs. slice_get (chars bs) 0) c.chars.ensures.rest)
    ∙ ap (λ (items : List (Result TokenValue Error)). Err (UnexpectedChar c.in_ok-character.character) ∷ items)
    (sym (items_left-failed c.self.inside.input.now c.self.inside.position))

pub returns-clause-steps : goal.returns-clause-steps
returns-clause-steps c = bad_here c

pub returns-clause-goes : goal.returns-clause-goes
returns-clause-goes c =
    let e = ap length (bad_here c) in
    record { on = λ _. (tt, tt, omega (arith, e)); keeps = tt; rests = λ _. tt }
