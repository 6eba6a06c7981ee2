-- Reading tokens of a shape one after another: the tokens taken so far lead to a state of an
-- automaton, and the next token is taken if it leads on, that is, if the automaton has a step for it.
use Rattle.std.proofs.Common.{◌≡◌, ℕ, ◌<◌, ◌≤◌, Bool, true, false, List, [], ◌∷◌, ◌++◌, length, Some, None, Option, Result, Ok, Err, take}
use Rattle.std.proofs.Common.{sym, refl, ap, ◌∙◌, ◌⊎◌, inl, inr, ⊎_elim, arith, append-nil, append_assoc, length-append}
use Rattle.std.specs.Prelude.{option_and_then, option_map, slice_get}
use Rattle.std.proofs.lemmas.List.{take_at, append_cancel_left}
use Rattle.std.proofs.lemmas.Option.{same_Some, option_and_then_some}
use Rattle.semver_tokens.specs.Tokens.{TokenValue}
use Rattle.semver_tokens.specs.ParserState as spec
use Rattle.semver_tokens.specs.ParserState.{ParserState, ErrorValue}
use Rattle.semver_tokens.specs.ParserSteps.{Step, pop, pop_of, look, and_then, valued, expect}
use Rattle.semver_tokens.specs.Steps.Taking.{run, IsTaken, Gives}
use Rattle.semver_tokens.specs.VersionReading.{Answers, IsLongestFront, IsWhole, IsEndPart, MayRunOut, Reads}
use Rattle.semver_tokens.specs.VersionReading.{Refuses, inner_texts, last_alone}
use Rattle.semver_tokens.proofs.FirstToken.{option_cases}

module _ {S : Type 0} (step : S → TokenValue → Option S) where
  -- the next token, if there is one, doesn't lead on
  abbrev pub Stops : S → List TokenValue → Type 0
  Stops s [] = Unit {0}
  Stops s (t ∷ ts) = step s t ≡ None

  pub run-append : (s u : S) (ts us : List TokenValue) → run step s ts ≡ Some u → run step s (ts ++ us) ≡ run step u us
  run-append s u [] us e = ap (λ v. run step v us) (same_Some s u e)
  run-append s u (t ∷ ts) us e = option_and_then_some _ (step s t) u e (λ v leads on. rw leads (run-append v u ts us on))

  -- if a list of tokens leads on, so does each of its prefixes
  pub run_front : (s u : S) (ts us : List TokenValue) → run step s (ts ++ us) ≡ Some u → (v : S) × (run step s ts ≡ Some v)
  run_front s u [] us e = (s, refl)
  run_front s u (t ∷ ts) us e = option_and_then_some _ (step s t) u e (λ v leads on. rw leads (run_front v u ts us on))

  one_more_leads : (s p q : S) (ts : List TokenValue) (t : TokenValue) → run step s ts ≡ Some p → step p t ≡ Some q
      → run step s (ts ++ t ∷ []) ≡ Some q
  one_more_leads s p q ts t leads on = run-append s p ts (t ∷ []) leads ∙ ap (option_and_then (λ v. Some v)) on

  -- if the token after a prefix doesn't lead on, no longer prefix does
  stopped_is_longest : (s p q : S) (front rest longer more : List TokenValue) → longer ++ more ≡ front ++ rest → run step s front ≡ Some p
      → Stops p rest → run step s longer ≡ Some q → length longer ≤ length front
  stopped_is_longest s p q front rest [] more same leads stops on = omega arith
  stopped_is_longest s p q [] [] (x ∷ longer) more same leads stops on = cc
  stopped_is_longest s p q [] (t ∷ rest) (x ∷ longer) more same leads stops on =
      option_and_then_some _ (step s x) q on (λ v here _. let t_is : x ≡ t = cc in let s_is = same_Some s p leads in cc)
  stopped_is_longest s p q (t ∷ front) rest (x ∷ longer) more same leads stops on =
      option_and_then_some _ (step s x) q on (λ v here beyond. option_and_then_some _ (step s t) p leads (λ w there after.
      let x_is : x ≡ t = cc in
      let w_is : w ≡ v = cc in
      let shorter = stopped_is_longest v p q front rest longer more (cc) (rw w_is at after) stops beyond in
      omega (arith, shorter)))

-- ---- the result of `pop`

-- the token x was taken from the state s, and the state t is left
pub record Pops (s : ParserState) (x : TokenValue) (t : ParserState) : Type 0 where
  pub first : s.remaining ≡ x ∷ t.remaining
  pub pending : t.pending ≡ s.pending
  pub known : (0 < length t.remaining) ⊎ (t.pending ≡ None)

-- the error that is returned instead of a token, by the tokens that remain and the pending character
pub data Refused : List TokenValue → Option ℕ → ErrorValue → Type 0 where
  at_end : Refused [] None spec.UnexpectedEnd
  at_nothing : (c : ℕ) → Refused [] (Some c) (spec.Lexer c)
  at_last : (x : TokenValue) (c : ℕ) → Refused (x ∷ []) (Some c) (spec.Lexer c)

abbrev pub Popped : ParserState → Step TokenValue → Type 0
Popped s d = Gives (λ e t. Refused s.remaining s.pending e × (t ≡ s)) (Pops s) d

pub popped : (s : ParserState) → Popped s (pop s)
popped s = at_tokens s.remaining s.pending
  where
    at_tokens : (ts : List TokenValue) (pending : Option ℕ) → Popped (record { remaining = ts; pending = pending }) (pop_of ts pending)
    at_tokens [] None = (at_end, refl)
    at_tokens [] (Some c) = (at_nothing c, refl)
    at_tokens (x ∷ []) None = record { first = refl; pending = refl; known = inr refl }
    at_tokens (x ∷ []) (Some c) = (at_last x c, refl)
    at_tokens (x ∷ y ∷ ts) pending = record { first = refl; pending = refl; known = inl (omega arith) }

-- an automaton that accepts the token lists of a shape and no others. Its start doesn't accept, and
-- from each of its states some tokens lead to one that accepts
pub record IsReadBy {S : Type 0} (step : S → TokenValue → Option S) (accepts : S → Bool) (start : S)
    (Shape : List TokenValue → Type 0) : Type 0 where
  pub shape : (ts : List TokenValue) (u : S) → run step start ts ≡ Some u → accepts u ≡ true → Shape ts
  pub read : (ts : List TokenValue) → Shape ts → (u : S) × (run step start ts ≡ Some u) × (accepts u ≡ true)
  pub wants : accepts start ≡ false
  pub live : (s : S) → (more : List TokenValue) × (u : S) × (run step s more ≡ Some u) × (accepts u ≡ true)

-- ---- steps one after another

pub then_given : {A B : Type 0} (F : ErrorValue → ParserState → Type 0) (P : A → ParserState → Type 0) (Q : B → ParserState → Type 0)
    (d : Step A) (f : A → ParserState → Step B)
    → Gives F P d → ((x : A) (t : ParserState) → P x t → Gives F Q (f x t)) → Gives F Q (and_then d f)
then_given F P Q (Ok x, t) f given more = more x t given
then_given F P Q (Err e, t) f given more = given

module _ {S : Type 0} {step : S → TokenValue → Option S} {accepts : S → Bool} {start : S} {Shape : List TokenValue → Type 0}
    (r : IsReadBy step accepts start Shape) where
  -- if a prefix leads on, and the token after it doesn't, it is the longest prefix with which a list
  -- of the shape begins
  pub longest_front : (ts front rest : List TokenValue) (s : S) → ts ≡ front ++ rest → run step start front ≡ Some s → Stops step s rest
      → IsLongestFront Shape ts front rest
  longest_front ts front rest s split leads stops = record {
    split = split;
    begins = (let l = r.live s in (l.0, r.shape (front ++ l.0) l.1 (run-append step start s front l.0 leads ∙ l.2) l.3));
    longest =
        λ longer more e b. let whole = r.read (longer ++ b.0) b.1 in
        let on = run_front step start whole.0 longer b.0 whole.1 in
        stopped_is_longest step start s on.0 front rest longer more (sym e ∙ split) leads stops on.1;
  }

  -- the token after the longest prefix doesn't lead on
  pub longest_stops : (ts front rest : List TokenValue) → IsLongestFront Shape ts front rest
      → (s : S) × (run step start front ≡ Some s) × Stops step s rest
  longest_stops ts front rest w =
      let whole = r.read (front ++ w.begins.0) w.begins.1 in
      let leads = run_front step start whole.0 front w.begins.0 whole.1 in
      (leads.0, leads.1, at_rest rest leads.0 leads.1 w.split)
    where
      at_rest : (rest : List TokenValue) (s : S) → run step start front ≡ Some s → ts ≡ front ++ rest → Stops step s rest
      at_rest [] s leads split = tt
      at_rest (t ∷ rest) s leads split =
          option_cases (step s t) (λ none. none)
          (λ u on. absurd (let l = r.live u in
          let front_on = one_more_leads step start s u front t leads on in
          let longer = w.longest (front ++ t ∷ []) rest (cc (append_assoc front (t ∷ []) rest))
          (l.0, r.shape _ l.1 (run-append step start u (front ++ t ∷ []) l.0 front_on ∙ l.2) l.3) in
          omega (arith, longer, length-append front (t ∷ []))))

  -- reading may run out of memory if a prefix that leads on contains something that is allocated,
  -- since the longest prefix contains it, too
  pub runs_out_after : {Holds : List TokenValue → Type 0}
      → ((front : List TokenValue) (t : TokenValue) → Holds front → Holds (front ++ t ∷ [])) → {s u : ParserState}
      → (front rest : List TokenValue) (p : S) → s.remaining ≡ front ++ rest
      → run step start front ≡ Some p → Holds front → IsEndPart s u → MayRunOut Shape Holds s u
  runs_out_after longer {s} front [] p split leads holds left =
      record { front = front; rest = []; longest = longest_front s.remaining front [] p split leads tt; holds = holds; left = left }
  runs_out_after longer {s} front (t ∷ rest) p split leads holds left =
      option_cases (step p t)
      (λ none. record {
        front = front;
        rest = t ∷ rest;
        longest = longest_front s.remaining front (t ∷ rest) p split leads none;
        holds = holds;
        left = left;
      })
      (λ q on. runs_out_after longer (front ++ t ∷ []) rest q (cc (append_assoc front (t ∷ []) rest))
      (one_more_leads step start p q front t leads on) (longer front t holds) left)

  -- tokens that lead to a state that doesn't accept don't have the shape
  pub not_whole : (front : List TokenValue) (s : S) → run step start front ≡ Some s → accepts s ≡ false → ¬ (Shape front)
  not_whole front s leads refuses shape = let q = r.read front shape in cc (q.1, q.2)

  -- ---- the tokens taken so far

  pub none_taken : (s : ParserState) → IsTaken step start s [] start s
  none_taken s = record { split = refl; leads = refl; pending = refl; known = inl refl }

  pub taken_more : {s t u : ParserState} {front : List TokenValue} {p q : S} {x : TokenValue} → IsTaken step start s front p t → Pops t x u
      → step p x ≡ Some q → IsTaken step start s (front ++ x ∷ []) q u
  taken_more {s} {t} {u} {front} {p} {q} {x} k pops leads = record {
    split = cc (append_assoc front (x ∷ []) u.remaining);
    leads = one_more_leads step start p q front x k.leads leads;
    pending = cc;
    known = inr pops.known;
  }

  -- ---- the ways in which reading ends

  module _ {V : Type 0} (Spells : V → List ℕ → Type 0) where
    -- an error is returned: the token after the prefix doesn't lead on, and the prefix isn't whole
    pub reads_error : {s u : ParserState} {e : ErrorValue} (front rest : List TokenValue) (p : S) → s.remaining ≡ front ++ rest
        → run step start front ≡ Some p → Stops step p rest → ¬ (IsWhole Shape front s.pending rest)
        → Refuses s.remaining s.pending rest e u.remaining → u.pending ≡ s.pending → Reads Shape Spells s (Err e) u
    reads_error {s} front rest p split leads stops broken refuses pending = record {
      front = front;
      rest = rest;
      longest = longest_front s.remaining front rest p split leads stops;
      answer = record { broken = broken; refuses = refuses };
      pending = pending;
    }

    module _ {s t : ParserState} {front : List TokenValue} {p : S} (k : IsTaken step start s front p t) where
      -- a value is returned: the state accepts, and the next token doesn't lead on
      unfoldable pub reads_value : (v : V) → accepts p ≡ true → Stops step p t.remaining → Spells v (inner_texts front)
          → Reads Shape Spells s (Ok v) t
      reads_value v takes stops spelled = record {
        front = front;
        rest = t.remaining;
        longest = longest_front s.remaining front t.remaining p k.split k.leads stops;
        answer = record {
          whole = record { shape = r.shape front p k.leads takes; known = known k.known };
          spelled = spelled;
          leaves = refl;
        };
        pending = k.pending;
      }
        where
          known : (front ≡ []) ⊎ ((0 < length t.remaining) ⊎ (t.pending ≡ None)) → (0 < length t.remaining) ⊎ (s.pending ≡ None)
          known (inr (inl some)) = inl some
          known (inr (inr none)) = inr (cc)
          known (inl empty) = let at_start : run step start front ≡ Some start = rw empty refl in cc (k.leads, r.wants, takes)

      -- `UnexpectedToken` is returned: the state doesn't accept, and the next token doesn't lead on
      pub reads_unexpected : {x : TokenValue} {u : ParserState} → Pops t x u → accepts p ≡ false → step p x ≡ None
          → Reads Shape Spells s (Err (spec.UnexpectedToken x)) u
      reads_unexpected {x} {u} pops refuses none =
          reads_error front (x ∷ u.remaining) p (cc) k.leads none (λ whole. not_whole front p k.leads refuses whole.shape)
          (rw (← k.pending, ← pops.pending) (refused u.remaining u.pending pops.known)) (cc)
        where
          refused : (left : List TokenValue) (pending : Option ℕ) → (0 < length left) ⊎ (pending ≡ None)
              → Refuses s.remaining pending (x ∷ left) (spec.UnexpectedToken x) left
          refused left None known = (refl, refl)
          refused [] (Some c) (inl h) = absurd (omega (arith, h))
          refused [] (Some c) (inr h) = cc
          refused (y ∷ left) (Some c) known = (refl, refl)

      -- the error of `pop` is returned: the state doesn't accept, or the next token would lead on
      pub reads_stuck : {e : ErrorValue} → Refused t.remaining t.pending e
          → (accepts p ≡ false) ⊎ ((x : TokenValue) × (q : S) × (look t ≡ Some x) × (step p x ≡ Some q)) → Reads Shape Spells s (Err e) t
      reads_stuck {e} refused way = at_refusal t.remaining t.pending e refused k.split k.pending k.known way
        where
          last_of : (front : List TokenValue) {x : TokenValue} → last_alone (front ++ x ∷ []) ≡ x ∷ []
          last_of [] = refl
          last_of (x ∷ []) = refl
          last_of (x ∷ y ∷ front) = last_of (y ∷ front)

          -- a prefix without a token after it isn't whole if a character is pending
          not_known : {front : List TokenValue} (c : ℕ) → Some c ≡ s.pending → ¬ (IsWhole Shape front s.pending [])
          not_known c same whole = ⊎_elim (λ some. omega (arith, some)) (λ none. cc) whole.known

          at_refusal : (rem : List TokenValue) (pending : Option ℕ) (e : ErrorValue) → Refused rem pending e → s.remaining ≡ front ++ rem
              → pending ≡ s.pending → (front ≡ []) ⊎ ((0 < length rem) ⊎ (pending ≡ None))
              → (accepts p ≡ false) ⊎ ((x : TokenValue) × (q : S) × (slice_get rem 0 ≡ Some x) × (step p x ≡ Some q))
              → Reads Shape Spells s (Err e) (record { remaining = rem; pending = pending })
          at_refusal _ _ _ at_end split same known (inl wants) =
              reads_error front [] p split k.leads tt (λ whole. not_whole front p k.leads wants whole.shape) (rw (← same) (refl, refl)) same
          at_refusal _ _ _ at_end split same known (inr next) = cc (next.2)
          at_refusal _ _ _ (at_nothing c) split same (inl empty) way =
              reads_error front [] p split k.leads tt (not_known c same) (rw (← same, split, empty) (refl, refl)) same
          at_refusal _ _ _ (at_nothing c) split same (inr (inl some)) way = absurd (omega (arith, some))
          at_refusal _ _ _ (at_nothing c) split same (inr (inr none)) way = cc
          at_refusal _ _ _ (at_last x c) split same known way =
              option_cases (step p x)
              (λ none. reads_error front (x ∷ []) p split k.leads none (λ whole. not_whole front p k.leads (wants none way) whole.shape)
              (rw (← same, split, last_of) (refl, refl)) same)
              (λ q on. reads_error (front ++ x ∷ []) [] q (split ∙ sym (append-nil (front ++ x ∷ [])))
              (one_more_leads step start p q front x k.leads on) tt (not_known c same) (rw (← same, split, last_of) (refl, refl)) same)
            where
              wants : step p x ≡ None → (accepts p ≡ false) ⊎ ((y : TokenValue) × (q : S) × (Some x ≡ Some y) × (step p y ≡ Some q))
                  → accepts p ≡ false
              wants none (inl refuses) = refuses
              wants none (inr next) = cc (next.2, next.3)

      -- ---- the steps of a parser

      -- `pop` takes a token or returns the error of reading, if the state doesn't accept or the next
      -- token leads on
      pop_given : (P : TokenValue → ParserState → Type 0)
          → (accepts p ≡ false) ⊎ ((x : TokenValue) × (q : S) × (look t ≡ Some x) × (step p x ≡ Some q))
          → ((x : TokenValue) (u : ParserState) → Pops t x u → P x u) → Gives (λ e u. Reads Shape Spells s (Err e) u) P (pop t)
      pop_given P way more = at_pop (pop t) (popped t)
        where
          at_pop : (d : Step TokenValue) → Popped t d → Gives (λ e u. Reads Shape Spells s (Err e) u) P d
          at_pop (Ok x, u) pops = more x u pops
          at_pop (Err e, u) w = rw w.1 (reads_stuck w.0 way)

      -- `pop` takes the next token, which leads on, or returns the error of reading
      pub next_given : (P : ParserState → Type 0) (x : TokenValue) (q : S) → look t ≡ Some x → step p x ≡ Some q
          → ((u : ParserState) → Pops t x u → IsTaken step start s (front ++ x ∷ []) q u → P u)
          → Gives (λ e u. Reads Shape Spells s (Err e) u) (λ y u. P u) (pop t)
      next_given P x q looked leads more =
          pop_given (λ y u. P u) (inr (x, q, looked, leads))
          (λ y u pops. let same : y ≡ x = same_Some y x (sym (ap (λ l. slice_get l 0) pops.first) ∙ looked) in
          let here : Pops t x u = rw same at pops in
          more u here (taken_more k here leads))

      -- `expect` takes a token with a value or returns the error of reading, if the state doesn't
      -- accept and only tokens with a value lead on
      pub expected_given : {A : Type 0} (P : A → ParserState → Type 0) (value : TokenValue → Option A) (next : S) → accepts p ≡ false
          → ((x : TokenValue) → look t ≡ Some x → step p x ≡ option_map (λ (a : A). next) (value x))
          → ((x : TokenValue) (a : A) (u : ParserState) → value x ≡ Some a → Pops t x u → IsTaken step start s (front ++ x ∷ []) next u
          → P a u) → Gives (λ e u. Reads Shape Spells s (Err e) u) P (expect value t)
      expected_given {A} P value next wants leads more =
          then_given _ _ _ (pop t) (λ x. valued (value x) x) (pop_given (Pops t) (inl wants) (λ x u pops. pops))
          (λ x u pops. at_value x u pops (leads x (ap (λ l. slice_get l 0) pops.first)) (value x) refl)
        where
          at_value : (x : TokenValue) (u : ParserState) → Pops t x u → step p x ≡ option_map (λ (a : A). next) (value x) → (o : Option A)
              → value x ≡ o → Gives (λ e v. Reads Shape Spells s (Err e) v) P (valued o x u)
          at_value x u pops here (Some a) e = more x a u e pops (taken_more k pops (here ∙ ap (option_map (λ (a : A). next)) e))
          at_value x u pops here None e = reads_unexpected pops wants (here ∙ ap (option_map (λ (a : A). next)) e)

-- ---- results of reading

-- the error that reading returns doesn't depend on which text spells a value
pub reads_refused : {V W : Type 0} {Shape : List TokenValue → Type 0} {Spells : V → List ℕ → Type 0} (Other : W → List ℕ → Type 0)
    (s t : ParserState) (e : ErrorValue)
    → Reads Shape Spells s (Err e) t → Reads Shape Other s (Err e) t
reads_refused Other s t e w = record { front = w.front; rest = w.rest; longest = w.longest; answer = w.answer; pending = w.pending }

-- if reading returns a value for one `Spells`, it returns for another any value that the text of the
-- same prefix spells
pub reads_other : {V W : Type 0} {Shape : List TokenValue → Type 0} {Spells : V → List ℕ → Type 0} (Other : W → List ℕ → Type 0)
    (s t : ParserState) (v : V) (x : W) (w : Reads Shape Spells s (Ok v) t)
    → Other x (inner_texts w.front) → Reads Shape Other s (Ok x) t
reads_other Other s t v x w spelled =
    record {
      front = w.front;
      rest = w.rest;
      longest = w.longest;
      answer = record { whole = w.answer.whole; spelled = spelled; leaves = w.answer.leaves };
      pending = w.pending;
    }

-- there is at most one longest prefix
pub same_front : (Shape : List TokenValue → Type 0) (ts front other rest left : List TokenValue) → IsLongestFront Shape ts front rest
    → IsLongestFront Shape ts other left → (front ≡ other) × (rest ≡ left)
same_front Shape ts front other rest left a b =
    let len : length front ≡ length other = omega (arith, b.longest front rest a.split a.begins, a.longest other left b.split b.begins) in
    let same : front ≡ other =
    sym (take_at front rest (length front) refl) ∙ ap (take (length front)) (sym a.split ∙ b.split)
    ∙ take_at other left (length front) (sym len) in
    (same, append_cancel_left front rest left (sym a.split ∙ b.split ∙ ap (λ l. l ++ left) (sym same)))

-- there is at most one error, and one list of tokens that it leaves
pub same_refusal : (ts : List TokenValue) (pending : Option ℕ) (rest : List TokenValue) (e f : ErrorValue) (left other : List TokenValue)
    → Refuses ts pending rest e left → Refuses ts pending rest f other → (e ≡ f) × (left ≡ other)
same_refusal ts (Some c) [] e f left other a b = (cc, cc)
same_refusal ts (Some c) (t ∷ []) e f left other a b = (cc, cc)
same_refusal ts None [] e f left other a b = (cc, cc)
same_refusal ts None (t ∷ rest) e f left other a b = (cc, cc)
same_refusal ts (Some c) (t ∷ u ∷ rest) e f left other a b = (cc, cc)

-- reading has at most one result and leaves at most one state, if a text spells at most one value
pub reads_once : {V : Type 0} (Shape : List TokenValue → Type 0) (Spells : V → List ℕ → Type 0)
    → ((v w : V) (text : List ℕ) → Spells v text → Spells w text → v ≡ w)
    → (s : ParserState) (r q : Result V ErrorValue) (t u : ParserState) → Reads Shape Spells s r t → Reads Shape Spells s q u
    → (r ≡ q) × (t ≡ u)
reads_once {V} Shape Spells once s r q t u a b =
    let same = same_front Shape s.remaining a.front b.front a.rest b.rest a.longest b.longest in
    let both = one_answer a.front a.rest r q t.remaining u.remaining a.answer (rw (← same.0, ← same.1) at b.answer) in
    (both.0, λ i. record { remaining = both.1 i; pending = (a.pending ∙ sym b.pending) i })
  where
    one_answer : (front rest : List TokenValue) (r q : Result V ErrorValue) (left other : List TokenValue)
        → Answers Shape Spells s.remaining s.pending front rest r left → Answers Shape Spells s.remaining s.pending front rest q other
        → (r ≡ q) × (left ≡ other)
    one_answer front rest (Ok v) (Ok w) left other x y = (ap (λ z. Ok z) (once v w _ x.spelled y.spelled), cc)
    one_answer front rest (Ok v) (Err f) left other x y = absurd (y.broken x.whole)
    one_answer front rest (Err e) (Ok w) left other x y = absurd (x.broken y.whole)
    one_answer front rest (Err e) (Err f) left other x y =
        let z = same_refusal s.remaining s.pending rest e f left other x.refuses y.refuses in (ap (λ k. Err k) z.0, z.1)
