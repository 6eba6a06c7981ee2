-- The list of the tokens of a text: `scan` finds it from left to right, and it is the only one.
use Rattle.std.proofs.Common.{◌≡◌, ℕ, zero, suc, ◌+◌, ◌-◌, ◌<◌, ◌≤◌, Bool, true, false, eqb, ◌||◌, not, List, [], ◌∷◌, ◌++◌}
use Rattle.std.proofs.Common.{length, take, drop, Some, None, sym, refl, ap, ◌∙◌, inl, inr, arith, decimal, ◌⊎◌}
use Rattle.std.proofs.Common.{append_assoc, length-append, length-drop, length-take-le}
use Rattle.std.specs.Prelude.{is_some, slice_get, IsTrue, slice_range, slice_index}
use Rattle.std.specs.List.{prefix_len, AllByRecursion}
use Rattle.std.specs.Char.{is_ascii_alphanumeric}
use Rattle.std.proofs.lemmas.List.{take_at, drop_at, drop-drop, get_or_append_left, drop_all}
use Rattle.std.proofs.lemmas.Bool.{not-true, not_from_false}
use Rattle.std.proofs.lemmas.Bool.Decides.{nat_tests}
use Rattle.semver_texts.specs.Texts.{is_space, IsRun}
use Rattle.semver_tokens.specs.Tokens.{TokenValue, Gt, Lt, Whitespace}
use Rattle.semver_tokens.specs.Tokens.{Numeric, AlphaNumeric, token_text, tokens_text, is_sign, opens_token, IsTokenAt, IsBadStart}
use Rattle.semver_tokens.specs.Tokens.{AreInPlace, is_component, is_whitespace, is_eq, merges, NoneMerge, AreTokensFrom}
use Rattle.semver_tokens.specs.Steps.Scanning.{component, sign, first_token, scan}
pub use Rattle.semver_texts.proofs.Lists.{prefix_is}
pub use Rattle.semver_texts.proofs.Runs.{decimal_is_run}
use Rattle.semver_tokens.proofs.Components.{component_decimal, component_text}
use Rattle.semver_tokens.proofs.FirstToken.{never, option_cases, IsFront, IsFound, continues_into, continues, first_token-found}
use Rattle.semver_tokens.proofs.FirstToken.{is_some-first_token, first_token-at_run, first_token-at_space, first_token-at_other}
use Rattle.semver_tokens.proofs.FirstToken.{space_is_no_run, space_is_no_eq, run_is_no_space, run_is_no_eq}

-- ---- a prefix that is a token is found

pub first_token-empty : (place : ℕ) (bs : List ℕ) → slice_get bs 0 ≡ None → first_token place bs ≡ None
unfolding first_token
first_token-empty place [] e = refl
first_token-empty place (b ∷ bs) e = cc

-- the first token of bytes of which only the first one, b, is known
after_first : (bs : List ℕ) (b : ℕ) → slice_get bs 0 ≡ Some b → (rest : List ℕ) × (bs ≡ b ∷ rest)
after_first [] b e = cc
after_first (x ∷ bs) b e = (bs, cc)

pub front_space : (place : ℕ) (bs : List ℕ) (b : ℕ) → slice_get bs 0 ≡ Some b → is_space b ≡ true
    → first_token place bs ≡ Some (Whitespace place (place + prefix_len is_space bs), prefix_len is_space bs)
front_space place bs b e h = let w = after_first bs b e in rw w.1 (first_token-at_space place b w.0 h)

pub front_run : (place : ℕ) (bs : List ℕ) (b : ℕ) → slice_get bs 0 ≡ Some b → is_ascii_alphanumeric b ≡ true
    → first_token place bs ≡ Some (component (take (prefix_len is_ascii_alphanumeric bs) bs), prefix_len is_ascii_alphanumeric bs)
front_run place bs b e h = let w = after_first bs b e in rw w.1 (first_token-at_run place b w.0 h)

pub front_other : (place : ℕ) (bs : List ℕ) (b : ℕ) → slice_get bs 0 ≡ Some b → is_space b ≡ false → is_ascii_alphanumeric b ≡ false
    → first_token place bs ≡ sign b (slice_index bs 1)
front_other place bs b e s r = let w = after_first bs b e in rw w.1 (first_token-at_other place b w.0 s r)

pub some_of_prefix : (p : ℕ → Bool) (bs : List ℕ) (b : ℕ) → slice_get bs 0 ≡ Some b → p b ≡ true → 0 < prefix_len p bs
some_of_prefix p bs b e h = let w = after_first bs b e in rw (w.1, h) (omega arith)

pub first_token-run : (place : ℕ) (run more : List ℕ) → IsRun run → is_ascii_alphanumeric (slice_index more 0) ≡ false
    → first_token place (run ++ more) ≡ Some (component run, length run)
first_token-run place [] more is_run stop = absurd (omega (arith, is_run.0))
first_token-run place (b ∷ bs) more is_run stop =
    first_token-at_run place b (bs ++ more) is_run.1.0
    ∙ ap (λ n. Some (component (take n (b ∷ (bs ++ more))), n)) (prefix_is is_ascii_alphanumeric (b ∷ bs) more is_run.1 refl stop)
    ∙ ap (λ r. Some (component r, length (b ∷ bs))) (take_at (b ∷ bs) more (length (b ∷ bs)) refl)

pub first_token-space : (place : ℕ) (spaces more : List ℕ) → 0 < length spaces → AllByRecursion (λ b. IsTrue (is_space b)) spaces
    → is_space (slice_index more 0) ≡ false
    → first_token place (spaces ++ more) ≡ Some (Whitespace place (place + length spaces), length spaces)
first_token-space place [] more some all stop = absurd (omega (arith, some))
first_token-space place (b ∷ bs) more some all stop =
    first_token-at_space place b (bs ++ more) all.0
    ∙ ap (λ n. Some (Whitespace place (place + n), n)) (prefix_is is_space (b ∷ bs) more all refl stop)

-- the length of a range of the text is the difference of its offsets
length_slice : (text : List ℕ) (first after : ℕ) → first < after → after ≤ length text
    → length (slice_range text first after) + first ≡ after
length_slice text first after some within =
    let room : length (drop first text) ≡ length text - first = length-drop first text in omega
    (arith, length-take-le (after - first) (drop first text) (omega arith))

pub first_token-front : (text : List ℕ) (place : ℕ) (t : TokenValue) (bs more : List ℕ) → IsFront text place t bs more
    → drop place text ≡ bs → first_token place bs ≡ Some (t, length (token_text text t))
unfolding first_token sign
first_token-front text place Gt bs more f at = rw (f.spelled, f.stops) refl
first_token-front text place Lt bs more f at = rw (f.spelled, f.stops) refl
first_token-front text place (Whitespace first after) bs more f at =
    let w = f.is_token in
    let len : length (slice_range text first after) + first ≡ after = length_slice text first after w.1 w.2 in
    let ends : place + length (slice_range text first after) ≡ after = omega (arith, len, w.0) in
    cc (first_token-space place (slice_range text first after) more (omega arith) w.3 f.stops)
first_token-front text place (Numeric n) bs more f at =
    cc (first_token-run place (decimal n) more (decimal_is_run n f.is_token) f.stops, component_decimal (decimal n) n f.is_token refl)
first_token-front text place (AlphaNumeric s) bs more f at =
    cc (first_token-run place s more f.is_token.0 f.stops, component_text s f.is_token.0.0 f.is_token.1)
first_token-front text place _ bs more f at = rw f.spelled refl

-- ---- adjacent tokens

-- the text of a token isn't empty, and its first byte shows whether the token is `=`, white space or
-- a component
pub record ShowsKind (u : TokenValue) (text_of_u : List ℕ) : Type 0 where
  pub some : 0 < length text_of_u
  pub eq : eqb (slice_index text_of_u 0) 61 ≡ is_eq u
  pub space : is_space (slice_index text_of_u 0) ≡ is_whitespace u
  pub run : is_ascii_alphanumeric (slice_index text_of_u 0) ≡ is_component u

first_of_all : (p : ℕ → Bool) (bs : List ℕ) → 0 < length bs → AllByRecursion (λ b. IsTrue (p b)) bs → p (slice_index bs 0) ≡ true
first_of_all p [] some all = absurd (omega (arith, some))
first_of_all p (b ∷ bs) some all = all.0

run_shows : (u : TokenValue) (run : List ℕ) → IsRun run → is_eq u ≡ false → is_whitespace u ≡ false → is_component u ≡ true
    → ShowsKind u run
run_shows u run is_run no_eq no_space comp =
    let h = first_of_all is_ascii_alphanumeric run is_run.0 is_run.1 in
    record {
      some = is_run.0;
      eq = run_is_no_eq (slice_index run 0) h ∙ sym no_eq;
      space = run_is_no_space (slice_index run 0) h
          ∙ sym no_space;
      run = h ∙ sym comp;
    }

pub shows_kind : (text : List ℕ) (place : ℕ) (u : TokenValue) → IsTokenAt text place u → ShowsKind u (token_text text u)
shows_kind text place (Whitespace first after) w =
    let some : 0 < length (slice_range text first after) = omega (arith, length_slice text first after w.1 w.2) in
    let h = first_of_all is_space (slice_range text first after) some w.3 in
    let b : ℕ = slice_index (slice_range text first after) 0 in
    record { some = some; eq = space_is_no_eq b h; space = h; run = space_is_no_run b h }
shows_kind text place (Numeric n) small = run_shows (Numeric n) (decimal n) (decimal_is_run n small) refl refl refl
shows_kind text place (AlphaNumeric s) w = run_shows (AlphaNumeric s) s w.0 refl refl refl
shows_kind text place _ w = record { some = omega arith; eq = refl; space = refl; run = refl }

or_false : (a : Bool) → (a || false) ≡ a
or_false true = refl
or_false false = refl

-- the first byte of u would lengthen t if and only if t and u merge
continues_merges : (t u : TokenValue) (bs : List ℕ) → ShowsKind u bs → continues t (slice_index bs 0) ≡ merges t u
continues_merges Lt u bs k = k.eq ∙ sym (or_false (is_eq u))
continues_merges Gt u bs k = k.eq ∙ sym (or_false (is_eq u))
continues_merges (Whitespace first after) u bs k = k.space ∙ sym (or_false (is_whitespace u))
continues_merges (Numeric n) u bs k = k.run
continues_merges (AlphaNumeric s) u bs k = k.run
continues_merges _ u bs k = refl

continues_into-token : (t u : TokenValue) (bs more : List ℕ) → ShowsKind u bs → continues_into t (bs ++ more) ≡ merges t u
continues_into-token t u bs more k = ap (continues t) (get_or_append_left bs more 0 0 k.some) ∙ continues_merges t u bs k

-- a byte at which no token begins isn't `=`, white space, a letter or a digit
pub opens_nothing : (b : ℕ) (bs : List ℕ) → not (opens_token (b ∷ bs)) ≡ true
    → (eqb b 61 ≡ false) × (is_space b ≡ false) × (is_ascii_alphanumeric b ≡ false)
opens_nothing b bs h = let q = closed (is_sign b) (is_space b) (is_ascii_alphanumeric b) _ h in (grind (arith, nat_tests, q.0), q.1, q.2)
  where
    closed : (a s r d : Bool) → not ((a || s) || (r || d)) ≡ true → (a ≡ false) × (s ≡ false) × (r ≡ false)
    closed true s r d h = cc
    closed false true r d h = cc
    closed false false true d h = cc
    closed false false false d h = (refl, refl, refl)

stops_at_nothing : (t : TokenValue) (b : ℕ) → (eqb b 61 ≡ false) × (is_space b ≡ false) × (is_ascii_alphanumeric b ≡ false)
    → continues t b ≡ false
stops_at_nothing Lt b h = h.0
stops_at_nothing Gt b h = h.0
stops_at_nothing (Whitespace first after) b h = h.1
stops_at_nothing (Numeric n) b h = h.2
stops_at_nothing (AlphaNumeric s) b h = h.2
stops_at_nothing _ b h = refl

stops_at_end : (t : TokenValue) (rest : List ℕ) → (rest ≡ []) ⊎ IsBadStart rest → continues_into t rest ≡ false
stops_at_end t [] ended = stops_at_nothing t 0 (refl, refl, refl)
stops_at_end t (b ∷ bs) (inl e) = cc
stops_at_end t (b ∷ bs) (inr bad) = stops_at_nothing t b (opens_nothing b bs bad.1)

-- ---- a first token and the tokens after it

module _ (text : List ℕ) where
  continues_into-tokens : (t u : TokenValue) (place : ℕ) (us : List TokenValue) (rest : List ℕ) → IsTokenAt text place u
      → continues_into t (tokens_text text (u ∷ us) ++ rest) ≡ merges t u
  continues_into-tokens t u place us rest here =
      ap (continues_into t) (append_assoc (token_text text u) (tokens_text text us) rest)
      ∙ continues_into-token t u (token_text text u) _ (shows_kind text place u here)

  stops_before : (t : TokenValue) (place : ℕ) (ts : List TokenValue) (rest : List ℕ) → NoneMerge (t ∷ ts) → AreInPlace text place ts
      → (rest ≡ []) ⊎ IsBadStart rest → continues_into t (tokens_text text ts ++ rest) ≡ false
  stops_before t place [] rest none in_place ended = stops_at_end t rest ended
  stops_before t place (u ∷ us) rest none in_place ended = continues_into-tokens t u place us rest in_place.0 ∙ not-true (merges t u) none.0

  none_merge_more : (t : TokenValue) (place : ℕ) (ts : List TokenValue) (rest : List ℕ)
      → continues_into t (tokens_text text ts ++ rest) ≡ false → AreInPlace text place ts → NoneMerge ts → NoneMerge (t ∷ ts)
  none_merge_more t place [] rest stops in_place none = tt
  none_merge_more t place (u ∷ us) rest stops in_place none =
      (not_from_false (merges t u) (sym (continues_into-tokens t u place us rest in_place.0) ∙ stops), none)

  none_merge_rest : (t : TokenValue) (ts : List TokenValue) → NoneMerge (t ∷ ts) → NoneMerge ts
  none_merge_rest t [] none = tt
  none_merge_rest t (u ∷ us) none = none.1

  -- the text begins with the first of its tokens; below, the others are the tokens after it
  pub first_front : (place : ℕ) (t : TokenValue) (ts : List TokenValue) (rest : List ℕ) → AreTokensFrom text place (t ∷ ts) rest
      → IsFront text place t (drop place text) (tokens_text text ts ++ rest)
  first_front place t ts rest a = record {
    spelled = a.spelled ∙ append_assoc (token_text text t) (tokens_text text ts) rest;
    is_token = a.in_place.0;
    stops = stops_before t (place + length (token_text text t)) ts rest a.none_merge a.in_place.1 a.ended;
  }

  pub other_tokens : (place : ℕ) (t : TokenValue) (ts : List TokenValue) (rest : List ℕ) → AreTokensFrom text place (t ∷ ts) rest
      → AreTokensFrom text (place + length (token_text text t)) ts rest
  other_tokens place t ts rest a = record {
    spelled = sym (drop-drop (length (token_text text t)) place text)
        ∙ ap (drop (length (token_text text t))) (a.spelled ∙ append_assoc (token_text text t) (tokens_text text ts) rest)
        ∙ drop_at (token_text text t) (tokens_text text ts ++ rest) (length (token_text text t)) refl;
    in_place = a.in_place.1;
    none_merge = none_merge_rest t ts a.none_merge;
    ended = a.ended;
  }

  -- a token that is found, and the tokens after it, are the tokens of the text
  pub tokens_cons : (place : ℕ) (t : TokenValue) (n : ℕ) (ts : List TokenValue) (rest : List ℕ) → IsFound text place (drop place text) t n
      → AreTokensFrom text (place + n) ts rest → AreTokensFrom text place (t ∷ ts) rest
  tokens_cons place t n ts rest f a =
      let after : drop n (drop place text) ≡ tokens_text text ts ++ rest = drop-drop n place text ∙ a.spelled in
      let in_place : AreInPlace text (place + length (token_text text t)) ts = rw f.len a.in_place in
      record {
        spelled = cc (f.front.spelled, append_assoc (token_text text t) (tokens_text text ts) rest);
        in_place = (f.front.is_token, in_place);
        none_merge = none_merge_more t _ ts rest (ap (continues_into t) (sym after) ∙ f.front.stops) in_place a.none_merge;
        ended = a.ended;
      }

-- ---- the list that `scan` finds is the only one

none_opens : (place : ℕ) (bs : List ℕ) → first_token place bs ≡ None → (bs ≡ []) ⊎ IsBadStart bs
none_opens place [] e = inl refl
none_opens place (b ∷ bs) e =
    inr (omega arith, not_from_false (opens_token (b ∷ bs)) (sym (is_some-first_token place (b ∷ bs)) ∙ ap is_some e))

none_at_end : (place : ℕ) (bs : List ℕ) → (bs ≡ []) ⊎ IsBadStart bs → first_token place bs ≡ None
none_at_end place bs ended =
    option_cases (first_token place bs) (λ e. e) (λ x e. absurd
    (never (sym (is_some-first_token place bs) ∙ ap is_some e) (closed bs ended)))
  where
    closed : (bs : List ℕ) → (bs ≡ []) ⊎ IsBadStart bs → opens_token bs ≡ false
    closed [] ended = refl
    closed (b ∷ bs) (inl e) = cc
    closed (b ∷ bs) (inr bad) = not-true (opens_token (b ∷ bs)) bad.1

module _ (text : List ℕ) where
  pub scan-none : (n place : ℕ) → first_token place (drop place text) ≡ None → scan n text place ≡ ([], drop place text)
  unfolding scan
  scan-none zero place e = refl
  scan-none (suc n) place e = rw (e, scan) refl

  scan-some : (n place : ℕ) (t : TokenValue) (len : ℕ) → first_token place (drop place text) ≡ Some (t, len)
      → scan (suc n) text place ≡ (t ∷ (scan n text (place + len)).0, (scan n text (place + len)).1)
  unfolding scan
  scan-some n place t len e = rw (e, scan) refl

  -- `scan` finds the tokens, if n is large enough
  pub scan_finds : (n place : ℕ) → length text ≤ place + n → AreTokensFrom text place (scan n text place).0 (scan n text place).1
  scan_finds zero place enough =
      let done : drop place text ≡ [] = drop_all place text (omega arith) in
      let e : scan zero text place ≡ ([], drop place text) = scan-none zero place (none_at_end place (drop place text) (inl done)) in
      rw e (record { spelled = refl; in_place = tt; none_merge = tt; ended = inl done })
  scan_finds (suc n) place enough =
      option_cases (first_token place (drop place text))
      (λ none. rw (scan-none (suc n) place none)
      (record { spelled = refl; in_place = tt; none_merge = tt; ended = none_opens place (drop place text) none }))
      (λ found e.
      let f : IsFound text place (drop place text) found.0 found.1 = first_token-found text place
      (drop place text) found.0 found.1 refl e in
      let positive : 0 < found.1 = f.positive in
      rw (scan-some n place found.0 found.1 e)
      (tokens_cons text place found.0 found.1 _ _ f (scan_finds n (place + found.1) (omega arith))))

  -- there are at most as many tokens as bytes
  pub length-tokens : (place : ℕ) (ts : List TokenValue) (rest : List ℕ) → AreTokensFrom text place ts rest
      → length ts ≤ length (drop place text)
  length-tokens place [] rest a = omega arith
  length-tokens place (t ∷ ts) rest a =
      omega (
        arith,
        (shows_kind text place t a.in_place.0).some,
        ap length a.spelled,
        length-append (token_text text t ++ tokens_text text ts) rest,
        length-append (token_text text t) (tokens_text text ts),
        length-tokens (place + length (token_text text t)) ts rest (other_tokens text place t ts rest a),
        length-drop place text,
        length-drop (place + length (token_text text t)) text,
      )

  -- any list of the tokens of the text is the one that `scan` finds
  pub scan_is : (n place : ℕ) (ts : List TokenValue) (rest : List ℕ) → AreTokensFrom text place ts rest → length text ≤ place + n
      → scan n text place ≡ (ts, rest)
  scan_is n place [] rest a enough =
      scan-none n place (none_at_end place (drop place text) (rw a.spelled a.ended))
      ∙ ap (λ l. ([], l)) a.spelled
  scan_is zero place (t ∷ ts) rest a enough =
      absurd (omega (arith, length-tokens place (t ∷ ts) rest a, length-drop place text))
  scan_is (suc n) place (t ∷ ts) rest a enough =
      let len : ℕ = length (token_text text t) in
      let some : 0 < len = (shows_kind text place t a.in_place.0).some in
      let rest_is : scan n text (place + len) ≡ (ts, rest) = scan_is n (place + len) ts rest (other_tokens text place t ts rest a)
      (omega arith) in
      scan-some n place t len (first_token-front text place t (drop place text) (tokens_text text ts ++ rest)
      (first_front text place t ts rest a) refl)
      ∙ ap (λ p. (t ∷ p.0, p.1)) rest_is

  -- a text has at most one list of tokens
  pub same_tokens : (place : ℕ) (ts us : List TokenValue) (rest other : List ℕ) → AreTokensFrom text place ts rest
      → AreTokensFrom text place us other → (ts ≡ us) × (rest ≡ other)
  same_tokens place ts us rest other a b =
      let e = sym (scan_is (length text) place ts rest a (omega arith)) ∙ scan_is (length text) place us other b (omega arith) in
      (ap (λ p. p.0) e, ap (λ p. p.1) e)
