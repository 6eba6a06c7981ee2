-- The first token of a text, and the bytes after it.
use Rattle.std.proofs.Common.{◌≡◌, ℕ, ◌+◌, ◌-◌, ◌<◌, ◌≤◌, Bool, true, false, eqb, ◌&&◌, ◌||◌, List, [], ◌∷◌, ◌++◌, length, take, drop}
use Rattle.std.proofs.Common.{Option, Some, None, sym, refl, ap, ◌∙◌, arith, length-drop, take-append-drop}
use Rattle.std.specs.Prelude.{is_some, slice_range, slice_index, take_while}
use Rattle.std.specs.List.{prefix_len}
use Rattle.std.specs.Char.{is_ascii_alphanumeric}
use Rattle.std.proofs.lemmas.List.Sums.{prefix_len-le-length}
use Rattle.std.proofs.lemmas.Option.{some_pair_parts, none-some}
use Rattle.std.proofs.lemmas.Bool.Decides.{nat_tests}
use Rattle.semver_texts.specs.Texts.{is_space, IsRun, is_part_byte}
use Rattle.semver_tokens.specs.Tokens.{TokenValue, Gt, Lt, Whitespace}
use Rattle.semver_tokens.specs.Tokens.{Numeric, AlphaNumeric, token_text, is_sign, opens_token, IsTokenAt, is_whitespace, is_component}
use Rattle.semver_tokens.specs.Steps.Scanning.{component, sign, first_token}
use Rattle.semver_texts.proofs.Numbers.{decimal_canonical, canonical_from_IsNumber}
use Rattle.semver_tokens.proofs.Components.{component_cases}
pub use Rattle.semver_texts.proofs.Lists.{by_test, all_of_prefix, never, prefix_stops}
pub use Rattle.semver_texts.proofs.Runs.{run_is_no_space, run_is_part}
use Rattle.std.proofs.lemmas.List.Folds.{length-prefix_len}

pub option_cases : {A G : Type 0} (o : Option A) → (o ≡ None → G) → ((x : A) → o ≡ Some x → G) → G
option_cases None f g = f refl
option_cases (Some x) f g = g x refl

-- whether the byte, if it is right after the token, would lengthen it
abbrev pub continues : TokenValue → ℕ → Bool
continues Lt b = eqb b 61
continues Gt b = eqb b 61
continues (Whitespace first after) b = is_space b
continues (Numeric n) b = is_ascii_alphanumeric b
continues (AlphaNumeric bytes) b = is_ascii_alphanumeric b
continues _ b = false

-- whether the first of these bytes lengthens the token; at the end of a text, `slice_index` is 0,
-- which lengthens no token
abbrev pub continues_into : TokenValue → List ℕ → Bool
continues_into t bs = continues t (slice_index bs 0)

-- the bytes bs at the offset `place` are the token t and then `more`, which doesn't lengthen it
pub record IsFront (text : List ℕ) (place : ℕ) (t : TokenValue) (bs more : List ℕ) : Type 0 where
  pub spelled : bs ≡ token_text text t ++ more
  pub is_token : IsTokenAt text place t
  pub stops : continues_into t more ≡ false

-- ---- tests on one byte

pub space_is_no_run : (b : ℕ) → is_space b ≡ true → is_ascii_alphanumeric b ≡ false
space_is_no_run b h = grind (arith, nat_tests)

pub space_is_no_eq : (b : ℕ) → is_space b ≡ true → eqb b 61 ≡ false
space_is_no_eq b h = grind (arith, nat_tests)

pub run_is_no_eq : (b : ℕ) → is_ascii_alphanumeric b ≡ true → eqb b 61 ≡ false
run_is_no_eq b h = grind (arith, nat_tests)

pub space_ascii : (b : ℕ) → is_space b ≡ true → b < 128
space_ascii b h = grind (arith, nat_tests)

pub run_ascii : (b : ℕ) → is_ascii_alphanumeric b ≡ true → b < 128
run_ascii b h = grind (arith, nat_tests)

pub part_ascii : (b : ℕ) → is_part_byte b ≡ true → b < 128
part_ascii b h = grind (arith, nat_tests)

-- ---- whether a token is found

pub is_some-sign : (b c : ℕ) → is_some (sign b c) ≡ (is_sign b || (eqb b 124 && eqb c 124))
unfolding sign
is_some-sign b c = grind (arith, nat_tests)

pub is_some-first_token : (place : ℕ) (bs : List ℕ) → is_some (first_token place bs) ≡ opens_token bs
unfolding first_token
is_some-first_token place [] = refl
is_some-first_token place (b ∷ bs) = grind (arith, nat_tests, is_some-sign)

-- the first token, by the kind of its first byte b
pub first_token-at_run : (place b : ℕ) (bs : List ℕ) → is_ascii_alphanumeric b ≡ true
    → first_token place (b ∷ bs) ≡ Some (component (take_while is_ascii_alphanumeric (b ∷ bs)), prefix_len is_ascii_alphanumeric (b ∷ bs))
unfolding first_token
first_token-at_run place b bs h = rw (run_is_no_space b h, h) refl

pub first_token-at_space : (place b : ℕ) (bs : List ℕ) → is_space b ≡ true
    → first_token place (b ∷ bs) ≡ Some (Whitespace place (place + prefix_len is_space (b ∷ bs)), prefix_len is_space (b ∷ bs))
unfolding first_token
first_token-at_space place b bs h = rw h refl

pub first_token-at_other : (place b : ℕ) (bs : List ℕ) → is_space b ≡ false → is_ascii_alphanumeric b ≡ false
    → first_token place (b ∷ bs) ≡ sign b (slice_index bs 0)
unfolding first_token
first_token-at_other place b bs s r = rw (s, r) refl

-- ---- the result of `sign`

sign_text : (text : List ℕ) (b : ℕ) (bs : List ℕ) (t : TokenValue) (n : ℕ) → sign b (slice_index bs 0) ≡ Some (t, n)
    → token_text text t ≡ take n (b ∷ bs)
unfolding sign
sign_text text b [] t n e = grind (arith, nat_tests)
sign_text text b (c ∷ bs) t n e = grind (arith, nat_tests)

sign_is : (text : List ℕ) (b c : ℕ) (t : TokenValue) (n : ℕ) → sign b c ≡ Some (t, n)
    → (length (token_text text t) ≡ n) × (0 < n) × ((is_whitespace t || is_component t) ≡ false)
unfolding sign
sign_is text b c t n e = (grind (arith, nat_tests), grind (arith, nat_tests), grind (arith, nat_tests))

sign_stops : (b c x : ℕ) (t : TokenValue) (n : ℕ) → sign b c ≡ Some (t, n) → (n ≡ 1 → x ≡ c) → continues t x ≡ false
unfolding sign
sign_stops b c x t n e same = grind (arith, nat_tests)

plain_token : (text : List ℕ) (place : ℕ) (t : TokenValue) → (is_whitespace t || is_component t) ≡ false → IsTokenAt text place t
plain_token text place (Whitespace first after) e = cc
plain_token text place (Numeric n) e = cc
plain_token text place (AlphaNumeric bytes) e = cc
plain_token text place _ e = tt

-- ---- the token of a run

pub token_text-component : (text run : List ℕ) → 0 < length run → token_text text (component run) ≡ run
token_text-component text run some =
    component_cases run (λ t. token_text text t ≡ run) (λ c. decimal_canonical run some c) (λ other. refl)

pub IsTokenAt-component : (text : List ℕ) (place : ℕ) (run : List ℕ) → IsRun run → IsTokenAt text place (component run)
IsTokenAt-component text place run is_run =
    component_cases run (IsTokenAt text place) (λ c. c.small)
    (λ other. (is_run, λ number. other (canonical_from_IsNumber run number)))

pub continues-component : (run : List ℕ) (b : ℕ) → continues (component run) b ≡ is_ascii_alphanumeric b
continues-component run b = component_cases run (λ t. continues t b ≡ is_ascii_alphanumeric b) (λ c. refl) (λ other. refl)

-- ---- the token that is found is the first one

pub record IsFound (text : List ℕ) (place : ℕ) (bs : List ℕ) (t : TokenValue) (n : ℕ) : Type 0 where
  pub front : IsFront text place t bs (drop n bs)
  pub len : length (token_text text t) ≡ n
  pub positive : 0 < n

module _ (text : List ℕ) (place : ℕ) where
  found_sign : (b : ℕ) (bs : List ℕ) (t : TokenValue) (n : ℕ) → sign b (slice_index bs 0) ≡ Some (t, n) → IsFound text place (b ∷ bs) t n
  found_sign b bs t n e =
      let is = sign_is text b (slice_index bs 0) t n e in
      record {
        front = record {
          spelled = rw (sign_text text b bs t n e) (sym (take-append-drop n (b ∷ bs)));
          is_token = plain_token text place t is.2;
          stops = sign_stops b (slice_index bs 0) _ t n e (λ one. rw one refl);
        };
        len = is.0;
        positive = is.1;
      }

  -- a token whose text is the longest prefix of bytes that pass a test
  found_prefix : (p : ℕ → Bool) (b : ℕ) (bs : List ℕ) (t : TokenValue) → p 0 ≡ false → p b ≡ true
      → token_text text t ≡ take (prefix_len p (b ∷ bs)) (b ∷ bs) → IsTokenAt text place t → ((x : ℕ) → continues t x ≡ p x)
      → IsFound text place (b ∷ bs) t (prefix_len p (b ∷ bs))
  found_prefix p b bs t past h text_is is_token on = record {
    front = record {
      spelled = rw text_is (sym (take-append-drop (prefix_len p (b ∷ bs)) (b ∷ bs)));
      is_token = is_token;
      stops = on _ ∙ prefix_stops p (b ∷ bs) past;
    };
    len = ap length text_is ∙ length-prefix_len p (b ∷ bs);
    positive = rw h (omega arith);
  }

  found_space : (b : ℕ) (bs : List ℕ) → drop place text ≡ b ∷ bs → is_space b ≡ true
      → IsFound text place (b ∷ bs) (Whitespace place (place + prefix_len is_space (b ∷ bs))) (prefix_len is_space (b ∷ bs))
  found_space b bs e h =
      let n : ℕ = prefix_len is_space (b ∷ bs) in
      let positive : 0 < n = rw h (omega arith) in
      let within : n ≤ length (b ∷ bs) = prefix_len-le-length is_space (b ∷ bs) in
      let room : length (b ∷ bs) ≡ length text - place = ap length (sym e) ∙ length-drop place text in
      let cut : slice_range text place (place + n) ≡ take n (b ∷ bs) = ap (λ m. take m (drop place text)) (omega arith) ∙ ap (take n) e in
      found_prefix is_space b bs (Whitespace place (place + n)) refl h cut
      (refl, omega arith, omega arith, rw cut (all_of_prefix is_space (b ∷ bs))) (λ x. refl)

  found_run : (b : ℕ) (bs : List ℕ) → is_ascii_alphanumeric b ≡ true
      → IsFound text place (b ∷ bs) (component (take_while is_ascii_alphanumeric (b ∷ bs))) (prefix_len is_ascii_alphanumeric (b ∷ bs))
  found_run b bs h =
      let run : List ℕ = take_while is_ascii_alphanumeric (b ∷ bs) in
      let positive : 0 < prefix_len is_ascii_alphanumeric (b ∷ bs) = rw h (omega arith) in
      let is_run : IsRun run = (
        omega (arith, length-prefix_len is_ascii_alphanumeric (b ∷ bs)),
        all_of_prefix is_ascii_alphanumeric (b ∷ bs),
      ) in
      found_prefix is_ascii_alphanumeric b bs (component run) refl h (token_text-component text run is_run.0)
      (IsTokenAt-component text place run is_run) (continues-component run)

  pub first_token-found : (bs : List ℕ) (t : TokenValue) (n : ℕ) → drop place text ≡ bs → first_token place bs ≡ Some (t, n)
      → IsFound text place bs t n
  unfolding first_token
  first_token-found [] t n at e = absurd (none-some _ e)
  first_token-found (b ∷ bs) t n at e =
      by_test (is_space b)
      (λ s. as_found _ (sym (first_token-at_space place b bs s) ∙ e) (found_space b bs at s))
      (λ s. by_test (is_ascii_alphanumeric b)
      (λ r. as_found _ (sym (first_token-at_run place b bs r) ∙ e) (found_run b bs r))
      (λ r. found_sign b bs t n (sym (first_token-at_other place b bs s r) ∙ e)))
    where
      as_found : {u : TokenValue} (m : ℕ) → ◌≡◌ {A = Option (TokenValue × ℕ)} (Some (u, m)) (Some (t, n)) → IsFound text place (b ∷ bs) u m
          → IsFound text place (b ∷ bs) t n
      as_found {u} m e f = let q = some_pair_parts u t m n e in rw (q.0, q.1) at f
