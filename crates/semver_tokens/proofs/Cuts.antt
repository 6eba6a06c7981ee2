-- The end of a token is a character boundary of the text.
use Rattle.std.proofs.Common.{◌≡◌, ℕ, zero, suc, ◌+◌, ◌-◌, ◌<◌, ◌≤◌, Bool, true, List, ◌++◌, length, get_or, take, drop, sym, refl}
use Rattle.std.proofs.Common.{ap, ◌∙◌, subst, arith, IsUtf8, length-drop, length-append, length-take-le, take-append-drop, zero-add}
use Rattle.std.proofs.Common.{get_or-drop, Some, ltb}
use Rattle.std.specs.Prelude.{IsTrue, IsCharBoundary}
use Rattle.std.specs.Str.{IsAscii}
use Rattle.std.specs.List.{prefix_len, AllByRecursion}
use Rattle.std.specs.Char.{is_ascii_alphanumeric}
use Rattle.std.proofs.lemmas.List.Sums.{prefix_len-le-length}
use Rattle.std.proofs.lemmas.List.{get_or_append_left}
use Rattle.std.proofs.lemmas.Bool.{ltb-true}
use Rattle.std.proofs.lemmas.Str.{IsCharBoundary-start, IsCharBoundary-after_ascii, IsCharBoundary-from_rest}
use Rattle.std.proofs.lemmas.Fmt.{IsAscii-decimal}
use Rattle.semver_texts.specs.Texts.{is_space}
use Rattle.semver_texts.proofs.Lists.{ascii_from}
use Rattle.semver_tokens.specs.Tokens.{TokenValue, LtEq, GtEq, Or, Whitespace}
use Rattle.semver_tokens.specs.Tokens.{Numeric, AlphaNumeric, token_text, IsTokenAt}
use Rattle.semver_tokens.specs.Steps.Scanning.{first_token}
use Rattle.semver_tokens.proofs.FirstToken.{all_of_prefix, IsFound, first_token-found, run_ascii, space_ascii}

small_ascii : (bs : List ℕ) → AllByRecursion (λ b. IsTrue (ltb b 128)) bs → IsAscii bs
small_ascii bs all = ascii_from (λ b. ltb b 128) (λ b h. ltb-true b 128 h) bs all

pub IsAscii-token_text : (text : List ℕ) (place : ℕ) (t : TokenValue) → IsTokenAt text place t → IsAscii (token_text text t)
IsAscii-token_text text place (Whitespace first after) w = ascii_from is_space space_ascii _ w.3
IsAscii-token_text text place (Numeric n) small = IsAscii-decimal n small
IsAscii-token_text text place (AlphaNumeric s) w = ascii_from is_ascii_alphanumeric run_ascii s w.0.1
IsAscii-token_text text place LtEq w = small_ascii (token_text text LtEq) (refl, (refl, tt))
IsAscii-token_text text place GtEq w = small_ascii (token_text text GtEq) (refl, (refl, tt))
IsAscii-token_text text place Or w = small_ascii (token_text text Or) (refl, (refl, tt))
IsAscii-token_text text place t w = small_ascii (token_text text t) (refl, tt)

-- the offset after some ASCII bytes is a character boundary
pub cut_after_ascii : (text : List ℕ) (place : ℕ) (xs more : List ℕ) → IsUtf8 text → drop place text ≡ xs ++ more → 0 < length xs
    → IsAscii xs → IsCharBoundary text (place + length xs)
cut_after_ascii text place xs more utf8 e some ascii =
    let last : ℕ = length xs - 1 in
    let room : length text - place ≡ length xs + length more = sym (length-drop place text) ∙ ap length e ∙ length-append xs more in
    let byte : get_or text (place + last) 0 ≡ get_or xs last 0 =
    cc (get_or-drop place text last 0, get_or_append_left xs more 0 last (omega arith)) in
    let small : get_or text (place + last) 0 < 128 = rw byte (ascii last) in
    let after : place + last + 1 ≡ place + length xs = omega arith in
    subst (IsCharBoundary text) after (IsCharBoundary-after_ascii text (place + last) utf8 (omega arith) small)

-- so is the offset after a token
pub cut_after_token : (text : List ℕ) (place : ℕ) (t : TokenValue) (n : ℕ) → place ≤ length text → IsUtf8 (drop place text)
    → first_token place (drop place text) ≡ Some (t, n) → IsCharBoundary text (place + n)
cut_after_token text place t n within utf8 e =
    let f : IsFound text place (drop place text) t n = first_token-found text place (drop place text) t n refl e in
    let cut : IsCharBoundary (drop place text) (0 + length (token_text text t)) = cut_after_ascii (drop place text) 0 (token_text text t)
    (drop n (drop place text)) utf8 f.front.spelled (rw f.len f.positive)
    (IsAscii-token_text text place t f.front.is_token) in
    IsCharBoundary-from_rest text place n within (subst (IsCharBoundary (drop place text))
    (zero-add (length (token_text text t)) ∙ f.len) cut)

-- the longest prefix of bytes that pass a test ends at a character boundary, if only ASCII bytes pass
module _ (p : ℕ → Bool) (small : (b : ℕ) → p b ≡ true → b < 128) where
  cut_after_some : (bs : List ℕ) → IsUtf8 bs → 0 < prefix_len p bs → IsCharBoundary bs (prefix_len p bs)
  cut_after_some bs utf8 some =
      let n : ℕ = prefix_len p bs in
      let len : length (take n bs) ≡ n = length-take-le n bs (prefix_len-le-length p bs) in
      subst (IsCharBoundary bs) (zero-add (length (take n bs)) ∙ len)
      (cut_after_ascii bs 0 (take n bs) (drop n bs) utf8 (sym (take-append-drop n bs)) (omega arith)
      (ascii_from p small (take n bs) (all_of_prefix p bs)))

  pub cut_after_prefix : (bs : List ℕ) → IsUtf8 bs → IsCharBoundary bs (prefix_len p bs)
  cut_after_prefix bs utf8 = at_len (prefix_len p bs) refl
    where
      at_len : (n : ℕ) → n ≡ prefix_len p bs → IsCharBoundary bs n
      at_len zero e = IsCharBoundary-start bs utf8
      at_len (suc n) e = rw e (cut_after_some bs utf8 (omega (arith, e)))

pub cut_after_run : (bs : List ℕ) → IsUtf8 bs → IsCharBoundary bs (prefix_len is_ascii_alphanumeric bs)
cut_after_run bs utf8 = cut_after_prefix is_ascii_alphanumeric run_ascii bs utf8
