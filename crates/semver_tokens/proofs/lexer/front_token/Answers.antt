use Rattle.std.proofs.Common.{Some, ◌≡◌, ℕ, ◌+◌, ◌<◌, length, take, arith, ap, sym, ◌∙◌, subst}
use Rattle.std.specs.Prelude.{slice_get, slice_index}
use Rattle.std.specs.List.{prefix_len}
use Rattle.std.specs.Char.{is_ascii_alphanumeric}
use Rattle.std.proofs.lemmas.List.Sums.{prefix_len-le-length}
use Rattle.std.proofs.lemmas.List.Folds.{length-prefix_len}
use Rattle.std.proofs.lemmas.List.{get_or_past}
use Rattle.semver_texts.specs.Texts.{is_space, IsRun}
use Rattle.semver_tokens.specs.Tokens.{Whitespace}
use Rattle.semver_tokens.specs.Views.{token_value}
use Rattle.semver_tokens.specs.Steps.Scanning.{component, sign}
use Rattle.semver_tokens.proofs.FirstToken.{all_of_prefix}
use Rattle.semver_tokens.proofs.TokenLists.{first_token-empty, front_space, front_run, front_other, some_of_prefix}
use Rattle.semver_tokens.proofs.Cuts.{cut_after_run}
use Rattle.semver_tokens.proofs.lexer.front_token.Goals as goal
use Rattle.semver_tokens.proofs.lexer.front_token.Goals.{In_ok-first, After-run_len-len, After-range, then-bytes-gt1, else-bytes-gt1}

first_byte : (c : In_ok-first) → slice_get c.args.rest.now 0 ≡ Some c.in_ok-first.field-0.now
first_byte c = ap (λ bs. slice_get bs 0) (sym c.as_bytes-bytes.ensures.value) ∙ sym c.in_ok-first.ensures.value

run_len_is : (c : After-run_len-len) → c.run_len-len.result ≡ prefix_len is_ascii_alphanumeric c.args.rest.now
run_len_is c = c.run_len-len.ensures ∙ ap (prefix_len is_ascii_alphanumeric) c.as_bytes-bytes.ensures.value

pub returns-in_err-first : goal.returns-in_err-first
returns-in_err-first c =
    rw c.from_residual.ensures (sym (first_token-empty c.args.start c.args.rest.now
    (ap (λ bs. slice_get bs 0) (sym c.as_bytes-bytes.ensures.value) ∙ sym c.in_err-first.ensures.value)))

pub overflow_add-result : goal.overflow_add-result
overflow_add-result c =
    omega (
      arith,
      c.requires,
      c.space_len-len.ensures,
      prefix_len-le-length is_space c.as_bytes-bytes.result.now,
      c.as_bytes-bytes.ensures.len,
    )

pub returns-then-is_space : goal.returns-then-is_space
returns-then-is_space c =
    let len : c.space_len-len.result ≡ prefix_len is_space c.args.rest.now = c.space_len-len.ensures
    ∙ ap (prefix_len is_space) c.as_bytes-bytes.ensures.value in
    ap (λ n. Some (Whitespace c.args.start (c.args.start + n), n)) len
    ∙ sym (front_space c.args.start c.args.rest.now _ (first_byte (goal.at.returns-then-is_space c).In_ok-first)
    (sym c.if-is_space.ensures))

-- the run isn't empty
run_some : (c : After-run_len-len) → 0 < prefix_len is_ascii_alphanumeric c.args.rest.now
run_some c = some_of_prefix is_ascii_alphanumeric c.args.rest.now _ (first_byte (at_first c)) (sym c.if-is_ascii_alphanumeric.ensures.value)
  where
    at_first : (c : After-run_len-len) → In_ok-first
    at_first c = (goal.at.range-requires-clause-end_boundary c).In_ok-first

-- the run that was cut off is the longest prefix of letters and digits
run_is : (c : After-range) → c.range.result.now ≡ take (prefix_len is_ascii_alphanumeric c.args.rest.now) c.args.rest.now
run_is c = c.range.ensures.value
    ∙ ap (λ n. take n c.args.rest.now) (omega (arith, run_len_is (goal.at.component-requires c).After-run_len-len))

pub range-requires-clause-end_boundary : goal.range-requires-clause-end_boundary
range-requires-clause-end_boundary c =
    rw (run_len_is c) (cut_after_run c.args.rest.now c.utf8.rest)

pub component-requires : goal.component-requires
component-requires c =
    let n : ℕ = prefix_len is_ascii_alphanumeric c.args.rest.now in
    let len : length (take n c.args.rest.now) ≡ n = length-prefix_len is_ascii_alphanumeric c.args.rest.now in
    let some : 0 < n = run_some (goal.at.component-requires c).After-run_len-len in
    subst IsRun (sym (run_is c)) (rw len some, all_of_prefix is_ascii_alphanumeric c.args.rest.now)

pub returns-then-is_ascii_alphanumeric : goal.returns-then-is_ascii_alphanumeric
returns-then-is_ascii_alphanumeric c =
    let token : token_value c.component.result ≡ component (take (prefix_len is_ascii_alphanumeric c.args.rest.now) c.args.rest.now)
    = c.component.ensures ∙ ap component (run_is (goal.at.returns-then-is_ascii_alphanumeric c).After-range) in
    let len : c.run_len-len.result ≡ prefix_len is_ascii_alphanumeric c.args.rest.now = run_len_is
    (goal.at.returns-then-is_ascii_alphanumeric c).After-run_len-len in
    rw (token, len) (sym (front_run c.args.start c.args.rest.now _ (first_byte (goal.at.returns-then-is_ascii_alphanumeric c).In_ok-first)
    (sym c.if-is_ascii_alphanumeric.ensures.value)))

pub returns : goal.returns
returns c =
    let second : c.if-bytes-gt1.second ≡ slice_index c.args.rest.now 1 = elim c.if-bytes-gt1.branch [
      | then-bytes-gt1 w ↦ w.second-is ∙ ap (λ bs. slice_index bs 1) c.as_bytes-bytes.ensures.value
      | else-bytes-gt1 w ↦ w.second-is
          ∙ sym (ap (λ bs. slice_index bs 1) (sym c.as_bytes-bytes.ensures.value)
          ∙ get_or_past c.as_bytes-bytes.result.now 1 0 w.if-bytes-gt1.false)
    ] in
    c.sign.ensures ∙ ap (sign c.in_ok-first.field-0.now) second
    ∙ sym (front_other c.args.start c.args.rest.now _ (first_byte (goal.at.returns c).In_ok-first) (sym c.if-is_space.ensures)
    (sym c.if-is_ascii_alphanumeric.ensures.value))
