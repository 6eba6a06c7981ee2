-- The tokens of a text that spells a version have the shape of a version, and spell that version.
use Rattle.std.proofs.Common.{◌≡◌, ℕ, ◌+◌, ◌<◌, ◌^◌, true, false, List, [], ◌∷◌, ◌++◌, length, take, drop, Some, sym, refl}
use Rattle.std.proofs.Common.{ap, ◌∙◌, subst, inl, arith, append_assoc, append-nil, length-append, length-drop, decimal}
use Rattle.std.specs.Prelude.{option_and_then, slice_index, slice_range}
use Rattle.std.specs.List.{AllByRecursion, AllZip, join_with_byte}
use Rattle.std.specs.Char.{is_ascii_alphanumeric}
use Rattle.std.proofs.lemmas.List.{take_at, drop_at, drop-drop}
use Rattle.semver_texts.specs.Texts.{marked, IsRun, is_space}
use Rattle.semver_tokens.specs.Tokens.{TokenValue, Dot, Hyphen, Plus, Whitespace, Numeric, token_text, IsTokenAt, AreTokensFrom}
use Rattle.semver_tokens.specs.Tokens.{AreTokensOf}
use Rattle.semver_tokens.specs.Steps.Scanning.{component}
use Rattle.semver_texts.specs.Versions.{IdentifierValue, numeric, alphanumeric, VersionValue}
use Rattle.semver_texts.specs.VersionGrammar.{SpellsIdentifier, SpellsPart, SpellsCore, SpellsVersion}
use Rattle.semver_tokens.specs.VersionReading.{IsVersionShape, inner_text, inner_texts}
use Rattle.semver_tokens.specs.Steps.Taking.{run, major, minor, patch, Part, pre_release, build, Place, start, at_number, after_number}
use Rattle.semver_tokens.specs.Steps.Taking.{at_run, after_run, end, step, accepts}
use Rattle.semver_texts.proofs.Lists.{Passes}
use Rattle.semver_tokens.proofs.FirstToken.{continues_into, continues-component, token_text-component, IsTokenAt-component}
use Rattle.semver_tokens.proofs.FirstToken.{space_is_no_run}
use Rattle.semver_tokens.proofs.TokenLists.{tokens_cons, shows_kind, decimal_is_run}
use Rattle.semver_tokens.proofs.Components.{component_cases}
use Rattle.semver_tokens.proofs.VersionSteps.{version_is_read}
use Rattle.semver_tokens.proofs.VersionTaking.{mark_of}
use Rattle.semver_versions.proofs.OneVersion.{at_numbers, after_spaces, build_ends, pre_ends, numbers_end, numbers_first, core_begins}

-- the tokens of the text from an offset on: they lead from the position p in a version to one at
-- which it may end, and spell `spelled`, not counting white space
record AreEnding (text : List ℕ) (p : Place) (spelled : List ℕ) (at : ℕ) : Type 0 where
  ts : List TokenValue
  tokens : AreTokensFrom text at ts []
  last : Place
  leads : run step p ts ≡ Some last
  may_end : accepts last ≡ true
  text_is : inner_texts ts ≡ spelled

-- there are such tokens at each offset of the text at which `suffix` is left
abbrev EndsWith : List ℕ → List ℕ → Place → List ℕ → Type 0
EndsWith text suffix p spelled = (at : ℕ) → drop at text ≡ suffix → AreEnding text p spelled at

-- the token of a run has the run as its text, not counting white space
run_inner : (run : List ℕ) → 0 < length run → inner_text (component run) ≡ run
run_inner run some =
    component_cases run (λ t. inner_text t ≡ token_text [] t) (λ c. refl) (λ other. refl) ∙ token_text-component [] run some

run_leads : (part : Part) (run : List ℕ) → step (at_run part) (component run) ≡ Some (after_run part)
run_leads part run = component_cases run (λ t. step (at_run part) t ≡ Some (after_run part)) (λ c. refl) (λ other. refl)

module _ (text : List ℕ) where
  -- one more token before such tokens
  one_more : (t : TokenValue) (p q : Place) (more spelled : List ℕ) (at : ℕ) → drop at text ≡ token_text text t ++ more
      → IsTokenAt text at t → continues_into t more ≡ false → step p t ≡ Some q → EndsWith text more q spelled
      → AreEnding text p (inner_text t ++ spelled) at
  one_more t p q more spelled at here is_token stops leads rest =
      let n : ℕ = length (token_text text t) in
      let after : drop n (drop at text) ≡ more = ap (drop n) here ∙ drop_at (token_text text t) more n refl in
      let e = rest (at + n) (sym (drop-drop n at text) ∙ after) in
      record {
        ts = t ∷ e.ts;
        tokens = tokens_cons text at t n e.ts [] (record {
          front =
              record {
                spelled = here ∙ ap (λ l. token_text text t ++ l) (sym after);
                is_token = is_token;
                stops = ap
                    (continues_into t) after ∙ stops;
              };
          len = refl;
          positive = (shows_kind text at t is_token).some;
        }) e.tokens;
        last = e.last;
        leads = ap (option_and_then (λ v. run step v e.ts)) leads ∙ e.leads;
        may_end = e.may_end;
        text_is = ap (λ l. inner_text t ++ l) e.text_is;
      }

  -- ---- white space

  slice_here : (at : ℕ) (spaces more : List ℕ) → drop at text ≡ spaces ++ more → slice_range text at (at + length spaces) ≡ spaces
  slice_here at spaces more here =
      ap (λ m. take m (drop at text)) (omega arith) ∙ ap (take (length spaces)) here ∙ take_at spaces more (length spaces) refl

  space_at : (at : ℕ) (spaces more : List ℕ) → drop at text ≡ spaces ++ more → 0 < length spaces → Passes is_space spaces
      → IsTokenAt text at (Whitespace at (at + length spaces))
  space_at at spaces more here some all = (
    refl,
    omega arith,
    omega (arith, length-drop at text, ap length here, length-append spaces more),
    subst (Passes is_space) (sym (slice_here at spaces more here)) all,
  )

  -- white space is one token, or none
  spaces_more : (p q : Place) (spaces more spelled : List ℕ) → Passes is_space spaces → is_space (slice_index more 0) ≡ false
      → ((a b : ℕ) → step p (Whitespace a b) ≡ Some q) → EndsWith text more p spelled → EndsWith text more q spelled
      → EndsWith text (spaces ++ more) p spelled
  spaces_more p q [] more spelled all stops leads without rest at here = without at here
  spaces_more p q (b ∷ spaces) more spelled all stops leads without rest at here =
      let n : ℕ = at + length (b ∷ spaces) in
      one_more (Whitespace at n) p q more spelled at
      (here ∙ ap (λ l. l ++ more) (sym (slice_here at (b ∷ spaces) more here)))
      (space_at at (b ∷ spaces) more here (omega arith) all) stops (leads at n) rest

  nothing_more : (p : Place) → accepts p ≡ true → EndsWith text [] p []
  nothing_more p may at here =
      record {
        ts = [];
        tokens = record { spelled = here; in_place = tt; none_merge = tt; ended = inl refl };
        last = p;
        leads = refl;
        may_end = may;
        text_is = refl;
      }

  -- ---- tokens before white space at the end of the text

  module _ (after : List ℕ) (spaces : Passes is_space after) where
    abbrev Ends : Place → List ℕ → Type 0
    Ends p spelled = EndsWith text (spelled ++ after) p spelled

    abbrev NoRun : List ℕ → Type 0
    NoRun spelled = is_ascii_alphanumeric (slice_index (spelled ++ after) 0) ≡ false

    end_more : (p : Place) → accepts p ≡ true → ((a b : ℕ) → step p (Whitespace a b) ≡ Some end) → Ends p []
    end_more p may space =
        subst (λ l. EndsWith text l p []) (append-nil after)
        (spaces_more p end after [] [] spaces refl space (nothing_more p may) (nothing_more end refl))

    dot_more : (p q : Place) (spelled : List ℕ) → step p Dot ≡ Some q → Ends q spelled → Ends p (46 ∷ spelled)
    dot_more p q spelled leads rest at here = one_more Dot p q (spelled ++ after) spelled at here tt refl leads rest

    number_more : (n : ℕ) (p q : Place) (spelled : List ℕ) → n < 2 ^ 64 → NoRun spelled → step p (Numeric n) ≡ Some q → Ends q spelled
        → Ends p (decimal n ++ spelled)
    number_more n p q spelled small stops leads rest at here =
        one_more (Numeric n) p q (spelled ++ after) spelled at (here ∙ append_assoc (decimal n) spelled after) small stops leads rest

    -- ---- identifiers

    module _ (part : Part) where
      -- a run of letters and digits
      run_more : (bytes spelled : List ℕ) → IsRun bytes → NoRun spelled → Ends (after_run part) spelled
          → Ends (at_run part) (bytes ++ spelled)
      run_more bytes spelled w stops rest at here =
          rw (run_inner bytes w.0) at (one_more (component bytes) (at_run part) (after_run part) (spelled ++ after) spelled at
          (here ∙ append_assoc bytes spelled after
          ∙ ap (λ l. l ++ (spelled ++ after)) (sym (token_text-component text bytes w.0)))
          (IsTokenAt-component text at bytes w) (continues-component bytes (slice_index (spelled ++ after) 0) ∙ stops)
          (run_leads part bytes) rest)

      runs_more : (runs : List (List ℕ)) (spelled : List ℕ) → 0 < length runs → AllByRecursion IsRun runs → NoRun spelled
          → Ends (after_run part) spelled → Ends (at_run part) (join_with_byte 45 runs ++ spelled)
      runs_more [] spelled some each stops rest = absurd (omega (arith, some))
      runs_more (r ∷ []) spelled some each stops rest = run_more r spelled each.0 stops rest
      runs_more (r ∷ next ∷ runs) spelled some each stops rest =
          let others : List ℕ = join_with_byte 45 (next ∷ runs) ++ spelled in
          subst (Ends (at_run part)) (sym (append_assoc r (45 ∷ join_with_byte 45 (next ∷ runs)) spelled))
          (run_more r (45 ∷ others) each.0 refl
          (λ at here. one_more Hyphen (after_run part) (at_run part) (others ++ after) others at here tt refl refl
          (runs_more (next ∷ runs) spelled (omega arith) each.1 stops rest)))

      identifier_more : (id : IdentifierValue) (bytes spelled : List ℕ) → SpellsIdentifier id bytes → NoRun spelled
          → Ends (after_run part) spelled → Ends (at_run part) (bytes ++ spelled)
      identifier_more (numeric n) bytes spelled w stops rest =
          rw w.1
          (run_more (decimal n) spelled (decimal_is_run n w.0) stops rest)
      identifier_more (alphanumeric kept) bytes spelled w stops rest =
          subst (λ l. Ends (at_run part) (l ++ spelled)) (sym (w.0 ∙ w.1.joined))
          (runs_more w.1.runs spelled w.1.some w.1.each stops rest)

      identifiers_more : (ids : List IdentifierValue) (texts : List (List ℕ)) (spelled : List ℕ) → 0 < length texts
          → AllZip SpellsIdentifier ids texts → NoRun spelled → Ends (after_run part) spelled
          → Ends (at_run part) (join_with_byte 46 texts ++ spelled)
      identifiers_more ids [] spelled some each stops rest = absurd (omega (arith, some))
      identifiers_more [] (t ∷ texts) spelled some each stops rest = absurd each
      identifiers_more (id ∷ ids) (t ∷ []) spelled some each stops rest = identifier_more id t spelled each.0 stops rest
      identifiers_more (id ∷ ids) (t ∷ next ∷ texts) spelled some each stops rest =
          subst (Ends (at_run part)) (sym (append_assoc t (46 ∷ join_with_byte 46 (next ∷ texts)) spelled))
          (identifier_more id t (46 ∷ (join_with_byte 46 (next ∷ texts) ++ spelled)) each.0 refl
          (dot_more (after_run part) (at_run part) _ refl (identifiers_more ids (next ∷ texts) spelled (omega arith) each.1 stops rest)))

    mark_more : (part : Part) (from : Place) (spelled : List ℕ) → step from (mark_of part) ≡ Some (at_run part) → Ends (at_run part) spelled
        → Ends from (inner_text (mark_of part) ++ spelled)
    mark_more pre_release from spelled leads rest at here =
        one_more Hyphen from (at_run pre_release) (spelled ++ after) spelled at here tt refl leads rest
    mark_more build from spelled leads rest at here =
        one_more Plus from (at_run build) (spelled ++ after) spelled at here tt refl leads rest

    -- a pre-release or build metadata with its mark, or nothing
    part_more : (part : Part) (from : Place) (ids : List IdentifierValue) (bytes spelled : List ℕ)
        → step from (mark_of part) ≡ Some (at_run part) → SpellsPart (inner_text (mark_of part)) ids bytes → NoRun spelled
        → Ends from spelled → Ends (after_run part) spelled → Ends from (bytes ++ spelled)
    part_more part from ids bytes spelled leads w stops without rest =
        subst (λ l. Ends from (l ++ spelled)) (sym w.joined) (at_texts w.texts w.each)
      where
        at_texts : (texts : List (List ℕ)) → AllZip SpellsIdentifier ids texts
            → Ends from (marked (inner_text (mark_of part)) texts ++ spelled)
        at_texts [] each = without
        at_texts (t ∷ texts) each =
            subst (Ends from) (sym (append_assoc (inner_text (mark_of part)) (join_with_byte 46 (t ∷ texts)) spelled))
            (mark_more part from (join_with_byte 46 (t ∷ texts) ++ spelled) leads
            (identifiers_more part ids (t ∷ texts) spelled (omega arith) each stops rest))

-- ---- a version

-- the tokens of a text that spells a version
pub record HasTokens (v : VersionValue) (text : List ℕ) : Type 0 where
  pub ts : List TokenValue
  pub tokens : AreTokensOf text ts []
  pub shape : IsVersionShape ts
  pub spells : SpellsCore v (inner_texts ts)

module _ (v : VersionValue) (text : List ℕ) (w : SpellsVersion v text) where
  abbrev EndsAt : Place → List ℕ → Type 0
  EndsAt p spelled = Ends text w.after w.spaces_after p spelled

  ended : (p : Place) → accepts p ≡ true → ((a b : ℕ) → step p (Whitespace a b) ≡ Some end) → EndsAt p []
  ended p may space = end_more text w.after w.spaces_after p may space

  at_build : (p : Place) → accepts p ≡ true → ((a b : ℕ) → step p (Whitespace a b) ≡ Some end) → step p Plus ≡ Some (at_run build)
      → EndsAt p w.spells.build_text
  at_build p may space plus =
      subst (EndsAt p) (append-nil w.spells.build_text)
      (part_more text w.after w.spaces_after build p v.build w.spells.build_text [] plus w.spells.build
      (build_ends w is_ascii_alphanumeric refl space_is_no_run) (ended p may space) (ended (after_run build) refl (λ a b. refl)))

  at_patch : EndsAt (at_number patch) (decimal v.plain.patch ++ (w.spells.pre_text ++ w.spells.build_text))
  at_patch =
      number_more text w.after w.spaces_after v.plain.patch (at_number patch) (after_number patch) _ w.spells.patch
      (rw append_assoc (numbers_end w is_ascii_alphanumeric refl space_is_no_run refl refl)) refl
      (part_more text w.after w.spaces_after pre_release (after_number patch) v.plain.pre w.spells.pre_text w.spells.build_text refl
      w.spells.pre (pre_ends w is_ascii_alphanumeric refl space_is_no_run refl) (at_build (after_number patch) refl (λ a b. refl) refl)
      (at_build (after_run pre_release) refl (λ a b. refl) refl))

  at_core : (p : Place) → step p (Numeric v.plain.major) ≡ Some (after_number major) → EndsAt p w.core
  at_core p leads =
      subst (EndsAt p) (sym (w.spells.spelled ∙ simp append_assoc))
      (number_more text w.after w.spaces_after v.plain.major p (after_number major) _ w.spells.major refl leads
      (dot_more text w.after w.spaces_after (after_number major) (at_number minor) _ refl
      (number_more text w.after w.spaces_after v.plain.minor (at_number minor) (after_number minor) _ w.spells.minor refl refl
      (dot_more text w.after w.spaces_after (after_number minor) (at_number patch) _ refl at_patch))))

  pub version_tokens : HasTokens v text
  version_tokens =
      let whole = spaces_more text start (at_number major) w.before (at_numbers w) w.core w.spaces_before
      (numbers_first (core_begins w)) (λ a b. refl) (at_core start refl) (at_core (at_number major) refl) 0 (after_spaces w) in
      record {
        ts = whole.ts;
        tokens = whole.tokens;
        shape = version_is_read.shape whole.ts whole.last whole.leads whole.may_end;
        spells = subst (SpellsCore v) (sym whole.text_is) w.spells;
      }
