-- The result of reading a whole text as a version, in terms of the grammar of versions.
use Rattle.std.proofs.Common.{◌≡◌, ℕ, zero, suc, ◌+◌, ◌<◌, ◌^◌, Bool, true, false, eqb, ◌||◌, List, [], ◌∷◌, ◌++◌, length, map}
use Rattle.std.proofs.Common.{Some, None, Option, Result, Ok, Err, sym, refl, ap, ◌∙◌, subst, inr, inl, ⊎_elim, arith, append_assoc}
use Rattle.std.proofs.Common.{append-nil, length-append, codes, decimal, IsUtf8}
use Rattle.std.specs.Prelude.{slice_index, slice_get, chars, flat_map, encode_utf8_all, not}
use Rattle.std.specs.Str.{IsAscii}
use Rattle.std.specs.List.{AllByRecursion, AllZip, join_by, join_with_byte}
use Rattle.std.specs.Char.{is_ascii_alphanumeric}
use Rattle.std.proofs.lemmas.Str.{chars-nil, chars-append, encodes-chars, IsAscii-append, IsUtf8-from_ascii}
use Rattle.std.proofs.lemmas.Str.Ascii.{IsAscii-nil}
use Rattle.std.proofs.lemmas.List.{append_cancel_left}
use Rattle.std.proofs.lemmas.Option.{none-some}
use Rattle.std.proofs.lemmas.Grind.{flat_map-append}
use Rattle.std.proofs.lemmas.Bool.Decides.{nat_tests}
use Rattle.semver_texts.specs.Texts.{marked, is_part_byte, is_space}
use Rattle.semver_tokens.specs.Tokens.{TokenValue, Dot, Hyphen, Plus, Whitespace, Numeric, token_text, tokens_text, AreInPlace}
use Rattle.semver_tokens.specs.Tokens.{AreTokensOf}
use Rattle.semver_texts.specs.Versions.{IdentifierValue, numeric, alphanumeric, VersionValue, numbers}
use Rattle.semver_texts.specs.PrintedText.{identifier_text, version_text}
use Rattle.semver_texts.specs.VersionGrammar.{SpellsIdentifier, SpellsPart, SpellsCore, SpellsVersion, IsTrimmed, IsPrintableIdentifier}
use Rattle.semver_texts.specs.VersionGrammar.{IsPrintableVersion}
use Rattle.semver_tokens.specs.ParserState.{ParserState, ErrorValue, IsStateOf}
use Rattle.semver_tokens.specs.VersionReading.{IsIdentifierShape, IsPartShape, IsOuterShape, IsVersionShape, IsLongestFront, ReadsVersion}
use Rattle.semver_tokens.specs.VersionReading.{IsOutcomeOf, whole_answer, HoldsIdentifierRun, TextMayRunOut, inner_text, inner_texts}
use Rattle.semver_tokens.proofs.Cuts.{IsAscii-token_text}
use Rattle.semver_tokens.proofs.TokenLists.{same_tokens, decimal_is_run}
use Rattle.semver_tokens.proofs.ReadingSteps.{same_front, reads_once}
use Rattle.semver_tokens.proofs.IdentifierSteps.{identifier_is_read}
use Rattle.semver_tokens.proofs.IdentifierTexts.{pieces, pieces_text, IsPlaced, each_placed}
use Rattle.semver_texts.proofs.LargeNumbers.{small_numeral}
use Rattle.semver_texts.proofs.Lists.{Passes, all_more, all_apart, passes_append, passes_apart, joined_pass}
use Rattle.semver_texts.proofs.Runs.{run_is_part}
use Rattle.semver_texts.proofs.SpelledVersions.{part_text}
use Rattle.semver_versions.proofs.OneVersion.{part_passes, bare, one_core}
use Rattle.semver_parser.proofs.VersionTokens.{HasTokens, version_tokens}

-- ---- printed texts

core_printed : (v : VersionValue) (core : List ℕ) → SpellsCore v core → core ≡ version_text v
core_printed v core w =
    w.spelled ∙ (λ i. join_with_byte 46 (map decimal (numbers v.plain)) ++ part_text _ v.plain.pre w.pre_text w.pre i
    ++ part_text _ v.build w.build_text w.build i)

-- the bytes of a version's text, without white space around it, pass p if letters and digits, dots,
-- and the bytes of its pre-release and build metadata do
core_passes : (p : ℕ → Bool) → ((b : ℕ) → is_ascii_alphanumeric b ≡ true → p b ≡ true) → p 46 ≡ true → (v : VersionValue) (core : List ℕ)
    (w : SpellsCore v core) → Passes p w.pre_text → Passes p w.build_text → Passes p core
core_passes p letters dot v core w pre build =
    rw w.spelled
    (passes_append p _ w.build_text (passes_append p three w.pre_text
    (joined_pass p 46 dot (map decimal (numbers v.plain)) (number _ w.major, (number _ w.minor, (number _ w.patch, tt)))) pre) build)
  where
    three : List ℕ
    three = join_with_byte 46 (map decimal (numbers v.plain))

    number : (n : ℕ) → n < 2 ^ 64 → Passes p (decimal n)
    number n small = all_more letters _ (decimal_is_run n small).1

-- a byte of a version's text: a byte of a part, a dot or a `+`
abbrev is_version_byte : ℕ → Bool
is_version_byte b = is_part_byte b || (eqb b 46 || eqb b 43)

no_space_byte : (b : ℕ) → is_version_byte b ≡ true → is_space b ≡ false
no_space_byte b h = grind (arith, nat_tests)

part_is_version : (b : ℕ) → is_part_byte b ≡ true → is_version_byte b ≡ true
part_is_version b h = rw h

core_bytes : (v : VersionValue) (core : List ℕ) → SpellsCore v core → Passes is_version_byte core
core_bytes v core w =
    core_passes is_version_byte (λ b h. part_is_version b (run_is_part b h)) refl v core w
    (part_passes is_version_byte part_is_version refl 45 refl v.plain.pre w.pre_text w.pre)
    (part_passes is_version_byte part_is_version refl 43 refl v.build w.build_text w.build)

no_space_at : (bs : List ℕ) → Passes is_version_byte bs → (k : ℕ) → is_space (slice_index bs k) ≡ false
no_space_at [] all k = refl
no_space_at (b ∷ bs) all zero = no_space_byte b all.0
no_space_at (b ∷ bs) all (suc k) = no_space_at bs all.1 k

pub trimmed : (v : VersionValue) (text : List ℕ) → SpellsVersion v text → IsTrimmed text (version_text v)
trimmed v text w =
    let no_space = no_space_at w.core (core_bytes v w.core w.spells) in
    subst (IsTrimmed text) (core_printed v w.core w.spells) (record {
      before = w.before;
      after = w.after;
      spaces_before = w.spaces_before;
      spaces_after = w.spaces_after;
      whole = w.whole;
      first = no_space 0;
      last = no_space _;
    })

printable_identifier : (id : IdentifierValue) (text : List ℕ) → SpellsIdentifier id text → IsPrintableIdentifier id
printable_identifier (numeric n) text w = (w.0, small_numeral n w.0)
printable_identifier (alphanumeric kept) text w = (refl, w.1, w.2)

printable_identifiers : (ids : List IdentifierValue) (texts : List (List ℕ)) → AllZip SpellsIdentifier ids texts
    → AllByRecursion IsPrintableIdentifier ids
printable_identifiers [] texts all = tt
printable_identifiers (id ∷ ids) [] all = absurd all
printable_identifiers (id ∷ ids) (t ∷ texts) all = (printable_identifier id t all.0, printable_identifiers ids texts all.1)

pub printable : (v : VersionValue) (text : List ℕ) → SpellsVersion v text → IsPrintableVersion v
printable v text w =
    record {
      major = w.spells.major;
      minor = w.spells.minor;
      patch = w.spells.patch;
      pre = printable_identifiers v.plain.pre w.spells.pre.texts w.spells.pre.each;
      build = printable_identifiers v.build w.spells.build.texts w.spells.build.each;
    }

prints_each : (ids : List IdentifierValue) → AllByRecursion IsPrintableIdentifier ids
    → AllZip SpellsIdentifier ids (map identifier_text ids)
prints_each [] all = tt
prints_each (id ∷ ids) all = (all.0, prints_each ids all.1)

-- the printed text of a printable version spells it
pub printed_spells : (v : VersionValue) → IsPrintableVersion v → SpellsVersion v (version_text v)
printed_spells v w = bare (record {
  pre_text = marked (codes "-") _;
  build_text = marked (codes "+") _;
  major = w.major;
  minor = w.minor;
  patch = w.patch;
  pre = record { texts = map identifier_text v.plain.pre; each = prints_each v.plain.pre w.pre; joined = refl };
  build = record { texts = map identifier_text v.build; each = prints_each v.build w.build; joined = refl };
  spelled = refl;
})

-- ---- from tokens to the text

outer_texts : (text : List ℕ) (ts : List TokenValue) → IsOuterShape ts → AllByRecursion (IsPlaced text) ts
    → (inner_texts ts ≡ []) × Passes is_space (tokens_text text ts)
outer_texts text [] w placed = (refl, tt)
outer_texts text ((Whitespace a b) ∷ []) w placed =
    (refl, rw (append-nil _) placed.0.1.3)
outer_texts text (t ∷ []) w placed = cc (w.1.0)
outer_texts text (t ∷ u ∷ ts) w placed = absurd (omega (arith, w.0))

-- the text of these tokens, as tokens of `text`, is their text without white space
abbrev AreSame : List ℕ → List TokenValue → Type 0
AreSame text ts = tokens_text text ts ≡ inner_texts ts

same_append : (text : List ℕ) (ts us : List TokenValue) → AreSame text ts → AreSame text us → AreSame text (ts ++ us)
same_append text ts us a b =
    flat_map-append _ ts us ∙ (λ i. a i ++ b i) ∙ sym (flat_map-append inner_text ts us)

identifier_same : (text : List ℕ) (id : List TokenValue) → IsIdentifierShape id → AreSame text id
identifier_same text id w = let whole = identifier_is_read.read id w in pieces_text text id (pieces false whole.0 id whole.1)

identifiers_same : (text : List ℕ) (ids : List (List TokenValue)) → AllByRecursion IsIdentifierShape ids
    → AreSame text (join_by (λ id. id) (Dot ∷ []) ids)
identifiers_same text [] all = refl
identifiers_same text (id ∷ ids) all =
    same_append text id (flat_map (λ id. Dot ∷ id) ids) (identifier_same text id all.0) (others ids all.1)
  where
    others : (ids : List (List TokenValue)) → AllByRecursion IsIdentifierShape ids → AreSame text (flat_map (λ id. Dot ∷ id) ids)
    others [] all = refl
    others (id ∷ ids) all =
        rw (same_append text id (flat_map (λ id. Dot ∷ id) ids) (identifier_same text id all.0) (others ids all.1))

part_same : (text : List ℕ) (mark : TokenValue) (ts : List TokenValue) → token_text text mark ≡ inner_text mark → IsPartShape mark ts
    → AreSame text ts
part_same text mark ts same w =
    ⊎_elim (λ none. rw none.1) (λ some. rw some.1 (λ i. same i ++ identifiers_same text w.ids w.each i)) w.parted

-- if the tokens without white space spell a version, the whole text spells it
pub whole_spelled : (v : VersionValue) (text : List ℕ) (ts : List TokenValue) → AreTokensOf text ts [] → IsVersionShape ts
    → SpellsCore v (inner_texts ts) → SpellsVersion v text
whole_spelled v text ts tokens shape w =
    let three : List TokenValue = join_by (λ n. Numeric n ∷ []) (Dot ∷ []) (shape.major ∷ shape.minor ∷ shape.patch ∷ []) in
    let core : List TokenValue = three ++ shape.pre ++ shape.build in
    let joined = shape.joined ∙ simp append_assoc in
    let same : AreSame text core = same_append text (three ++ shape.pre) shape.build
    (same_append text three shape.pre refl (part_same text Hyphen shape.pre refl shape.pre_shape))
    (part_same text Plus shape.build refl shape.build_shape) in
    let parts = all_apart (IsPlaced text) shape.before (core ++ shape.after)
    (subst (AllByRecursion (IsPlaced text)) joined (each_placed text 0 ts tokens.in_place)) in
    let first = outer_texts text shape.before shape.space_before parts.0 in
    let last = outer_texts text shape.after shape.space_after (all_apart (IsPlaced text) core shape.after parts.1).1 in
    let inner_is : inner_texts ts ≡ inner_texts core =
    ap inner_texts joined ∙ split3 inner_text shape.before core shape.after
    ∙ (λ i. first.0 i ++ inner_texts core ++ last.0 i) ∙ append-nil (inner_texts core) in
    record {
      before = tokens_text text shape.before;
      core = inner_texts ts;
      after = tokens_text text shape.after;
      spaces_before = first.1;
      spaces_after = last.1;
      spells = w;
      whole = tokens.spelled ∙ append-nil (tokens_text text ts) ∙ ap (tokens_text text) joined
          ∙ split3 (token_text text) shape.before core shape.after
          ∙ rw (same ∙ sym inner_is);
    }
  where
    split3 : (f : TokenValue → List ℕ) (a b c : List TokenValue)
        → flat_map f (a ++ (b ++ c)) ≡ flat_map f a ++ flat_map f b ++ flat_map f c
    split3 f a b c = simp (flat_map-append, append_assoc)

-- ---- an accepted text

tokens_ascii : (text : List ℕ) (place : ℕ) (ts : List TokenValue) → AreInPlace text place ts → IsAscii (tokens_text text ts)
tokens_ascii text place [] w = IsAscii-nil
tokens_ascii text place (t ∷ ts) w =
    IsAscii-append _ (tokens_text text ts) (IsAscii-token_text text place t w.0)
    (tokens_ascii text (place + length (token_text text t)) ts w.1)

none_first : (cs : List ℕ) → slice_get cs 0 ≡ None → cs ≡ []
none_first [] none = refl
none_first (c ∷ cs) none = absurd (none-some c (sym none))

-- if no character is pending, nothing of the text follows the tokens
no_rest : (text : List ℕ) (s : ParserState) → IsUtf8 text → (w : IsStateOf text s) → s.pending ≡ None → w.0 ≡ []
no_rest text s utf8 w none =
    let front : List ℕ = tokens_text text s.remaining in
    let front_utf8 : IsUtf8 front = IsUtf8-from_ascii front (tokens_ascii text 0 s.remaining w.1.in_place) in
    let same = ap chars w.1.spelled ∙ chars-append front w.0 front_utf8
    ∙ rw (none_first (chars w.0) (sym w.2 ∙ none)) (append-nil (chars front)) in
    append_cancel_left front w.0 [] (sym w.1.spelled ∙ sym (encodes-chars text utf8) ∙ ap encode_utf8_all same
    ∙ encodes-chars front front_utf8 ∙ sym (append-nil front))

-- if nothing of the text follows the tokens, no character is pending
no_pending : (text : List ℕ) (s : ParserState) → (w : IsStateOf text s) → w.0 ≡ [] → s.pending ≡ None
no_pending text s w empty = w.2 ∙ rw empty (rw chars-nil)

ok_whole : (v : VersionValue) (r : Result VersionValue ErrorValue) (left : List TokenValue) (pending : Option ℕ)
    → Ok v ≡ whole_answer r left pending → (r ≡ Ok v) × (left ≡ [])
ok_whole v (Err e) left pending d = cc
ok_whole v (Ok w) [] pending d = (sym d, refl)
ok_whole v (Ok w) (t ∷ left) None d = cc
ok_whole v (Ok w) (t ∷ left) (Some c) d = cc

pub accepted_spells : (v : VersionValue) (text : List ℕ) → IsUtf8 text → IsOutcomeOf text (Ok v) → SpellsVersion v text
accepted_spells v text utf8 o =
    let q = ok_whole v o.answer o.end.remaining o.end.pending o.whole in
    let w : ReadsVersion o.start (Ok v) o.end = subst (λ r. ReadsVersion o.start r o.end) q.0 o.reads in
    let empty : w.rest ≡ [] = sym w.answer.leaves ∙ q.1 in
    let all : w.front ≡ o.start.remaining = sym (w.longest.split ∙ rw empty (append-nil w.front)) in
    let none : o.start.pending ≡ None = ⊎_elim (λ some. absurd (omega (arith, some, ap length empty))) (λ n. n) w.answer.whole.known in
    whole_spelled v text o.start.remaining (subst (AreTokensOf text o.start.remaining)
    (no_rest text o.start utf8 o.state none) o.state.1) (subst IsVersionShape all w.answer.whole.shape)
    (subst (λ l. SpellsCore v (inner_texts l)) all w.answer.spelled)

-- ---- a text that spells a version

-- a byte other than `-` and `+`, the marks of a pre-release and of build metadata
abbrev pub is_no_mark : ℕ → Bool
is_no_mark b = not (eqb b 45 || eqb b 43)

pub letter_no_mark : (b : ℕ) → is_ascii_alphanumeric b ≡ true → is_no_mark b ≡ true
letter_no_mark b h = grind (arith, nat_tests)

-- the text of a part without identifiers contains no mark
no_part : (mark : List ℕ) (ids : List IdentifierValue) (part : List ℕ) → ids ≡ [] → SpellsPart mark ids part → Passes is_no_mark part
no_part mark ids part none w =
    rw (part_text mark ids part w ∙ ap (λ l. marked mark (map identifier_text l)) none) tt

module _ (v : VersionValue) (text : List ℕ) (spells : SpellsVersion v text) where
  pub has : HasTokens v text
  has = version_tokens v text spells

  -- the longest prefix of its tokens with which a version begins consists of all of them
  all_longest : IsLongestFront IsVersionShape has.ts has.ts []
  all_longest = record {
    split = sym (append-nil has.ts);
    begins = ([], subst IsVersionShape (sym (append-nil has.ts)) has.shape);
    longest = λ longer more e b. omega (arith, ap length e, length-append longer more);
  }

  state_is : (s : ParserState) (w : IsStateOf text s) → (has.ts ≡ s.remaining) × ([] ≡ w.0)
  state_is s w = same_tokens text 0 has.ts s.remaining [] w.0 has.tokens w.1

  front_is : (s : ParserState) → IsStateOf text s → (front rest : List TokenValue) → IsLongestFront IsVersionShape s.remaining front rest
      → (has.ts ≡ front) × ([] ≡ rest)
  front_is s w front rest longest =
      same_front IsVersionShape has.ts has.ts front [] rest all_longest
      (rw (state_is s w).0 longest)

  pub outcome_spelled : (x : Result VersionValue ErrorValue) → IsOutcomeOf text x → x ≡ Ok v
  outcome_spelled x o = o.whole ∙ go o.answer o.reads
    where
      go : (r : Result VersionValue ErrorValue) → ReadsVersion o.start r o.end → whole_answer r o.end.remaining o.end.pending ≡ Ok v
      go (Ok u) w =
          let same = front_is o.start o.state w.front w.rest w.longest in
          let value : u ≡ v = one_core u v (inner_texts has.ts)
          (subst (λ l. SpellsCore u (inner_texts l)) (sym same.0) w.answer.spelled) has.spells in
          ap (λ l. whole_answer (Ok u) l o.end.pending) (w.answer.leaves ∙ sym same.1)
          ∙ ap (λ z. Ok z) value
      go (Err e) w =
          let same = front_is o.start o.state w.front w.rest w.longest in
          absurd (w.answer.broken (record {
            shape = subst IsVersionShape same.0 has.shape;
            known = inr (no_pending text o.start o.state (sym (state_is o.start o.state).1));
          }))

  -- the state at the beginning of the text; below, the outcome of the text
  abbrev at_start : ParserState
  at_start = record { remaining = has.ts; pending = None }

  is_start : IsStateOf text at_start
  is_start = ([], has.tokens, rw chars-nil)

  pub spelled_outcome : IsOutcomeOf text (Ok v)
  spelled_outcome = record {
    start = at_start;
    answer = Ok v;
    end = record { remaining = []; pending = None };
    state = is_start;
    reads = record {
      front = has.ts;
      rest = [];
      longest = all_longest;
      answer = record { whole = record { shape = has.shape; known = inr refl }; spelled = has.spells; leaves = refl };
      pending = refl;
    };
    whole = refl;
  }

  -- if its tokens contain a run of an identifier, reading the text may run out of memory
  pub spelled_may_run_out : HoldsIdentifierRun has.ts → TextMayRunOut text
  spelled_may_run_out holds =
      record { start = at_start; front = has.ts; rest = []; state = is_start; longest = all_longest; why = inl holds }

  -- without a pre-release and build metadata, reading the text can't run out of memory
  pub plain_has_memory : v.plain.pre ≡ [] → v.build ≡ [] → ¬ (TextMayRunOut text)
  plain_has_memory no_pre no_build m =
      ⊎_elim
      (λ holds. no_sign (subst HoldsIdentifierRun (sym (front_is m.start m.state m.front m.rest m.longest).0) holds))
      (λ left. let e = outcome_spelled _ left.1 in cc)
      m.why
    where
      no_marks : Passes is_no_mark (inner_texts has.ts)
      no_marks =
          let w = has.spells in
          core_passes is_no_mark letter_no_mark refl v (inner_texts has.ts) w
          (no_part (codes "-") v.plain.pre w.pre_text no_pre w.pre) (no_part (codes "+") v.build w.build_text no_build w.build)

      no_sign : HoldsIdentifierRun has.ts → ⊥
      no_sign h =
          let at_sign : Passes is_no_mark (inner_text h.sign) =
          (passes_apart is_no_mark (inner_text h.sign) _
          (passes_apart is_no_mark (inner_texts h.before) _ (subst (Passes is_no_mark) (ap
          inner_texts h.split
          ∙ flat_map-append inner_text h.before (h.sign ∷ h.component ∷ h.after)) no_marks)).1).0 in
          ⊎_elim
          (λ hyphen. let e = subst (λ x. Passes is_no_mark (inner_text x)) hyphen at_sign in cc (e.0))
          (λ plus. let e = subst (λ x. Passes is_no_mark (inner_text x)) plus at_sign in cc (e.0))
          h.is_sign

-- ---- there is only one outcome

pub one_outcome : (text : List ℕ) (x y : Result VersionValue ErrorValue) → IsOutcomeOf text x → IsOutcomeOf text y → x ≡ y
one_outcome text x y a b =
    let same = same_tokens text 0 a.start.remaining b.start.remaining a.state.0 b.state.0 a.state.1 b.state.1 in
    let pending = a.state.2 ∙ rw same.1 (sym b.state.2) in
    let once = reads_once IsVersionShape SpellsCore one_core b.start a.answer b.answer a.end b.end
    (subst (λ s. ReadsVersion s a.answer a.end) (λ i. record { remaining = same.0 i; pending = pending i }) a.reads) b.reads in
    a.whole ∙ (λ i. whole_answer (once.0 i) (once.1 i).remaining (once.1 i).pending) ∙ sym b.whole
