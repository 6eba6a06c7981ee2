-- The text of an identifier's tokens is the longest prefix of letters, digits and hyphens.
use Rattle.std.proofs.Common.{◌≡◌, ℕ, ◌+◌, ◌<◌, Bool, true, false, eqb, ◌||◌, List, [], ◌∷◌, ◌++◌, length, None, Some, Option, Result}
use Rattle.std.proofs.Common.{Ok, Err, sym, refl, ap, subst, ◌∙◌, ◌⊎◌, inl, inr, arith, append_assoc}
use Rattle.std.specs.Prelude.{IsTrue, slice_index, take_while, not}
use Rattle.std.specs.List.{AllByRecursion, prefix_len}
use Rattle.std.specs.Char.{is_ascii_alphanumeric}
use Rattle.std.proofs.lemmas.List.{take_at, get_or_append_left}
use Rattle.std.proofs.lemmas.Grind.{flat_map-append}
use Rattle.std.proofs.lemmas.Option.{option_and_then_some}
use Rattle.std.proofs.lemmas.Bool.{not-true}
use Rattle.std.proofs.lemmas.Bool.Decides.{nat_tests}
use Rattle.semver_texts.specs.Texts.{is_part_byte}
use Rattle.semver_tokens.specs.Tokens.{TokenValue, Hyphen, Whitespace, Numeric, AlphaNumeric, is_component, is_sign, token_text}
use Rattle.semver_tokens.specs.Tokens.{tokens_text, IsTokenAt, IsBadStart, AreInPlace, NoneMerge, AreTokensFrom}
use Rattle.semver_tokens.specs.ParserState.{ParserState, IsStateFrom}
use Rattle.semver_texts.specs.VersionGrammar.{SpellsIdentifier}
use Rattle.semver_texts.proofs.Lists.{Passes, all_more, all_apart, passes_append}
use Rattle.semver_texts.specs.Versions.{alphanumeric}
use Rattle.semver_tokens.specs.VersionReading.{IsIdentifierShape, inner_text, inner_texts, HoldsRun, MayRunOutInIdentifier, ReadsIdentifier}
use Rattle.semver_tokens.specs.Steps.Taking.{run, PassesIdentifier, TakesIdentifier, lone_number}
use Rattle.semver_tokens.specs.ParserViews.{UnlessOutOfMemory, IfOutOfMemory}
use Rattle.semver_tokens.specs.declared.parser.Error.{Error}
use Rattle.semver_tokens.specs.declared.parser.Error.TheVariants as error
use Rattle.semver_tokens.proofs.FirstToken.{run_is_part}
use Rattle.semver_tokens.proofs.TokenLists.{prefix_is, shows_kind, decimal_is_run, opens_nothing}
use Rattle.semver_tokens.proofs.ReadingSteps.{Stops, reads_other}
use Rattle.semver_tokens.proofs.IdentifierSteps.{id_step, identifier_stops, hyphened, first_run_of, IsWellFormed, kept_as, kept_spells}

-- whether a token may be in an identifier
abbrev pub is_piece : TokenValue → Bool
is_piece Hyphen = true
is_piece t = is_component t

abbrev pub IsPiece : TokenValue → Type 0
IsPiece t = IsTrue (is_piece t)

piece_bytes : (t : TokenValue) → IsPiece t → IsWellFormed t → Passes is_part_byte (inner_text t)
piece_bytes (Numeric n) h w = all_more run_is_part _ (decimal_is_run n w).1
piece_bytes (AlphaNumeric s) h w = all_more run_is_part s w.0.1
piece_bytes Hyphen h w = (refl, tt)
piece_bytes _ h w = cc

pieces_bytes : (ts : List TokenValue) → AllByRecursion IsPiece ts → AllByRecursion IsWellFormed ts → Passes is_part_byte (inner_texts ts)
pieces_bytes [] all well = tt
pieces_bytes (t ∷ ts) all well =
    passes_append is_part_byte (inner_text t) (inner_texts ts) (piece_bytes t all.0 well.0) (pieces_bytes ts all.1 well.1)

-- the text of a token of an identifier doesn't depend on the input
piece_text : (text : List ℕ) (t : TokenValue) → IsPiece t → token_text text t ≡ inner_text t
piece_text text (Numeric n) h = refl
piece_text text (AlphaNumeric s) h = refl
piece_text text Hyphen h = refl
piece_text text _ h = cc

pub pieces_text : (text : List ℕ) (ts : List TokenValue) → AllByRecursion IsPiece ts → tokens_text text ts ≡ inner_texts ts
pieces_text text [] all = refl
pieces_text text (t ∷ ts) all = (λ i. piece_text text t all.0 i ++ pieces_text text ts all.1 i)

-- all tokens that lead on in an identifier may be in one
pub pieces : (s u : Bool) (ts : List TokenValue) → run id_step s ts ≡ Some u → AllByRecursion IsPiece ts
pieces s u [] e = tt
pieces false u (Numeric n ∷ ts) e = (refl, pieces true u ts e)
pieces false u (AlphaNumeric s ∷ ts) e = (refl, pieces true u ts e)
pieces false u (t ∷ ts) e = cc
pieces true u (Hyphen ∷ ts) e = (refl, pieces false u ts e)
pieces true u (t ∷ ts) e = cc

-- ---- the tokens of a text are well formed

well_formed : (text : List ℕ) (place : ℕ) (t : TokenValue) → IsTokenAt text place t → IsWellFormed t
well_formed text place (Numeric n) w = w
well_formed text place (AlphaNumeric s) w = w
well_formed text place _ w = tt

-- the token is at some offset of the text
abbrev pub IsPlaced : List ℕ → TokenValue → Type 0
IsPlaced text t = (at : ℕ) × IsTokenAt text at t

pub each_placed : (text : List ℕ) (place : ℕ) (ts : List TokenValue) → AreInPlace text place ts → AllByRecursion (IsPlaced text) ts
each_placed text place [] a = tt
each_placed text place (t ∷ ts) a = ((place, a.0), each_placed text (place + length (token_text text t)) ts a.1)

-- ---- the token after an identifier

-- a token that is neither a hyphen nor a component doesn't begin with a hyphen, a letter or a digit
other_hyphen : (text : List ℕ) (place : ℕ) (t : TokenValue) → IsTokenAt text place t → ¬ (t ≡ Hyphen) → is_component t ≡ false
    → is_part_byte (slice_index (token_text text t) 0) ≡ false
other_hyphen text place (Whitespace first after) w other run =
    space_no_part (slice_index (token_text text (Whitespace first after)) 0) (shows_kind text place (Whitespace first after) w).space
  where
    space_no_part : (b : ℕ) → ((eqb b 32 || eqb b 9) || (eqb b 10 || eqb b 13)) ≡ true → is_part_byte b ≡ false
    space_no_part b h = grind (arith, nat_tests)
other_hyphen text place (Numeric n) w other run = cc
other_hyphen text place (AlphaNumeric s) w other run = cc
other_hyphen text place Hyphen w other run = absurd (other refl)
other_hyphen text place _ w other run = refl

-- neither does a text at whose beginning no token begins
bad_byte : (rest : List ℕ) → (rest ≡ []) ⊎ IsBadStart rest → is_part_byte (slice_index rest 0) ≡ false
bad_byte [] ended = refl
bad_byte (b ∷ bs) (inl e) = cc
bad_byte (b ∷ bs) (inr bad) = no_part b (opens_nothing b bs bad.1).2 (no_sign (is_sign b) _ _ bad.1)
  where
    no_sign : (a s r : Bool) → not ((a || s) || r) ≡ true → a ≡ false
    no_sign true s r h = cc
    no_sign false s r h = refl

    no_part : (b : ℕ) → is_ascii_alphanumeric b ≡ false → is_sign b ≡ false → is_part_byte b ≡ false
    no_part b r s = grind (arith, nat_tests)

-- the last token of an identifier is a run, so the token after it isn't one
no_run_follows : (s : Bool) (ts : List TokenValue) (t : TokenValue) (us : List TokenValue) → 0 < length ts → run id_step s ts ≡ Some true
    → NoneMerge (ts ++ t ∷ us) → is_component t ≡ false
no_run_follows s [] t us some e none = absurd (omega (arith, some))
no_run_follows false (Numeric n ∷ []) t us some e none = not-true (is_component t) none.0
no_run_follows false (AlphaNumeric b ∷ []) t us some e none = not-true (is_component t) none.0
no_run_follows false (x ∷ []) t us some e none = cc
no_run_follows true (Hyphen ∷ []) t us some e none = cc
no_run_follows true (x ∷ []) t us some e none = cc
no_run_follows s (x ∷ y ∷ ts) t us some e none =
    option_and_then_some _ (id_step s x) true e (λ q here on. no_run_follows q (y ∷ ts) t us (omega arith) on none.1)

-- the text after an identifier doesn't begin with a hyphen, a letter or a digit
follows : (text : List ℕ) (place : ℕ) (ts rest : List TokenValue) (end : List ℕ) → 0 < length ts → run id_step false ts ≡ Some true
    → Stops id_step true rest
    → AreInPlace text place (ts ++ rest) → NoneMerge (ts ++ rest) → (end ≡ []) ⊎ IsBadStart end
    → is_part_byte (slice_index (tokens_text text rest ++ end) 0) ≡ false
follows text place ts [] end some leads stops in_place none ended = bad_byte end ended
follows text place ts (t ∷ us) end some leads stops in_place none ended =
    let here = (all_apart (IsPlaced text) ts (t ∷ us) (each_placed text place (ts ++ t ∷ us) in_place)).1.0 in
    let shown : 0 < length (token_text text t) = (shows_kind text here.0 t here.1).some in
    ap (λ l. is_part_byte (slice_index l 0)) (append_assoc (token_text text t) (tokens_text text us) end)
    ∙ ap is_part_byte (get_or_append_left (token_text text t) (tokens_text text us ++ end) 0 0 shown)
    ∙ other_hyphen text here.0 t here.1 (λ e. cc)
    (no_run_follows false ts t us some leads none)

some_led : (ts : List TokenValue) → run id_step false ts ≡ Some true → 0 < length ts
some_led [] e = cc
some_led (t ∷ ts) e = omega arith

-- ---- an identifier that was read

-- the text of the tokens is the longest prefix of letters, digits and hyphens, and they are well formed
pub record IsCut (text : List ℕ) (front : List TokenValue) : Type 0 where
  pub cut : take_while is_part_byte text ≡ inner_texts front
  pub well : AllByRecursion IsWellFormed front

pub front_is_cut : (text : List ℕ) (s t : ParserState) (n : Option ℕ) → IsStateFrom text s → (w : PassesIdentifier s (Ok n) t)
    → IsCut text w.front
front_is_cut text s t n from w =
    let front : List TokenValue = w.front in
    let stop = identifier_stops w.longest w.answer.whole.shape in
    let leads = stop.0 in
    let tokens : AreTokensFrom from.input from.place (front ++ w.rest) from.rest = rw w.longest.split at from.tokens in
    let well : AllByRecursion IsWellFormed front = all_more (λ t placed. well_formed from.input placed.0 t placed.1) front
    (all_apart (IsPlaced from.input) front w.rest (each_placed from.input from.place (front ++ w.rest) tokens.in_place)).0 in
    let after : List ℕ = tokens_text from.input w.rest ++ from.rest in
    let spelled : text ≡ inner_texts front ++ after =
    from.begins ∙ tokens.spelled ∙ ap (λ l. l ++ from.rest) (flat_map-append (token_text from.input) front w.rest)
    ∙ append_assoc (tokens_text from.input front) (tokens_text from.input w.rest) from.rest
    ∙ ap (λ l. l ++ after) (pieces_text from.input front (pieces false true front leads)) in
    let len : prefix_len is_part_byte (inner_texts front ++ after) ≡ length (inner_texts front) =
    prefix_is is_part_byte (inner_texts front) after (pieces_bytes front (pieces false true front leads) well) refl
    (follows from.input from.place front w.rest from.rest (some_led front leads) leads stop.1
    tokens.in_place tokens.none_merge tokens.ended)
    in
    record {
      cut = ap (take_while is_part_byte) spelled ∙ take_at (inner_texts front) after _ (sym len);
      well = well;
    }

-- the value of an identifier that was read: its number, or that longest prefix if it isn't a number
pub front_has_value : (text : List ℕ) (s t : ParserState) (n : Option ℕ) → IsStateFrom text s → (w : PassesIdentifier s (Ok n) t)
    → n ≡ lone_number w.front → SpellsIdentifier (kept_as n (take_while is_part_byte text)) (inner_texts w.front)
front_has_value text s t n from w number =
    let c = front_is_cut text s t n from w in
    rw (number, c.cut) (kept_spells w.front w.answer.whole.shape c.well)

-- an identifier that isn't a number is read as that longest prefix
pub reads_text : (text kept : List ℕ) (s t : ParserState) (n : Option ℕ) → IsStateFrom text s → (w : TakesIdentifier s (Ok n) t)
    → n ≡ None → kept ≡ take_while is_part_byte text → ReadsIdentifier s (Ok (alphanumeric kept)) t
reads_text text kept s t n from w none is =
    let value = front_has_value text s t n from w.passes w.number in
    reads_other SpellsIdentifier s t n (alphanumeric kept) w.passes
    (subst (λ x. SpellsIdentifier (kept_as x kept) (inner_texts w.passes.front)) none
    (subst (λ l. SpellsIdentifier (kept_as n l) (inner_texts w.passes.front)) (sym is) value))

-- an identifier contains a run
pub front_holds_run : (front : List TokenValue) → IsIdentifierShape front → HoldsRun front
front_holds_run front w =
    let f = first_run_of front w in record { before = []; component = f.first; after = hyphened f.runs; split = f.is; is_run = f.first_run }

-- ---- results of a call

pub unless_out_of_memory : {T P : Type 0} (r : Result T Error) → P → UnlessOutOfMemory r P
unless_out_of_memory (Err error.OutOfMemory) p = tt
unless_out_of_memory _ p = p

-- if P implies Q, then Q may replace P in a statement about an error
pub unless_err : {P Q : Type 0} (e : Error) → (P → Q) → UnlessOutOfMemory {T = Unit {0}} (Err e) P
    → UnlessOutOfMemory {T = Unit {0}} (Err e) Q
unless_err error.OutOfMemory f p = tt
unless_err _ f p = f p

pub if_err : {P Q : Type 0} (e : Error) → (P → Q) → IfOutOfMemory {T = Unit {0}} (Err e) P → IfOutOfMemory {T = Unit {0}} (Err e) Q
if_err error.OutOfMemory f p = f p
if_err _ f p = tt

-- if reading an identifier can succeed, it can also run out of memory and leave the same state
pub read_may_run_out : {n : Option ℕ} (s t : ParserState) → PassesIdentifier s (Ok n) t → MayRunOutInIdentifier s t
read_may_run_out s t w = record {
  front = w.front;
  rest = w.rest;
  longest = w.longest;
  holds = front_holds_run w.front w.answer.whole.shape;
  left =
      record {
        taken = w.front;
        split = cc;
        pending = w.pending;
      };
}
