-- Two results for the same version text, or the same state of a parser, are equal, unless memory
-- ran out.
use Rattle.std.proofs.Common.{◌≡◌, ◌↔◌, ◌∙◌, ◌<◌, ◌^◌, ◌++◌, ◌∷◌, [], ℕ, List, refl, sym, ap, arith, length, decimal}
use Rattle.std.proofs.Common.{Option, Some, None, Result, Ok, Err, IfOk, IfErr, MatchOption, option_map, alloc_error}
use Rattle.std.specs.Prelude.{IsErr, IsOk, chars, slice_get}
use Rattle.std.specs.List.{slice_split}
use Rattle.std.proofs.lemmas.Fmt.{decimal_injective}
use Rattle.std.proofs.lemmas.List.{append_cancel_left}
use Rattle.std.proofs.lemmas.List.Splits.{length-slice_split}
use Rattle.std.specs.Borrow.{Bor}
use Rattle.std.specs.declared.alloc.AllocError.{AllocError}
use Rattle.semver_texts.specs.Texts.{Text, BeginsWithNumbers, IsNumber, is_dot}
use Rattle.semver_texts.specs.Versions.{VersionValue, IdentifierValue, alphanumeric}
use Rattle.semver_texts.specs.VersionGrammar.{SpellsCore, SpellsIdentifier}
use Rattle.semver_texts.specs.VersionViews.{version_value, identifier_value}
use Rattle.semver_texts.specs.declared.version.Version.{Version}
use Rattle.semver_texts.specs.declared.version.Identifier.{Identifier}
use Rattle.semver_texts.proofs.Numbers.{same_numbers}
use Rattle.semver_texts.proofs.DottedParts.{IsSplit}
use Rattle.semver_tokens.specs.Tokens.{TokenValue, AreTokensOf, IsBadStart}
use Rattle.semver_tokens.specs.ParserState.{ParserState, ErrorValue, IsStateOf}
use Rattle.semver_tokens.specs.ParserState as spec
use Rattle.semver_tokens.specs.ParserViews.{UnlessOutOfMemory, IfOutOfMemory, answer_of, step_of, error_value}
use Rattle.semver_tokens.specs.VersionReading.{IsIdentifierShape, IsVersionShape, Reads, ReadsIdentifier, ReadsVersion}
use Rattle.semver_tokens.specs.declared.parser.Error.{Error}
use Rattle.semver_tokens.specs.declared.parser.Error.TheVariants as error
use Rattle.semver_tokens.proofs.ReadingSteps.{reads_once}
use Rattle.semver_versions.proofs.OneVersion.{one_core, same_identifier}
use Rattle.result_laws.specs.OneResult.{AreOne}
use Rattle.result_laws.proofs.OneResult.{one_found, one_made, of_ok}
use Rattle.result_laws.specs.SeenTexts.{seen_numbers, seen_text}

pub one_read : (P : VersionValue → Type 0) (r s : Result (Option Version) AllocError)
    → ((v : VersionValue) → IfOk r (λ found. (option_map version_value found ≡ Some v) ↔ P v))
    → ((v : VersionValue) → IfOk s (λ found. (option_map version_value found ≡ Some v) ↔ P v))
    → AreOne alloc_error (option_map version_value) r s
one_read P r s f g = one_made (option_map version_value) r s (λ a b is is'. one_found P _ _ (λ v. of_ok _ is (f v)) (λ v. of_ok _ is' (g v)))

-- ---- numbers and parts

pub one_number : (text : Text) (x y : Option ℕ) → MatchOption x (¬ (IsNumber text)) (λ n. (n < 2 ^ 64) × (text ≡ decimal n))
    → MatchOption y (¬ (IsNumber text)) (λ n. (n < 2 ^ 64) × (text ≡ decimal n)) → x ≡ y
one_number text (Some n) (Some m) p q = ap Some (decimal_injective n m p.0 q.0 (sym p.1 ∙ q.1))
one_number text (Some n) None p q = absurd (q (n, p.0, p.1))
one_number text None (Some m) p q = absurd (p (m, q.0, q.1))
one_number text None None p q = refl

abbrev pub HasNumbers : Text → Option (ℕ × ℕ × ℕ × Bor Text) → Type 0
HasNumbers bytes found = MatchOption found ((a b c : ℕ) (rest : Text) → ¬ (BeginsWithNumbers bytes a b c rest))
    (λ r. BeginsWithNumbers bytes r.0 r.1 r.2 r.3.now)

pub one_numbers : (bytes : Text) (x y : Option (ℕ × ℕ × ℕ × Bor Text)) → HasNumbers bytes x → HasNumbers bytes y
    → option_map seen_numbers x ≡ option_map seen_numbers y
one_numbers bytes (Some n) (Some m) p q =
    let same = same_numbers bytes _ _ _ _ _ _ _ _ p q in
    ap Some (λ i. (same.0 i, same.1 i, same.2 i, same.3 i))
one_numbers bytes (Some n) None p q = absurd (q _ _ _ _ p)
one_numbers bytes None (Some m) p q = absurd (p _ _ _ _ q)
one_numbers bytes None None p q = refl

-- a list of one part isn't a list of two or more
one_part : (part other rest : Text) → part ∷ [] ≡ other ∷ slice_split is_dot rest → ⊥
one_part part other rest e = omega (arith, ap length e, length-slice_split is_dot rest)

pub one_split : (bytes part other : Text) (x y : Option (Bor Text)) → IsSplit bytes part x → IsSplit bytes other y
    → (part ≡ other) × (option_map seen_text x ≡ option_map seen_text y)
one_split bytes part other None None a b = (sym a.1 ∙ b.1, refl)
one_split bytes part other None (Some s) a b = absurd (one_part part other s.now (sym a.0 ∙ b.0))
one_split bytes part other (Some r) None a b = absurd (one_part other part r.now (sym b.0 ∙ a.0))
one_split bytes part other (Some r) (Some s) a b =
    let same : part ≡ other = cc in
    let rests = append_cancel_left part (46 ∷ r.now) (46 ∷ s.now) (sym a.1 ∙ b.1 ∙ ap (λ x. x ++ 46 ∷ s.now) (sym same)) in
    let rest : r.now ≡ s.now = cc in
    (same, ap Some rest)

-- ---- parsers

abbrev pub OneTokenList : Type 0
OneTokenList = (text : Text) (ts us : List TokenValue) (rest other : Text) → AreTokensOf text ts rest
    → AreTokensOf text us other → (ts ≡ us) × (rest ≡ other)

pub one_state : OneTokenList → (text : Text) (s t : ParserState) → IsStateOf text s → IsStateOf text t → s ≡ t
one_state same_tokens text s t a b =
    let same = same_tokens text s.remaining t.remaining a.0 b.0 a.1 b.1 in
    let pending = a.2 ∙ ap (λ rest. slice_get (chars rest) 0) same.1 ∙ sym b.2 in
    (λ i. record { remaining = same.0 i; pending = pending i })

-- the clauses of `Parser::new`
pub record Begins (text : Text) (r : Result ParserState Error) : Type 0 where
  pub ok : IfOk r (λ p. IsStateOf text p)
  pub lexer : IfErr r (λ e. (c : ℕ) × (error_value e ≡ spec.Lexer c) × IsStateOf text (record { remaining = []; pending = Some c }))
  pub bad_start : IsErr r ↔ IsBadStart text

pub one_parser : OneTokenList → (text : Text) (r s : Result ParserState Error) → Begins text r → Begins text s
    → answer_of (λ p. p) r ≡ answer_of (λ p. p) s
one_parser same_tokens text (Ok p) (Ok q) a b = ap Ok (one_state same_tokens text p q a.ok b.ok)
one_parser same_tokens text (Ok p) (Err f) a b = let no = a.bad_start.1 (b.bad_start.0 refl) in cc
one_parser same_tokens text (Err e) (Ok q) a b = let no = b.bad_start.1 (a.bad_start.0 refl) in cc
one_parser same_tokens text (Err e) (Err f) a b =
    let same = ap (λ (s : ParserState). s.pending) (one_state same_tokens text _ _ a.lexer.2 b.lexer.2) in
    let errors : error_value e ≡ error_value f = cc in
    ap Err errors

pub unless_more : {T P Q : Type 0} (r : Result T Error) → (P → Q) → UnlessOutOfMemory r P → UnlessOutOfMemory r Q
unless_more (Err error.OutOfMemory) f p = tt
unless_more r f p = f p

pub unless_both : {T U P Q R : Type 0} (r : Result T Error) (s : Result U Error) → (P → Q → R) → UnlessOutOfMemory r P
    → UnlessOutOfMemory s Q
    → UnlessOutOfMemory r (UnlessOutOfMemory s R)
unless_both r s f p q = unless_more r (λ x. unless_more s (f x) q) p

step_is : {T A : Type 0} (view : T → A) (r : Result T Error) (s : ParserState) → step_of view r s ≡ ((step_of view r s).0, s)
step_is view (Ok x) s = refl
step_is view (Err e) s = refl

-- if a text spells only one value, two calls that read from the same state return the same result
-- and leave the same state
pub one_step : {T V : Type 0} (view : T → V) (Shape : List TokenValue → Type 0) (Spells : V → Text → Type 0)
    → ((v w : V) (text : Text) → Spells v text → Spells w text → v ≡ w) → (before : ParserState) (r q : Result T Error)
    (s t : ParserState) → Reads Shape Spells before (step_of view r s).0 s → Reads Shape Spells before (step_of view q t).0 t
    → step_of view r s ≡ step_of view q t
one_step view Shape Spells once before r q s t a b =
    let same = reads_once Shape Spells once before _ _ s t a b in
    step_is view r s ∙ (λ i. (same.0 i, same.1 i)) ∙ sym (step_is view q t)

-- ---- identifiers and versions

-- the clauses of a call that reads an identifier
pub record IsRead (before : ParserState) (r : Result Identifier Error) (s : ParserState) : Type 0 where
  pub answer : UnlessOutOfMemory r (ReadsIdentifier before (step_of identifier_value r s).0 s)
  pub text_taken : IfOutOfMemory r ((text : Text) × ReadsIdentifier before (Ok (alphanumeric text)) s)

pub one_identifier : (before : ParserState) (r q : Result Identifier Error) (s t : ParserState) → IsRead before r s → IsRead before q t
    → UnlessOutOfMemory r (UnlessOutOfMemory q (step_of identifier_value r s ≡ step_of identifier_value q t))
one_identifier before r q s t a b = unless_both r q
    (one_step identifier_value IsIdentifierShape SpellsIdentifier same_identifier before r q s t) a.answer b.answer

once : (before : ParserState) (x y : Result IdentifierValue ErrorValue) (s t : ParserState) → ReadsIdentifier before x s
    → ReadsIdentifier before y t → (x ≡ y) × (s ≡ t)
once before x y s t a b = reads_once IsIdentifierShape SpellsIdentifier same_identifier before x y s t a b

-- there is a result of reading from the state, even if memory ran out
something : (before : ParserState) (r : Result Identifier Error) (s : ParserState)
    → UnlessOutOfMemory r (ReadsIdentifier before (step_of identifier_value r s).0 s)
    → IfOutOfMemory r ((text : Text) × ReadsIdentifier before (Ok (alphanumeric text)) s)
    → (x : Result IdentifierValue ErrorValue) × ReadsIdentifier before x s
something before (Err error.OutOfMemory) s a m = (_, m.1)
something before r s a m = (_, a)

pub one_left : (before : ParserState) (r q : Result Identifier Error) (s t : ParserState) → IsRead before r s → IsRead before q t → s ≡ t
one_left before r q s t a b =
    let x = something before r s a.answer a.text_taken in
    let y = something before q t b.answer b.text_taken in
    (once before x.0 y.0 s t x.1 y.1).1

-- if one call ran out of memory, the other returns an identifier, unless it ran out of memory too
pub one_memory : (before : ParserState) (r q : Result Identifier Error) (s t : ParserState) → IsRead before r s → IsRead before q t
    → IfOutOfMemory r (UnlessOutOfMemory q (IsOk q))
one_memory before (Err error.OutOfMemory) q s t a b =
    unless_more q (λ reads. is_identifier q (once before _ _ s t a.text_taken.1 reads).0) b.answer
  where
    is_identifier : (q : Result Identifier Error) {v : IdentifierValue} → Ok v ≡ (step_of identifier_value q t).0 → IsOk q
    is_identifier (Ok x) e = refl
    is_identifier (Err x) e = cc
one_memory before r q s t a b = tt

pub one_version : (before : ParserState) (r q : Result Version Error) (s t : ParserState)
    → UnlessOutOfMemory r (ReadsVersion before (step_of version_value r s).0 s)
    → UnlessOutOfMemory q (ReadsVersion before (step_of version_value q t).0 t)
    → UnlessOutOfMemory r (UnlessOutOfMemory q (step_of version_value r s ≡ step_of version_value q t))
one_version before r q s t a b = unless_both r q
    (one_step version_value IsVersionShape SpellsCore one_core before r q s t) a b
