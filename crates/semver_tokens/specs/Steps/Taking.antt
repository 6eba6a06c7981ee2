-- A means of proof: identifiers and versions taken token by token, as the parser does.
-- `VersionReading` defines what reading returns.
use Prim.Native.Char.{code}
use Rattle.std.specs.Prelude.{◌≡◌, ℕ, ◌<◌, ◌⊎◌, Bool, true, false, List, [], ◌∷◌, ◌++◌, length}
use Rattle.std.specs.Prelude.{Option, Some, None, Result, Ok, Err, IfOk, option_and_then}
use Rattle.std.specs.Prelude.{if◌then◌else◌}
use Rattle.std.specs.List.{AllZip, join_with_byte}
use Rattle.semver_tokens.specs.Tokens.{TokenValue, Hyphen, Dot, Plus, Whitespace, Numeric}
use Rattle.semver_tokens.specs.Tokens.{AlphaNumeric, is_component}
use Rattle.semver_tokens.specs.ParserState.{ParserState, ErrorValue}
use Rattle.semver_texts.specs.Texts.{Text}
use Rattle.semver_texts.specs.Versions.{IdentifierValue}
use Rattle.semver_tokens.specs.ParserSteps.{Step, pop, look, and_then, expect, number_of, numeric}
use Rattle.semver_tokens.specs.ParserSteps.{dot_numeric}
use Rattle.semver_texts.specs.VersionGrammar.{SpellsIdentifier}
use Rattle.semver_tokens.specs.VersionReading.{Reads, IsIdentifierShape, ReadsVersion}
use Rattle.semver_tokens.specs.VersionReading.{MayRunOutInVersion, inner_text, inner_texts}

-- where the tokens lead one after another, or `None` if one of them may not be there
abbrev pub run : {S : Type 0} → (S → TokenValue → Option S) → S → List TokenValue → Option S
run step s [] = Some s
run step s (t ∷ ts) = option_and_then (λ u. run step u ts) (step s t)

-- the tokens `front` were taken from the state s. They lead to `place`, and leave the state t
pub record IsTaken {S : Type 0} (step : S → TokenValue → Option S) (start : S) (s : ParserState)
    (front : List TokenValue) (place : S) (t : ParserState) : Type 0 where
  pub split : s.remaining ≡ front ++ t.remaining
  pub leads : run step start front ≡ Some place
  pub pending : t.pending ≡ s.pending
  -- the last token before a pending character wasn't taken
  pub known : (front ≡ []) ⊎ ((0 < length t.remaining) ⊎ (t.pending ≡ None))

-- what is true of a step: P of a value and the state after it, or F of an error and the state after
-- it
abbrev pub Gives : {A : Type 0} → (ErrorValue → ParserState → Type 0) → (A → ParserState → Type 0)
    → Step A → Type 0
Gives F P (Ok x, t) = P x t
Gives F P (Err e, t) = F e t

-- ---- identifiers

-- the value of a token of letters and digits: the number that it is, or `None` if it isn't a
-- number. Other tokens have no value
abbrev pub run_of : TokenValue → Option (Option ℕ)
run_of (Numeric n) = Some (Some n)
run_of (AlphaNumeric text) = Some None
run_of _ = None

-- takes a token of letters and digits
abbrev pub expect_run : ParserState → Step (Option ℕ)
expect_run s = expect run_of s

-- if a list has only one token and that is a number, this number
abbrev pub lone_number : List TokenValue → Option ℕ
lone_number [] = None
lone_number (t ∷ []) = number_of t
lone_number (t ∷ u ∷ ts) = None

-- reading an identifier, whatever its value
abbrev pub PassesIdentifier : ParserState → Result (Option ℕ) ErrorValue → ParserState → Type 0
PassesIdentifier s r t = Reads IsIdentifierShape (λ (n : Option ℕ) text. Unit {0}) s r t

-- reading an identifier, with its number as the result if the identifier is only a number
pub record TakesIdentifier (s : ParserState) (r : Result (Option ℕ) ErrorValue)
    (t : ParserState) : Type 0 where
  pub passes : PassesIdentifier s r t
  pub number : IfOk r (λ n. n ≡ lone_number passes.front)

-- ---- versions

-- the three numbers of a version, and below, its other two parts
pub data Number : Type 0 where
  major : Number
  minor : Number
  patch : Number

pub data Part : Type 0 where
  pre_release : Part
  build : Part

-- a position in a version
pub data Place : Type 0 where
  start : Place
  at_number : Number → Place
  after_number : Number → Place
  at_run : Part → Place
  after_run : Part → Place
  end : Place

abbrev pub if_component : Place → TokenValue → Option Place
if_component next t = if is_component t then Some next else None

-- the position to which a token leads from another position, or `None` if it may not be there
abbrev pub step : Place → TokenValue → Option Place
step start (Whitespace a b) = Some (at_number major)
step start (Numeric n) = Some (after_number major)
step (at_number k) (Numeric n) = Some (after_number k)
step (after_number major) Dot = Some (at_number minor)
step (after_number minor) Dot = Some (at_number patch)
step (after_number patch) Hyphen = Some (at_run pre_release)
step (after_number patch) Plus = Some (at_run build)
step (after_number patch) (Whitespace a b) = Some end
step (at_run part) t = if_component (after_run part) t
step (after_run part) Hyphen = Some (at_run part)
step (after_run part) Dot = Some (at_run part)
step (after_run part) (Whitespace a b) = Some end
step (after_run pre_release) Plus = Some (at_run build)
step _ _ = None

-- whether a version may end at this position
abbrev pub accepts : Place → Bool
accepts (after_number patch) = true
accepts (after_run part) = true
accepts end = true
accepts _ = false

-- tokens with this text, not counting white space, were taken from the state s. They lead to
-- `place`, and leave the state t
pub record IsTakenTo (s : ParserState) (place : Place) (text : Text)
    (t : ParserState) : Type 0 where
  pub front : List TokenValue
  pub taken : IsTaken step start s front place t
  pub text_is : inner_texts front ≡ text

-- the next token is a sign or a dot that leads to the part; `text` is the text before that token,
-- together with its own
pub record IsAtMark (s : ParserState) (part : Part) (text : Text) (t : ParserState) : Type 0 where
  pub from : Place
  pub mark : TokenValue
  pub before : Text
  pub taken : IsTakenTo s from before t
  pub next : look t ≡ Some mark
  pub leads : step from mark ≡ Some (at_run part)
  pub text_is : before ++ inner_text mark ≡ text

-- identifiers joined by dots were taken, and neither a dot nor a hyphen comes next
pub record ArePassed (s : ParserState) (part : Part) (text : Text) (ids : List IdentifierValue)
    (t : ParserState) : Type 0 where
  pub texts : List Text
  pub some : 0 < length texts
  pub each : AllZip SpellsIdentifier ids texts
  pub taken : IsTakenTo s (after_run part) (text ++ join_with_byte (code ".") texts) t
  pub no_hyphen : ¬ (look t ≡ Some Hyphen)
  pub no_dot : ¬ (look t ≡ Some Dot)

-- P is true for every version that was read up to a mark that comes next
abbrev pub AtMark : ParserState → (ParserState → Part → Text → Type 0) → Type 0
AtMark t P = (s : ParserState) (part : Part) (text : Text) → IsAtMark s part text t → P s part text

-- taking a part of a version: nothing if it isn't there; otherwise its mark and its identifiers,
-- whatever was taken before
abbrev pub TakesPart : Bool → ParserState → Step (List IdentifierValue) → Type 0
TakesPart false t step = step ≡ (Ok [], t)
TakesPart true t step =
    AtMark t (λ s part text. Gives (λ e u. ReadsVersion s (Err e) u) (ArePassed s part text) step)

-- taking a part of a version may run out of memory
abbrev pub PartMayRunOut : Bool → ParserState → ParserState → Type 0
PartMayRunOut false t u = ⊥
PartMayRunOut true t u = AtMark t (λ s part text. MayRunOutInVersion s u)

-- takes white space, if it comes next
abbrev pub skip_at : Option TokenValue → ParserState → Step (Unit {0})
skip_at (Some (Whitespace first after)) s = and_then (pop s) (λ t u. (Ok tt, u))
skip_at _ s = (Ok tt, s)

abbrev pub skip_whitespace : ParserState → Step (Unit {0})
skip_whitespace s = skip_at (look s) s

-- takes white space, if it comes next, and three numbers joined by dots
abbrev pub numbers : ParserState → Step (ℕ × ℕ × ℕ)
numbers s =
    and_then (skip_whitespace s) (λ _ t. and_then (numeric t)
    (λ a u. and_then (dot_numeric u) (λ b v. and_then (dot_numeric v)
    (λ c w. (Ok (a, b, c), w)))))
