-- What reading an identifier or a version from the tokens of a text returns, and which tokens it
-- leaves.
use Rattle.std.specs.Prelude.{◌≡◌, ℕ, ◌≤◌, ◌<◌, ◌⊎◌, Option, Some, None, Result, Ok, Err, List, []}
use Rattle.std.specs.Prelude.{◌∷◌, ◌++◌, length, IsTrue, flat_map, if◌then◌else◌}
use Rattle.std.specs.List.{AllByRecursion, join_by}
use Rattle.semver_tokens.specs.Tokens as token
use Rattle.semver_tokens.specs.Tokens.{TokenValue, is_component, is_whitespace}
use Rattle.semver_tokens.specs.ParserState as spec
use Rattle.semver_tokens.specs.ParserState.{ParserState, ErrorValue, IsStateOf}
use Rattle.semver_texts.specs.VersionGrammar.{SpellsIdentifier, SpellsCore}
use Rattle.semver_texts.specs.Versions.{IdentifierValue, VersionValue}

-- ---- shapes: conditions on lists of tokens

-- one or more runs joined by single hyphens
pub record IsIdentifierShape (ts : List TokenValue) : Type 0 where
  pub runs : List TokenValue
  pub some : 0 < length runs
  pub each : AllByRecursion (λ t. IsTrue (is_component t)) runs
  pub joined : ts ≡ join_by (λ t. t ∷ []) (token.Hyphen ∷ []) runs

-- nothing, or the sign and then identifiers joined by dots
pub record IsPartShape (sign : TokenValue) (ts : List TokenValue) : Type 0 where
  pub ids : List (List TokenValue)
  pub each : AllByRecursion IsIdentifierShape ids
  pub parted : ((ids ≡ []) × (ts ≡ [])) ⊎ ((0 < length ids)
      × (ts ≡ sign ∷ join_by (λ id. id) (token.Dot ∷ []) ids))

-- at most one white space
abbrev pub IsOuterShape : List TokenValue → Type 0
IsOuterShape ts = (length ts ≤ 1) × AllByRecursion (λ t. IsTrue (is_whitespace t)) ts

-- three numbers joined by dots, a pre-release and build metadata, which may be missing, and at most
-- one white space on each side
pub record IsVersionShape (ts : List TokenValue) : Type 0 where
  pub before : List TokenValue
  pub major : ℕ
  pub minor : ℕ
  pub patch : ℕ
  pub pre : List TokenValue
  pub build : List TokenValue
  pub after : List TokenValue
  pub space_before : IsOuterShape before
  pub pre_shape : IsPartShape token.Hyphen pre
  pub build_shape : IsPartShape token.Plus build
  pub space_after : IsOuterShape after
  pub joined : ts ≡ before ++ join_by (λ n. token.Numeric n ∷ []) (token.Dot ∷ [])
      (major ∷ minor ∷ patch ∷ []) ++ pre ++ build ++ after

-- ---- the longest prefix

-- some list of the shape begins with these tokens
abbrev pub Begins : (List TokenValue → Type 0) → List TokenValue → Type 0
Begins Shape front = (more : List TokenValue) × Shape (front ++ more)

-- `front` is the longest prefix of the tokens with which a list of the shape begins, and `rest` is
-- what follows it
pub record IsLongestFront (Shape : List TokenValue → Type 0)
    (ts front rest : List TokenValue) : Type 0 where
  pub split : ts ≡ front ++ rest
  pub begins : Begins Shape front
  pub longest : (longer more : List TokenValue) → ts ≡ longer ++ more → Begins Shape longer
      → length longer ≤ length front

-- ---- the result

-- the text of a token, which is empty for white space
abbrev pub inner_text : TokenValue → List ℕ
inner_text t = if is_whitespace t then [] else token.token_text [] t

-- the texts of the tokens, joined, without white space
abbrev pub inner_texts : List TokenValue → List ℕ
inner_texts ts = flat_map inner_text ts

-- a list of only the last token, or an empty list if there is none
abbrev pub last_alone : List TokenValue → List TokenValue
last_alone [] = []
last_alone (t ∷ []) = t ∷ []
last_alone (t ∷ u ∷ ts) = last_alone (u ∷ ts)

-- the error that reading returns, and the tokens that it leaves. They follow from all tokens, the
-- pending character, and the rest after the prefix; the first case that applies decides
abbrev pub Refuses : List TokenValue → Option ℕ → List TokenValue → ErrorValue → List TokenValue
    → Type 0
-- the rest has at most one token, and a character is pending
Refuses ts (Some c) [] e left = (e ≡ spec.Lexer c) × (left ≡ last_alone ts)
Refuses ts (Some c) (t ∷ []) e left = (e ≡ spec.Lexer c) × (left ≡ last_alone ts)
-- the rest is empty
Refuses ts pending [] e left = (e ≡ spec.UnexpectedEnd) × (left ≡ [])
-- the rest begins with a token
Refuses ts pending (t ∷ rest) e left = (e ≡ spec.UnexpectedToken t) × (left ≡ rest)

-- the prefix has the shape, and it is known that it ends there: a token follows, or no character is
-- pending
pub record IsWhole (Shape : List TokenValue → Type 0) (front : List TokenValue) (pending : Option ℕ)
    (rest : List TokenValue) : Type 0 where
  pub shape : Shape front
  pub known : (0 < length rest) ⊎ (pending ≡ None)

-- a value is returned: the prefix is whole and spells the value, and the rest is left
pub record AnswersValue {V : Type 0} (Shape : List TokenValue → Type 0)
    (Spells : V → List ℕ → Type 0) (pending : Option ℕ) (front rest : List TokenValue) (v : V)
    (left : List TokenValue) : Type 0 where
  pub whole : IsWhole Shape front pending rest
  pub spelled : Spells v (inner_texts front)
  pub leaves : left ≡ rest

-- an error is returned: the prefix isn't whole, and the error is that of the first case that
-- applies
pub record AnswersError (Shape : List TokenValue → Type 0) (ts : List TokenValue)
    (pending : Option ℕ) (front rest : List TokenValue) (e : ErrorValue)
    (left : List TokenValue) : Type 0 where
  pub broken : ¬ (IsWhole Shape front pending rest)
  pub refuses : Refuses ts pending rest e left

-- the result, and the tokens that are left: the value of the prefix if it is whole, otherwise an
-- error
abbrev pub Answers : {V : Type 0} → (List TokenValue → Type 0) → (V → List ℕ → Type 0)
    → List TokenValue → Option ℕ → List TokenValue → List TokenValue → Result V ErrorValue
    → List TokenValue → Type 0
Answers Shape Spells ts pending front rest (Ok v) left =
    AnswersValue Shape Spells pending front rest v left
Answers Shape Spells ts pending front rest (Err e) left =
    AnswersError Shape ts pending front rest e left

-- reading from the state s returns r and leaves the state t, if the tokens must have this shape and
-- `Spells` says which text spells a value
pub record Reads {V : Type 0} (Shape : List TokenValue → Type 0) (Spells : V → List ℕ → Type 0)
    (s : ParserState) (r : Result V ErrorValue) (t : ParserState) : Type 0 where
  pub front : List TokenValue
  pub rest : List TokenValue
  pub longest : IsLongestFront Shape s.remaining front rest
  pub answer : Answers Shape Spells s.remaining s.pending front rest r t.remaining
  pub pending : t.pending ≡ s.pending

abbrev pub ReadsIdentifier : ParserState → Result IdentifierValue ErrorValue → ParserState → Type 0
ReadsIdentifier s r t = Reads IsIdentifierShape SpellsIdentifier s r t

abbrev pub ReadsVersion : ParserState → Result VersionValue ErrorValue → ParserState → Type 0
ReadsVersion s r t = Reads IsVersionShape SpellsCore s r t

-- the result of reading a whole text, from the result of reading a version and from what that left
abbrev pub whole_answer : {V : Type 0} → Result V ErrorValue → List TokenValue → Option ℕ
    → Result V ErrorValue
whole_answer (Err e) left pending = Err e
whole_answer (Ok v) [] pending = Ok v
whole_answer (Ok v) (t ∷ ts) None = Err (spec.MoreInput (t ∷ ts))
whole_answer (Ok v) (t ∷ ts) (Some c) = Err (spec.Lexer c)

-- the result of reading a whole text as a version
pub record IsOutcomeOf (text : List ℕ) (r : Result VersionValue ErrorValue) : Type 0 where
  pub start : ParserState
  pub answer : Result VersionValue ErrorValue
  pub end : ParserState
  pub state : IsStateOf text start
  pub reads : ReadsVersion start answer end
  pub whole : r ≡ whole_answer answer end.remaining end.pending

-- ---- out of memory

-- the prefix of an identifier contains a run
pub record HoldsRun (front : List TokenValue) : Type 0 where
  pub before : List TokenValue
  pub component : TokenValue
  pub after : List TokenValue
  pub split : front ≡ before ++ component ∷ after
  pub is_run : IsTrue (is_component component)

-- the prefix of a version contains a run of an identifier: a component after a `-` or a `+`
pub record HoldsIdentifierRun (front : List TokenValue) : Type 0 where
  pub before : List TokenValue
  pub sign : TokenValue
  pub component : TokenValue
  pub after : List TokenValue
  pub split : front ≡ before ++ sign ∷ component ∷ after
  pub is_sign : (sign ≡ token.Hyphen) ⊎ (sign ≡ token.Plus)
  pub is_run : IsTrue (is_component component)

-- what a call that ran out of memory leaves: a part at the end of the remaining tokens, and the
-- pending character
pub record IsEndPart (s t : ParserState) : Type 0 where
  pub taken : List TokenValue
  pub split : s.remaining ≡ taken ++ t.remaining
  pub pending : t.pending ≡ s.pending

-- reading tokens of this shape from the state s may run out of memory and leave the state t: the
-- longest prefix contains something that is allocated
pub record MayRunOut (Shape Holds : List TokenValue → Type 0) (s t : ParserState) : Type 0 where
  pub front : List TokenValue
  pub rest : List TokenValue
  pub longest : IsLongestFront Shape s.remaining front rest
  pub holds : Holds front
  pub left : IsEndPart s t

abbrev pub MayRunOutInIdentifier : ParserState → ParserState → Type 0
MayRunOutInIdentifier s t = MayRunOut IsIdentifierShape HoldsRun s t

abbrev pub MayRunOutInVersion : ParserState → ParserState → Type 0
MayRunOutInVersion s t = MayRunOut IsVersionShape HoldsIdentifierRun s t

-- reading this whole text may run out of memory: the longest prefix of its tokens contains a run of
-- an identifier, or the result would be `MoreInput` with the tokens that are left
pub record TextMayRunOut (text : List ℕ) : Type 0 where
  pub start : ParserState
  pub front : List TokenValue
  pub rest : List TokenValue
  pub state : IsStateOf text start
  pub longest : IsLongestFront IsVersionShape start.remaining front rest
  pub why : HoldsIdentifierRun front ⊎ ((left : List TokenValue)
      × IsOutcomeOf text (Err (spec.MoreInput left)))
