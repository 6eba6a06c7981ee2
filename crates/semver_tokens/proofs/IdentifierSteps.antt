-- The automaton that reads an identifier token by token, and the value of each identifier.
use Rattle.std.proofs.Common.{◌≡◌, ℕ, ◌^◌, ◌<◌, Bool, true, false, List, [], ◌∷◌, ◌++◌, length, map, Some, None, Option, Ok}
use Rattle.std.proofs.Common.{Err, sym, refl, ap, ◌∙◌, arith, append-nil, cond, decimal}
use Rattle.std.specs.Prelude.{option_map, IsTrue, flat_map, slice_get}
use Rattle.std.specs.List.{AllByRecursion, join_by, join_with_byte}
use Rattle.std.specs.Str.{all_ascii_digits}
use Rattle.std.proofs.lemmas.Bool.{and_right}
use Rattle.std.proofs.lemmas.Option.{same_Some}
use Rattle.semver_texts.specs.Texts.{IsRun, IsNumber}
use Rattle.semver_tokens.specs.Tokens.{TokenValue, Hyphen, Numeric, AlphaNumeric, is_component}
use Rattle.semver_texts.specs.Versions.{numeric, alphanumeric}
use Rattle.semver_texts.specs.VersionGrammar.{SpellsIdentifier}
use Rattle.semver_texts.specs.Versions.{IdentifierValue}
use Rattle.semver_tokens.specs.ParserState.{ParserState, ErrorValue}
use Rattle.semver_tokens.specs.ParserSteps.{Step, pop, look, number_of}
use Rattle.semver_tokens.specs.Steps.Taking.{run, IsTaken, Gives, PassesIdentifier, TakesIdentifier, expect_run, run_of, lone_number}
use Rattle.semver_tokens.specs.VersionReading.{IsIdentifierShape, IsLongestFront, inner_text, inner_texts}
use Rattle.semver_texts.proofs.Numbers.{canonical_from_IsNumber}
use Rattle.semver_tokens.proofs.FirstToken.{by_test}
use Rattle.semver_tokens.proofs.TokenLists.{decimal_is_run}
use Rattle.semver_tokens.proofs.ReadingSteps.{IsReadBy, Pops, Stops, longest_stops, none_taken, reads_value, next_given, expected_given}

-- the automaton of an identifier: it is in the state false before a run, and in true after one
abbrev pub id_step : Bool → TokenValue → Option Bool
id_step false t = cond (is_component t) (Some true) None
id_step true Hyphen = Some false
id_step true _ = None

-- runs, each after a hyphen
abbrev pub hyphened : List TokenValue → List TokenValue
hyphened runs = flat_map (λ t. Hyphen ∷ t ∷ []) runs

-- the tokens are a run, and further runs, each after a hyphen
pub record HasFirstRun (ts : List TokenValue) : Type 0 where
  pub first : TokenValue
  pub runs : List TokenValue
  pub first_run : IsTrue (is_component first)
  pub each_run : AllByRecursion (λ t. IsTrue (is_component t)) runs
  pub is : ts ≡ first ∷ hyphened runs

pub first_run_of : (ts : List TokenValue) → IsIdentifierShape ts → HasFirstRun ts
first_run_of ts w = of_runs w.runs w.some w.each w.joined
  where
    of_runs : (runs : List TokenValue) → 0 < length runs → AllByRecursion (λ t. IsTrue (is_component t)) runs
        → ts ≡ join_by (λ t. t ∷ []) (Hyphen ∷ []) runs → HasFirstRun ts
    of_runs [] some each e = absurd (omega (arith, some))
    of_runs (r ∷ runs) some each e = record { first = r; runs = runs; first_run = each.0; each_run = each.1; is = e }

pub identifier_of : {ts : List TokenValue} → HasFirstRun ts → IsIdentifierShape ts
identifier_of w = record { runs = w.first ∷ w.runs; some = omega arith; each = (w.first_run, w.each_run); joined = w.is }

pub one_run : (t : TokenValue) → IsTrue (is_component t) → IsIdentifierShape (t ∷ [])
one_run t h = record { runs = t ∷ []; some = omega arith; each = (h, tt); joined = refl }

pub run_more : {ts : List TokenValue} (t : TokenValue) → IsTrue (is_component t) → IsIdentifierShape ts
    → IsIdentifierShape (t ∷ Hyphen ∷ ts)
run_more {ts} t h w =
    let f = first_run_of ts w in
    record {
      runs = t ∷ f.first ∷ f.runs;
      some = omega arith;
      each = (h, (f.first_run, f.each_run));
      joined = ap (λ l. t ∷ Hyphen ∷ l) f.is;
    }

component_leads : (t : TokenValue) → IsTrue (is_component t) → (ts : List TokenValue) → run id_step false (t ∷ ts) ≡ run id_step true ts
component_leads t h ts = rw h refl

runs_lead : (runs : List TokenValue) → AllByRecursion (λ t. IsTrue (is_component t)) runs → run id_step true (hyphened runs) ≡ Some true
runs_lead [] all = refl
runs_lead (t ∷ runs) all = component_leads t all.0 (hyphened runs) ∙ runs_lead runs all.1

identifier_leads_on : (ts : List TokenValue) → IsIdentifierShape ts → run id_step false ts ≡ Some true
identifier_leads_on ts w =
    let f = first_run_of ts w in rw f.is (component_leads f.first f.first_run (hyphened f.runs) ∙ runs_lead f.runs f.each_run)

-- the rest of an identifier, from before a run on (false) or from after a run on (true)
abbrev HasRuns : Bool → List TokenValue → Type 0
HasRuns false ts = HasFirstRun ts
HasRuns true ts = (runs : List TokenValue) × AllByRecursion (λ t. IsTrue (is_component t)) runs × (ts ≡ hyphened runs)

runs_taken : (b : Bool) (ts : List TokenValue) → run id_step b ts ≡ Some true → HasRuns b ts
runs_taken false [] e = cc
runs_taken false (t ∷ ts) e =
    by_test (is_component t)
    (λ h. let r = runs_taken true ts (sym (component_leads t h ts) ∙ e) in
    record { first = t; runs = r.0; first_run = h; each_run = r.1; is = ap (λ l. t ∷ l) r.2 })
    (λ other. cc)
runs_taken true [] e = ([], tt, refl)
runs_taken true (Hyphen ∷ ts) e =
    let r = runs_taken false ts e in (r.first ∷ r.runs, (r.first_run, r.each_run), ap (λ l. Hyphen ∷ l) r.is)
runs_taken true (_ ∷ ts) e = cc

id_live : (s : Bool) → (more : List TokenValue) × (u : Bool) × (run id_step s more ≡ Some u) × (u ≡ true)
id_live true = ([], true, refl, refl)
id_live false = (Numeric 0 ∷ [], true, refl, refl)

pub identifier_is_read : IsReadBy id_step (λ b. b) false IsIdentifierShape
identifier_is_read = record {
  shape = λ ts u e ok. identifier_of (runs_taken false ts (e ∙ ap (λ b. Some b) ok));
  read = λ ts w. (true, identifier_leads_on ts w, refl);
  wants = refl;
  live = id_live;
}

-- if the longest prefix is an identifier, it ends after a run, and no hyphen follows
pub identifier_stops : {ts front rest : List TokenValue} → IsLongestFront IsIdentifierShape ts front rest → IsIdentifierShape front
    → (run id_step false front ≡ Some true) × Stops id_step true rest
identifier_stops {ts} {front} {rest} w shape =
    let whole = identifier_is_read.read front shape in
    let stop = longest_stops identifier_is_read ts front rest w in
    let leads : run id_step false front ≡ Some true = cc (whole.1, whole.2) in
    (leads, rw (same_Some stop.0 true (sym stop.1 ∙ leads)) at stop.2)

-- ---- the value of an identifier

-- the requirements on a token that don't depend on the text and the offset
abbrev pub IsWellFormed : TokenValue → Type 0
IsWellFormed (Numeric n) = n < 2 ^ 64
IsWellFormed (AlphaNumeric s) = IsRun s × ¬ (IsNumber s)
IsWellFormed _ = Unit {0}

run_text : (t : TokenValue) → IsTrue (is_component t) → IsWellFormed t → IsRun (inner_text t)
run_text (Numeric n) h w = decimal_is_run n w
run_text (AlphaNumeric s) h w = w.0
run_text _ h w = cc

run_texts : (runs : List TokenValue) → AllByRecursion (λ t. IsTrue (is_component t)) runs → AllByRecursion IsWellFormed runs
    → AllByRecursion IsRun (map inner_text runs)
run_texts [] all well = tt
run_texts (t ∷ runs) all well = (run_text t all.0 well.0, run_texts runs all.1 well.1)

texts_joined : (t : TokenValue) (runs : List TokenValue) → inner_texts (t ∷ hyphened runs) ≡ join_with_byte 45 (map inner_text (t ∷ runs))
texts_joined t [] = append-nil (inner_text t)
texts_joined t (r ∷ runs) = ap (λ l. inner_text t ++ 45 ∷ l) (texts_joined r runs)

-- a text with a hyphen doesn't consist of digits
hyphen_no_digits : (xs ys : List ℕ) → all_ascii_digits (xs ++ 45 ∷ ys) ≡ false
hyphen_no_digits [] ys = refl
hyphen_no_digits (x ∷ xs) ys = and_right _ _ (hyphen_no_digits xs ys)

-- the value of an identifier: the number if it is one, otherwise the text
abbrev pub kept_as : Option ℕ → List ℕ → IdentifierValue
kept_as None text = alphanumeric text
kept_as (Some n) text = numeric n

runs_within : (runs : List TokenValue) → AllByRecursion IsWellFormed (hyphened runs) → AllByRecursion IsWellFormed runs
runs_within [] well = tt
runs_within (t ∷ runs) well = (well.1.0, runs_within runs well.1.1)

pub kept_spells : (ts : List TokenValue) → IsIdentifierShape ts → AllByRecursion IsWellFormed ts
    → SpellsIdentifier (kept_as (lone_number ts) (inner_texts ts)) (inner_texts ts)
kept_spells ts w well = let f = first_run_of ts w in rw f.is (runs_kept f.first f.runs f.first_run f.each_run (rw f.is at well))
  where
    runs_kept : (t : TokenValue) (runs : List TokenValue) → IsTrue (is_component t)
        → AllByRecursion (λ t. IsTrue (is_component t)) runs → AllByRecursion IsWellFormed (t ∷ hyphened runs)
        → SpellsIdentifier (kept_as (lone_number (t ∷ hyphened runs)) (inner_texts (t ∷ hyphened runs))) (inner_texts (t ∷ hyphened runs))
    runs_kept (Numeric n) [] first each well = (well.0, append-nil (decimal n))
    runs_kept (AlphaNumeric s) [] first each well = (
      refl,
      record { runs = s ∷ []; some = omega arith; each = (well.0.0, tt); joined = append-nil s },
      λ number. well.0.1 (rw append-nil at number),
    )
    runs_kept _ [] first each well = cc
    runs_kept t (r ∷ runs) first each well =
        let text : List ℕ = inner_texts (t ∷ hyphened (r ∷ runs)) in (
          refl,
          record {
            runs = map inner_text (t ∷ r ∷ runs);
            some = omega arith;
            each = run_texts (t ∷ r ∷ runs) (first, each) (well.0, runs_within (r ∷ runs) well.1);
            joined = texts_joined t (r ∷ runs);
          },
          λ number. let digits = (canonical_from_IsNumber text number).digits in cc (hyphen_no_digits (inner_text t) _),
        )

-- ---- taking an identifier from a parser

-- the tokens `front` of an identifier were taken from the state s, and t is left; `after` says whether
-- the last of them is a run
abbrev pub IsRead : ParserState → List TokenValue → Bool → ParserState → Type 0
IsRead s front after t = IsTaken id_step false s front after t

pub nothing_read : (s : ParserState) → IsRead s [] false s
nothing_read s = none_taken identifier_is_read s

-- one more token x was taken, and fewer tokens remain
pub record ReadsMore (s t : ParserState) (front : List TokenValue) (x : TokenValue) (after : Bool) (u : ParserState) : Type 0 where
  pub taken : IsRead s (front ++ x ∷ []) after u
  pub shorter : length u.remaining < length t.remaining

reads_more : (s t u : ParserState) (front : List TokenValue) (x : TokenValue) (after : Bool) → Pops t x u
    → IsRead s (front ++ x ∷ []) after u → ReadsMore s t front x after u
reads_more s t u front x after pops taken = record { taken = taken; shorter = omega (arith, ap length pops.first) }

module _ (s t : ParserState) (front : List TokenValue) where
  -- `expect_run` takes a run, or returns the error of reading an identifier
  pub run_given : IsRead s front false t → (d : Step (Option ℕ)) → d ≡ expect_run t
      → Gives (λ e u. PassesIdentifier s (Err e) u) (λ n u. (x : TokenValue) × ReadsMore s t front x true u × (n ≡ number_of x)) d
  run_given k d e =
      rw e (expected_given identifier_is_read (λ (n : Option ℕ) text. Unit {0}) k
      (λ n u. (x : TokenValue) × ReadsMore s t front x true u × (n ≡ number_of x)) run_of true refl (λ x looked. leads x)
      (λ x n u value pops taken. (x, reads_more s t u front x true pops taken, number x n value)))
    where
      leads : (x : TokenValue) → id_step false x ≡ option_map (λ (n : Option ℕ). true) (run_of x)
      leads (Numeric n) = refl
      leads (AlphaNumeric text) = refl
      leads _ = refl

      number : (x : TokenValue) (n : Option ℕ) → run_of x ≡ Some n → n ≡ number_of x
      number (Numeric m) n e = cc
      number (AlphaNumeric text) n e = cc
      number _ n e = cc

  -- `pop` takes the hyphen that comes next, or returns the error of reading an identifier
  pub hyphen_given : IsRead s front true t → look t ≡ Some Hyphen → (d : Step TokenValue) → d ≡ pop t
      → Gives (λ e u. PassesIdentifier s (Err e) u) (λ x u. ReadsMore s t front Hyphen false u) d
  hyphen_given k looked d e =
      rw e (next_given identifier_is_read (λ (n : Option ℕ) text. Unit {0}) k
      (λ u. ReadsMore s t front Hyphen false u) Hyphen false looked refl
      (λ u pops taken. reads_more s t u front Hyphen false pops taken))

  -- if no hyphen comes next, reading the identifier returns n, which is its number if it is one
  pub identifier_ends : (n : Option ℕ) → IsRead s front true t → n ≡ lone_number front → ¬ (look t ≡ Some Hyphen)
      → TakesIdentifier s (Ok n) t
  unfolding reads_value
  identifier_ends n k number other = record {
    passes =
        reads_value identifier_is_read (λ (n : Option ℕ) text. Unit {0}) k n refl
        (stops t.remaining other) tt;
    number = number;
  }
    where
      stops : (rem : List TokenValue) → ¬ (slice_get rem 0 ≡ Some Hyphen) → Stops id_step true rem
      stops [] other = tt
      stops (Hyphen ∷ rem) other = absurd (other refl)
      stops (x ∷ rem) other = refl

-- two or more tokens aren't a single number
pub not_alone : (front : List TokenValue) (x y : TokenValue) → lone_number ((front ++ x ∷ []) ++ y ∷ []) ≡ None
not_alone [] x y = refl
not_alone (t ∷ []) x y = refl
not_alone (t ∷ u ∷ front) x y = refl

pub takes_none : (s t : ParserState) (e : ErrorValue) → PassesIdentifier s (Err e) t → TakesIdentifier s (Err e) t
takes_none s t e p = record { passes = p; number = tt }
