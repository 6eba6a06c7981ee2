-- Taking a version token by token: each step of the parser takes tokens that lead on, or returns the
-- error of reading a version.
use Rattle.std.proofs.Common.{◌≡◌, ℕ, ◌<◌, Bool, true, false, List, [], ◌∷◌, ◌++◌, length, Some, None, Option, Ok, Err, sym}
use Rattle.std.proofs.Common.{refl, ap, ◌∙◌, ◌⊎◌, inl, inr, ⊎_elim, ◌↔◌, arith, append_assoc, append-nil, length-append, decimal, map}
use Rattle.std.proofs.Common.{codes}
use Rattle.std.specs.Prelude.{option_map, slice_get, IsTrue}
use Rattle.std.specs.List.{AllZip, join_with_byte}
use Rattle.std.proofs.lemmas.Option.{none-some}
use Rattle.std.proofs.lemmas.Grind.{flat_map-append}
use Rattle.std.proofs.lemmas.Slice.Zip.{all_zipped_more}
use Rattle.semver_texts.specs.Texts.{Text, marked}
use Rattle.semver_texts.specs.Versions.{IdentifierValue, VersionValue}
use Rattle.semver_tokens.specs.Tokens.{TokenValue, Hyphen, Dot, Plus, Whitespace, Numeric, AlphaNumeric, is_component}
use Rattle.semver_tokens.specs.ParserState.{ParserState, ErrorValue}
use Rattle.semver_tokens.specs.ParserSteps.{Step, pop, look, expect, number_of, dot_of, numeric, dot_numeric}
use Rattle.semver_texts.specs.VersionGrammar.{SpellsIdentifier, SpellsPart, SpellsCore}
use Rattle.semver_tokens.specs.VersionReading.{IsIdentifierShape, IsVersionShape, Refuses, ReadsIdentifier, ReadsVersion}
use Rattle.semver_tokens.specs.VersionReading.{HoldsRun, HoldsIdentifierRun, IsEndPart, MayRunOutInIdentifier, MayRunOutInVersion}
use Rattle.semver_tokens.specs.VersionReading.{inner_text, inner_texts, last_alone, IsWhole}
use Rattle.semver_tokens.specs.Steps.Taking.{run, IsTaken, Gives, Number, major, minor, patch, Part, pre_release, build, Place, start}
use Rattle.semver_tokens.specs.Steps.Taking.{at_number, after_number, at_run, after_run, end, step, accepts, IsTakenTo, IsAtMark}
use Rattle.semver_tokens.specs.Steps.Taking.{ArePassed, AtMark, TakesPart, PartMayRunOut, skip_at, skip_whitespace, numbers}
use Rattle.semver_tokens.proofs.ReadingSteps.{run-append, runs_out_after, longest_stops, not_whole, Stops}
use Rattle.semver_tokens.proofs.ReadingSteps.{none_taken, reads_value, reads_error, next_given, expected_given, then_given}
use Rattle.semver_tokens.proofs.IdentifierSteps.{id_step, identifier_is_read, identifier_stops}
use Rattle.semver_tokens.proofs.FirstToken.{by_test}
use Rattle.semver_tokens.proofs.VersionSteps.{version_is_read, run_place, identifier_leads}

-- reading a version from the state s returns the error e and leaves the state t
abbrev pub RefusesVersion : ParserState → ErrorValue → ParserState → Type 0
RefusesVersion s e t = ReadsVersion s (Err e) t

pub nothing_taken : (s : ParserState) → IsTakenTo s start [] s
nothing_taken s = record { front = []; taken = none_taken version_is_read s; text_is = refl }

module _ {s t : ParserState} {p : Place} {text : Text} (k : IsTakenTo s p text t) where
  -- after one more token x was taken, the text is longer by the text of x
  one_more : {u : ParserState} {q : Place} (x : TokenValue) → IsTaken step start s (k.front ++ x ∷ []) q u
      → IsTakenTo s q (text ++ inner_text x) u
  one_more x taken =
      record {
        front = k.front ++ x ∷ [];
        taken = taken;
        text_is = cc (flat_map-append inner_text k.front (x ∷ []), append-nil (inner_text x));
      }

  next_taken : (q : Place) (x : TokenValue) → look t ≡ Some x → step p x ≡ Some q
      → Gives (RefusesVersion s) (λ y u. IsTakenTo s q (text ++ inner_text x) u) (pop t)
  next_taken q x looked leads =
      next_given version_is_read SpellsCore k.taken (λ u. IsTakenTo s q (text ++ inner_text x) u) x q looked leads
      (λ u pops taken. one_more x taken)

  -- after white space is skipped, P is true, if it is true both after white space was taken and in the
  -- state t without white space next
  space_given : (P : ParserState → Type 0) (q : Place) → ((a b : ℕ) → look t ≡ Some (Whitespace a b) → step p (Whitespace a b) ≡ Some q)
      → ((u : ParserState) → IsTakenTo s q text u → P u) → (((a b : ℕ) → ¬ (look t ≡ Some (Whitespace a b))) → P t)
      → Gives (RefusesVersion s) (λ (x : Unit {0}) u. P u) (skip_whitespace t)
  space_given P q leads some none = at_look (look t) refl
    where
      at_look : (o : Option TokenValue) → look t ≡ o → Gives (RefusesVersion s) (λ (x : Unit {0}) u. P u) (skip_at o t)
      at_look (Some (Whitespace a b)) looked =
          then_given _ (λ x u. IsTakenTo s q (text ++ []) u) _ (pop t) (λ x u. (Ok tt, u))
          (next_taken q (Whitespace a b) looked (leads a b looked)) (λ x u taken. some u (rw append-nil at taken))
      at_look None looked = none (λ a b d. cc)
      at_look (Some x) looked = none (λ a b d. cc)

  -- `expect` takes a token with a value, whose text is added, or returns the error of reading a version
  valued_given : {A : Type 0} (value : TokenValue → Option A) (value_text : A → Text) (q : Place)
      → ((x : TokenValue) (a : A) → value x ≡ Some a → inner_text x ≡ value_text a) → accepts p ≡ false
      → ((x : TokenValue) → look t ≡ Some x → step p x ≡ option_map (λ (a : A). q) (value x))
      → Gives (RefusesVersion s) (λ a u. IsTakenTo s q (text ++ value_text a) u) (expect value t)
  valued_given value value_text q text_of wants leads =
      expected_given version_is_read SpellsCore k.taken (λ a u. IsTakenTo s q (text ++ value_text a) u) value q wants leads
      (λ x a u is pops taken. rw (← text_of x a is) (one_more x taken))

-- ---- the three numbers

number_text : (x : TokenValue) (n : ℕ) → number_of x ≡ Some n → inner_text x ≡ decimal n
number_text (Numeric m) n e = cc
number_text _ n e = cc

number_leads : (k : Number) (x : TokenValue) → step (at_number k) x ≡ option_map (λ (n : ℕ). after_number k) (number_of x)
number_leads k (Numeric n) = refl
number_leads k _ = refl

dot_text : (x : TokenValue) (d : Unit {0}) → dot_of x ≡ Some d → inner_text x ≡ codes "."
dot_text Dot d e = refl
dot_text _ d e = cc

-- the number that follows the major or the minor
abbrev following : Number → Number
following major = minor
following _ = patch

dot_leads : (k : Number) → accepts (after_number k) ≡ false → (x : TokenValue)
    → step (after_number k) x ≡ option_map (λ (d : Unit {0}). at_number (following k)) (dot_of x)
dot_leads major wants Dot = refl
dot_leads major wants _ = refl
dot_leads minor wants Dot = refl
dot_leads minor wants _ = refl
dot_leads patch wants x = cc

dot_number_given : {s t : ParserState} {k : Number} {text : Text} → IsTakenTo s (after_number k) text t → accepts (after_number k) ≡ false
    → Gives (RefusesVersion s) (λ n u. IsTakenTo s (after_number (following k)) ((text ++ codes ".") ++ decimal n) u) (dot_numeric t)
dot_number_given {t = t} {k = k} taken wants =
    then_given _ _ _ (expect dot_of t) (λ x. numeric)
    (valued_given taken dot_of (λ d. codes ".") (at_number (following k)) dot_text wants (λ x looked. dot_leads k wants x))
    (λ x u after. valued_given after number_of decimal (after_number (following k)) number_text refl
    (λ y looked. number_leads (following k) y))

-- the text of three numbers, joined by dots
abbrev pub numbers_text : ℕ × ℕ × ℕ → Text
numbers_text n = join_with_byte 46 (map decimal (n.0 ∷ n.1 ∷ n.2 ∷ []))

-- the three numbers n were taken from the state s, and the state u is left
abbrev pub HasNumbers : ParserState → ℕ × ℕ × ℕ → ParserState → Type 0
HasNumbers s n u = IsTakenTo s (after_number patch) (numbers_text n) u

pub numbers_given : (s : ParserState) (d : Step (ℕ × ℕ × ℕ)) → d ≡ numbers s → Gives (RefusesVersion s) (HasNumbers s) d
numbers_given s d e =
    rw e (then_given _ _ _ (skip_whitespace s) _ first
    (λ _ t first. then_given _ _ _ (numeric t) _ first
    (λ a u taken. then_given _ _ _ (dot_numeric u) _ (dot_number_given taken refl)
    (λ b v taken. then_given _ _ _ (dot_numeric v) _ (dot_number_given taken refl) (λ c w taken. simp append_assoc at taken)))))
  where
    GivesMajor : ParserState → Type 0
    GivesMajor t = Gives (RefusesVersion s) (λ a u. IsTakenTo s (after_number major) (decimal a) u) (numeric t)

    start_leads : (x : TokenValue) → ((a b : ℕ) → ¬ (x ≡ Whitespace a b))
        → step start x ≡ option_map (λ (n : ℕ). after_number major) (number_of x)
    start_leads (Numeric n) none = refl
    start_leads (Whitespace a b) none = absurd (none a b refl)
    start_leads _ none = refl

    first : Gives (RefusesVersion s) (λ (x : Unit {0}) t. GivesMajor t) (skip_whitespace s)
    first =
        space_given (nothing_taken s) GivesMajor (at_number major) (λ a b looked. refl)
        (λ t taken. valued_given taken number_of decimal (after_number major) number_text refl (λ x looked. number_leads major x))
        (λ none. valued_given (nothing_taken s) number_of decimal (after_number major) number_text refl
        (λ x looked. start_leads x (λ a b e. none a b (cc))))

-- ---- an identifier of a part

-- an identifier of a part is read from the state t, after the tokens `k.front` were taken
module _ {part : Part} {s t : ParserState} {text : Text} (k : IsTakenTo s (at_run part) text t) where
  fronts_lead : (front : List TokenValue) (b : Bool) → run id_step false front ≡ Some b
      → run step start (k.front ++ front) ≡ Some (run_place part b)
  fronts_lead front b leads = run-append step start (at_run part) k.front front k.taken.leads ∙ identifier_leads part false b front leads

  fronts_split : (front rest : List TokenValue) → t.remaining ≡ front ++ rest → s.remaining ≡ (k.front ++ front) ++ rest
  fronts_split front rest e = cc (append_assoc k.front front rest)

  -- the identifier v was taken, too, and no hyphen comes next
  pub record IsIdentifierTaken (v : IdentifierValue) (u : ParserState) : Type 0 where
    pub id : Text
    pub spells : SpellsIdentifier v id
    pub taken : IsTakenTo s (after_run part) (text ++ id) u
    pub no_hyphen : ¬ (look u ≡ Some Hyphen)

  pub identifier_taken : (v : IdentifierValue) (u : ParserState) → ReadsIdentifier t (Ok v) u → IsIdentifierTaken v u
  identifier_taken v u w =
      let stop = identifier_stops w.longest w.answer.whole.shape in
      record {
        id = inner_texts w.front;
        spells = w.answer.spelled;
        taken = record {
          front = k.front ++ w.front;
          taken = record {
            split = fronts_split w.front u.remaining (cc);
            leads = fronts_lead w.front true stop.0;
            pending = cc;
            known = inr (⊎_elim (λ some. inl (rw w.answer.leaves some)) (λ none. inr (cc)) w.answer.whole.known);
          };
          text_is = cc (flat_map-append inner_text k.front w.front);
        };
        no_hyphen = stops_no_hyphen u.remaining (rw w.answer.leaves stop.1);
      }
    where
      stops_no_hyphen : (rest : List TokenValue) → Stops id_step true rest → ¬ (slice_get rest 0 ≡ Some Hyphen)
      stops_no_hyphen [] stops e = cc
      stops_no_hyphen (x ∷ rest) stops e = cc

  pub identifier_refused : (e : ErrorValue) (u : ParserState) → ReadsIdentifier t (Err e) u → ReadsVersion s (Err e) u
  identifier_refused e u w =
      let stop = longest_stops identifier_is_read t.remaining w.front w.rest w.longest in
      at_place stop.0 stop.1 stop.2
    where
      last_after : (front ts : List TokenValue) → 0 < length ts → last_alone (front ++ ts) ≡ last_alone ts
      last_after [] ts some = refl
      last_after (x ∷ []) [] some = absurd (omega (arith, some))
      last_after (x ∷ []) (y ∷ ts) some = refl
      last_after (x ∷ y ∷ front) ts some = last_after (y ∷ front) ts some

      refuses_more : (front ts : List TokenValue) (pending : Option ℕ) (rest : List TokenValue) (left : List TokenValue)
          → (front ≡ []) ⊎ ((0 < length ts) ⊎ (pending ≡ None)) → Refuses ts pending rest e left → Refuses (front ++ ts) pending rest e left
      refuses_more front ts pending rest left (inl empty) w = rw empty w
      refuses_more front ts None [] left (inr known) w = w
      refuses_more front ts None (x ∷ rest) left (inr known) w = w
      refuses_more front ts (Some c) [] left (inr (inl some)) w = (w.0, cc (last_after front ts some))
      refuses_more front ts (Some c) (x ∷ []) left (inr (inl some)) w = (w.0, cc (last_after front ts some))
      refuses_more front ts (Some c) (x ∷ y ∷ rest) left (inr (inl some)) w = w
      refuses_more front ts (Some c) rest left (inr (inr none)) w = absurd (none-some c (sym none))

      reads : (b : Bool) → run id_step false w.front ≡ Some b → Stops step (run_place part b) w.rest
          → ¬ (IsWhole IsVersionShape (k.front ++ w.front) s.pending w.rest) → ReadsVersion s (Err e) u
      reads b leads stops broken =
          reads_error version_is_read SpellsCore (k.front ++ w.front) w.rest (run_place part b)
          (fronts_split w.front w.rest w.longest.split) (fronts_lead w.front b leads) stops broken
          (rw (← k.taken.pending, k.taken.split)
          (refuses_more k.front t.remaining t.pending w.rest u.remaining k.taken.known w.answer.refuses)) (cc)

      stops_at_run : (rest : List TokenValue) → Stops id_step false rest → Stops step (at_run part) rest
      stops_at_run [] stops = tt
      stops_at_run (Numeric n ∷ rest) stops = cc
      stops_at_run (AlphaNumeric n ∷ rest) stops = cc
      stops_at_run (_ ∷ rest) stops = refl

      stops_at_none : (rest : List TokenValue) → ¬ (0 < length rest) → Stops step (after_run part) rest
      stops_at_none [] none = tt
      stops_at_none (x ∷ rest) none = absurd (none (omega arith))

      at_place : (b : Bool) → run id_step false w.front ≡ Some b → Stops id_step b w.rest → ReadsVersion s (Err e) u
      at_place false leads stops =
          reads false leads (stops_at_run w.rest stops)
          (λ whole. not_whole version_is_read (k.front ++ w.front) (at_run part) (fronts_lead w.front false leads) refl whole.shape)
      at_place true leads stops =
          let shape : IsIdentifierShape w.front = identifier_is_read.shape w.front true leads refl in
          reads true leads (stops_at_none w.rest (λ some. w.answer.broken (record { shape = shape; known = inl some })))
          (λ whole. w.answer.broken (record {
            shape = shape;
            known = ⊎_elim (λ some. inl some) (λ no. inr (k.taken.pending ∙ no)) whole.known;
          }))

-- ---- out of memory

pub holds_later : (t : TokenValue) (ts : List TokenValue) → HoldsIdentifierRun ts → HoldsIdentifierRun (t ∷ ts)
holds_later t ts h =
    record {
      before = t ∷ h.before;
      sign = h.sign;
      component = h.component;
      after = h.after;
      split = ap
          (λ l. t ∷ l) h.split;
      is_sign = h.is_sign;
      is_run = h.is_run;
    }

holds_longer : (ts : List TokenValue) (t : TokenValue) → HoldsIdentifierRun ts → HoldsIdentifierRun (ts ++ t ∷ [])
holds_longer ts t h = record {
  before = h.before;
  sign = h.sign;
  component = h.component;
  after = h.after ++ t ∷ [];
  split = cc (append_assoc h.before (h.sign ∷ h.component ∷ h.after) (t ∷ []));
  is_sign = h.is_sign;
  is_run = h.is_run;
}

-- if tokens after a `-` or a `+` lead to a position where a version may end, the first of them is a
-- run of an identifier
pub sign_holds : (sign : TokenValue) → (sign ≡ Hyphen) ⊎ (sign ≡ Plus) → (part : Part) (ts : List TokenValue) (last : Place)
    → run step (at_run part) ts ≡ Some last → accepts last ≡ true → HoldsIdentifierRun (sign ∷ ts)
sign_holds sign is_sign part [] last e ok = cc
sign_holds sign is_sign part (t ∷ ts) last e ok =
    by_test (is_component t)
    (λ h. record { before = []; sign = sign; component = t; after = ts; split = refl; is_sign = is_sign; is_run = h })
    (λ other. cc)

-- the positions before any identifier
abbrev is_before : Place → Bool
is_before start = true
is_before (at_number k) = true
is_before (after_number k) = true
is_before _ = false

holds_from : (p : Place) → is_before p ≡ true → (ts : List TokenValue) (part : Part) → run step p ts ≡ Some (after_run part)
    → HoldsIdentifierRun ts
holds_from p before [] part e = cc
holds_from start before (Whitespace a b ∷ ts) part e = holds_later _ ts (holds_from (at_number major) refl ts part e)
holds_from start before (Numeric n ∷ ts) part e = holds_later _ ts (holds_from (after_number major) refl ts part e)
holds_from (at_number k) before (Numeric n ∷ ts) part e = holds_later _ ts (holds_from (after_number k) refl ts part e)
holds_from (after_number major) before (Dot ∷ ts) part e = holds_later _ ts (holds_from (at_number minor) refl ts part e)
holds_from (after_number minor) before (Dot ∷ ts) part e = holds_later _ ts (holds_from (at_number patch) refl ts part e)
holds_from (after_number patch) before (Hyphen ∷ ts) part e = sign_holds Hyphen (inl refl) pre_release ts (after_run part) e refl
holds_from (after_number patch) before (Plus ∷ ts) part e = sign_holds Plus (inr refl) build ts (after_run part) e refl
holds_from (after_number patch) before (Whitespace a b ∷ []) part e = cc
holds_from (after_number patch) before (Whitespace a b ∷ t ∷ ts) part e = cc
holds_from p before (_ ∷ ts) part e = cc

module _ {part : Part} {s : ParserState} where
  -- reading a version may run out of memory if a prefix of the tokens leads to the position after a
  -- run of an identifier
  runs_out : {u : ParserState} (front rest : List TokenValue) → s.remaining ≡ front ++ rest → run step start front ≡ Some (after_run part)
      → IsEndPart s u → MayRunOutInVersion s u
  runs_out front rest split leads left =
      runs_out_after version_is_read holds_longer front rest (after_run part) split leads (holds_from start refl front part leads) left

  -- reading a version may run out of memory right after a run of an identifier was taken
  taken_runs_out : {t : ParserState} {text : Text} → IsTakenTo s (after_run part) text t → MayRunOutInVersion s t
  taken_runs_out {t} k =
      runs_out k.front t.remaining k.taken.split k.taken.leads
      (record { taken = k.front; split = k.taken.split; pending = k.taken.pending })

  -- reading a version may run out of memory if reading an identifier in it may
  identifier_runs_out : {t u : ParserState} {text : Text} → IsTakenTo s (at_run part) text t → MayRunOutInIdentifier t u
      → MayRunOutInVersion s u
  identifier_runs_out {t} {u} k m =
      let stop = longest_stops identifier_is_read t.remaining m.front m.rest m.longest in
      at_front m.front stop.0 stop.1 m.longest.split m.holds
    where
      first_run : (x : TokenValue) (front : List TokenValue) (b : Bool) → run id_step false (x ∷ front) ≡ Some b
          → run id_step false (x ∷ []) ≡ Some true
      first_run (Numeric n) front b e = refl
      first_run (AlphaNumeric n) front b e = refl
      first_run _ front b e = cc

      at_front : (front : List TokenValue) (b : Bool) → run id_step false front ≡ Some b → t.remaining ≡ front ++ m.rest → HoldsRun front
          → MayRunOutInVersion s u
      at_front [] b e split h = absurd (omega (arith, ap length h.split, length-append h.before (h.component ∷ h.after)))
      at_front (x ∷ front) b e split h =
          runs_out (k.front ++ x ∷ []) (front ++ m.rest) (fronts_split k (x ∷ []) (front ++ m.rest) split)
          (fronts_lead k (x ∷ []) true (first_run x front b e))
          (record {
            taken = k.front ++ m.left.taken;
            split = fronts_split k m.left.taken u.remaining m.left.split;
            pending = m.left.pending ∙ k.taken.pending;
          })

-- ---- the identifiers of a part

-- texts, each followed by a dot
abbrev pub dotted : List Text → Text
dotted [] = []
dotted (x ∷ xs) = (x ++ codes ".") ++ dotted xs

joined_more : (xs : List Text) (x : Text) → join_with_byte 46 (xs ++ x ∷ []) ≡ dotted xs ++ x
joined_more [] x = refl
joined_more (y ∷ []) x = simp append_assoc
joined_more (y ∷ z ∷ xs) x = ap (λ l. y ++ 46 ∷ l) (joined_more (z ∷ xs) x) ∙ sym (simp append_assoc)

dotted_more : (xs : List Text) (x : Text) → dotted (xs ++ x ∷ []) ≡ dotted xs ++ (x ++ codes ".")
dotted_more [] x = append-nil (x ++ codes ".")
dotted_more (y ∷ xs) x = cc (dotted_more xs x, append_assoc (y ++ codes ".") (dotted xs) (x ++ codes "."))

-- the identifiers ids were taken since the state t, and a mark comes next in the state u
abbrev pub AreBeforeMark : ParserState → List IdentifierValue → ParserState → Type 0
AreBeforeMark t ids u =
    AtMark t (λ s part text. (texts : List Text) × AllZip SpellsIdentifier ids texts × IsAtMark s part (text ++ dotted texts) u)

-- the identifiers ids, and the mark before the next identifier, were taken since the state t
abbrev pub AreAfterMark : ParserState → List IdentifierValue → ParserState → Type 0
AreAfterMark t ids u =
    AtMark t (λ s part text. (texts : List Text) × AllZip SpellsIdentifier ids texts × IsTakenTo s (at_run part) (text ++ dotted texts) u)

mark_given : {s t : ParserState} {part : Part} {text : Text} → IsAtMark s part text t → (d : Step TokenValue) → d ≡ pop t
    → Gives (RefusesVersion s) (λ x u. IsTakenTo s (at_run part) text u) d
mark_given {part = part} at d e = rw (e, ← at.text_is) (next_taken at.taken (at_run part) at.mark at.next at.leads)

pub mark_popped : (t u : ParserState) (ids : List IdentifierValue) → AreBeforeMark t ids u → (d : Step TokenValue) → d ≡ pop u
    → Gives (λ e v. TakesPart true t (Err e, v)) (λ x v. AreAfterMark t ids v) d
mark_popped t u ids k (Ok x, v) e = λ s part text at. let m = k s part text at in (m.0, m.1, mark_given m.2 _ e)
mark_popped t u ids k (Err f, v) e = λ s part text at. mark_given (k s part text at).2 _ e

module _ (t v w : ParserState) (ids : List IdentifierValue) (k : AreAfterMark t ids v) where
  pub part_refused : (e : ErrorValue) → ReadsIdentifier v (Err e) w → TakesPart true t (Err e, w)
  part_refused e reads s part text at = identifier_refused (k s part text at).2 e w reads

  pub part_runs_out : MayRunOutInIdentifier v w → PartMayRunOut true t w
  part_runs_out out s part text at = identifier_runs_out (k s part text at).2 out

  module _ (id : IdentifierValue) (reads : ReadsIdentifier v (Ok id) w) where
    pub part_runs_out_after : PartMayRunOut true t w
    part_runs_out_after s part text at = taken_runs_out (identifier_taken (k s part text at).2 id w reads).taken

    -- if a dot comes after the identifier, it is the mark before another one
    pub part_before_dot : look w ≡ Some Dot → AreBeforeMark t (ids ++ id ∷ []) w
    part_before_dot dot s part text at =
        let m = k s part text at in
        let q = identifier_taken m.2 id w reads in (
          m.0 ++ q.id ∷ [],
          all_zipped_more SpellsIdentifier ids m.0 id q.id m.1 q.spells,
          record {
            from = after_run part;
            mark = Dot;
            before = (text ++ dotted m.0) ++ q.id;
            taken = q.taken;
            next = dot;
            leads = refl;
            text_is = rw dotted_more (simp append_assoc);
          },
        )

    -- if no dot comes after the identifier, the part ends with it
    pub part_ends : ¬ (look w ≡ Some Dot) → TakesPart true t (Ok (ids ++ id ∷ []), w)
    part_ends no_dot s part text at =
        let m = k s part text at in
        let q = identifier_taken m.2 id w reads in
        record {
          texts = m.0 ++ q.id ∷ [];
          some = omega (arith, length-append m.0 (q.id ∷ []));
          each = all_zipped_more SpellsIdentifier ids m.0 id q.id m.1 q.spells;
          taken = rw (joined_more, ← append_assoc text (dotted m.0) q.id) q.taken;
          no_hyphen = q.no_hyphen;
          no_dot = no_dot;
        }

-- ---- the parts of a version

abbrev pub mark_of : Part → TokenValue
mark_of pre_release = Hyphen
mark_of build = Plus

-- the position to which a token leads right after a part, or `None` if it doesn't lead on
abbrev way_on : Part → TokenValue → Option Place
way_on part (Whitespace a b) = Some end
way_on pre_release Plus = Some (at_run build)
way_on _ _ = None

-- the state after a part that was taken or is missing: the version may end here
pub record IsAfter (s : ParserState) (part : Part) (text : Text) (t : ParserState) : Type 0 where
  pub place : Place
  pub taken : IsTakenTo s place text t
  pub may_end : accepts place ≡ true
  pub leads : (x : TokenValue) → look t ≡ Some x → step place x ≡ way_on part x

-- reading a version from the state s returns any value that the text spells, and leaves the state u
abbrev pub ReadsAll : ParserState → Text → ParserState → Type 0
ReadsAll s text u = (v : VersionValue) → SpellsCore v text → ReadsVersion s (Ok v) u

-- a part with the identifiers ids was taken after the text; there are none if the part is missing
pub record IsPart (s : ParserState) (part : Part) (text : Text) (ids : List IdentifierValue) (t : ParserState) : Type 0 where
  pub part_text : Text
  pub spells : SpellsPart (inner_text (mark_of part)) ids part_text
  pub after : IsAfter s part (text ++ part_text) t

passed_part : (s t : ParserState) (part : Part) (text : Text) (ids : List IdentifierValue)
    → ArePassed s part (text ++ inner_text (mark_of part)) ids t → IsPart s part text ids t
passed_part s t part text ids w = record {
  part_text = marked (inner_text (mark_of part)) w.texts;
  spells = record { texts = w.texts; each = w.each; joined = refl };
  after = record {
    place = after_run part;
    taken = rw (← marked_text (inner_text (mark_of part)) w.texts w.some) w.taken;
    may_end = refl;
    leads = λ x looked. run_leads part x (λ e. w.no_hyphen (cc)) (λ e. w.no_dot (cc));
  };
}
  where
    marked_text : (mark : Text) (texts : List Text) → 0 < length texts
        → (text ++ mark) ++ join_with_byte 46 texts ≡ text ++ marked mark texts
    marked_text mark [] some = absurd (omega (arith, some))
    marked_text mark (x ∷ texts) some = append_assoc text mark (join_with_byte 46 (x ∷ texts))

    run_leads : (part : Part) (x : TokenValue) → ¬ (x ≡ Hyphen) → ¬ (x ≡ Dot) → step (after_run part) x ≡ way_on part x
    run_leads part Hyphen hyphen dot = absurd (hyphen refl)
    run_leads part Dot hyphen dot = absurd (dot refl)
    run_leads pre_release Plus hyphen dot = refl
    run_leads build Plus hyphen dot = refl
    run_leads part _ hyphen dot = refl

module _ {s t : ParserState} {from : Place} {text : Text} (k : IsTakenTo s from text t) (part : Part)
    (leads : look t ≡ Some (mark_of part) → step from (mark_of part) ≡ Some (at_run part)) where
  at_mark : look t ≡ Some (mark_of part) → IsAtMark s part (text ++ inner_text (mark_of part)) t
  at_mark looked =
      record { from = from; mark = mark_of part; before = text; taken = k; next = looked; leads = leads looked; text_is = refl }

  part_given : (there : Bool) → IsTrue there ↔ (look t ≡ Some (mark_of part)) → (d : Step (List IdentifierValue)) → TakesPart there t d
      → (¬ (look t ≡ Some (mark_of part)) → IsAfter s part text t) → Gives (RefusesVersion s) (IsPart s part text) d
  part_given true here (Ok ids, u) w none =
      passed_part s u part text ids (w s part (text ++ inner_text (mark_of part)) (at_mark (here.0 refl)))
  part_given true here (Err e, u) w none = w s part (text ++ inner_text (mark_of part)) (at_mark (here.0 refl))
  part_given false here d w none =
      rw w (record {
        part_text = [];
        spells = record { texts = []; each = tt; joined = refl };
        after = rw append-nil (none (λ looked. let there_is = here.1 looked in cc));
      })

  part_out : (there : Bool) → IsTrue there ↔ (look t ≡ Some (mark_of part)) → (u : ParserState) → PartMayRunOut there t u
      → MayRunOutInVersion s u
  part_out true here u w = w s part (text ++ inner_text (mark_of part)) (at_mark (here.0 refl))
  part_out false here u w = absurd w

module _ {s t : ParserState} {text : Text} where
  module _ (k : IsTakenTo s (after_number patch) text t) (there : Bool) (here : IsTrue there ↔ (look t ≡ Some Hyphen)) where
    pub pre_given : (d : Step (List IdentifierValue)) → TakesPart there t d → Gives (RefusesVersion s) (IsPart s pre_release text) d
    pre_given d takes =
        part_given k pre_release (λ looked. refl) there here d takes
        (λ none. record { place = after_number patch; taken = k; may_end = refl; leads = λ x looked. no_pre x (λ e. none (cc)) })
      where
        no_pre : (x : TokenValue) → ¬ (x ≡ Hyphen) → step (after_number patch) x ≡ way_on pre_release x
        no_pre Hyphen hyphen = absurd (hyphen refl)
        no_pre _ hyphen = refl

    pub pre_out : (u : ParserState) → PartMayRunOut there t u → MayRunOutInVersion s u
    pre_out u out = part_out k pre_release (λ looked. refl) there here u out

  module _ (b : IsAfter s pre_release text t) (there : Bool) (here : IsTrue there ↔ (look t ≡ Some Plus)) where
    pub build_given : (d : Step (List IdentifierValue)) → TakesPart there t d → Gives (RefusesVersion s) (IsPart s build text) d
    build_given d takes =
        part_given b.taken build (b.leads Plus) there here d takes
        (λ none. record {
          place = b.place;
          taken = b.taken;
          may_end = b.may_end;
          leads = λ x looked. b.leads x looked ∙ no_build x (λ e. none (cc));
        })
      where
        no_build : (x : TokenValue) → ¬ (x ≡ Plus) → way_on pre_release x ≡ way_on build x
        no_build Plus plus = absurd (plus refl)
        no_build _ plus = refl

    pub build_out : (u : ParserState) → PartMayRunOut there t u → MayRunOutInVersion s u
    build_out u out = part_out b.taken build (b.leads Plus) there here u out

  pub end_given : IsAfter s build text t → (d : Step (Unit {0})) → d ≡ skip_whitespace t
      → Gives (RefusesVersion s) (λ x u. ReadsAll s text u) d
  end_given b d e =
      rw e (space_given b.taken (ReadsAll s text) end (λ x y looked. b.leads (Whitespace x y) looked)
      (λ u taken. ended u end taken refl (stops_at_end u.remaining))
      (λ none. ended t b.place b.taken b.may_end (stops_here t.remaining none b.leads)))
    where
      ended : (u : ParserState) (p : Place) → IsTakenTo s p text u → accepts p ≡ true → Stops step p u.remaining → ReadsAll s text u
      ended u p k ok stops v spells = reads_value version_is_read SpellsCore k.taken v ok stops (rw k.text_is spells)

      stops_at_end : (ts : List TokenValue) → Stops step end ts
      stops_at_end [] = tt
      stops_at_end (x ∷ ts) = refl

      stops_here : (ts : List TokenValue) → ((a b : ℕ) → ¬ (slice_get ts 0 ≡ Some (Whitespace a b)))
          → ((x : TokenValue) → slice_get ts 0 ≡ Some x → step b.place x ≡ way_on build x) → Stops step b.place ts
      stops_here [] none leads = tt
      stops_here ((Whitespace x y) ∷ ts) none leads = absurd (none x y refl)
      stops_here (x ∷ ts) none leads = leads x refl
