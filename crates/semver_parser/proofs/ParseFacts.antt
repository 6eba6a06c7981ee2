-- The clauses of `version::parse`, from the outcome of the text.
use Rattle.std.proofs.Common.{◌≡◌, ℕ, List, [], ◌∷◌, Some, None, Option, Result, Ok, Err, sym, refl, ap, subst, inl, inr, IsUtf8, IfOk}
use Rattle.std.proofs.Common.{◌↔◌}
use Rattle.semver_tokens.specs.Tokens.{TokenValue}
use Rattle.semver_texts.specs.Versions.{VersionValue}
use Rattle.semver_texts.specs.PrintedText.{version_text}
use Rattle.semver_texts.specs.VersionGrammar.{SpellsCore, SpellsVersion, IsTrimmed, IsPrintableVersion}
use Rattle.semver_tokens.specs.ParserState as spec
use Rattle.semver_tokens.specs.ParserState.{ParserState, ErrorValue, IsStateOf}
use Rattle.semver_tokens.specs.ParserSteps.{Step, tail, tail_of}
use Rattle.semver_tokens.specs.VersionReading.{ReadsVersion, IsOutcomeOf, whole_answer, MayRunOutInVersion, TextMayRunOut}
use Rattle.semver_texts.specs.VersionViews.{version_value}
use Rattle.semver_tokens.specs.ParserViews.{error_value, answer_of, UnlessOutOfMemory, IfOutOfMemory}
use Rattle.semver_texts.specs.declared.version.Version.{Version}
use Rattle.semver_tokens.specs.declared.parser.Error.{Error}
use Rattle.semver_tokens.specs.declared.parser.Error.TheVariants as error
use Rattle.semver_tokens.specs.Steps.Taking.{Gives}
use Rattle.semver_tokens.proofs.VersionSteps.{version_is_read}
use Rattle.semver_tokens.proofs.ReadingSteps.{at_nothing, none_taken, reads_stuck}
use Rattle.semver_parser.proofs.WholeText.{trimmed, printable, printed_spells, accepted_spells, outcome_spelled, plain_has_memory}

-- ---- from the outcome to the clauses

module _ (text : List ℕ) (utf8 : IsUtf8 text) where
  exact : (x : Result VersionValue ErrorValue) → IsOutcomeOf text x → (v : VersionValue) → (x ≡ Ok v) ↔ SpellsVersion v text
  exact x o v = (λ e. accepted_spells v text utf8 (subst (IsOutcomeOf text) e o), λ s. outcome_spelled v text s x o)

  read_back : (x : Result VersionValue ErrorValue) → IsOutcomeOf text x → (v : VersionValue) → IsPrintableVersion v → text ≡ version_text v
      → x ≡ Ok v
  read_back x o v can same = outcome_spelled v text (subst (SpellsVersion v) (sym same) (printed_spells v can)) x o

  pub all_of : (r : Result Version Error) → UnlessOutOfMemory r (IsOutcomeOf text (answer_of version_value r))
      → IfOutOfMemory r (TextMayRunOut text) → record {
        exact : (v : VersionValue) → UnlessOutOfMemory r ((answer_of version_value r ≡ Ok v) ↔ SpellsVersion v text);
        plain : (v : VersionValue) → SpellsVersion v text → v.plain.pre ≡ [] → v.build ≡ [] → answer_of version_value r ≡ Ok v;
        trimmed : IfOk r (λ v. IsTrimmed text (version_text (version_value v)));
        printable : IfOk r (λ v. IsPrintableVersion (version_value v));
        read_back : (v : VersionValue) → IsPrintableVersion v → text ≡ version_text v
            → UnlessOutOfMemory r (answer_of version_value r ≡ Ok v);
        outcome : UnlessOutOfMemory r (IsOutcomeOf text (answer_of version_value r));
        out_of_memory : IfOutOfMemory r (TextMayRunOut text);
      }
  all_of (Ok w) o m =
      let spelled = accepted_spells (version_value w) text utf8 o in
      record {
        exact = exact (Ok (version_value w)) o;
        plain = λ v s pre build. outcome_spelled v text s (Ok (version_value w)) o;
        trimmed = trimmed (version_value w) text spelled;
        printable = printable (version_value w) text spelled;
        read_back = read_back (Ok (version_value w)) o;
        outcome = o;
        out_of_memory = m;
      }
  all_of (Err error.OutOfMemory) o m =
      record {
        exact = λ v. tt;
        plain = λ v s pre build. absurd (plain_has_memory v text s pre build m);
        trimmed = tt;
        printable = tt;
        read_back = λ v can same. tt;
        outcome = o;
        out_of_memory = m;
      }
  all_of (Err e) o m =
      record {
        exact = exact (Err (error_value e)) o;
        plain = λ v s pre build. outcome_spelled v text s (Err (error_value e)) o;
        trimmed = tt;
        printable = tt;
        read_back = read_back (Err (error_value e)) o;
        outcome = o;
        out_of_memory = m;
      }

-- ---- the outcome at each return of `parse_by_tokens`

-- the text begins with a bad character
pub at_bad_start : (text : List ℕ) (e : Error)
    → (c : ℕ) × (error_value e ≡ spec.Lexer c) × IsStateOf text (record { remaining = []; pending = Some c })
    → IsOutcomeOf text (Err (error_value e))
at_bad_start text e w = record {
  start = record { remaining = []; pending = Some w.0 };
  answer = Err _;
  end = record { remaining = []; pending = Some w.0 };
  state = w.2;
  reads =
      reads_stuck version_is_read SpellsCore
      (none_taken version_is_read _) (at_nothing w.0) (inl refl);
  whole = rw w.1;
}

pub lexer_has_memory : (P : Type 0) (e : Error) (c : ℕ) → error_value e ≡ spec.Lexer c → IfOutOfMemory {T = Unit {0}} (Err e) P
lexer_has_memory P error.OutOfMemory c d = cc
lexer_has_memory P _ c d = tt

-- reading the tokens returns an error
pub at_error : (text : List ℕ) (s t : ParserState) (e : ErrorValue) → IsStateOf text s → ReadsVersion s (Err e) t → IsOutcomeOf text (Err e)
at_error text s t e state reads = record { start = s; answer = Err e; end = t; state = state; reads = reads; whole = refl }

pub at_refusal : (text : List ℕ) (s t : ParserState) → IsStateOf text s → MayRunOutInVersion s t → TextMayRunOut text
at_refusal text s t state m = record { start = s; front = m.front; rest = m.rest; state = state; longest = m.longest; why = inl m.holds }

-- reading the tokens returns a version
module _ (text : List ℕ) (s t : ParserState) (v : VersionValue) (state : IsStateOf text s) (reads : ReadsVersion s (Ok v) t) where
  pub at_end : t.remaining ≡ [] → IsOutcomeOf text (Ok v)
  at_end none =
      record {
        start = s;
        answer = Ok v;
        end = t;
        state = state;
        reads = reads;
        whole = sym
            (rw none);
      }

  -- if tokens are left, the outcome is the error that `tail` returns, or `MoreInput` with the
  -- tokens that it returns
  pub tail_given : ¬ (t.remaining ≡ []) → (d : Step (List TokenValue)) → d ≡ tail t
      → Gives (λ e u. IsOutcomeOf text (Err e)) (λ ts u. IsOutcomeOf text (Err (spec.MoreInput ts))) d
  tail_given some d e =
      rw e
      (at_left t.remaining t.pending some (λ x whole. record {
        start = s;
        answer = Ok v;
        end = t;
        state = state;
        reads = reads;
        whole = whole;
      }))
    where
      at_left : (left : List TokenValue) (pending : Option ℕ) → ¬ (left ≡ [])
          → ((x : Result VersionValue ErrorValue) → x ≡ whole_answer (Ok v) left pending → IsOutcomeOf text x)
          → Gives (λ e u. IsOutcomeOf text (Err e)) (λ ts u. IsOutcomeOf text (Err (spec.MoreInput ts))) (tail_of left pending)
      at_left [] pending some outcome = absurd (some refl)
      at_left (x ∷ left) None some outcome = outcome _ refl
      at_left (x ∷ left) (Some c) some outcome = outcome _ refl

  pub at_tail_refusal : ¬ (t.remaining ≡ []) → t.pending ≡ None → TextMayRunOut text
  at_tail_refusal some none =
      record {
        start = s;
        front = reads.front;
        rest = reads.rest;
        state = state;
        longest = reads.longest;
        why = inr
            (t.remaining, tail_given some _ (sym (ap (tail_of t.remaining) none)));
      }
