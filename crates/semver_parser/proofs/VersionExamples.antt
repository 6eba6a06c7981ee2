-- Examples of the definitions of tokens, of identifiers, and of the outcome of a text.
use Rattle.std.proofs.Common.{◌≡◌, List, [], ◌∷◌, length, Some, Err, refl, sym, arith, inl}
use Rattle.std.specs.Prelude.{codes}
use Rattle.std.specs.Str.{chars}
use Rattle.std.specs.Fmt.{digits}
use Rattle.std.proofs.lemmas.Fmt.{decimal_digit}
use Rattle.semver_texts.specs.Texts.{Text}
use Rattle.semver_texts.specs.Versions.{numeric, alphanumeric, VersionValue}
use Rattle.semver_texts.specs.PrintedText.{version_text}
use Rattle.semver_tokens.specs.Tokens as token
use Rattle.semver_tokens.specs.Tokens.{TokenValue, AreTokensOf}
use Rattle.semver_tokens.specs.ParserState as state
use Rattle.semver_tokens.specs.ParserState.{IsStateOf}
use Rattle.semver_tokens.specs.ParserSteps.{dot_component}
use Rattle.semver_tokens.specs.Steps.Scanning.{scan, first_token, component, sign}
use Rattle.semver_texts.proofs.Numbers.{is_number_true, canonical_from_IsNumber}
use Rattle.semver_tokens.proofs.FirstToken.{never}
use Rattle.semver_tokens.proofs.TokenLists.{scan_finds}
use Rattle.semver_texts.specs.VersionGrammar.{SpellsIdentifier, IsPrintableIdentifier, SpellsCore, SpellsVersion}
use Rattle.semver_tokens.specs.VersionReading.{IsOutcomeOf}
use Rattle.semver_tokens.proofs.ReadingSteps.{at_last, none_taken, reads_stuck}
use Rattle.semver_tokens.proofs.VersionSteps.{version_is_read}
use Rattle.semver_versions.proofs.OneVersion.{bare}

-- ---- tokens and the state of a parser

-- the tokens that `scan` finds are the tokens of the text
tokens_found : (text : Text) (ts : List TokenValue) (rest : Text) → scan (length text) text 0 ≡ (ts, rest) → AreTokensOf text ts rest
tokens_found text ts rest e =
    rw e at (scan_finds text (length text) 0 (omega arith))

word_space_slash : AreTokensOf (codes "foo / *") (token.AlphaNumeric (codes "foo") ∷ token.Whitespace 3 4 ∷ []) (codes "/ *")
unfolding scan first_token component sign
word_space_slash = tokens_found _ _ _ refl

-- the longer of two signs is read, and a single `|` begins no token
signs_and_bars : AreTokensOf (codes "<==|||") (token.LtEq ∷ token.Eq ∷ token.Or ∷ []) (codes "|")
unfolding scan first_token sign
signs_and_bars = tokens_found _ _ _ refl

not_two_signs : (rest : Text) → ¬ (AreTokensOf (codes "<=") (token.Lt ∷ token.Eq ∷ []) rest)
not_two_signs rest a = cc (a.none_merge.0)

-- `1é2`
past_ascii : IsStateOf (49 ∷ 195 ∷ 169 ∷ 50 ∷ []) (record { remaining = token.Numeric 1 ∷ []; pending = Some 233 })
unfolding scan first_token component sign chars
past_ascii = (195 ∷ 169 ∷ 50 ∷ [], tokens_found _ _ _ refl, refl)

-- in `.1/`, `dot_component` consumes the dot, but doesn't return the number after it
dot_one_slash : dot_component (record { remaining = token.Dot ∷ token.Numeric 1 ∷ []; pending = Some 47 })
    ≡ (Err (state.Lexer 47), record { remaining = token.Numeric 1 ∷ []; pending = Some 47 })
dot_one_slash = refl

-- ---- the grammar of versions

-- `01` is kept as its text, and `7` as a number
zero_one_is_kept : SpellsIdentifier (alphanumeric (codes "01")) (codes "01")
zero_one_is_kept = (
  refl,
  record { runs = codes "01" ∷ []; some = omega arith; each = ((omega arith, (refl, (refl, tt))), tt); joined = refl },
  λ number. never (is_number_true _ (canonical_from_IsNumber _ number)) refl,
)

seven_is_a_number : SpellsIdentifier (numeric 7) (codes "7")
seven_is_a_number = (omega arith, sym (decimal_digit 7 (omega arith)))

seven_is_no_text : ¬ (IsPrintableIdentifier (alphanumeric (codes "7")))
seven_is_no_text h = h.2 (7, seven_is_a_number.0, seven_is_a_number.1)

abbrev pub zero_one : VersionValue
zero_one = record { plain = record { major = 1; minor = 2; patch = 3; pre = alphanumeric (codes "01") ∷ [] }; build = [] }

pub zero_one_spelled : SpellsVersion zero_one (codes "1.2.3-01")
unfolding digits
zero_one_spelled = bare (record {
  pre_text = codes "-01";
  build_text = [];
  major = omega arith;
  minor = omega arith;
  patch = omega arith;
  pre = record { texts = codes "01" ∷ []; each = (zero_one_is_kept, tt); joined = refl };
  build = record { texts = []; each = tt; joined = refl };
  spelled = refl;
})

zero_one_prints : version_text zero_one ≡ codes "1.2.3-01"
unfolding digits
zero_one_prints = refl

-- ---- reading

-- `a/`: the lookahead after `a` is the bad character
slash_after_word : IsOutcomeOf (codes "a/") (Err (state.Lexer 47))
unfolding scan first_token component sign chars
slash_after_word = record {
  start = record { remaining = token.AlphaNumeric _ ∷ []; pending = Some 47 };
  answer = Err _;
  end = record { remaining = token.AlphaNumeric _ ∷ []; pending = Some 47 };
  state = (codes "/", tokens_found _ _ _ refl, refl);
  reads =
      reads_stuck version_is_read SpellsCore
      (none_taken version_is_read _) (at_last _ 47) (inl refl);
  whole = refl;
}
