-- Why a text is not a range. The reason depends on the longest prefix with which some range text
-- begins, and on the byte after it, if there is one. The first row that applies decides.
use Prim.Native.Char.{code}
use Rattle.std.specs.Prelude.{◌≡◌, ◌↔◌, ◌-◌, ℕ, Bool, not, ◌&&◌, ◌||◌, ◌==◌, nat_lt, ◌++◌, codes}
use Rattle.std.specs.Prelude.{if◌then◌else◌, false, IsTrue, Option, Some, None, drop, length}
use Rattle.std.specs.Char.{is_ascii_digit}
use Rattle.std.specs.Int.{is_in_range}
use Rattle.std.specs.List.{list_all}
use Rattle.semver_texts.specs.NpmLimits.{max_build_length}
use Rattle.semver_texts.specs.Texts.{Text, is_dotted_byte}
use Rattle.invalid_strings.specs.Reasons.{ends_in_digit, ends_in_zero, from_end, has_no_digit}
use Rattle.invalid_strings.specs.Reasons as version
use Rattle.invalid_strings.specs.declared.reasons.Reason.{Reason}
use Rattle.invalid_strings.specs.declared.reasons.Reason.TheVariants.{Empty, NotThreeNumbers}
use Rattle.invalid_strings.specs.declared.reasons.Reason.TheVariants.{LeadingZero, EmptyIdentifier}
use Rattle.invalid_strings.specs.declared.reasons.Reason.TheVariants.{UnexpectedCharacter, TooLong}
use Rattle.invalid_strings.specs.declared.reasons.Reason.TheVariants.{NumberExpected, UnexpectedEnd}
use Rattle.invalid_strings.specs.declared.reasons.Reason.TheVariants.{CargoBars, CargoCommas}
use Rattle.invalid_strings.specs.declared.reasons.Reason.TheVariants.{CargoHyphen, CargoV}
use Rattle.invalid_strings.specs.declared.reasons.Reason.TheVariants.{CargoWildcard, NpmComma}
use Rattle.invalid_strings.specs.declared.reasons.Reason.TheVariants.{CrateComma, CrateV}
use Rattle.invalid_strings.specs.declared.reasons.Reason.TheVariants.{TooManyComparators}
use Rattle.semver_ranges.specs.declared.dialect.Dialect.{Dialect}
use Rattle.semver_texts.specs.declared.grammar.Grammar.{Grammar}
use Rattle.semver_texts.specs.declared.grammar.Grammar.TheVariants.{Cargo, Npm, Crate}
use Rattle.tool_ranges.specs.Dialects.{IsTextAs}
use Rattle.semver_ranges.specs.DialectTable.{grammar_of}

-- ---- the prefix

-- whether the prefix has nothing but spaces
abbrev pub is_spaces : Text → Bool
is_spaces prefix = list_all (λ b. b == 32) prefix

abbrev pub ends_in_space : Text → Bool
ends_in_space prefix = from_end prefix 0 == 32

-- whether a byte is a wildcard
abbrev pub is_wildcard : ℕ → Bool
is_wildcard b = (b == code "x") || ((b == code "X") || (b == code "*"))

-- whether the prefix ends in a digit or a wildcard
abbrev pub ends_in_component : Text → Bool
ends_in_component prefix = ends_in_digit prefix || is_wildcard (from_end prefix 0)

-- whether a byte separates words: any byte except letters, digits, `-`, `.`, `+` and `*`
abbrev pub is_separator : ℕ → Bool
is_separator b = not (is_dotted_byte b || ((b == code "+") || (b == code "*")))

-- whether the prefix doesn't end in a word
abbrev pub is_between : Text → Bool
is_between prefix = is_separator (from_end prefix 0)

-- whether no byte of a text separates words
abbrev pub is_word : Text → Bool
is_word t = list_all (λ b. not (is_separator b)) t

-- whether the last 250 bytes of the prefix are in one word. 250 is the smallest of npm's limits on
-- lengths, so no shorter word is too long
abbrev pub is_long : Text → Bool
is_long prefix =
    if nat_lt (length prefix) max_build_length then false
    else is_word (drop (length prefix - max_build_length) prefix)

-- ---- the byte after it

abbrev pub is_operator : ℕ → Bool
is_operator b = is_in_range 60 62 b || ((b == code "^") || (b == code "~"))

-- whether a term without an operator may begin with the byte: it is a digit or a wildcard
abbrev pub begins_partial : ℕ → Bool
begins_partial b = is_ascii_digit b || is_wildcard b

-- whether a pre-release or build metadata begins with the byte
abbrev pub is_mark : ℕ → Bool
is_mark b = (b == code "-") || (b == code "+")

-- whether an identifier may end before the byte
abbrev pub ends_identifier : ℕ → Bool
ends_identifier b = version.is_separator b || ((b == code "|") || (b == code ","))

-- ---- the rows: `complete` if the prefix is a range, `letter` if it is one with `a` after it

-- whether the prefix ends in an identifier that is empty or has a leading zero
abbrev pub is_open : Bool → Bool → Bool
is_open complete letter = letter && not complete

-- whether a number, a wildcard or the second of two bars is missing at the end of the prefix
abbrev pub is_begun : Bool → Bool → Bool
is_begun complete letter = not complete && not letter

-- whether the identifier at the end of the prefix has a leading zero, or the number to which the
-- byte adds a digit
abbrev pub has_leading_zero : Bool → Bool → Text → ℕ → Bool
has_leading_zero complete letter prefix b = (is_open complete letter && ends_in_digit prefix)
    || (is_ascii_digit b && (ends_in_zero prefix && not letter))

-- the reason if no byte follows the prefix
abbrev pub reason_at_end : Bool → Text → Reason
reason_at_end letter prefix = if is_spaces prefix then Empty
    else (if letter then (if ends_in_digit prefix then LeadingZero else EmptyIdentifier)
    else (if from_end prefix 0 == code "|" then UnexpectedEnd else NumberExpected))

-- the reason for a comma after a requirement: Cargo allows one, unless the requirement is a
-- wildcard or has 32 comparators
abbrev pub reason_of_comma : Text → Reason
reason_of_comma prefix = if has_no_digit prefix then CargoWildcard else TooManyComparators

-- the reason in Cargo's dialect, or `other` if none of its rows applies
abbrev pub reason_of_cargo : Bool → Bool → Text → ℕ → Reason → Reason
reason_of_cargo complete letter prefix b other = if b == code "|" then CargoBars
    else (if (b == code "v") && is_between prefix then CargoV
    else (if complete && ((b == code "-") && ends_in_space prefix) then CargoHyphen
    else (if complete && (is_operator b || (begins_partial b && ends_in_space prefix))
    then CargoCommas
    else (if is_begun complete letter && is_wildcard b then CargoWildcard
    else (if complete && (b == code ",") then reason_of_comma prefix
    else other)))))

-- the reason in npm's dialect, or `other` if none of its rows applies
abbrev pub reason_of_npm : Bool → Bool → Text → ℕ → Reason → Reason
reason_of_npm complete letter prefix b other =
    if is_dotted_byte b && (not (is_open complete letter) && is_long prefix) then TooLong
    else (if b == code "," then NpmComma else other)

-- the reason in the crate's dialects, or `other` if none of their rows applies
abbrev pub reason_of_crate : Text → ℕ → Reason → Reason
reason_of_crate prefix b other = if b == code "," then CrateComma
    else (if (b == code "v") && is_between prefix then CrateV else other)

abbrev pub reason_of : Grammar → Bool → Bool → Text → ℕ → Reason → Reason
reason_of Cargo complete letter prefix b other = reason_of_cargo complete letter prefix b other
reason_of Npm complete letter prefix b other = reason_of_npm complete letter prefix b other
reason_of Crate complete letter prefix b other = reason_of_crate prefix b other

-- whether a number is missing, and the byte is not a digit. No number is missing if the prefix has
-- only spaces, or ends in a bar or `-`
abbrev pub expects_number : Bool → Bool → Text → ℕ → Bool
expects_number complete letter prefix b = is_begun complete letter && not (is_ascii_digit b)
    && not (is_spaces prefix
    || ((from_end prefix 0 == code "|") || (from_end prefix 0 == code "-")))

-- the reason by the rows of all dialects
abbrev pub reason_of_any : Bool → Bool → Text → ℕ → Reason
reason_of_any complete letter prefix b =
    if is_mark b && (ends_in_component prefix && not letter) then NotThreeNumbers
    else (if is_open complete letter && ends_identifier b then EmptyIdentifier
    else (if expects_number complete letter prefix b then NumberExpected
    else UnexpectedCharacter))

-- the reason in a dialect
abbrev pub reason_by : Dialect → Bool → Bool → Text → Option ℕ → Reason
reason_by d complete letter prefix None = reason_at_end letter prefix
reason_by d complete letter prefix (Some b) =
    if has_leading_zero complete letter prefix b then LeadingZero
    else reason_of (grammar_of d) complete letter prefix b (reason_of_any complete letter prefix b)

-- the reason for a prefix and the byte after it, if there is one
pub record IsReasonAs (d : Dialect) (prefix : Text) (next : Option ℕ) (reason : Reason) : Type 0
  where
    pub complete : Bool
    pub letter : Bool
    pub is_complete : IsTrue complete ↔ IsTextAs d prefix
    pub takes_letter : IsTrue letter ↔ IsTextAs d (prefix ++ codes "a")
    pub is : reason ≡ reason_by d complete letter prefix next
