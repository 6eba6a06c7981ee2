use Rattle.std.proofs.Common.{◌++◌, codes, refl, ap, sym, ◌∙◌, append_assoc, string_bytes}
use Rattle.std.proofs.Output.{has_written_styled_append, has_written_styled_of_eq}
use Rattle.invalid_strings.specs.Escaping.{escaped}
use Rattle.semver_errors.specs.ErrorTexts.{kind_text, line_of}
use Rattle.semver_errors.specs.ErrorValues.{value_of}
use Rattle.semver_errors.specs.declared.error.Kind.TheVariants as kind
use Rattle.semver_errors.proofs.printing.write_without_place.Goals as goal

pub returns-in_ok-write_quoted-in-UnknownName : goal.returns-in_ok-write_quoted-in-UnknownName
returns-in_ok-write_quoted-in-UnknownName g c = λ none flush ok.
    let quoted = c.in_ok-write_quoted-in-UnknownName.ensures flush refl in
    let both = has_written_styled_append _ _ _ _ _ _ quoted (c.write_str.ensures.styled quoted.flush ok) in
    let told = rw (c.kind_text.ensures, c.as_str-in-UnknownName.ensures.value) at both in
    let name = string_bytes c.in-UnknownName.name in
    let grouped = ap (λ t. kind_text kind.UnknownName ++ (codes " \"" ++ t))
    (append_assoc (escaped name) (codes "\": expected ") c.in-UnknownName.known.now) in
    has_written_styled_of_eq _ _ _ _ _ (grouped ∙ ap (λ x. line_of (value_of x)) (sym c.in-UnknownName.is)) told

pub returns-in_ok-write_str-in-Converted-2 : goal.returns-in_ok-write_str-in-Converted-2
returns-in_ok-write_str-in-Converted-2 g c = λ none flush ok.
    let kind = c.in_ok-write_str-in-Converted.ensures.styled flush refl in
    let colon = c.in_ok-write_str-in-Converted-2.ensures.styled kind.flush refl in
    let rest = c.write_str-in-Converted-3.ensures.styled colon.flush ok in
    let all = has_written_styled_append _ _ _ _ _ _ kind (has_written_styled_append _ _ _ _ _ _ colon rest) in
    let told = rw (c.kind_text-in-Converted.ensures, c.invalid_kind.ensures, c.as_str-in-Converted.ensures.value) at all in
    has_written_styled_of_eq _ _ _ _ _ (ap (λ x. line_of (value_of x)) (sym c.in-Converted.is)) told

pub returns-in_ok-write_str-in-Fixed-2 : goal.returns-in_ok-write_str-in-Fixed-2
returns-in_ok-write_str-in-Fixed-2 g c = λ none flush ok.
    let kind = c.in_ok-write_str-in-Fixed.ensures.styled flush refl in
    let colon = c.in_ok-write_str-in-Fixed-2.ensures.styled kind.flush refl in
    let rest = c.write_str-in-Fixed-3.ensures.styled colon.flush ok in
    let all = has_written_styled_append _ _ _ _ _ _ kind (has_written_styled_append _ _ _ _ _ _ colon rest) in
    let told = rw (c.kind_text-in-Fixed.ensures, c.invalid_kind-in-Fixed.ensures) at all in
    has_written_styled_of_eq _ _ _ _ _ (ap (λ x. line_of (value_of x)) (sym c.in-Fixed.is)) told

pub returns-in_ok-write_str-in-UnexpectedCharacter-2 : goal.returns-in_ok-write_str-in-UnexpectedCharacter-2
returns-in_ok-write_str-in-UnexpectedCharacter-2 g c = λ none flush ok.
    let kind = c.in_ok-write_str-in-UnexpectedCharacter.ensures.styled flush refl in
    let colon = c.in_ok-write_str-in-UnexpectedCharacter-2.ensures.styled kind.flush refl in
    let rest = c.write_unexpected.ensures colon.flush ok in
    let all = has_written_styled_append _ _ _ _ _ _ kind (has_written_styled_append _ _ _ _ _ _ colon rest) in
    let told = rw c.kind_text-in-UnexpectedCharacter.ensures at all in
    has_written_styled_of_eq _ _ _ _ _ (ap (λ x. line_of (value_of x)) (sym c.in-UnexpectedCharacter.is)) told
