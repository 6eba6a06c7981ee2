-- The offset of the number that is too large. It is in the first term that doesn't fit: the first
-- of its numbers that is above the limit of the dialect, or if there is none, the number that is
-- raised and can't be.
use Prim.Native.Char.{code}
use Rattle.std.specs.Prelude.{◌≡◌, ℕ, suc, ◌+◌, ◌-◌, Bool, ◌&&◌, ◌==◌, if◌then◌else◌, Option}
use Rattle.std.specs.Prelude.{Some, None, option_map, List, [], ◌∷◌, length, slice_index, take}
use Rattle.std.specs.Char.{is_ascii_alphanumeric}
use Rattle.std.specs.List.{filter_map, prefix_len}
use Rattle.std.specs.Option.{option_or}
use Rattle.std.specs.Str.{all_ascii_digits}
use Rattle.std.specs.Str.Parse.{digits_value}
use Rattle.semver_texts.specs.Texts.{Text}
use Rattle.semver_ranges.specs.declared.operator.Operator.{Operator}
use Rattle.semver_ranges.specs.declared.operator.Operator.TheVariants.{LessOrEqual}
use Rattle.semver_ranges.specs.RangeTree.{components, SetTree}
use Rattle.semver_ranges.specs.TextItems.{FoundWord, Item, one_term}
use Rattle.semver_ranges.specs.declared.dialect.Dialect.{Dialect}
use Rattle.semver_ranges.specs.CargoGrammar.{read_in}
use Rattle.semver_ranges.specs.DialectTable.{limit}
use Rattle.tool_ranges.specs.Dialects.{SpellsAs}
use Rattle.semver_ranges.specs.DialectTable.{grammar_of}
use Rattle.tool_ranges.specs.FittingTerms.{too_large}
use Rattle.tool_ranges.specs.SpelledItems.{items_in}
use Rattle.invalid_strings.specs.Reasons.{bound_too_large_in, too_large_in}
use Rattle.invalid_strings.specs.declared.reasons.Reason.{Reason}

-- the offset of the component with an index, in the text of some components joined by dots
abbrev pub component_begin : ℕ → List Text → ℕ
component_begin (suc k) (c ∷ next ∷ others) =
    suc (length c) + component_begin k (next ∷ others)
component_begin k components = 0

-- a text without the `v` at its beginning
abbrev pub without_v : Text → Text
without_v [] = []
without_v (b ∷ t) = if b == code "v" then t else b ∷ t

-- the offset of the component with an index, of a version in a text of n bytes
abbrev pub number_begin : ℕ → FoundWord → ℕ → ℕ
number_begin n v k = n - length (without_v v.from) + component_begin k (components v.partial)

-- the offset of the number that is too large in a version after an operator, if they don't fit
abbrev pub offset_in : Dialect → ℕ → Operator → FoundWord → Option ℕ
offset_in d n operator v = option_map (number_begin n v)
    (too_large d (read_in (grammar_of d) (record { operator = operator; partial = v.partial })))

-- such an offset in a term. The right side of a hyphen range is read as a term with `<=`
abbrev pub offset_in_term : Dialect → ℕ → Operator → FoundWord → Option FoundWord → Option ℕ
offset_in_term d n operator version None = offset_in d n operator version
offset_in_term d n operator version (Some upper) =
    option_or (offset_in d n operator version) (offset_in d n LessOrEqual upper)

abbrev pub offset_in_item : Dialect → ℕ → Item → Option ℕ
offset_in_item d n (one_term x) = offset_in_term d n x.operator x.version x.upper
offset_in_item d n _ = None

-- the first of these offsets, or 0 if all terms fit
abbrev pub limit_offset : (d : Dialect) (tree : SetTree) (t : Text) → SpellsAs d tree t → ℕ
limit_offset d tree t spelled =
    slice_index (filter_map (offset_in_item d (length t)) (items_in d tree t spelled)) 0

-- the letters and digits at the beginning of a text
abbrev pub run_of : Text → Text
run_of t = take (prefix_len is_ascii_alphanumeric t) t

-- whether the number at the beginning of a text is the limit
abbrev pub is_limit : ℕ → Text → Bool
is_limit most t = all_ascii_digits (run_of t) && (digits_value 10 (run_of t) == most)

-- the reason, by the text from the number on: it is the limit and can't be raised, or it is above
-- the limit
abbrev pub limit_reason : Dialect → Text → Reason
limit_reason dialect t =
    if is_limit (limit dialect) t then bound_too_large_in (grammar_of dialect)
    else too_large_in (grammar_of dialect)

-- the offset is `limit_offset` of a tree of the text
pub record IsLimitOffset (dialect : Dialect) (t : Text) (offset : ℕ) : Type 0 where
  pub tree : SetTree
  pub spelled : SpellsAs dialect tree t
  pub is : offset ≡ limit_offset dialect tree t spelled
