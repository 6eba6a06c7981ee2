-- A means of proof: the values of spans, and tests of the versions at which they begin and end.
use Rattle.std.specs.Prelude.{Bool, true, false, ◌&&◌, if◌then◌else◌, List, [], ◌∷◌, ◌++◌}
use Rattle.std.specs.Prelude.{Option, Some, None, option_map}
use Rattle.std.specs.List.{list_all}
use Rattle.std.specs.Ordering.{is_ge, is_gt}
use Rattle.std.specs.declared.cmp.Ordering.{Ordering}
use Rattle.semver_texts.specs.Versions.{IdentifierValue, numeric, PlainVersion}
use Rattle.semver_texts.specs.Precedence.{precedence}
use Rattle.version_sets.specs.declared.spans.Bounds.{Bounds}
use Rattle.version_sets.specs.declared.spans.Span.{Span}
use Rattle.version_sets.specs.Steps.Spans.{SpanValue, is_between}

-- identifiers, followed by the number 0 if `zero` is true
abbrev pub successor : List IdentifierValue → Bool → List IdentifierValue
successor identifiers zero = identifiers ++ (if zero then numeric 0 ∷ [] else [])

-- whether the result of a comparison is greater, or, if the flag is false, greater or equal
abbrev pub is_past : Bool → Ordering → Bool
is_past true o = is_gt o
is_past false o = is_ge o

-- whether a test holds for a version, if there is one
abbrev pub holds_at : (PlainVersion → Bool) → Option PlainVersion → Bool
holds_at p None = true
holds_at p (Some v) = p v

module _ {L : Type 0} (place : L → PlainVersion) where
  abbrev pub span_value : Span L → SpanValue PlainVersion
  span_value s = record { from = place s.from; to = option_map place s.to }

  -- whether a version is within bounds
  abbrev pub is_within : Bounds L → PlainVersion → Bool
  is_within b v = is_between precedence (option_map place b.from) (option_map place b.to) v

  -- whether a test holds for the versions at which bounds begin and end, if there are any
  abbrev pub bounds_hold : (PlainVersion → Bool) → Bounds L → Bool
  bounds_hold p b = holds_at p (option_map place b.from) && holds_at p (option_map place b.to)

  -- whether a test holds for the versions at which each span begins and ends
  abbrev pub spans_hold : (PlainVersion → Bool) → List (Span L) → Bool
  spans_hold p spans = list_all (λ s. p (place s.from) && holds_at p (option_map place s.to)) spans
