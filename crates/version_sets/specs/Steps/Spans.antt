-- A means of proof: spans of one kind of versions, and the boundaries of their union. A span begins
-- at one version and ends below another, if there is one.
use Rattle.std.specs.Prelude.{◌≡◌, Bool, false, ◌&&◌, not, if◌then◌else◌, ⊤}
use Rattle.std.specs.Prelude.{Option, Some, None, option_to_list, List, [], ◌∷◌, ◌++◌}
use Rattle.std.specs.List.{list_any}
use Rattle.std.specs.Ordering.{is_ge, is_lt}
use Rattle.std.specs.declared.cmp.Ordering.{Ordering}

pub record SpanValue (T : Type 0) : Type 0 where
  pub from : T
  pub to : Option T

module _ {T : Type 0} (cmp : T → T → Ordering) where
  -- whether v is at or above an end; if there is no end, nothing is
  abbrev pub reached : Option T → T → Bool
  reached None v = false
  reached (Some b) v = is_ge (cmp v b)

  -- whether v is at or above one end, and below the other
  abbrev pub is_between : Option T → Option T → T → Bool
  is_between from to v = reached from v && not (reached to v)

  abbrev pub is_in : SpanValue T → T → Bool
  is_in s v = is_between (Some s.from) s.to v

  -- the span ends above its beginning, or has no end
  abbrev pub IsSpan : SpanValue T → Type 0
  IsSpan s = reached s.to s.from ≡ false

  -- the higher of two ends; `None` is above all others
  abbrev pub later : Option T → Option T → Option T
  later None b = None
  later (Some a) None = None
  later (Some a) (Some b) = if is_ge (cmp a b) then Some a else Some b

  -- the lower of two ends; `None` is above all others
  abbrev pub earlier : Option T → Option T → Option T
  earlier None b = b
  earlier (Some a) None = Some a
  earlier (Some a) (Some b) = if is_lt (cmp b a) then Some b else Some a

  -- whether an end is below v; `None` is not
  abbrev pub is_below : Option T → T → Bool
  is_below None v = false
  is_below (Some b) v = is_lt (cmp b v)

  abbrev pub span_boundaries : SpanValue T → List T
  span_boundaries s = s.from ∷ option_to_list s.to

  -- two spans that meet, as one span
  abbrev pub met : SpanValue T → SpanValue T → SpanValue T
  met s x = record { from = s.from; to = later s.to x.to }

  -- the boundaries of the union of a span and of ascending ones after it
  abbrev pub joined : SpanValue T → List (SpanValue T) → List T
  joined s [] = span_boundaries s
  joined s (x ∷ xs) =
      if is_below s.to x.from then span_boundaries s ++ joined x xs else joined (met s x) xs

  abbrev pub all_joined : List (SpanValue T) → List T
  all_joined [] = []
  all_joined (x ∷ xs) = joined x xs

  -- each span begins at or above the beginning of the one before it, and the first at or above a
  abbrev pub IsAscending : T → List (SpanValue T) → Type 0
  IsAscending a [] = ⊤
  IsAscending a (x ∷ xs) = (is_lt (cmp x.from a) ≡ false) × IsAscending x.from xs

  abbrev pub all_ascend : List (SpanValue T) → Type 0
  all_ascend [] = ⊤
  all_ascend (x ∷ xs) = IsAscending x.from xs

  -- whether some span ends at or below its beginning
  abbrev pub some_empty : List (SpanValue T) → Bool
  some_empty xs = list_any (λ s. reached s.to s.from) xs

  -- whether v is in some span
  abbrev pub in_some : List (SpanValue T) → T → Bool
  in_some xs v = list_any (λ s. is_in s v) xs
