-- The alternatives of a range, which `||` separates.
use Prim.Native.Char.{code}
use Rattle.std.specs.Prelude.{◌≡◌, ℕ, ◌+◌, ◌<◌, ◌==◌, if◌then◌else◌, Option, Some, None, List}
use Rattle.std.specs.Prelude.{[], ◌∷◌}
use Rattle.std.specs.Prelude.{length, slice_index}
use Rattle.semver_texts.specs.Texts.{Text}
use Rattle.range_terms.specs.WrittenTerms.{WrittenTerm}
use Rattle.range_upgrades.specs.declared.alternatives.Alternative.{Alternative}

-- the string has `||` somewhere
abbrev pub HasBars : Text → Type 0
HasBars t = (k : ℕ) × (k + 1 < length t) × (slice_index t k ≡ code "|")
    × (slice_index t (k + 1) ≡ code "|")

-- the alternative that begins with a term, after another alternative that ends at this offset, if
-- there is one
abbrev pub begun : Option ℕ → WrittenTerm → Alternative
begun before x =
    record { range = x.range; start = x.span.start; end = x.span.end; before = before }

-- with one more term, which continues the alternative if it has the same range, or else begins
-- another one
abbrev pub with_term : Option Alternative → WrittenTerm → Option Alternative
with_term None x = Some (begun None x)
with_term (Some last) x =
    if last.range == x.range then Some (record last { end = x.span.end })
    else Some (begun (Some last.end) x)

-- the last alternative of these terms, if there is a term
abbrev pub last_with : Option Alternative → List WrittenTerm → Option Alternative
last_with last [] = last
last_with last (x ∷ xs) = last_with (with_term last x) xs

abbrev pub last_of : List WrittenTerm → Option Alternative
last_of terms = last_with None terms
