-- The terms of a range text as they are written, and their offsets. They follow from the pieces
-- into which the grammar cuts the text.
use Prim.Native.Char.{code}
use Rattle.std.specs.Prelude.{ℕ, ◌-◌, ◌^◌, suc, Bool, if◌then◌else◌, Option, Some, None}
use Rattle.std.specs.Prelude.{option_map, List, [], ◌∷◌, length, slice_index}
use Rattle.std.specs.Str.Parse.{digits_value}
use Rattle.std.specs.List.{join_with_byte}
use Rattle.semver_texts.specs.Texts.{Text, begins_with}
use Rattle.semver_ranges.specs.declared.operator.Operator.{Operator}
use Rattle.semver_ranges.specs.RangeTree.{PartialTree, one, two, three, SetTree, build_parts}
use Rattle.semver_ranges.specs.RangeTree.{is_wildcard, pre_parts}
use Rattle.semver_ranges.specs.Partials.{fits_u64}
use Rattle.semver_ranges.specs.TextItems.{FoundTerm, FoundWord, Item, one_term}
use Rattle.semver_ranges.specs.TextItems.{empty_range, two_bars}
use Rattle.tool_ranges.specs.Dialects.{SpellsAs}
use Rattle.tool_ranges.specs.SpelledItems.{items_in}
use Rattle.semver_ranges.specs.declared.dialect.Dialect.{Dialect}
use Rattle.range_terms.specs.declared.term.Component.{Component}
use Rattle.range_terms.specs.declared.term.Component.TheVariants.{Number, Wildcard}
use Rattle.range_terms.specs.declared.term.PartialVersion.{PartialVersion}
use Rattle.range_terms.specs.declared.term.Span.{Span}
use Rattle.range_terms.specs.declared.term.Term.{Term}

-- ---- a term, with its strings as bytes

pub record WrittenVersion : Type 0 where
  pub span : Span
  pub has_v : Bool
  pub major : Component
  pub minor : Option Component
  pub patch : Option Component
  pub pre : Text
  pub build : Text

pub record WrittenTerm : Type 0 where
  pub range : ℕ
  pub operator : Operator
  pub span : Span
  pub version : WrittenVersion
  pub upper : Option WrittenVersion

abbrev pub version_value : PartialVersion → WrittenVersion
version_value v =
    record {
      span = v.span;
      has_v = v.has_v;
      major = v.major;
      minor = v.minor;
      patch = v.patch;
      pre = v.pre.now;
      build = v.build.now;
    }

abbrev pub term_value : Term → WrittenTerm
term_value t =
    record {
      range = t.range;
      operator = t.operator;
      span = t.span;
      version = version_value t.version;
      upper = option_map version_value t.upper;
    }

-- ---- what is written in a word

-- the component of a text: a wildcard, which is one byte, or the value of its digits, which is
-- given as 2^64 - 1 if it is larger
abbrev pub component_of : Text → Component
component_of c =
    if is_wildcard c then Wildcard (slice_index c 0)
    else Number (if fits_u64 (digits_value 10 c) then digits_value 10 c else 2 ^ 64 - 1)

-- the first component of a partial version
abbrev pub major_of : PartialTree → Component
major_of (one a) = component_of a
major_of (two a b) = component_of a
major_of (three a b c pre build) = component_of a

-- the second component, if there is one
abbrev pub minor_of : PartialTree → Option Component
minor_of (one a) = None
minor_of (two a b) = Some (component_of b)
minor_of (three a b c pre build) = Some (component_of b)

-- the third component, if there is one
abbrev pub patch_of : PartialTree → Option Component
patch_of (one a) = None
patch_of (two a b) = None
patch_of (three a b c pre build) = Some (component_of c)

-- the version of a partial version, if its word is at this span, and begins with `v` or doesn't
abbrev pub version_of : Span → Bool → PartialTree → WrittenVersion
version_of span has_v p =
    record {
      span = span;
      has_v = has_v;
      major = major_of p;
      minor = minor_of p;
      patch = patch_of p;
      pre = join_with_byte (code ".") (pre_parts p);
      build = join_with_byte (code ".") (build_parts p);
    }

-- ---- terms, in a text of n bytes

abbrev pub version_at : ℕ → FoundWord → WrittenVersion
version_at n x = version_of (record { start = n - length x.from; end = n - length x.after })
    (begins_with (code "v") x.from)
    x.partial

-- the end of a term: that of its upper version, if there is one
abbrev pub end_with : WrittenVersion → Option WrittenVersion → ℕ
end_with version None = version.span.end
end_with version (Some upper) = upper.span.end

-- a term from its pieces, in the range with an index
abbrev pub term_of : ℕ → Operator → ℕ → WrittenVersion → Option WrittenVersion → WrittenTerm
term_of k operator start version upper =
    record {
      range = k;
      operator = operator;
      span = record { start = start; end = end_with version upper };
      version = version;
      upper = upper;
    }

abbrev pub written_term : ℕ → ℕ → FoundTerm → WrittenTerm
written_term n k x = term_of k x.operator (n - length x.from) (version_at n x.version)
    (option_map (version_at n) x.upper)

-- the terms of a text from the range with the index k on
abbrev pub terms_of : ℕ → ℕ → List Item → List WrittenTerm
terms_of n k [] = []
terms_of n k (one_term x ∷ xs) = written_term n k x ∷ terms_of n k xs
terms_of n k (empty_range ∷ xs) = terms_of n k xs
terms_of n k (two_bars ∷ xs) = terms_of n (suc k) xs

-- the terms of a text that a tree spells
abbrev pub terms_in : (d : Dialect) (tree : SetTree) (t : Text) → SpellsAs d tree t
    → List WrittenTerm
terms_in d tree t spelled = terms_of (length t) 0 (items_in d tree t spelled)
