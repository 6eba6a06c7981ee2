-- The spans of the words of a text. With another word at such a span, the text stays valid.
use Rattle.std.proofs.Common.{◌≡◌, ◌+◌, ◌<◌, true, List, ◌++◌, length, Some}
use Rattle.std.specs.List.{AllByRecursion, list_all}
use Rattle.semver_texts.specs.Texts.{Text, begins_with}
use Rattle.semver_ranges.specs.RangeTree.{PartialTree, Role, after_hyphen}
use Rattle.range_terms.specs.declared.term.Span.{Span}
use Rattle.range_terms.specs.Replacing.{role_in}
use Rattle.range_terms.proofs.LowBytes.{is_low}
use Rattle.range_terms.specs.WrittenTerms.{WrittenTerm, WrittenVersion, version_of}

-- a word of a text, and its span. With an allowed word instead of it, the text is `Good`
pub record IsPlace (Good : Text → Type 0) (May : PartialTree → Text → Type 0) (t : Text) (span : Span) : Type 0 where
  pub before : Text
  pub word : Text
  pub after : Text
  pub text : t ≡ before ++ (word ++ after)
  pub some : 0 < length word
  pub low : list_all is_low word ≡ true
  pub start : span.start ≡ length before
  pub end : span.end ≡ length before + length word
  pub again : (p : PartialTree) (w : Text) → May p w → Good (before ++ (w ++ after))

-- the places of the words of a term
pub record ArePlaces (Good : Text → Type 0) (May : Role → PartialTree → Text → Type 0) (t : Text) (x : WrittenTerm) : Type 0 where
  pub version : IsPlace Good (May (role_in x.operator)) t x.version.span
  pub upper : (v : WrittenVersion) → x.upper ≡ Some v → IsPlace Good (May after_hyphen) t v.span

-- a version as it is written is that of a word
pub record IsWordOf (Spelled : PartialTree → Text → Type 0) (x : WrittenVersion) : Type 0 where
  pub tree : PartialTree
  pub word : Text
  pub is : x ≡ version_of x.span (begins_with 118 word) tree
  pub spelled : Spelled tree word

-- the words of a term
pub record AreWordsOf (Spelled : Role → PartialTree → Text → Type 0) (x : WrittenTerm) : Type 0 where
  pub version : IsWordOf (Spelled (role_in x.operator)) x.version
  pub upper : (v : WrittenVersion) → x.upper ≡ Some v → IsWordOf (Spelled after_hyphen) v

abbrev pub AllPlaces : (Text → Type 0) → (Role → PartialTree → Text → Type 0) → Text → List WrittenTerm → Type 0
AllPlaces Good May t xs = AllByRecursion (ArePlaces Good May t) xs
