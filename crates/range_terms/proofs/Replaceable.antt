-- A range text of a dialect stays one if one of its words is replaced.
use Rattle.std.proofs.Common.{◌≡◌, ◌+◌, ◌<◌, true, false, ◌&&◌, List, [], ◌∷◌, ◌++◌, length, take, drop, get_or, refl, sym, ap, ◌∙◌, subst}
use Rattle.std.proofs.Common.{arith, length-append, append_assoc}
use Rattle.std.proofs.Math.Seq.{drop-append_seam, get_or-append_seam, take-append_seam}
use Rattle.std.proofs.lemmas.Bool.{and_from, and_parts, not-true, not_from_false}
use Rattle.std.proofs.lemmas.List.Elements.{All-from_recursion}
use Rattle.std.proofs.lemmas.List.Folds.{list_all-append}
use Rattle.std.proofs.lemmas.Str.{IsCharBoundary-before_ascii, IsUtf8-from_ascii, IsUtf8-take, chars-IsAscii, chars-append}
use Rattle.std.proofs.lemmas.Str.Ascii.{IsAscii-from_all}
use Rattle.std.proofs.lemmas.Bool.Decides.{nat_tests}
use Rattle.std.specs.List.{AllByRecursion, list_all}
use Rattle.std.specs.Str.{IsAscii, IsUtf8, chars}
use Rattle.semver_texts.specs.Texts.{Text}
use Rattle.semver_texts.specs.declared.grammar.Grammar.TheVariants as grammar
use Rattle.semver_texts.proofs.Lists.{all_more}
use Rattle.semver_texts.specs.declared.grammar.Grammar.{Grammar}
use Rattle.semver_ranges.specs.RangeTree.{PartialTree, Role, SetTree, Simple, SpellsRangeIn, SpellsWord, simples}
use Rattle.semver_ranges.specs.CargoGrammar.{SpellsRequirement, comparators_of, stands_alone}
use Rattle.tool_ranges.specs.Dialects.{IsTextAs, SpellsAs}
use Rattle.tool_ranges.specs.NpmGrammar.{may_stand}
use Rattle.semver_ranges.specs.declared.dialect.Dialect.{Dialect}
use Rattle.semver_ranges.specs.declared.dialect.Dialect.TheVariants.{Cargo, Npm}
use Rattle.range_terms.specs.declared.term.Span.{Span}
use Rattle.range_terms.specs.Replacing.{IsReplaceable, MayReplace, replaced}
use Rattle.range_terms.specs.WrittenTerms.{WrittenTerm, terms_in, terms_of}
use Rattle.range_terms.proofs.LowBytes.{is_low, word_low}
use Rattle.tool_ranges.specs.SpelledItems.{comparators_items, ranges_items}
use Rattle.range_terms.proofs.Places.{AllPlaces, IsPlace}
use Rattle.range_terms.proofs.TermPlaces.{AreComparators, AreRanges, IsWordOfCargo, MayStand, all_of, comparators_told, places_told, ranges_told}
use Rattle.range_terms.proofs.TermPlaces.{states_none}

-- the text with other bytes at the span of a word
text_replaced : (t before word after w : Text) (span : Span) → t ≡ before ++ (word ++ after) → span.start ≡ length before
    → span.end ≡ length before + length word → replaced t span w ≡ before ++ (w ++ after)
text_replaced t before word after w span text start end =
    let to : span.end ≡ length (before ++ word) = omega (arith, end, length-append before word) in
    let front : take span.start t ≡ before = rw (start, text) (take-append_seam before (word ++ after)) in
    let back : drop span.end t ≡ after = rw (to, text, ← append_assoc before word after) (drop-append_seam (before ++ word) after) in
    rw (front, back) refl

-- ---- the characters that npm allows

abbrev Stands : Text → Type 0
Stands t = list_all may_stand (chars t) ≡ true

low_ascii : (w : Text) → list_all is_low w ≡ true → AllByRecursion (λ b. b < 128) w
low_ascii [] e = tt
low_ascii (b ∷ w) e = let parts = and_parts (is_low b) (list_all is_low w) e in (grind (arith, nat_tests), low_ascii w parts.1)

ascii : (w : Text) → list_all is_low w ≡ true → IsAscii w
ascii w e = IsAscii-from_all w (All-from_recursion (λ b. b < 128) w (low_ascii w e))

low_stands : (w : Text) → list_all is_low w ≡ true → list_all may_stand w ≡ true
low_stands [] e = refl
low_stands (b ∷ w) e = let parts = and_parts (is_low b) (list_all is_low w) e in and_from _ _ (grind (arith, nat_tests)) (low_stands w parts.1)

word_stands : (w : Text) → list_all is_low w ≡ true → Stands w
word_stands w e = ap (list_all may_stand) (chars-IsAscii w (ascii w e)) ∙ low_stands w e

joined_chars : (t u : Text) → IsUtf8 t → list_all may_stand (chars (t ++ u)) ≡ (list_all may_stand (chars t) && list_all may_stand (chars u))
joined_chars t u utf8 = ap (list_all may_stand) (chars-append t u utf8) ∙ list_all-append may_stand (chars t) (chars u)

low_utf8 : (w : Text) → list_all is_low w ≡ true → IsUtf8 w
low_utf8 w e = IsUtf8-from_ascii w (ascii w e)

-- in a UTF-8 text, the bytes before a word of ASCII are UTF-8
front_utf8 : (t before word after : Text) → t ≡ before ++ (word ++ after) → IsUtf8 t → 0 < length word → list_all is_low word ≡ true → IsUtf8 before
front_utf8 t before [] after text utf8 some e = absurd (omega (arith, some))
front_utf8 t before (b ∷ word) after text utf8 some e =
    let whole : IsUtf8 (before ++ (b ∷ (word ++ after))) = subst IsUtf8 text utf8 in
    let within : length before < length (before ++ (b ∷ (word ++ after))) = omega (arith, length-append before (b ∷ (word ++ after))) in
    let byte : get_or (before ++ (b ∷ (word ++ after))) (length before) 0 < 128 =
    rw (get_or-append_seam before b (word ++ after) 0) (low_ascii (b ∷ word) e).0 in
    subst IsUtf8 (take-append_seam before (b ∷ (word ++ after)))
    (IsUtf8-take (before ++ (b ∷ (word ++ after))) (length before) whole
    (IsCharBoundary-before_ascii (before ++ (b ∷ (word ++ after))) (length before) within byte))

stands_again : (t before word after w : Text) → t ≡ before ++ (word ++ after) → IsUtf8 t → Stands t → 0 < length word
    → list_all is_low word ≡ true → list_all is_low w ≡ true → Stands (before ++ (w ++ after))
stands_again t before word after w text utf8 stands some e f =
    let front = front_utf8 t before word after text utf8 some e in
    let first = and_parts _ _ (sym (joined_chars before (word ++ after) front) ∙ ap (λ x. list_all may_stand (chars x)) (sym text) ∙ stands) in
    let second = and_parts _ _ (sym (joined_chars word after (low_utf8 word e)) ∙ first.1) in
    joined_chars before (w ++ after) front
    ∙ and_from _ _ first.0 (joined_chars w after (low_utf8 w f) ∙ and_from _ _ (word_stands w f) second.1)

-- ---- each dialect

module _ (d : Dialect) (t : Text) where
  -- replacing a word of the text gives a range text of the dialect, if the new word is allowed
  -- there and the new text is `Good`
  abbrev Goes : (Text → Type 0) → (Role → PartialTree → Text → Type 0) → Type 0
  Goes Good May = (before word after w : Text) (role : Role) (p : PartialTree) → t ≡ before ++ (word ++ after) → 0 < length word
      → list_all is_low word ≡ true → May role p w → Good (before ++ (w ++ after)) → IsTextAs d (before ++ (w ++ after))

  one_place : (Good : Text → Type 0) (May : Role → PartialTree → Text → Type 0) (role : Role) (span : Span) → Goes Good May
      → ((p : PartialTree) (w : Text) → MayReplace d role p w → May role p w) → IsPlace Good (May role) t span
      → (p : PartialTree) (w : Text) → MayReplace d role p w → IsTextAs d (replaced t span w)
  one_place Good May role span goes may place p w h =
      subst (IsTextAs d) (sym (text_replaced t place.before place.word place.after w span place.text place.start place.end))
      (goes place.before place.word place.after w role p place.text place.some place.low (may p w h) (place.again p w (may p w h)))

  all_replaceable : (Good : Text → Type 0) (May : Role → PartialTree → Text → Type 0) → Goes Good May
      → ((role : Role) (p : PartialTree) (w : Text) → MayReplace d role p w → May role p w) → (xs : List WrittenTerm)
      → AllPlaces Good May t xs → AllByRecursion (IsReplaceable d t) xs
  all_replaceable Good May goes may xs all = all_more
      (λ x places. record {
        version = one_place Good May _ x.version.span goes (may _) places.version;
        upper = λ v is. one_place Good May _ v.span goes (may _) (places.upper v is);
      })
      xs all

-- a comparator that states no number is still the only one, so the text is a requirement again
stand_again : (tree made : List Simple) → length made ≡ length tree → (states_none tree ≡ false → states_none made ≡ false)
    → stands_alone tree ≡ true → stands_alone made ≡ true
stand_again tree [] same none alone = refl
stand_again tree (a ∷ []) same none alone = refl
stand_again [] (a ∷ b ∷ made) same none alone = absurd (omega (arith, same))
stand_again (x ∷ []) (a ∷ b ∷ made) same none alone = absurd (omega (arith, same))
stand_again (x ∷ y ∷ tree) (a ∷ b ∷ made) same none alone = not_from_false _ (none (not-true _ alone))

requirement_again : (tree : SetTree) (t t' : Text) → SpellsRequirement tree t → AreComparators (comparators_of tree) t'
    → (made : SetTree) × SpellsRequirement made t'
requirement_again tree t t' spelled ([], h, same, none) = absurd h
requirement_again tree t t' spelled (first ∷ rest, h, same, none) = (
  simples first rest ∷ [],
  record {
    comparators = h;
    alone = stand_again (comparators_of tree) (first ∷ rest) same none spelled.alone;
    few = omega (arith, spelled.few, same);
  },
)

range_places : (g : Grammar) (tree : SetTree) (t : Text) (spelled : SpellsRangeIn g tree t)
    → AllPlaces (AreRanges g) (λ role p w. SpellsWord g role p w) t (terms_of (length t) 0 (ranges_items g tree t spelled))
range_places g tree t spelled = places_told t (AreRanges g) (λ role p w. SpellsWord g role p w) (λ role p w. SpellsWord g role p w) 0
    (ranges_items g tree t spelled)
    (ranges_told t (AreRanges g) g tree t spelled (all_of (AreRanges g) t))

pub replaceable : (d : Dialect) (tree : SetTree) (t : Text) (spelled : SpellsAs d tree t) → IsUtf8 t
    → AllByRecursion (IsReplaceable d t) (terms_in d tree t spelled)
replaceable Cargo tree t spelled utf8 =
    let Good = AreComparators (comparators_of tree) in
    all_replaceable Cargo t Good MayStand
    (λ before word after w role p text some low may good. requirement_again tree t _ spelled good)
    (λ role p w h. h) (terms_in Cargo tree t spelled)
    (places_told t Good MayStand IsWordOfCargo 0 (comparators_items (comparators_of tree) t spelled.comparators)
    (comparators_told t Good (comparators_of tree) t spelled.comparators (all_of Good t)))
replaceable Npm tree t spelled utf8 = all_replaceable Npm t (AreRanges grammar.Npm) _
    (λ before word after w role p text some low may good. (
      good.0,
      record {
        spelled = good.1;
        characters = stands_again t before word after w text utf8 spelled.characters some low (word_low grammar.Npm role p w may);
      },
    ))
    (λ role p w h. h) (terms_in Npm tree t spelled) (range_places grammar.Npm tree t spelled.spelled)
replaceable d tree t spelled utf8 = all_replaceable d t (AreRanges grammar.Crate) _
    (λ before word after w role p text some low may good. good)
    (λ role p w h. h) (terms_in d tree t spelled) (range_places grammar.Crate tree t spelled)
