-- Each version of a term is written as a word of the text. With the numbers of another version, it
-- may replace this word.
use Rattle.std.proofs.Common.{◌≡◌, ℕ, ◌+◌, ◌≤◌, Bool, true, false, not, ◌||◌, ◌&&◌, if◌then◌else◌, List, [], ◌∷◌, ◌++◌}
use Rattle.std.proofs.Common.{Some, length, map, refl, sym, ap, ◌∙◌, subst, arith, codes, inl, inr, length-append, one-add}
use Rattle.std.specs.Prelude.{◌==◌, IsTrue, nat_le, take_while}
use Rattle.std.specs.Char.{is_ascii_digit}
use Rattle.std.specs.List.{AllByRecursion, join_with_byte, list_all, prefix_len}
use Rattle.std.specs.Str.Parse.{digits_value}
use Rattle.std.specs.Str.{IsUtf8}
use Rattle.std.proofs.lemmas.Bool.{and_from, and_parts, or_right}
use Rattle.std.proofs.lemmas.Bool.Decides.{nat_tests}
use Rattle.std.proofs.lemmas.List.Sums.{prefix_len-le-length}
use Rattle.semver_texts.specs.NpmLimits.{max_length}
use Rattle.semver_texts.specs.Texts.{Text, begins_with, cut_at_dots, has_no_leading_zero, is_empty, marked}
use Rattle.semver_texts.specs.declared.grammar.Grammar.{Grammar}
use Rattle.semver_texts.specs.declared.grammar.Grammar.TheVariants as grammar
use Rattle.semver_texts.proofs.Lists.{by_test}
use Rattle.semver_ranges.specs.NpmLengths.{is_short_number, is_short_pre, is_short_version}
use Rattle.semver_ranges.specs.Partials.{stated, states_nothing}
use Rattle.semver_ranges.specs.RangeTree.{PartialTree, Role, SetTree, SpellsPartial, SpellsWord, components}
use Rattle.semver_ranges.specs.RangeTree.{SpellsRangeIn}
use Rattle.semver_ranges.specs.RangeTree.{after_hyphen, has_no_leading_zeros, has_short_parts}
use Rattle.semver_ranges.specs.RangeTree.{is_component, is_taken_whole, is_wildcard, is_word_of_npm, numbers_and_pre}
use Rattle.semver_ranges.specs.RangeTree.{one, pre_parts, qualifier, states_three, three, two}
use Rattle.semver_ranges.proofs.LongWords.{some_component}
use Rattle.semver_ranges.proofs.ReadingPieces.{is_component_byte, partial_starts, starts}
use Rattle.semver_versions.specs.VersionRefs.{VersionRefValue, IsVersionRefIn}
use Rattle.semver_ranges.specs.CargoGrammar.{comparators_of, is_partial_of_cargo, wildcards_are_last}
use Rattle.tool_ranges.specs.Dialects.{SpellsAs}
use Rattle.semver_ranges.specs.DialectTable.{grammar_of}
use Rattle.semver_ranges.specs.declared.dialect.Dialect.{Dialect}
use Rattle.semver_ranges.specs.declared.dialect.Dialect.TheVariants.{Cargo, Npm}
use Rattle.range_terms.specs.Replacing.{IsReplaceable, MayReplace, role_in}
use Rattle.range_terms.specs.RewrittenVersions.{IsRewritable, MayBecome, text_with}
use Rattle.range_terms.specs.Rewriting as rewriting
use Rattle.tool_ranges.specs.SpelledItems.{comparators_items, ranges_items}
use Rattle.range_terms.specs.WrittenTerms.{WrittenTerm, WrittenVersion, component_of, major_of, terms_in, terms_of, version_of}
use Rattle.range_terms.proofs.Places.{AreWordsOf, IsWordOf}
use Rattle.range_terms.proofs.TermPlaces.{AreComparators, AreRanges, IsWordOfCargo, MayStand, all_of, comparators_told, ranges_told, words_told}
use Rattle.range_terms.proofs.Replaceable.{replaceable}
use Rattle.range_terms.proofs.RewrittenWords.{IsOfGrammar, core_spelled, core_with, if_parts, number_component, of_grammar, partial_with}
use Rattle.range_terms.proofs.RewrittenWords.{same_wildcard, with_number, word_written}

-- ---- a version that is written as a word

-- a partial version doesn't begin with a `v`
no_v : (t : Text) → starts is_component_byte t ≡ true → begins_with 118 t ≡ false
no_v [] e = cc
no_v (b ∷ t) e = grind (arith, nat_tests)

bare_written : (x : WrittenVersion) (v : VersionRefValue) (tree : PartialTree) (word : Text)
    → x ≡ version_of x.span (begins_with 118 word) tree → SpellsPartial tree word → text_with x v ≡ core_with tree v
bare_written x v tree word is spelled =
    ap (λ y. text_with y v) is
    ∙ ap (λ b. text_with (version_of x.span b tree) v) (no_v word (partial_starts tree word spelled))
    ∙ word_written x.span false v tree

crate_word : (x : WrittenVersion) (v : VersionRefValue) → IsOfGrammar grammar.Crate v → (w : IsWordOf SpellsPartial x)
    → SpellsPartial (partial_with w.tree v) (text_with x v)
crate_word x v of w =
    subst (SpellsPartial (partial_with w.tree v)) (sym (bare_written x v w.tree w.word w.is w.spelled))
    (core_spelled v w.tree w.word of w.spelled)

-- ---- Cargo

last_wildcards : {d : Grammar} (v : VersionRefValue) (p : PartialTree) → IsOfGrammar d v
    → wildcards_are_last (components (partial_with p v)) ≡ wildcards_are_last (components p)
last_wildcards v (one a) of = rw (same_wildcard v.major a of.major) refl
last_wildcards v (two a b) of = rw (same_wildcard v.major a of.major, same_wildcard v.minor b of.minor) refl
last_wildcards v (three a b c pre build) of =
    rw (same_wildcard v.major a of.major, same_wildcard v.minor b of.minor, same_wildcard v.patch c of.patch) refl

not_or : (p q r : Bool) → not (p || (q || r)) ≡ true → (p ≡ false) × (q ≡ false) × (r ≡ false)
not_or true q r e = cc
not_or false true r e = cc
not_or false false true e = cc
not_or false false false e = (refl, refl, refl)

no_qualifier : {d : Grammar} (v : VersionRefValue) (p : PartialTree) → IsOfGrammar d v
    → (is_empty (qualifier (partial_with p v)) || (length (stated (partial_with p v)) == 3)) ≡ true
no_qualifier v (one a) of = refl
no_qualifier v (two a b) of = refl
no_qualifier v (three a b c pre build) of = by_test (states_three (three a b c pre build))
    (λ all. let each = not_or (is_wildcard a) (is_wildcard b) (is_wildcard c) all in
    let made = partial_with (three a b c pre build) v in
    let counted : (length (stated made) == 3) ≡ true =
    rw (same_wildcard v.major a of.major, same_wildcard v.minor b of.minor, same_wildcard v.patch c of.patch, each.0, each.1, each.2)
    refl in
    or_right (is_empty (qualifier made)) (length (stated made) == 3) counted)
    (λ none. rw none refl)

no_zeros : (v : VersionRefValue) (p : PartialTree) → list_all has_no_leading_zero (cut_at_dots v.pre) ≡ true
    → has_no_leading_zeros (partial_with p v) ≡ true
no_zeros v (one a) e = refl
no_zeros v (two a b) e = refl
no_zeros v (three a b c pre build) e = if_parts has_no_leading_zero (states_three (three a b c pre build)) (cut_at_dots v.pre) e

first_number : (c : Text) → rewriting.is_number (Some (component_of c)) ≡ true → is_wildcard c ≡ false
first_number c e = by_test (is_wildcard c) (λ y. absurd (cc (y, number_component c, e))) (λ k. k)

states_number : (x : Text) (xs : List Text) → is_wildcard x ≡ false
    → is_empty (map (digits_value 10) (take_while (λ c. not (is_wildcard c)) (x ∷ xs))) ≡ false
states_number x xs e = rw (e, one-add) refl

-- if the first component of a written version is a number, so is that of its partial version
major_number : (p : PartialTree) (x : WrittenVersion) (has_v : Bool) → x ≡ version_of x.span has_v p
    → rewriting.is_number (Some x.major) ≡ true → rewriting.is_number (Some (major_of p)) ≡ true
major_number p x has_v is e = ap (λ (y : WrittenVersion). rewriting.is_number (Some y.major)) (sym is) ∙ e

something_stated : {d : Grammar} (v : VersionRefValue) (p : PartialTree) → IsOfGrammar d v
    → rewriting.is_number (Some (major_of p)) ≡ true → states_nothing (partial_with p v) ≡ false
something_stated v (one a) of e =
    states_number (with_number v.major a) [] (same_wildcard v.major a of.major ∙ first_number a e)
something_stated v (two a b) of e =
    states_number (with_number v.major a) (with_number v.minor b ∷ []) (same_wildcard v.major a of.major ∙ first_number a e)
something_stated v (three a b c pre build) of e =
    states_number (with_number v.major a) (with_number v.minor b ∷ with_number v.patch c ∷ [])
    (same_wildcard v.major a of.major ∙ first_number a e)

abbrev IsOfCargo : PartialTree → Text → Type 0
IsOfCargo p word = SpellsPartial p word × (is_partial_of_cargo p ≡ true)

cargo_word : (x : WrittenVersion) (v : VersionRefValue) → IsOfGrammar grammar.Cargo v → (w : IsWordOf IsOfCargo x)
    → rewriting.is_number (Some x.major) ≡ true
    → SpellsPartial (partial_with w.tree v) (text_with x v)
    × IsTrue (is_partial_of_cargo (partial_with w.tree v) && not (states_nothing (partial_with w.tree v)))
cargo_word x v of w number =
    let p = w.tree in
    let last = (and_parts (wildcards_are_last (components p)) _ w.spelled.1).0 in
    let cargo : is_partial_of_cargo (partial_with p v) ≡ true =
    and_from _ _ (last_wildcards v p of ∙ last) (and_from _ _ (no_qualifier v p of) (no_zeros v p of.zeros)) in (
      subst (SpellsPartial (partial_with p v)) (sym (bare_written x v p w.word w.is w.spelled.0)) (core_spelled v p w.word of w.spelled.0),
      and_from _ _ cargo (ap not (something_stated v p of (major_number p x (begins_with 118 w.word) w.is number))),
    )

-- ---- npm

short : (n m : ℕ) → n ≤ m → nat_le n m ≡ true
short n m h = grind (arith, nat_tests)

numbers_short : (ts : List Text) → length (join_with_byte 46 ts) ≤ max_length → list_all is_short_number ts ≡ true
numbers_short [] h = refl
numbers_short (t ∷ []) h = and_from _ _ (short (length t) 257 (omega (arith, h))) refl
numbers_short (t ∷ u ∷ ts) h =
    let long = length-append t (46 ∷ join_with_byte 46 (u ∷ ts)) in
    and_from _ _ (short (length t) 257 (omega (arith, h, long))) (numbers_short (u ∷ ts) (omega (arith, h, long)))

pre_short : (t : Text) → length t ≤ 250 → is_short_pre t ≡ true
pre_short t h =
    let within = prefix_len-le-length is_ascii_digit t in
    by_test (prefix_len is_ascii_digit t == length t)
    (λ y. rw y (short (length t) 257 (omega (arith, h))))
    (λ k. rw k (and_from _ _ (short (prefix_len is_ascii_digit t) max_length (omega (arith, h, within)))
    (short (length t) (prefix_len is_ascii_digit t + 251) (omega (arith, h)))))

pres_short : (ts : List Text) → length (join_with_byte 46 ts) ≤ 250 → list_all is_short_pre ts ≡ true
pres_short [] h = refl
pres_short (t ∷ []) h = and_from _ _ (pre_short t h) refl
pres_short (t ∷ u ∷ ts) h =
    let long = length-append t (46 ∷ join_with_byte 46 (u ∷ ts)) in
    and_from _ _ (pre_short t (omega (arith, h, long))) (pres_short (u ∷ ts) (omega (arith, h, long)))

-- if a version with three components has at most as many bytes as npm allows, no part of its
-- pre-release is too long,
-- since at least six bytes are before the pre-release
after_three : (a b c : Text) (pre : List Text) (n : ℕ) → is_component a ≡ true → is_component b ≡ true → is_component c ≡ true
    → length (join_with_byte 46 (a ∷ b ∷ c ∷ []) ++ (marked (codes "-") pre ++ [])) ≤ n → n ≤ max_length
    → list_all is_short_pre pre ≡ true
after_three a b c [] n x y z h k = refl
after_three a b c (t ∷ ts) n x y z h k =
    let rest = join_with_byte 46 (t ∷ ts) in
    let x' = some_component a x in
    let y' = some_component b y in
    let z' = some_component c z in
    let l = length-append (a ++ (46 ∷ (b ++ (46 ∷ c)))) ((45 ∷ rest) ++ []) in
    let m = length-append a (46 ∷ (b ++ (46 ∷ c))) in
    let o = length-append b (46 ∷ c) in
    let q = length-append (45 ∷ rest) [] in
    pres_short (t ∷ ts) (omega (arith, h, k, x', y', z', l, m, o, q))

parts_short : (v : VersionRefValue) (p : PartialTree) (n : ℕ) → list_all is_component (components (partial_with p v)) ≡ true
    → length (core_with p v) ≤ n → n ≤ max_length → has_short_parts (partial_with p v) ≡ true
parts_short v (one a) n each h k =
    let x = with_number v.major a in
    let l = length-append x [] in
    and_from _ _ (numbers_short (x ∷ []) (omega (arith, h, k, l))) refl
parts_short v (two a b) n each h k =
    let x = with_number v.major a in
    let y = with_number v.minor b in
    let l = length-append (x ++ (46 ∷ y)) [] in
    and_from _ _ (numbers_short (x ∷ y ∷ []) (omega (arith, h, k, l))) refl
parts_short v (three a b c pre build) n each h k =
    let x = with_number v.major a in
    let y = with_number v.minor b in
    let z = with_number v.patch c in
    let ts = pre_parts (partial_with (three a b c pre build) v) in
    let l = length-append (x ++ (46 ∷ (y ++ (46 ∷ z)))) (marked (codes "-") ts ++ []) in
    let first = and_parts (is_component x) _ each in
    let second = and_parts (is_component y) _ first.1 in
    let third = and_parts (is_component z) _ second.1 in
    and_from _ _ (numbers_short (x ∷ y ∷ z ∷ []) (omega (arith, h, k, l)))
    (and_from _ _ (after_three x y z ts n first.0 second.0 third.0 h k) refl)

numbers_within : (v : VersionRefValue) (p : PartialTree) → length (numbers_and_pre (partial_with p v)) ≤ length (core_with p v)
numbers_within v (one a) = omega arith
numbers_within v (two a b) = omega arith
numbers_within v (three a b c pre build) =
    let numbers = join_with_byte 46 (components (partial_with (three a b c pre build) v)) in
    let part = marked (codes "-") (pre_parts (partial_with (three a b c pre build) v)) in
    omega (arith, length-append numbers part, length-append numbers (part ++ []), length-append part [])

if_short : (b : Bool) (n m : ℕ) → n ≤ max_length → m ≤ max_length → is_short_version (if b then n else m) ≡ true
if_short true n m h k = short n max_length h
if_short false n m h k = short m max_length k

read_by_npm : (role : Role) (v : VersionRefValue) (p : PartialTree) (n : ℕ) → IsOfGrammar grammar.Npm v
    → list_all is_component (components (partial_with p v)) ≡ true → length (core_with p v) ≤ n → n ≤ max_length
    → is_word_of_npm role (partial_with p v) n ≡ true
read_by_npm role v p n of each h k =
    let within = numbers_within v p in
    and_from _ _ (no_zeros v p of.zeros)
    (and_from _ _ (parts_short v p n each h k)
    (or_right _ _
    (if_short (is_taken_whole role (partial_with p v)) n (length (numbers_and_pre (partial_with p v))) k (omega (arith, h, k, within)))))

npm_word : (role : Role) (x : WrittenVersion) (v : VersionRefValue) → IsOfGrammar grammar.Npm v
    → (w : IsWordOf (SpellsWord grammar.Npm role) x) → length (text_with x v) ≤ max_length
    → SpellsWord grammar.Npm role (partial_with w.tree v) (text_with x v)
npm_word role x v of w long =
    let (front, back, mark, spelled, taken, text) = w.spelled in
    let p = w.tree in
    let made = core_spelled v p back of spelled in
    elim mark [
      | inl e ↦
          let none : begins_with 118 w.word ≡ false =
          ap (begins_with 118) (text ∙ ap (λ f. f ++ back) e) ∙ no_v back (partial_starts p back spelled) in
          let is : text_with x v ≡ core_with p v = written false none in
          ([], core_with p v, inl refl, made, read_by_npm role v p _ of made.0 (omega (arith, ap length is)) long, is)
      | inr e ↦
          let some : begins_with 118 w.word ≡ true = ap (begins_with 118) (text ∙ ap (λ f. f ++ back) e) in
          let is : text_with x v ≡ codes "v" ++ core_with p v = written true some in
          (codes "v", core_with p v, inr refl, made, read_by_npm role v p _ of made.0 (omega (arith, ap length is)) long, is)
    ]
  where
    written : (b : Bool) → begins_with 118 w.word ≡ b → text_with x v ≡ (if b then codes "v" else []) ++ core_with w.tree v
    written b e =
        ap (λ y. text_with y v) w.is ∙ ap (λ c. text_with (version_of x.span c w.tree) v) e ∙ word_written x.span b v w.tree

-- ---- all terms

zipped : {X : Type 0} {P Q R : X → Type 0} → ((x : X) → P x → Q x → R x) → (xs : List X) → AllByRecursion P xs → AllByRecursion Q xs
    → AllByRecursion R xs
zipped f [] p q = tt
zipped f (x ∷ xs) p q = (f x p.0 q.0, zipped f xs p.1 q.1)

-- with the numbers of a version of the dialect, a written version is a word that may replace it
abbrev MakesWords : Dialect → (Role → PartialTree → Text → Type 0) → Type 0
MakesWords d Good = (role : Role) (x : WrittenVersion) (v : VersionRefValue) (read : Text) → IsVersionRefIn (grammar_of d) read v
    → (w : IsWordOf (Good role) x) → MayBecome d x (text_with x v) → MayReplace d role (partial_with w.tree v) (text_with x v)

one_rewritable : (d : Dialect) (Good : Role → PartialTree → Text → Type 0) → MakesWords d Good → (t : Text) (x : WrittenTerm)
    → IsReplaceable d t x → AreWordsOf Good x → IsRewritable d t x
one_rewritable d Good makes t x may written = record {
  version = λ v read of fits.
      may.version (partial_with written.version.tree v) (text_with x.version v)
      (makes (role_in x.operator) x.version v read of written.version fits);
  upper = λ y is v read of fits.
      let w = written.upper y is in
      may.upper y is (partial_with w.tree v) (text_with y v) (makes after_hyphen y v read of w fits);
}

cargo_words : MakesWords Cargo IsWordOfCargo
cargo_words role x v read of w number = cargo_word x v (of_grammar grammar.Cargo v read of) w number

npm_words : MakesWords Npm (λ role p word. SpellsWord grammar.Npm role p word)
npm_words role x v read of w long = npm_word role x v (of_grammar grammar.Npm v read of) w long

range_words : (g : Grammar) (tree : SetTree) (t : Text) (spelled : SpellsRangeIn g tree t)
    → AllByRecursion (AreWordsOf (λ role p word. SpellsWord g role p word)) (terms_of (length t) 0 (ranges_items g tree t spelled))
range_words g tree t spelled = words_told t (AreRanges g) (λ role p w. SpellsWord g role p w) (λ role p w. SpellsWord g role p w) 0
    (ranges_items g tree t spelled)
    (ranges_told t (AreRanges g) g tree t spelled (all_of (AreRanges g) t))

pub rewritable : (d : Dialect) (tree : SetTree) (t : Text) (spelled : SpellsAs d tree t) → IsUtf8 t
    → AllByRecursion (IsRewritable d t) (terms_in d tree t spelled)
rewritable Cargo tree t spelled utf8 =
    let Good = AreComparators (comparators_of tree) in
    zipped (one_rewritable Cargo IsWordOfCargo cargo_words t) (terms_in Cargo tree t spelled)
    (replaceable Cargo tree t spelled utf8)
    (words_told t Good MayStand IsWordOfCargo 0 (comparators_items (comparators_of tree) t spelled.comparators)
    (comparators_told t Good (comparators_of tree) t spelled.comparators (all_of Good t)))
rewritable Npm tree t spelled utf8 =
    zipped (one_rewritable Npm (λ role p word. SpellsWord grammar.Npm role p word) npm_words t)
    (terms_in Npm tree t spelled) (replaceable Npm tree t spelled utf8) (range_words grammar.Npm tree t spelled.spelled)
rewritable d tree t spelled utf8 =
    zipped (one_rewritable d (λ role p word. SpellsWord grammar.Crate role p word)
    (λ role x v read of w fits. crate_word x v (of_grammar grammar.Crate v read of) w) t)
    (terms_in d tree t spelled) (replaceable d tree t spelled utf8) (range_words grammar.Crate tree t spelled)
