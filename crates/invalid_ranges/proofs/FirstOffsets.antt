-- The offset of a number that is too large.
use Rattle.std.proofs.Common.{◌≡◌, ℕ, zero, suc, ◌+◌, ◌-◌, ◌<◌, ◌≤◌, true, List, [], ◌∷◌, ◌++◌, length, take, Some, refl, sym, ap}
use Rattle.std.proofs.Common.{◌∙◌, arith, length-append, append-nil, append_assoc}
use Rattle.std.proofs.Math.Seq.{take-append_seam}
use Rattle.std.proofs.lemmas.Bool.{and_parts}
use Rattle.std.proofs.lemmas.List.Elements.{All-from_recursion}
use Rattle.std.proofs.lemmas.List.Splits.{length-slice_split, slice_split_at, slice_split_none}
use Rattle.std.specs.Prelude.{slice_index}
use Rattle.std.specs.List.{filter_map, slice_split}
use Rattle.semver_texts.specs.Texts.{Text, is_dot}
use Rattle.semver_texts.specs.declared.grammar.Grammar.{Grammar}
use Rattle.semver_texts.specs.declared.grammar.Grammar.TheVariants.{Npm}
use Rattle.semver_ranges.specs.RangeTree.{PartialTree, SpellsPartial, components, is_component, one, two, three, qualifier, SetTree}
use Rattle.semver_ranges.specs.TextItems.{FoundWord, Item}
use Rattle.semver_ranges.specs.declared.cursor.Cursor.{Cursor}
use Rattle.semver_ranges.specs.declared.term.RawVersion.{RawVersion}
use Rattle.semver_ranges.specs.Steps.FoundItems.{items_left}
use Rattle.semver_ranges.specs.Steps.Items.{IsWordOf}
use Rattle.semver_ranges.specs.Steps.Reading.{after_blanks, after_v, component}
use Rattle.semver_ranges.proofs.LongWords.{no_dot}
use Rattle.semver_ranges.proofs.ReadingPieces.{PartialAt, component_sound, first_sound, is_component_byte, no_v, partial_starts, starts-append}
use Rattle.semver_ranges.specs.declared.dialect.Dialect.{Dialect}
use Rattle.tool_ranges.specs.Dialects.{SpellsAs}
use Rattle.semver_ranges.specs.DialectTable.{grammar_of}
use Rattle.tool_ranges.specs.SpelledItems.{items_in}
use Rattle.tool_ranges.proofs.ItemsFound.{items_found}
use Rattle.invalid_ranges.specs.TooLarge.{component_begin, limit_offset, number_begin, offset_in_item, without_v}

-- the offset is the same for each tree of the text, and for each way in which it spells the text
pub same_limit : (d : Dialect) (t : Text) (tree : SetTree) (spelled : SpellsAs d tree t) (tree' : SetTree)
    (spelled' : SpellsAs d tree' t) → limit_offset d tree t spelled ≡ limit_offset d tree' t spelled'
same_limit d t tree spelled tree' spelled' =
    ap (λ xs. slice_index (filter_map (offset_in_item d (length t)) xs) 0) (sym (items_found d tree t spelled) ∙ items_found d tree' t spelled')

-- ---- components

pub next_component : (k : ℕ) (c : Text) (cs : List Text) → 1 ≤ length cs → component_begin (suc k) (c ∷ cs) ≡ length c + 1 + component_begin k cs
next_component k c [] some = absurd (omega (arith, some))
next_component k c (x ∷ xs) some = omega arith

pub some_components : (t : Text) → 1 ≤ length (slice_split is_dot t)
some_components t = omega (arith, length-slice_split is_dot t)

-- the components of a word are at the same offsets as those of its partial version
module _ (c : Text) (e : is_component c ≡ true) where
  cut_here : (rest : Text) → slice_split is_dot (c ++ (46 ∷ rest)) ≡ c ∷ slice_split is_dot rest
  cut_here rest = slice_split_at is_dot c 46 rest (All-from_recursion _ c (no_dot c e)) refl

  cut_whole : slice_split is_dot c ≡ c ∷ []
  cut_whole = slice_split_none is_dot c (All-from_recursion _ c (no_dot c e))

pub same_begin : (p : PartialTree) (w : Text) → SpellsPartial p w → (k : ℕ) → k < 3
    → component_begin k (slice_split is_dot w) ≡ component_begin k (components p)
same_begin (one a) w (h, parts, e) k small =
    rw (e, append-nil a) (ap (component_begin k) (cut_whole a (and_parts _ _ h).0))
same_begin (two a b) w (h, parts, e) k small =
    let are = and_parts (is_component a) _ h in
    rw (e, append-nil (a ++ (46 ∷ b))) (ap (component_begin k) (cut_here a are.0 b ∙ ap (λ cs. a ∷ cs) (cut_whole b (and_parts _ _ are.1).0)))
same_begin (three a b c pre build) w (h, parts, e) k small =
    let are = and_parts (is_component a) _ h in
    let more = c ++ qualifier (three a b c pre build) in
    rw (e ∙ joined (qualifier (three a b c pre build))) (ap (component_begin k) (cut_here a are.0 (b ++ (46 ∷ more)) ∙ ap (λ cs. a ∷ cs) (cut_here b (and_parts _ _ are.1).0 more))
    ∙ third (slice_split is_dot more) (some_components more) k small)
  where
    joined : (q : Text) → (a ++ (46 ∷ (b ++ (46 ∷ c)))) ++ q ≡ a ++ (46 ∷ (b ++ (46 ∷ (c ++ q))))
    joined q = simp append_assoc

    third : (more : List Text) → 1 ≤ length more → (k : ℕ) → k < 3 → component_begin k (a ∷ b ∷ more) ≡ component_begin k (a ∷ b ∷ c ∷ [])
    third [] some k small = absurd (omega (arith, some))
    third (x ∷ xs) some zero small = refl
    third (x ∷ xs) some (suc zero) small = refl
    third (x ∷ xs) some (suc (suc zero)) small = refl
    third (x ∷ xs) some (suc (suc (suc k))) small = absurd (omega (arith, small))

-- ---- the word of a version

no_v_of_npm : (t : Text) → without_v t ≡ after_v Npm t
no_v_of_npm [] = refl
no_v_of_npm (b ∷ t) = refl

-- the components of a version that was read, and what follows them, after its `v`
module _ (d : Grammar) (x : FoundWord) (v : RawVersion) (is : IsWordOf d x v) where
  word_at : PartialAt (after_v d x.from) (Some (x.partial, x.after))
  word_at = rw is.read at (first_sound (after_v d x.from) (component (after_v d x.from)) (component_sound (after_v d x.from)))

  module _ (numbers : Text) (at : numbers ≡ without_v v.from.now) where
    numbers_at : numbers ≡ word_at.0 ++ v.after.now
    numbers_at = at ∙ ap without_v is.from ∙ same d word_at ∙ word_at.2 ∙ ap (λ u. word_at.0 ++ u) (sym is.after)
      where
        same : (d : Grammar) → PartialAt (after_v d x.from) (Some (x.partial, x.after)) → without_v x.from ≡ after_v d x.from
        same Npm at = no_v_of_npm x.from
        same _ at = no_v_of_npm x.from ∙ no_v x.from (rw at.2 (starts-append is_component_byte at.0 x.after (partial_starts x.partial at.0 at.1)))

    pub within : length v.after.now ≤ length numbers
    within = omega (arith, simp length-append at (ap length numbers_at))

    pub number_at : (k : ℕ) → k < 3 → (n : ℕ) → n - length numbers
        + component_begin k (slice_split is_dot (take (length numbers - length v.after.now) numbers)) ≡ number_begin n x k
    number_at k small n =
        let size : length numbers - length v.after.now ≡ length word_at.0 = omega (arith, simp length-append at (ap length numbers_at)) in
        let word : take (length numbers - length v.after.now) numbers ≡ word_at.0 = rw (size, numbers_at) (take-append_seam word_at.0 v.after.now) in
        rw word (rw (same_begin x.partial word_at.0 word_at.1 k small) (ap (λ t. n - length t + component_begin k (components x.partial)) (at ∙ ap without_v is.from)))

-- ---- one item after the other

module _ (d : Dialect) (t : Text) (g : Grammar) (same : g ≡ grammar_of d) (first : Cursor) (begins : first.begins_range ≡ true)
    (rest : first.rest.now ≡ after_blanks g t) where
  abbrev offsets : List Item → List ℕ
  offsets xs = filter_map (offset_in_item d (length t)) xs

  abbrev left : Cursor → List Item
  left cursor = items_left g cursor.begins_range cursor.rest.now

  module _ (cursor : Cursor) (none : offsets (left first) ≡ offsets (left cursor)) where
    whole : (xs : List Item) → left cursor ≡ xs → (tree : SetTree) (spelled : SpellsAs d tree t) → slice_index (offsets xs) 0 ≡ limit_offset d tree t spelled
    whole xs are tree spelled =
        let all : left first ≡ items_in d tree t spelled = rw (begins, rest, same) (items_found d tree t spelled) in
        ap (λ ks. slice_index ks 0) (ap offsets (sym are) ∙ sym none ∙ ap offsets all)

    pub found : (x : Item) (xs : List Item) → left cursor ≡ x ∷ xs → (k : ℕ) → Some k ≡ offset_in_item d (length t) x
        → (tree : SetTree) (spelled : SpellsAs d tree t) → k ≡ limit_offset d tree t spelled
    found x xs are k is tree spelled = rw (sym is) at (whole (x ∷ xs) are tree spelled)

    pub none_left : left cursor ≡ [] → (tree : SetTree) (spelled : SpellsAs d tree t) → 0 ≡ limit_offset d tree t spelled
    none_left are tree spelled = whole [] are tree spelled
