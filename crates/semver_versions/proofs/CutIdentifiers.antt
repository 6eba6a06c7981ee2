-- Identifiers that are found byte by byte are the same as those that are cut at dots.
use Rattle.std.proofs.Common.{◌≡◌, ℕ, ◌<◌, Bool, true, false, List, [], ◌∷◌, ◌++◌, length, take, drop}
use Rattle.std.proofs.Common.{sym, refl, ap, ◌∙◌, subst, arith, append_assoc, append-nil, length-append, one-add, decimal}
use Rattle.std.specs.Prelude.{◌==◌, ◌||◌, slice_index, Option, Some, None}
use Rattle.std.specs.List.{AllByRecursion, AllZip, list_all, slice_split, join_with_byte, prefix_len}
use Rattle.std.specs.Char.{is_ascii_alphanumeric}
use Rattle.std.proofs.lemmas.Bool.{eqb-true, eq-eqb}
use Rattle.std.proofs.lemmas.Bool.Decides.{nat_tests}
use Rattle.std.proofs.lemmas.List.{take-append-drop, take_at, drop_at}
use Rattle.std.proofs.lemmas.List.Splits.{join_with_byte-slice_split, length-slice_split}
use Rattle.semver_texts.specs.Texts.{Text, marked, IsRun, is_dot, is_part, cut_at_dots, is_dotted_byte}
use Rattle.semver_texts.specs.VersionGrammar.{IsIdentifierText, SpellsIdentifier}
use Rattle.semver_texts.specs.Versions.{IdentifierValue, numeric, alphanumeric}
use Rattle.semver_texts.specs.declared.dotted.Hyphens.{Hyphens}
use Rattle.semver_texts.specs.declared.dotted.Hyphens.TheVariants.{Any, BetweenRuns}
use Rattle.semver_texts.specs.Steps.DottedParts.{is_run_byte, runs_stand, marked_part}
use Rattle.semver_versions.specs.Steps.Reading.{AreIdentifiers}
use Rattle.semver_texts.proofs.Lists.{Passes, all_more, all_zipped, by_test, passes_append, prefix_stops, prefix_is}
use Rattle.semver_texts.proofs.DottedParts.{found_same}
use Rattle.semver_texts.proofs.PartRuns.{joined_some, runs_ahead, some_cut}
use Rattle.semver_texts.proofs.Runs.{decimal_is_run}
use Rattle.semver_texts.proofs.SpelledVersions.{identifier_is_part}
use Rattle.semver_versions.proofs.KeptTexts.{are_parts, identifiers_are_parts, marked_cut, no_identifiers, part_bytes}
use Rattle.semver_versions.proofs.KeptTexts.{parts_cut}
use Rattle.semver_texts.proofs.PartRuns.{parts_pass}

-- ---- one more run

run_more : (run : Text) (b : ℕ) → IsRun run → is_ascii_alphanumeric b ≡ true → IsRun (run ++ b ∷ [])
run_more run b is_run letter =
    (omega (arith, length-append run (b ∷ [])), passes_append is_ascii_alphanumeric run _ is_run.1 (letter, tt))

one_run : (b : ℕ) → is_ascii_alphanumeric b ≡ true → IsRun (b ∷ [])
one_run b letter = (omega arith, (letter, tt))

run_identifier : (run : Text) → IsRun run → IsIdentifierText run
run_identifier run is = record { runs = run ∷ []; some = omega arith; each = (is, tt); joined = refl }

run_in_front : (run text : Text) → IsRun run → IsIdentifierText text → IsIdentifierText (run ++ (45 ∷ text))
run_in_front run text is w = record {
  runs = run ∷ w.runs;
  some = omega arith;
  each = (is, w.each);
  joined = rw w.joined (onto_runs w.runs w.some);
}
  where
    onto_runs : (runs : List Text) → 0 < length runs → run ++ (45 ∷ join_with_byte 45 runs) ≡ join_with_byte 45 (run ∷ runs)
    onto_runs [] some = absurd (omega arith)
    onto_runs (next ∷ runs) some = refl

-- one or more identifiers joined by dots
record AreJoined (text : Text) : Type 0 where
  first : Text
  others : List Text
  each : AllByRecursion IsIdentifierText (first ∷ others)
  joined : text ≡ join_with_byte 46 (first ∷ others)

alone : (run : Text) → IsRun run → AreJoined run
alone run is = record { first = run; others = []; each = (run_identifier run is, tt); joined = refl }

before_dot : (run text : Text) → IsRun run → AreJoined text → AreJoined (run ++ (46 ∷ text))
before_dot run text is w = record {
  first = run;
  others = w.first ∷ w.others;
  each = (run_identifier run is, w.each);
  joined = rw w.joined;
}

before_hyphen : (run text : Text) → IsRun run → AreJoined text → AreJoined (run ++ (45 ∷ text))
before_hyphen run text is w = record {
  first = run ++ (45 ∷ w.first);
  others = w.others;
  each = (run_in_front run w.first is w.each.0, w.each.1);
  joined = rw w.joined (onto_first w.others);
}
  where
    onto_first : (others : List Text)
        → run ++ (45 ∷ join_with_byte 46 (w.first ∷ others)) ≡ join_with_byte 46 ((run ++ (45 ∷ w.first)) ∷ others)
    onto_first [] = refl
    onto_first (next ∷ others) = sym (append_assoc run (45 ∷ w.first) _)

-- ---- byte by byte

abbrev stands : Bool → Text → Bool
stands = runs_stand is_ascii_alphanumeric

abbrev front : Text → Text
front bytes = take (prefix_len is_dotted_byte bytes) bytes

-- if `stands` is true, `front` is identifiers joined by dots, after the run before it if there is one
begun : (bytes : Text) → (stands false bytes ≡ true → AreJoined (front bytes))
    × ((run : Text) → IsRun run → stands true bytes ≡ true → AreJoined (run ++ front bytes))
begun [] = (λ e. cc, λ run is e. rw append-nil (alone run is))
begun (b ∷ bytes) =
    let more = begun bytes in
    by_test (is_ascii_alphanumeric b)
    (λ y. rw (y, one-add)
    (λ e. more.1 (b ∷ []) (one_run b y) e, λ run is e. rw append_assoc at (more.1 _ (run_more run b is y) e)))
    (λ n. by_test (b == 45)
    (λ h. rw (n, h, one-add) (λ e. cc, λ run is e. rw (eqb-true b 45 h) (before_hyphen run (front bytes) is (more.0 e))))
    (λ o. by_test (b == 46)
    (λ h. rw (n, o, h, one-add) (λ e. cc, λ run is e. rw (eqb-true b 46 h) (before_dot run (front bytes) is (more.0 e))))
    (λ x. rw (n, o, x) (λ e. cc, λ run is e. rw append-nil (alone run is)))))

-- ---- `stands` is true for identifiers

letters_stand : (run more : Text) → Passes is_ascii_alphanumeric run → stands true (run ++ more) ≡ stands true more
letters_stand [] more all = refl
letters_stand (b ∷ run) more all = rw all.0 (letters_stand run more all.1)

run_stands : (in_run : Bool) (run more : Text) → IsRun run → stands in_run (run ++ more) ≡ stands true more
run_stands in_run [] more is = absurd (omega (arith, is.0))
run_stands in_run (b ∷ run) more is = rw is.1.0 (letters_stand run more is.1.1)

-- after this text, `stands` continues as after a run
abbrev Stands : Text → Type 0
Stands text = (in_run : Bool) (more : Text) → stands in_run (text ++ more) ≡ stands true more

joined_stand : (mark : ℕ) → ((more : Text) → stands true (mark ∷ more) ≡ stands false more) → (texts : List Text) → 0 < length texts
    → AllByRecursion Stands texts → Stands (join_with_byte mark texts)
joined_stand mark leads [] some each in_run more = absurd (omega (arith, some))
joined_stand mark leads (t ∷ []) some each in_run more = each.0 in_run more
joined_stand mark leads (t ∷ next ∷ texts) some each in_run more =
    let others : Text = join_with_byte mark (next ∷ texts) in
    ap (stands in_run) (append_assoc t (mark ∷ others) more) ∙ each.0 in_run _ ∙ leads (others ++ more)
    ∙ joined_stand mark leads (next ∷ texts) (omega arith) each.1 false more

identifier_stands : (text : Text) → IsIdentifierText text → Stands text
identifier_stands text w =
    rw w.joined
    (joined_stand 45 (λ more. refl) w.runs w.some (all_more (λ run is in_run more. run_stands in_run run more is) w.runs w.each))

identifiers_stand : (in_run : Bool) (texts : List Text) (more : Text) → 0 < length texts → AllByRecursion IsIdentifierText texts
    → stands in_run (join_with_byte 46 texts ++ more) ≡ stands true more
identifiers_stand in_run texts more some each =
    joined_stand 46 (λ more. refl) texts some (all_more identifier_stands texts each) in_run more

-- ---- identifiers with either rule for hyphens

-- after a run, `stands` is true if the next byte isn't a letter, a digit, a hyphen or a dot
other_stands : (more : Text) → is_dotted_byte (slice_index more 0) ≡ false → stands true more ≡ true
other_stands [] e = refl
other_stands (b ∷ more) e = let n = not_inner b e in rw (n.0, n.1)
  where
    not_inner : (b : ℕ) → is_dotted_byte b ≡ false → (is_ascii_alphanumeric b ≡ false) × ((b == 45 || b == 46) ≡ false)
    not_inner b e = (grind (arith, nat_tests), grind (arith, nat_tests))

-- if `runs_stand` is true, `front` is one or more identifiers
stand_found : (h : Hyphens) (bytes : Text) → runs_stand (is_run_byte h) false bytes ≡ true
    → (0 < length (front bytes)) × AreIdentifiers h (cut_at_dots (front bytes))
stand_found Any bytes e = some_parts (front bytes) (sym (runs_ahead bytes) ∙ e)
  where
    some_parts : (t : Text) → list_all is_part (slice_split is_dot t) ≡ true → (0 < length t) × (list_all is_part (cut_at_dots t) ≡ true)
    some_parts [] e = cc
    some_parts (b ∷ t) e = (omega arith, e)
stand_found BetweenRuns bytes e =
    let w = (begun bytes).0 e in
    let cut = ap cut_at_dots w.joined ∙ parts_cut (w.first ∷ w.others) (identifiers_are_parts (w.first ∷ w.others) w.each) in (
      omega (arith, joined_some w.first w.others (part_bytes w.first (identifier_is_part w.first w.each.0)).0, ap length w.joined),
      subst (AllByRecursion IsIdentifierText) (sym cut) w.each,
    )

-- if `front` is one or more identifiers, `runs_stand` is true
found_stand : (h : Hyphens) (bytes : Text) → 0 < length (front bytes) → AreIdentifiers h (cut_at_dots (front bytes))
    → runs_stand (is_run_byte h) false bytes ≡ true
found_stand Any bytes some each = runs_ahead bytes ∙ ap (list_all is_part) (sym (some_cut (front bytes) some)) ∙ each
found_stand BetweenRuns bytes some each =
    let n : ℕ = prefix_len is_dotted_byte bytes in
    let cut = some_cut (front bytes) some in
    let count : 0 < length (cut_at_dots (front bytes)) =
    omega (arith, ap length cut, length-slice_split is_dot (front bytes)) in
    ap (stands false) (sym (take-append-drop n bytes)
    ∙ ap (λ t. t ++ drop n bytes) (sym (ap (join_with_byte 46) cut ∙ join_with_byte-slice_split 46 (front bytes))))
    ∙ identifiers_stand false (cut_at_dots (front bytes)) (drop n bytes) count each
    ∙ other_stands (drop n bytes) (prefix_stops is_dotted_byte bytes refl)

-- ---- a part after its mark

module _ (h : Hyphens) (mark : ℕ) where
  none_found : (t inner rest : Text) → ◌≡◌ {A = Option (Text × Text)} (Some ([], t)) (Some (inner, rest))
      → AreIdentifiers h (cut_at_dots inner) × (t ≡ marked (mark ∷ []) (cut_at_dots inner) ++ rest)
  none_found t inner rest e =
      let same = found_same e in (
        subst (λ x. AreIdentifiers h (cut_at_dots x)) same.0 (no_identifiers h),
        λ i. marked (mark ∷ []) (cut_at_dots (same.0 i)) ++ same.1 i,
      )

  -- `marked_part` finds identifiers or nothing, and the text is these after their mark, and the rest
  pub part_found : (t inner rest : Text) → marked_part h mark t ≡ Some (inner, rest)
      → AreIdentifiers h (cut_at_dots inner) × (t ≡ marked (mark ∷ []) (cut_at_dots inner) ++ rest)
  part_found [] inner rest e = none_found [] inner rest e
  part_found (b ∷ t) inner rest e = by_test (b == mark)
      (λ y. by_test (runs_stand (is_run_byte h) false t)
      (λ are. let n : ℕ = prefix_len is_dotted_byte t in
      let same = found_same (rw (y, are) at e) in
      let found = stand_found h t are in (
        subst (λ x. AreIdentifiers h (cut_at_dots x)) same.0 found.1,
        (λ i. eqb-true b mark y i ∷ (sym (take-append-drop n t) ∙ (λ j. same.0 j ++ same.1 j)) i)
            ∙ rw (marked_cut mark inner (subst (λ x. 0 < length x) same.0 found.0)),
      ))
      (λ other. let none : None ≡ Some (inner, rest) = rw (y, other) at e in cc))
      (λ n. none_found (b ∷ t) inner rest (rw n at e))

  -- `marked_part` finds the part at the beginning of a text, if the rest after it can't belong to it
  pub part_is : (t inner rest : Text) → AreIdentifiers h (cut_at_dots inner) → t ≡ marked (mark ∷ []) (cut_at_dots inner) ++ rest
      → is_dotted_byte (slice_index rest 0) ≡ false → (slice_index rest 0 == mark) ≡ false → marked_part h mark t ≡ Some (inner, rest)
  part_is [] [] rest each split ended no_mark = cc
  part_is (b ∷ t) [] rest each split ended no_mark =
      rw (ap (λ x. slice_index x 0 == mark) split ∙ no_mark) (ap (λ x. Some ([], x)) split)
  part_is t (b ∷ inner) rest each split ended no_mark =
      let part : Text = b ∷ inner in
      let n = prefix_is is_dotted_byte part rest (parts_pass part (are_parts h (cut_at_dots part) each)) refl ended in
      let taken : front (part ++ rest) ≡ part = ap (λ k. take k (part ++ rest)) n ∙ take_at part rest (length part) refl in
      let some : 0 < length (front (part ++ rest)) = omega (arith, ap length taken) in
      ap (marked_part h mark) (split ∙ ap (λ x. x ++ rest) (marked_cut mark part (omega arith)))
      ∙ rw (
        eq-eqb mark mark refl,
        found_stand h (part ++ rest) some (subst (λ x. AreIdentifiers h (cut_at_dots x)) (sym taken) each),
      )
      (ap Some (λ i. (taken i, (ap (λ k. drop k (part ++ rest)) n ∙ drop_at part rest (length part) refl) i)))

-- ---- the identifiers of a version in the crate's grammar

pub spelled_are : (ids : List IdentifierValue) (ts : List Text) → AllZip SpellsIdentifier ids ts → AllByRecursion IsIdentifierText ts
spelled_are = all_zipped spelled_is
  where
    spelled_is : (id : IdentifierValue) (t : Text) → SpellsIdentifier id t → IsIdentifierText t
    spelled_is (numeric n) t s = subst IsIdentifierText (sym s.1) (run_identifier (decimal n) (decimal_is_run n s.0))
    spelled_is (alphanumeric kept) t s = subst IsIdentifierText (sym s.0) s.1
