-- The texts of versions in SemVer 2.0.0, compared with those of npm and of the crate.
use Rattle.std.proofs.Common.{◌≡◌, ◌^◌, ◌<◌, ◌≤◌, Bool, true, List, [], ◌∷◌, ◌++◌, length, map, codes, decimal}
use Rattle.std.proofs.Common.{refl, sym, ap, ◌∙◌, subst, inl, append_assoc, append-nil, arith}
use Rattle.std.specs.Prelude.{IsTrue}
use Rattle.std.specs.List.{AllByRecursion, AllZip, join_with_byte, list_all}
use Rattle.std.proofs.lemmas.List.Folds.{list_all-map}
use Rattle.std.specs.Str.Parse.{digits_value}
use Rattle.std.proofs.lemmas.Bool.{and_parts}
use Rattle.semver_texts.specs.Digits.{any_size, version_by}
use Rattle.semver_texts.specs.NpmLimits.{max_length}
use Rattle.semver_texts.specs.Texts.{Text, IsRun, has_no_leading_zero, is_large, is_number, is_part, is_part_byte, marked}
use Rattle.semver_texts.specs.declared.grammar.Digits.TheVariants.{AnySize}
use Rattle.semver_texts.specs.Versions.{IdentifierValue, numeric, alphanumeric, VersionValue, numbers}
use Rattle.semver_texts.specs.PrintedText.{identifier_text, numeral, version_text}
use Rattle.semver_texts.specs.VersionGrammar.{IsIdentifierText, SpellsCore, SpellsIdentifier, SpellsPart}
use Rattle.semver_texts.specs.ToolVersions.{IsKeptAs, SpellsNpm, SpellsSemver, characters}
use Rattle.semver_texts.specs.WhiteSpace.{AreWhiteSpaces}
use Rattle.semver_texts.proofs.LargeNumbers.{is_number_of, no_number, number_numeral, small_numeral}
use Rattle.semver_texts.proofs.Lists.{Passes, all_more, by_test, joined_pass, zip_is}
use Rattle.semver_texts.proofs.Numbers.{digits_value_number}
use Rattle.semver_texts.proofs.Runs.{run_is_part}

-- ---- a text that spells a version is the printed text

kept_text : (id : IdentifierValue) (text : Text) → IsKeptAs id text → text ≡ identifier_text id
kept_text (numeric n) text w = number_numeral text w.0 ∙ ap numeral w.1
kept_text (alphanumeric kept) text w = w.0

pub kept_texts : (ids : List IdentifierValue) (texts : List Text) → AllZip IsKeptAs ids texts → texts ≡ map identifier_text ids
kept_texts = zip_is identifier_text kept_text

spelled_text : (id : IdentifierValue) (text : Text) → SpellsIdentifier id text → text ≡ identifier_text id
spelled_text (numeric n) text w = w.1 ∙ sym (small_numeral n w.0)
spelled_text (alphanumeric kept) text w = w.0

pub spelled_texts : (ids : List IdentifierValue) (texts : List Text) → AllZip SpellsIdentifier ids texts
    → texts ≡ map identifier_text ids
spelled_texts = zip_is identifier_text spelled_text

pub part_text : (mark : Text) (ids : List IdentifierValue) (text : Text) → SpellsPart mark ids text
    → text ≡ marked mark (map identifier_text ids)
part_text mark ids text w = w.joined ∙ rw (spelled_texts ids w.texts w.each)

pub semver_printed : (v : VersionValue) (text : Text) → SpellsSemver v text → text ≡ version_text v
semver_printed v text w =
    let three : Text = join_with_byte 46 (map decimal (numbers v.plain)) in
    w.spelled
    ∙ (λ i. three ++ (marked (codes "-") (kept_texts v.plain.pre w.pre_texts w.pre i)
    ++ marked (codes "+") (kept_texts v.build w.build_texts w.build i)))
    ∙ sym (append_assoc three _ _)

-- ---- texts of SemVer 2.0.0 that npm reads

no_white_space : AreWhiteSpaces []
no_white_space = record { each = []; are = refl; whole = refl }

pub semver_is_npm : (v : VersionValue) (text : Text) → SpellsSemver v text → v.plain.major < 2 ^ 53 → v.plain.minor < 2 ^ 53
    → v.plain.patch < 2 ^ 53 → characters text ≤ max_length → SpellsNpm v text
semver_is_npm v text w major minor patch short = (
  record {
    before = [];
    sign = [];
    core = text;
    after = [];
    spaces_before = no_white_space;
    is_sign = inl refl;
    spells = w;
    spaces_after = no_white_space;
    major = major;
    minor = minor;
    patch = patch;
    whole = sym (append-nil text);
  },
  short,
)

-- ---- texts of the crate that SemVer 2.0.0 contains

run_passes : (run : Text) → IsRun run → Passes is_part_byte run
run_passes run w = all_more run_is_part run w.1

pub all_passes : {X : Type 0} (p : X → Bool) (t : List X) → AllByRecursion (λ x. IsTrue (p x)) t → list_all p t ≡ true
all_passes p [] all = refl
all_passes p (b ∷ t) all = rw (all.0, all_passes p t all.1) refl

runs_are_part : (runs : List Text) → 0 < length runs → AllByRecursion IsRun runs → is_part (join_with_byte 45 runs) ≡ true
runs_are_part [] some each = absurd (omega (arith, some))
runs_are_part ([] ∷ runs) some each = absurd (omega (arith, each.0.0))
runs_are_part ((b ∷ run) ∷ []) some each = all_passes is_part_byte (b ∷ run) (run_passes (b ∷ run) each.0)
runs_are_part ((b ∷ run) ∷ next ∷ runs) some each =
    let all : List Text = (b ∷ run) ∷ next ∷ runs in
    all_passes is_part_byte (join_with_byte 45 all) (joined_pass is_part_byte 45 refl all (all_more run_passes all each))

pub identifier_is_part : (t : Text) → IsIdentifierText t → is_part t ≡ true
identifier_is_part t w = subst (λ t. is_part t ≡ true) (sym w.joined) (runs_are_part w.runs w.some w.each)

-- a text that spells an identifier for the crate spells it in SemVer 2.0.0, with digits of any size
-- as a number
spelled_kept : (id : IdentifierValue) (text : Text) → SpellsIdentifier id text → IsKeptAs (any_size id) text
spelled_kept (numeric n) text w =
    let number = is_number_of text (n, w.0, w.1) in (number, digits_value_number text n w.0 w.1)
spelled_kept (alphanumeric kept) text w =
    by_test (is_large kept)
    (λ large. rw large (subst (λ t. is_number t ≡ true) (sym w.0) (and_parts (is_number kept) _ large).0, ap (digits_value 10) w.0))
    (λ small. rw small (w.0, identifier_is_part kept w.1, no_number kept small w.2))

pub spelled_kept_all : (ids : List IdentifierValue) (texts : List Text) → AllZip SpellsIdentifier ids texts
    → AllZip IsKeptAs (map any_size ids) texts
spelled_kept_all [] [] all = tt
spelled_kept_all [] (t ∷ texts) all = absurd all
spelled_kept_all (id ∷ ids) [] all = absurd all
spelled_kept_all (id ∷ ids) (t ∷ texts) all = (spelled_kept id t all.0, spelled_kept_all ids texts all.1)

pub core_is_semver : (v : VersionValue) (text : Text) → SpellsCore v text
    → IsTrue (list_all (λ id. has_no_leading_zero (identifier_text id)) v.plain.pre) → SpellsSemver (version_by AnySize v) text
core_is_semver v text w no_zeros =
    record {
      pre_texts = w.pre.texts;
      build_texts = w.build.texts;
      major = w.major;
      minor = w.minor;
      patch = w.patch;
      pre = spelled_kept_all v.plain.pre w.pre.texts w.pre.each;
      no_zeros = ap (list_all has_no_leading_zero) (spelled_texts v.plain.pre w.pre.texts w.pre.each)
          ∙ list_all-map has_no_leading_zero identifier_text v.plain.pre ∙ no_zeros;
      build = spelled_kept_all v.build w.build.texts w.build.each;
      spelled = w.spelled ∙ (λ i. join_with_byte 46 (map decimal (numbers v.plain)) ++ w.pre.joined i ++ w.build.joined i)
          ∙ append_assoc (join_with_byte 46 (map decimal (numbers v.plain))) _ _;
    }
