-- How the prefixes of versions are completed, in each dialect.
use Rattle.std.proofs.Common.{◌≡◌, ℕ, ◌^◌, ◌<◌, ◌≤◌, ◌⊎◌, true, List, [], ◌∷◌, ◌++◌, Bool, map, codes, decimal, rules}
use Rattle.std.proofs.Common.{refl, sym, ap, ◌∙◌, append_assoc, arith}
use Rattle.std.specs.List.{AllByRecursion, AllZip, join_with_byte, list_all}
use Rattle.std.specs.Str.{IsUtf8}
use Rattle.std.proofs.lemmas.Bool.{and_parts, and_from}
use Rattle.semver_texts.specs.Texts.{Text, has_no_leading_zero, is_part, is_space, marked}
use Rattle.semver_texts.specs.Digits.{identifiers_by}
use Rattle.semver_texts.specs.NpmLimits.{max_length}
use Rattle.semver_texts.specs.ToolVersions.{IsKeptAs, IsVersionTextIn, SpellsSemver}
use Rattle.semver_texts.specs.WhiteSpace.{AreWhiteSpaces, is_white_space}
use Rattle.semver_texts.specs.VersionGrammar.{IsIdentifierText, SpellsIdentifier}
use Rattle.semver_texts.specs.Versions.{IdentifierValue, VersionValue, numbers}
use Rattle.semver_texts.specs.declared.grammar.Digits.TheVariants.{Kept, AnySize}
use Rattle.semver_texts.specs.declared.grammar.Grammar.{Grammar}
use Rattle.semver_texts.specs.declared.grammar.Grammar.TheVariants.{Crate, Cargo, Npm}
use Rattle.semver_versions.proofs.CutIdentifiers.{spelled_are}
use Rattle.semver_versions.proofs.KeptTexts.{all_kept, any_kept_all, identifiers_are_parts, kept_any_all, kept_parts}
use Rattle.semver_versions.proofs.KeptTexts.{kept_spelled_all}
use Rattle.semver_texts.proofs.Lists.{each_passes}
use Rattle.semver_versions.specs.VersionRefs.{identifier_of}
use Rattle.semver_versions.specs.AnyLength.{IsVersionAtAnyLength}
use Rattle.invalid_strings.proofs.Completions.{Completes, Many, Seq, are_among, are_completions, both, byte, bytes_go_on, is_one, limited}
use Rattle.invalid_strings.proofs.Completions.{many, optional, same, seq}
use Rattle.invalid_strings.specs.Prefixes.{AreCompletions, GoesOn}
use Rattle.invalid_strings.proofs.Cores.{IsThree, three}
use Rattle.invalid_strings.proofs.Leaves.{IsBuild, IsPartWith, IsPre, IsBelow, IsWhite, Passing, build, number, identifier}
use Rattle.invalid_strings.proofs.Leaves.{passing, pre, space_small, white}
use Rattle.invalid_strings.specs.VersionCompletions.{byte_completions, version_completions}
use Rattle.invalid_strings.specs.VersionPrefixes.{IsVersionOf}
use Rattle.invalid_strings.specs.declared.bytes.Length.{Length}
use Rattle.invalid_strings.specs.declared.bytes.Length.TheVariants.{Allowed, Any}
use Rattle.std.specs.Prelude.{◌↔◌}

-- how the prefixes of versions in a grammar are completed, and that these versions are UTF-8
pub record IsKnown (d : Grammar) : Type 0 where
  pub completions : AreCompletions (IsVersionTextIn d) version_completions
  pub utf8 : (t : Text) → IsVersionTextIn d t → IsUtf8 t
  pub bytes : (len : Length) (t rest : Text) → IsVersionOf len d (t ++ rest) → GoesOn (IsVersionOf len d) byte_completions t

-- `IsKnown` for a grammar that doesn't limit the length
unlimited : {least : Text} {es : List Text} (d : Grammar) → Completes (IsVersionTextIn d) least es
    → ((len : Length) (t : Text) → IsVersionOf len d t ↔ IsVersionTextIn d t)
    → are_among version_completions (least ∷ es) ≡ true → list_all (is_one byte_completions) (least ∷ es) ≡ true → IsKnown d
unlimited {least} {es} d w each ascii all = record {
  completions = are_completions w version_completions (search rules) ascii;
  utf8 = w.utf8;
  bytes = λ len. bytes_go_on (same w (IsVersionOf len d) (λ t. (each len t).1) (λ t. (each len t).0)) byte_completions all;
}

-- ---- identifiers that all pass a test

module _ (passes : Text → Bool) where
  pub parts_from : (ts : List Text) → AllByRecursion (IsPartWith passes) ts → (list_all is_part ts ≡ true) × (list_all passes ts ≡ true)
  parts_from [] all = (refl, refl)
  parts_from (t ∷ ts) all = let more = parts_from ts all.1 in (rw (all.0.0, more.0) refl, rw (all.0.1, more.1) refl)

  pub parts_to : (ts : List Text) → list_all is_part ts ≡ true → list_all passes ts ≡ true → AllByRecursion (IsPartWith passes) ts
  parts_to [] parts pass = tt
  parts_to (t ∷ ts) parts pass =
      let here = and_parts (is_part t) (list_all is_part ts) parts in
      let good = and_parts (passes t) (list_all passes ts) pass in
      ((here.0, good.0), parts_to ts here.1 good.1)

pub all_true : (ts : List Text) → list_all (λ t. true) ts ≡ true
all_true [] = refl
all_true (t ∷ ts) = all_true ts

-- ---- versions of SemVer 2.0.0 with numbers below a limit

record IsSemverBelow (limit : ℕ) (t : Text) : Type 0 where
  v : VersionValue
  spells : SpellsSemver v t
  major : v.plain.major < limit
  minor : v.plain.minor < limit
  patch : v.plain.patch < limit

in_decimals : (limit : ℕ) (P Q : Text → Type 0) (t : Text) (w : IsThree (IsBelow limit) P Q t)
    → t ≡ join_with_byte 46 (map decimal (w.a_is.0 ∷ w.b_is.0 ∷ w.c_is.0 ∷ [])) ++ (marked (45 ∷ []) w.pre ++ marked (43 ∷ []) w.build)
in_decimals limit P Q t w =
    w.whole
    ∙ (λ i. join_with_byte 46 (w.a_is.2 i ∷ w.b_is.2 i ∷ w.c_is.2 i ∷ []) ++ (marked (45 ∷ []) w.pre ++ marked (43 ∷ []) w.build))

semver_prefixes : (limit : ℕ) → 0 < limit → limit ≤ 2 ^ 64 → Completes (IsSemverBelow limit) (codes "0.0.0") (codes ".0.0" ∷ codes "0.0"
    ∷ codes ".0" ∷ codes "0" ∷ [] ∷ codes "a" ∷ codes "a" ∷ [] ∷ codes "a" ∷ codes "a" ∷ codes "a" ∷ [] ∷ codes "a" ∷ [])
semver_prefixes limit some large = same (three (IsBelow limit) IsPre IsBuild (number limit some large) pre build) (IsSemverBelow limit)
    to from
  where
    any : List Text → List IdentifierValue
    any ts = identifiers_by AnySize (map identifier_of ts)

    parts : (ids : List IdentifierValue) (ts : List Text) → AllZip IsKeptAs ids ts → list_all is_part ts ≡ true
    parts ids ts kept = kept_parts AnySize ids ts (kept_any_all ids ts kept)

    to : (t : Text) → IsThree (IsBelow limit) IsPre IsBuild t → IsSemverBelow limit t
    to t w =
        let pres = parts_from has_no_leading_zero w.pre w.pre_each in
        record {
          v = record {
            plain = record { major = w.a_is.0; minor = w.b_is.0; patch = w.c_is.0; pre = any w.pre };
            build = any w.build;
          };
          spells = record {
            pre_texts = w.pre;
            build_texts = w.build;
            major = omega arith;
            minor = omega arith;
            patch = omega arith;
            pre = any_kept_all (any w.pre) w.pre (all_kept AnySize w.pre pres.0);
            no_zeros = pres.1;
            build = any_kept_all (any w.build) w.build
                (all_kept AnySize w.build (parts_from (λ t. true) w.build w.build_each).0);
            spelled = in_decimals limit IsPre IsBuild t w;
          };
          major = w.a_is.1;
          minor = w.b_is.1;
          patch = w.c_is.1;
        }

    from : (t : Text) → IsSemverBelow limit t → IsThree (IsBelow limit) IsPre IsBuild t
    from t w = let s = w.spells in record {
      a = decimal w.v.plain.major;
      b = decimal w.v.plain.minor;
      c = decimal w.v.plain.patch;
      pre = s.pre_texts;
      build = s.build_texts;
      a_is = (w.v.plain.major, w.major, refl);
      b_is = (w.v.plain.minor, w.minor, refl);
      c_is = (w.v.plain.patch, w.patch, refl);
      pre_each = parts_to has_no_leading_zero s.pre_texts (parts w.v.plain.pre s.pre_texts s.pre) s.no_zeros;
      build_each = parts_to (λ t. true) s.build_texts (parts w.v.build s.build_texts s.build) (all_true s.build_texts);
      whole = s.spelled;
    }

cargo : IsKnown Cargo
cargo =
    let semver = semver_prefixes (2 ^ 64) (omega arith) (omega arith) in
    let all = same semver (IsVersionTextIn Cargo) (λ t w. (w.v, w.spells))
    (λ t w. record { v = w.0; spells = w.1; major = w.1.major; minor = w.1.minor; patch = w.1.patch }) in
    unlimited Cargo all same_length refl refl
  where
    same_length : (len : Length) (t : Text) → IsVersionOf len Cargo t ↔ IsVersionTextIn Cargo t
    same_length Allowed t = (λ w. w, λ w. w)
    same_length Any t = (λ w. w, λ w. w)

-- ---- versions of npm

abbrev NpmText : Text → Type 0
NpmText = Seq (Many IsWhite) (Seq (λ t. (t ≡ []) ⊎ (t ≡ codes "v")) (Seq (IsSemverBelow (2 ^ 53)) (Many IsWhite)))

whites_from : (t : Text) → Many IsWhite t → AreWhiteSpaces t
whites_from t w = record { each = w.texts; are = are w.texts w.each; whole = w.whole }
  where
    are : (ts : List Text) → AllByRecursion IsWhite ts → list_all is_white_space ts ≡ true
    are [] all = refl
    are (t ∷ ts) all = and_from _ _ all.0 (are ts all.1)

whites_to : (t : Text) → AreWhiteSpaces t → Many IsWhite t
whites_to t w = record { texts = w.each; each = each_passes is_white_space w.each w.are; whole = w.whole }

npm : IsKnown Npm
npm =
    let semver = semver_prefixes (2 ^ 53) (omega arith) (omega arith) in
    let any_length = seq (many white) (seq (optional (byte 118 (omega arith))) (seq semver (many white))) in
    let all = same any_length (IsVersionAtAnyLength Npm) to from in
    let short = same (limited all max_length (omega arith)) (IsVersionTextIn Npm)
    (λ t w. (w.0.0, (w.0.1, w.1))) (λ t w. ((w.0, w.1.0), w.1.1)) in
    record {
      completions = are_completions short version_completions (search rules) refl;
      utf8 = short.utf8;
      bytes = λ len. elim len
          as (λ len. (t rest : Text) → IsVersionOf len Npm (t ++ rest) → GoesOn (IsVersionOf len Npm) byte_completions t) [
            | Allowed ↦ bytes_go_on short byte_completions refl
            | Any ↦ bytes_go_on all byte_completions refl
          ];
    }
  where
    to : (t : Text) → NpmText t → IsVersionAtAnyLength Npm t
    to t w =
        let sign = w.in_second in
        let semver = sign.in_second in (
          semver.in_first.v,
          record {
            before = w.first;
            sign = sign.first;
            core = semver.first;
            after = semver.second;
            spaces_before = whites_from w.first w.in_first;
            is_sign = sign.in_first;
            spells = semver.in_first.spells;
            spaces_after = whites_from semver.second semver.in_second;
            major = semver.in_first.major;
            minor = semver.in_first.minor;
            patch = semver.in_first.patch;
            whole = w.whole ∙ ap (λ x. w.first ++ x) (sign.whole ∙ ap (λ x. sign.first ++ x) semver.whole);
          },
        )

    from : (t : Text) → IsVersionAtAnyLength Npm t → NpmText t
    from t (v, w) = record {
      first = w.before;
      second = w.sign ++ (w.core ++ w.after);
      in_first = whites_to w.before w.spaces_before;
      in_second = both w.sign (w.core ++ w.after) w.is_sign (both w.core w.after
          (record { v = v; spells = w.spells; major = w.major; minor = w.minor; patch = w.patch }) (whites_to w.after w.spaces_after));
      whole = w.whole;
    }

-- ---- versions of the crate

abbrev CrateCore : Text → Type 0
CrateCore = IsThree (IsBelow (2 ^ 64)) IsIdentifierText IsIdentifierText

crate : IsKnown Crate
crate =
    let spaces = passing is_space space_small in
    let numbered = three (IsBelow (2 ^ 64)) IsIdentifierText IsIdentifierText
    (number (2 ^ 64) (omega arith) (omega arith)) identifier identifier in
    let all = same (seq spaces (seq numbered spaces)) (IsVersionTextIn Crate) to from in
    unlimited Crate all same_length refl refl
  where
    same_length : (len : Length) (t : Text) → IsVersionOf len Crate t ↔ IsVersionTextIn Crate t
    same_length Allowed t = (λ w. w, λ w. w)
    same_length Any t = (λ w. w, λ w. w)

    to : (t : Text) → Seq (Passing is_space) (Seq CrateCore (Passing is_space)) t → IsVersionTextIn Crate t
    to t w =
        let c = w.in_second.in_first in (
          record {
            plain = record { major = c.a_is.0; minor = c.b_is.0; patch = c.c_is.0; pre = map identifier_of c.pre };
            build = map identifier_of c.build;
          },
          record {
            before = w.first;
            core = w.in_second.first;
            after = w.in_second.second;
            spaces_before = w.in_first;
            spaces_after = w.in_second.in_second;
            spells = record {
              pre_text = marked (45 ∷ []) c.pre;
              build_text = marked (43 ∷ []) c.build;
              major = c.a_is.1;
              minor = c.b_is.1;
              patch = c.c_is.1;
              pre = record { texts = c.pre; each = spelled c.pre c.pre_each; joined = refl };
              build = record { texts = c.build; each = spelled c.build c.build_each; joined = refl };
              spelled = in_decimals (2 ^ 64) IsIdentifierText IsIdentifierText w.in_second.first c ∙ simp append_assoc;
            };
            whole = w.whole ∙ ap (λ x. w.first ++ x) w.in_second.whole ∙ sym (append_assoc w.first w.in_second.first w.in_second.second);
          },
        )
      where
        spelled : (ts : List Text) → AllByRecursion IsIdentifierText ts → AllZip SpellsIdentifier (map identifier_of ts) ts
        spelled ts each = kept_spelled_all (map identifier_of ts) ts (all_kept Kept ts (identifiers_are_parts ts each)) each

    from : (t : Text) → IsVersionTextIn Crate t → Seq (Passing is_space) (Seq CrateCore (Passing is_space)) t
    from t (v, w) =
        let s = w.spells in
        record {
          first = w.before;
          second = w.core ++ w.after;
          in_first = w.spaces_before;
          in_second = both w.core w.after (record {
            a = decimal v.plain.major;
            b = decimal v.plain.minor;
            c = decimal v.plain.patch;
            pre = s.pre.texts;
            build = s.build.texts;
            a_is = (v.plain.major, s.major, refl);
            b_is = (v.plain.minor, s.minor, refl);
            c_is = (v.plain.patch, s.patch, refl);
            pre_each = spelled_are v.plain.pre s.pre.texts s.pre.each;
            build_each = spelled_are v.build s.build.texts s.build.each;
            whole = s.spelled ∙ append_assoc _ s.pre_text s.build_text
                ∙ (λ i. join_with_byte 46 (map decimal (numbers v.plain)) ++ (s.pre.joined i ++ s.build.joined i));
          }) w.spaces_after;
          whole = w.whole ∙ append_assoc w.before w.core w.after;
        }

-- ---- versions of each dialect

pub known : (d : Grammar) → IsKnown d
known Crate = crate
known Cargo = cargo
known Npm = npm
