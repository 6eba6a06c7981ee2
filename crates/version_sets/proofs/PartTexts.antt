-- The lowest version of a set that can be printed has identifiers that can be parts of a text.
use Rattle.std.proofs.Common.{◌≡◌, ℕ, ◌<◌, ◌^◌, ◌+◌, Bool, true, false, List, [], ◌∷◌, Option, Some, None, Bor, IfSome, length, map, option_map, arith, cond, lit≤, refl, ap, sym, subst, ◌∙◌}
use Rattle.std.specs.Prelude.{nat_lt}
use Rattle.std.specs.Char.{is_ascii_alphanumeric}
use Rattle.std.specs.Int.Digits.{AllBelowBase, digits_of}
use Rattle.std.specs.List.{list_all}
use Rattle.std.specs.Ordering.{is_eq}
use Rattle.std.proofs.lemmas.Bool.{and_from, and_parts}
use Rattle.std.proofs.lemmas.Bool.Decides.{nat_tests}
use Rattle.std.proofs.lemmas.Int.Digits.{all_below_base_digits_of, length-digits_of_step}
use Rattle.std.proofs.lemmas.List.{length-map}
use Rattle.semver_texts.specs.Digits.{as_kept, plain_kept}
use Rattle.semver_texts.specs.PrintedText.{identifier_text, numeral}
use Rattle.semver_texts.specs.Texts.{Text, is_part, is_part_byte}
use Rattle.semver_texts.specs.VersionViews.{version_value}
use Rattle.semver_texts.specs.Versions.{IdentifierValue, numeric, alphanumeric, PlainVersion, without_build}
use Rattle.semver_texts.specs.declared.grammar.Digits.{Digits}
use Rattle.semver_texts.specs.declared.grammar.Digits.TheVariants.{Kept, AnySize}
use Rattle.semver_texts.specs.declared.version.Version.{Version}
use Rattle.semver_texts.proofs.Lists.{Passes, all_more}
use Rattle.semver_texts.proofs.Runs.{decimal_is_run, run_is_part}
use Rattle.semver_texts.proofs.SpelledVersions.{all_passes}
use Rattle.semver_versions.specs.ReadVersions.{read_plain}
use Rattle.semver_versions.specs.VersionRefs.{HasPartTexts}
use Rattle.semver_versions.specs.declared.read_version.ReadVersion.{ReadVersion}
use Rattle.version_sets.specs.Printable.{is_kept_by, is_printable_boundary, prints_by}
use Rattle.version_sets.specs.Releases.{release_value}
use Rattle.version_sets.specs.Steps.Lower.{is_below, lower}
use Rattle.version_sets.specs.Steps.Numbers.{numbers_cmp}
use Rattle.version_sets.specs.Steps.Within.{first_place, first_value}
use Rattle.version_sets.specs.declared.release.Release.{Release}
use Rattle.version_sets.specs.declared.within.First.{First}
use Rattle.version_sets.proofs.SweepLaws.{by_test}

-- ---- one identifier

part_from : (t : Text) → 0 < length t → Passes is_part_byte t → is_part t ≡ true
part_from [] some all = absurd (omega (arith, some))
part_from (b ∷ t) some all = all_passes is_part_byte (b ∷ t) all

digits_pass : (ds : List ℕ) → AllBelowBase 10 ds → Passes is_part_byte (map (λ d. 48 + d) ds)
digits_pass [] all = tt
digits_pass (d ∷ ds) all = (digit d all.0, digits_pass ds all.1) where
  digit : (d : ℕ) → d < 10 → is_part_byte (48 + d) ≡ true
  digit d small = grind (arith, nat_tests)

numeral_is_part : (n : ℕ) → is_part (numeral n) ≡ true
numeral_is_part n = by_test (nat_lt n (2 ^ 64)) small large where
  small : nat_lt n (2 ^ 64) ≡ true → is_part (numeral n) ≡ true
  small e =
      let run = decimal_is_run n (grind (arith, nat_tests)) in
      rw e (part_from _ run.0 (all_more run_is_part _ run.1))

  large : nat_lt n (2 ^ 64) ≡ false → is_part (numeral n) ≡ true
  large e =
      let above : 0 < n = grind (arith, nat_tests) in
      let some : 0 < length (map (λ d. 48 + d) (digits_of 10 n)) = omega (arith, length-map (digits_of 10 n) (λ d. 48 + d), length-digits_of_step 10 n (lit≤ tt) above) in
      rw e (part_from _ some (digits_pass (digits_of 10 n) (all_below_base_digits_of 10 n (lit≤ tt))))

kept_text : (b : Bool) (n : ℕ) → identifier_text (cond b (numeric n) (alphanumeric (numeral n))) ≡ numeral n
kept_text true n = refl
kept_text false n = refl

kept_part : (digits : Digits) (id : IdentifierValue) → is_kept_by digits id ≡ true → is_part (identifier_text (as_kept id)) ≡ true
kept_part digits (numeric n) e = ap is_part (kept_text (nat_lt n (2 ^ 64)) n) ∙ numeral_is_part n
kept_part Kept (alphanumeric t) e = (and_parts _ _ e).0
kept_part AnySize (alphanumeric t) e = (and_parts _ _ (and_parts _ _ e).0).0

kept_parts : (digits : Digits) (ids : List IdentifierValue) → list_all (is_kept_by digits) ids ≡ true
    → list_all is_part (map identifier_text (map as_kept ids)) ≡ true
kept_parts digits [] e = refl
kept_parts digits (id ∷ ids) e =
    let both = and_parts _ _ e in
    rw (kept_part digits id both.0, kept_parts digits ids both.1) refl

-- ---- the lowest version

boundary_parts : (v : PlainVersion) → is_printable_boundary v ≡ true → HasPartTexts (plain_kept v)
boundary_parts v e =
    by_test (prints_by Kept v)
    (λ kept. kept_parts Kept v.pre (and_parts _ _ kept).1)
    (λ other. kept_parts AnySize v.pre (and_parts _ _ (rw other at e)).1)

abbrev HasParts : PlainVersion → Type 0
HasParts v = HasPartTexts (plain_kept v)

release_parts : (a b : Release) → HasParts (first_place true (release_value a) b)
release_parts a b = by_test (is_eq (numbers_cmp (release_value b) (release_value a))) (λ same. rw same refl) (λ other. rw other refl)

pre_release_parts : (v : PlainVersion) (r : Release) → is_printable_boundary v ≡ true → HasParts (first_place false v r)
pre_release_parts v r e = by_test (is_eq (numbers_cmp (release_value r) v)) (λ same. rw same (boundary_parts v e))
    (λ other. rw other (and_from _ _ (numeral_is_part 0) refl))

lower_parts : (release pre : Option PlainVersion) → IfSome release HasParts → IfSome pre HasParts → IfSome (lower release pre) HasParts
lower_parts release None r p = r
lower_parts release (Some v) r p = by_test (is_below release v) (λ below. rw below r) (λ other. rw other p)

mapped : {X Y : Type 0} (P : Y → Type 0) (f : X → Y) (o : Option X) → IfSome o (λ x. P (f x)) → IfSome (option_map f o) P
mapped P f None h = tt
mapped P f (Some x) h = h

some_is : {X : Type 0} {x y : X} → Some x ≡ Some y → x ≡ y
some_is e = cc

told : (lowest : Option Version) (o : Option PlainVersion) → option_map version_value lowest ≡ option_map (λ v. without_build (plain_kept v)) o
    → IfSome o HasParts → IfSome lowest (λ version. HasPartTexts (version_value version).plain)
told None o is h = tt
told (Some version) None is h = cc
told (Some version) (Some v) is h = subst (λ w. HasPartTexts w.plain) (sym (some_is is)) h

-- the lower of a release and of a pre-release that is at or after a printable boundary
pub lowest_parts : (release : Option (First Release)) (pre : Option (First ReadVersion)) (lowest : Option Version)
    → IfSome pre (λ first. is_printable_boundary (read_plain first.boundary.now) ≡ true)
    → option_map version_value lowest ≡ option_map (λ v. without_build (plain_kept v))
    (lower (option_map (first_value true release_value) release) (option_map (first_value false read_plain) pre))
    → IfSome lowest (λ version. HasPartTexts (version_value version).plain)
lowest_parts release pre lowest prints is =
    told lowest _ is (lower_parts _ _
    (mapped HasParts (first_value true release_value) release (each_release release))
    (mapped HasParts (first_value false read_plain) pre (each_pre pre prints)))
  where
    each_release : (o : Option (First Release)) → IfSome o (λ first. HasParts (first_value true release_value first))
    each_release None = tt
    each_release (Some first) = release_parts first.boundary.now first.numbers

    each_pre : (o : Option (First ReadVersion)) → IfSome o (λ first. is_printable_boundary (read_plain first.boundary.now) ≡ true)
        → IfSome o (λ first. HasParts (first_value false read_plain first))
    each_pre None h = tt
    each_pre (Some first) h = pre_release_parts (read_plain first.boundary.now) first.numbers h
