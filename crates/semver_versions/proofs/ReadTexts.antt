-- A whole text that spells a version in a dialect is read as this version, and as no other.
use Rattle.std.proofs.Common.{codes, ◌≡◌, inl, inr, ⊎_elim, ℕ, ◌+◌, ◌<◌, ◌^◌, Bool, true, false, List, [], ◌∷◌, ◌++◌, length}
use Rattle.std.proofs.Common.{refl, ◌∙◌, arith, ap, sym, subst, append_assoc, append-nil, length-append, decimal, map, one-add}
use Rattle.std.specs.Prelude.{◌↔◌, IsTrue, is_some, not, Option, Some, None, slice_index}
use Rattle.std.specs.Char.{is_ascii_digit}
use Rattle.std.specs.List.{AllZip, join_with_byte, list_all}
use Rattle.std.proofs.lemmas.Bool.Decides.{nat_tests}
use Rattle.std.proofs.lemmas.Fmt.{decimal_nonempty}
use Rattle.semver_texts.specs.Texts.{Text, BeginsWithNumbers, has_no_leading_zero, is_dotted_byte, is_part, marked}
use Rattle.semver_texts.specs.WhiteSpace.{AreWhiteSpaces}
use Rattle.semver_texts.specs.ToolVersions.{SpellsIn, SpellsSemver, before_numbers, characters}
use Rattle.semver_texts.specs.Versions.{VersionValue, numbers}
use Rattle.semver_texts.specs.VersionGrammar.{SpellsVersion}
use Rattle.semver_texts.specs.Digits.{digits_in}
use Rattle.semver_texts.specs.declared.grammar.Digits.TheVariants.{AnySize}
use Rattle.semver_texts.specs.declared.grammar.Grammar.{Grammar}
use Rattle.semver_texts.specs.declared.grammar.Grammar.TheVariants.{Crate, Cargo, Npm}
use Rattle.semver_texts.proofs.Lists.{Passes, all_more, passes_append}
use Rattle.semver_texts.proofs.Numbers.{all_digits, canonical_decimal}
use Rattle.semver_versions.specs.AnyLength.{IsVersionAtAnyLength, SpellsAtAnyLength}
use Rattle.semver_versions.specs.VersionRefs.{VersionRefValue}
use Rattle.semver_versions.specs.Steps.Reading.{AreAround, AreIdentifiers, IsBefore, IsBorrowedAt, IsBorrowedBy, IsBorrowedFrom}
use Rattle.semver_versions.specs.Steps.Reading.{IsKeptBy, IsRead, IsShort, IsSign, NumbersFit, ZerosFit, around_size, hyphens_of}
use Rattle.semver_versions.proofs.CutIdentifiers.{spelled_are}
use Rattle.semver_versions.proofs.KeptTexts.{any_kept_all, kept_any_all, kept_parts, kept_spelled_all, spelled_kept_all}
use Rattle.semver_versions.proofs.ReadVersions.{its_numbers, one_read}
use Rattle.semver_versions.proofs.WhiteSpaces.{around_spaces, is_outer, no_size, none_around, nothing_around, outer_bytes, same_around}
use Rattle.semver_versions.proofs.WhiteSpaces.{spaces_around}

-- ---- numbers begin with a digit

-- a text that begins with a digit
pub record Digit (text : Text) : Type 0 where
  pub byte : ℕ
  pub rest : Text
  pub digit : is_ascii_digit byte ≡ true
  pub whole : text ≡ byte ∷ rest

digit_first : (ds more : Text) → 0 < length ds → Passes is_ascii_digit ds → Digit (ds ++ more)
digit_first [] more some all = absurd (omega (arith, some))
digit_first (d ∷ ds) more some all = record { byte = d; rest = ds ++ more; digit = all.0; whole = refl }

pub first_digit : (text : Text) → is_ascii_digit (slice_index text 0) ≡ true → Digit text
first_digit [] e = cc
first_digit (b ∷ text) e = record { byte = b; rest = text; digit = e; whole = refl }

decimal_digits : (n : ℕ) → n < 2 ^ 64 → Passes is_ascii_digit (decimal n)
decimal_digits n small = all_digits (decimal n) (canonical_decimal n small).digits

pub digit_begins : {text : Text} {major minor patch : ℕ} {rest : Text} → BeginsWithNumbers text major minor patch rest → Digit text
digit_begins {text} {major} {minor} {patch} {rest} n =
    subst Digit (sym (n.split ∙ simp append_assoc))
    (digit_first (decimal major) (46 ∷ (decimal minor ++ (46 ∷ (decimal patch ++ rest)))) (decimal_nonempty major n.major_fits)
    (decimal_digits major n.major_fits))

-- a text that doesn't begin with a digit doesn't begin with numbers
pub no_numbers : {text : Text} {major minor patch : ℕ} {rest : Text} → is_ascii_digit (slice_index text 0) ≡ false
    → ¬ (BeginsWithNumbers text major minor patch rest)
no_numbers none n =
    let d = digit_begins n in let e = d.digit in let no = rw d.whole at none in cc

digit_dotted : (b : ℕ) → is_ascii_digit b ≡ true → is_dotted_byte b ≡ true
digit_dotted b h = grind (arith, nat_tests)

digit_no_v : (b : ℕ) → is_ascii_digit b ≡ true → b ≡ 118 → ⊥
digit_no_v b h e = grind (arith, nat_tests)

-- ---- the number of bytes before the numbers

abbrev no_digit : ℕ → Bool
no_digit b = not (is_ascii_digit b)

up_to : (front text : Text) → Passes no_digit front → Digit text → before_numbers (front ++ text) ≡ length front
up_to [] text all d = rw (d.whole, d.digit) refl
up_to (b ∷ front) text all d = rw (all.0, up_to front text all.1 d, one-add) refl

outer_no_digit : (b : ℕ) → is_outer b ≡ true → no_digit b ≡ true
outer_no_digit b h = grind (arith, nat_tests)

sign_passes : (d : Grammar) (sign rest : Text) → IsSign d sign rest → Passes no_digit sign
sign_passes Crate sign rest is = rw is tt
sign_passes Cargo sign rest is = rw is tt
sign_passes Npm sign rest is = ⊎_elim (λ v. rw v (refl, tt)) (λ none. rw (none.0) tt) is

-- ---- the text before the numbers

module _ (d : Grammar) (text rest : Text) (at : IsBefore d text rest) where
  abbrev pub front_of : Text
  front_of = at.0 ++ at.1

  pub front_then : text ≡ front_of ++ rest
  front_then = at.4 ∙ sym (append_assoc at.0 at.1 rest)

  pub front_len : Digit rest → before_numbers text ≡ length front_of
  front_len digit =
      ap before_numbers front_then
      ∙ up_to front_of rest (passes_append no_digit at.0 at.1 (all_more outer_no_digit at.0 (outer_bytes d at.0 at.2))
      (sign_passes d at.1 rest at.3)) digit

  pub bytes_before : Digit rest → length text ≡ before_numbers text + length rest
  bytes_before digit = omega (arith, ap length front_then, length-append front_of rest, front_len digit)

pub no_around : (d : Grammar) (text : Text) → Digit text → around_size d text ≡ 0
no_around d text digit = rw digit.whole (no_size d digit.byte digit.rest (digit_dotted digit.byte digit.digit))

no_v : (text : Text) → Digit text → slice_index text 0 ≡ 118 → ⊥
no_v text d e = digit_no_v d.byte d.digit (sym (ap (λ t. slice_index t 0) d.whole) ∙ e)

-- nothing is before the numbers if the text begins with a digit
pub at_front : (d : Grammar) (text : Text) → Digit text → IsBefore d text text
at_front d text digit = ([], [], none_around d, no_sign d, refl, no_around d text digit)
  where
    no_sign : (d : Grammar) → IsSign d [] text
    no_sign Crate = refl
    no_sign Cargo = refl
    no_sign Npm = inr (refl, no_v text digit)

-- there is only one rest after the sign
one_sign : (d : Grammar) (sign other rest left : Text) → IsSign d sign rest → IsSign d other left → sign ++ rest ≡ other ++ left
    → rest ≡ left
one_sign Crate sign other rest left a b e = sym (ap (λ t. t ++ rest) a) ∙ e ∙ ap (λ t. t ++ left) b
one_sign Cargo sign other rest left a b e = sym (ap (λ t. t ++ rest) a) ∙ e ∙ ap (λ t. t ++ left) b
one_sign Npm sign other rest left a b e =
    let same : (x y : Text) → sign ≡ x → other ≡ y → x ++ rest ≡ y ++ left = λ x y is also. sym (ap (λ t. t ++ rest) is) ∙ e
    ∙ ap (λ t. t ++ left) also in
    ⊎_elim
    (λ v. ⊎_elim (λ also. let both = same (codes "v") (codes "v") v also in cc)
    (λ none. absurd (none.1 (sym (ap (λ t. slice_index t 0) (same (codes "v") [] v none.0))))) b)
    (λ none. ⊎_elim (λ v. absurd (none.1 (ap (λ t. slice_index t 0) (same [] (codes "v") none.0 v))))
    (λ also. same [] [] none.0 also.0) b)
    a

pub one_before : (d : Grammar) (text rest left : Text) → IsBefore d text rest → IsBefore d text left → rest ≡ left
one_before d text rest left a b =
    one_sign d a.1 b.1 rest left a.3 b.3 (same_around d a.0 b.0 _ _ a.2 b.2 (sym a.4 ∙ b.4) a.5 b.5).1

-- ---- a text that spells a version is read as this version

abbrev pub three : VersionValue → Text
three v = join_with_byte 46 (map decimal (numbers v.plain))

to_right : (a b c e : Text) → (a ++ (b ++ c)) ++ e ≡ a ++ (b ++ (c ++ e))
to_right a b c e = simp append_assoc

-- the text is read as the version, after everything that is before the numbers
abbrev pub IsReadOf : Grammar → VersionValue → Text → Type 0
IsReadOf d v text = (rest : Text) × IsBefore d text rest × IsRead d v rest

module _ (d : Grammar) (each : (ts : List Text) → list_all is_part ts ≡ true → AreIdentifiers (hyphens_of d) ts)
    (zeros : (ts : List Text) → list_all has_no_leading_zero ts ≡ true → ZerosFit d ts) (any : digits_in d ≡ AnySize) where
  semver_read : (v : VersionValue) (core after : Text) → SpellsSemver v core → NumbersFit d v.plain.major v.plain.minor v.plain.patch
      → AreAround d after → IsRead d v (core ++ after)
  semver_read v core after w fits around = record {
    pre_texts = w.pre_texts;
    build_texts = w.build_texts;
    after = after;
    major = w.major;
    minor = w.minor;
    patch = w.patch;
    fits = fits;
    pre = subst (λ x. AllZip (IsKeptBy x) v.plain.pre w.pre_texts) (sym any) (kept_any_all v.plain.pre _ w.pre);
    pre_each = each w.pre_texts (kept_parts AnySize v.plain.pre w.pre_texts (kept_any_all v.plain.pre _ w.pre));
    zeros = zeros w.pre_texts w.no_zeros;
    build = subst (λ x. AllZip (IsKeptBy x) v.build w.build_texts) (sym any) (kept_any_all v.build _ w.build);
    build_each = each w.build_texts (kept_parts AnySize v.build w.build_texts (kept_any_all v.build _ w.build));
    around = around;
    whole = ap (λ t. t ++ after) w.spelled ∙ to_right (three v) (marked (codes "-") w.pre_texts) (marked (codes "+") w.build_texts) after;
  }

abbrev core_of : {d : Grammar} {v : VersionValue} {rest : Text} → IsRead d v rest → Text
core_of {v = v} w = three v ++ (marked (codes "-") w.pre_texts ++ marked (codes "+") w.build_texts)

core_then : {d : Grammar} {v : VersionValue} {rest : Text} (w : IsRead d v rest) → rest ≡ core_of w ++ w.after
core_then {v = v} w = w.whole ∙ sym (to_right (three v) (marked (codes "-") w.pre_texts) (marked (codes "+") w.build_texts) w.after)

semver_core : {d : Grammar} {v : VersionValue} {rest : Text} (w : IsRead d v rest) → list_all has_no_leading_zero w.pre_texts ≡ true
    → digits_in d ≡ AnySize → SpellsSemver v (core_of w)
semver_core {v = v} w no_zeros any = record {
  pre_texts = w.pre_texts;
  build_texts = w.build_texts;
  major = w.major;
  minor = w.minor;
  patch = w.patch;
  pre = any_kept_all v.plain.pre _ (subst (λ x. AllZip (IsKeptBy x) v.plain.pre w.pre_texts) any w.pre);
  no_zeros = no_zeros;
  build = any_kept_all v.build _ (subst (λ x. AllZip (IsKeptBy x) v.build w.build_texts) any w.build);
  spelled = refl;
}

white_spaces : (t : Text) → AreWhiteSpaces t → AreAround Npm t
white_spaces t w = record { each = w.each; are = w.are; whole = w.whole }

are_white_spaces : (t : Text) → AreAround Npm t → AreWhiteSpaces t
are_white_spaces t w = record { each = w.each; are = w.are; whole = w.whole }

pub crate_read : {v : VersionValue} {text : Text} (w : SpellsVersion v text) → IsRead Crate v (w.core ++ w.after)
crate_read {v = v} w = record {
  pre_texts = w.spells.pre.texts;
  build_texts = w.spells.build.texts;
  after = w.after;
  major = w.spells.major;
  minor = w.spells.minor;
  patch = w.spells.patch;
  fits = tt;
  pre = spelled_kept_all v.plain.pre _ w.spells.pre.each;
  pre_each = spelled_are v.plain.pre _ w.spells.pre.each;
  zeros = tt;
  build = spelled_kept_all v.build _ w.spells.build.each;
  build_each = spelled_are v.build _ w.spells.build.each;
  around = spaces_around w.after w.spaces_after;
  whole = rw w.spells.spelled (rw (w.spells.pre.joined, w.spells.build.joined) (simp append_assoc));
}

abbrev pub crate_before : {v : VersionValue} {text : Text} (w : SpellsVersion v text) → IsBefore Crate text (w.core ++ w.after)
crate_before {text = text} w = (
  w.before,
  [],
  spaces_around w.before w.spaces_before,
  refl,
  w.whole ∙ append_assoc w.before w.core w.after,
  no_around Crate (w.core ++ w.after) (digit_begins (its_numbers (crate_read w))),
)

pub read_any : (d : Grammar) (v : VersionValue) (text : Text) → SpellsAtAnyLength d v text → IsReadOf d v text
read_any Crate v text w = (w.core ++ w.after, crate_before w, crate_read w)
read_any Cargo v text w =
    let read = subst (IsRead Cargo v) (append-nil text)
    (semver_read Cargo (λ ts h. h) (λ ts h. h) refl v text [] w tt (none_around Cargo)) in
    (text, at_front Cargo text (digit_begins (its_numbers read)), read)
read_any Npm v text w =
    let read = semver_read Npm (λ ts h. h) (λ ts h. h) refl v w.core w.after w.spells (w.major, w.minor, w.patch)
    (white_spaces w.after w.spaces_after) in
    let digit = digit_begins (its_numbers read) in (
      w.core ++ w.after,
      (
        w.before,
        w.sign,
        white_spaces w.before w.spaces_before,
        ⊎_elim (λ e. inr (e, no_v _ digit)) (λ e. inl e) w.is_sign,
        w.whole,
        ⊎_elim (λ e. rw e (no_around Npm (w.core ++ w.after) digit)) (λ e. rw e (no_size Npm 118 (w.core ++ w.after) refl)) w.is_sign,
      ),
      read,
    )

-- a text that is read as a version spells this version
pub spells_any : (d : Grammar) (v : VersionValue) (text rest : Text) → IsBefore d text rest → IsRead d v rest → SpellsAtAnyLength d v text
spells_any Crate v text rest at w = record {
  before = at.0;
  core = core_of w;
  after = w.after;
  spaces_before = around_spaces at.0 at.2;
  spaces_after = around_spaces w.after w.around;
  spells = record {
    pre_text = marked (codes "-") w.pre_texts;
    build_text = marked (codes "+") w.build_texts;
    major = w.major;
    minor = w.minor;
    patch = w.patch;
    pre = record { texts = w.pre_texts; each = kept_spelled_all v.plain.pre _ w.pre w.pre_each; joined = refl };
    build = record { texts = w.build_texts; each = kept_spelled_all v.build _ w.build w.build_each; joined = refl };
    spelled = sym (append_assoc (three v) (marked (codes "-") w.pre_texts) (marked (codes "+") w.build_texts));
  };
  whole = at.4 ∙ ap (λ t. at.0 ++ (t ++ rest)) at.3 ∙ ap (λ t. at.0 ++ t) (core_then w) ∙ sym (append_assoc at.0 (core_of w) w.after);
}
spells_any Cargo v text rest at w =
    subst (SpellsSemver v)
    (sym (at.4 ∙ (λ i. nothing_around at.0 at.2 i ++ (at.3 i ++ rest)) ∙ core_then w
    ∙ ap (λ t. core_of w ++ t) (nothing_around w.after w.around) ∙ append-nil (core_of w)))
    (semver_core w w.zeros refl)
spells_any Npm v text rest at w = record {
  before = at.0;
  sign = at.1;
  core = core_of w;
  after = w.after;
  spaces_before = are_white_spaces at.0 at.2;
  is_sign = ⊎_elim (λ e. inr e) (λ e. inl e.0) at.3;
  spells = semver_core w w.zeros refl;
  spaces_after = are_white_spaces w.after w.around;
  major = w.fits.0;
  minor = w.fits.1;
  patch = w.fits.2;
  whole = at.4 ∙ ap (λ t. at.0 ++ (at.1 ++ t)) (core_then w);
}

-- a text spells a version in a grammar if and only if it does at any length, and is short enough
pub any_of : (d : Grammar) (v : VersionValue) (text : Text) → SpellsIn d v text → SpellsAtAnyLength d v text
any_of Crate v text w = w
any_of Cargo v text w = w
any_of Npm v text w = w.0

pub short_of : (d : Grammar) (v : VersionValue) (text : Text) → SpellsIn d v text → IsShort d (characters text)
short_of Crate v text w = tt
short_of Cargo v text w = tt
short_of Npm v text w = w.1

in_short : (d : Grammar) (v : VersionValue) (text : Text) → IsShort d (characters text) → SpellsAtAnyLength d v text → SpellsIn d v text
in_short Crate v text short w = w
in_short Cargo v text short w = w
in_short Npm v text short w = (w, short)

pub read_of : (d : Grammar) (v : VersionValue) (text : Text) → SpellsIn d v text → IsReadOf d v text
read_of d v text w = read_any d v text (any_of d v text w)

-- ---- a text spells at most one version

module _ (d : Grammar) (v : VersionValue) (text rest : Text) (at : IsBefore d text rest) (w : SpellsIn d v text) where
  pub read_after : IsRead d v rest
  read_after = let read = read_of d v text w in subst (IsRead d v) (one_before d text read.0 rest read.1 at) read.2

pub one_version_in : (d : Grammar) (v u : VersionValue) (text : Text) → SpellsIn d v text → SpellsIn d u text → v ≡ u
one_version_in d v u text a b =
    let read = read_of d v text a in one_read d v u read.0 read.2 (read_after d u text read.0 read.1 b)

-- ---- the borrowed version

pub borrowed_from : (d : Grammar) (text rest : Text) (found : Option VersionRefValue) → IsBefore d text rest
    → IsBorrowedAt d (before_numbers text) rest found → IsBorrowedFrom d text found
borrowed_from d text rest None at none = λ v other before read. none v (subst (IsRead d v) (one_before d text other rest before at) read)
borrowed_from d text rest (Some o) at is = (is.0, rest, at, is.1, is.2)

pub short_borrowed : (d : Grammar) (text : Text) (found : Option VersionRefValue) → IsShort d (characters text)
    → IsBorrowedFrom d text found → IsBorrowedBy d text found
short_borrowed d text None short none = λ w. let read = read_of d w.0 text w.1 in none w.0 read.0 read.1 read.2
short_borrowed d text (Some o) short is = (is.0, in_short d is.0 text short (spells_any d is.0 text is.1 is.2 is.3), is.4)

pub is_version_from : (d : Grammar) (text : Text) (found : Option VersionRefValue) → IsBorrowedFrom d text found
    → IsTrue (is_some found) ↔ IsVersionAtAnyLength d text
is_version_from d text None none = (λ y. absurd (cc), λ w. let read = read_any d w.0 text w.1 in absurd (none w.0 read.0 read.1 read.2))
is_version_from d text (Some o) is = (λ y. (is.0, spells_any d is.0 text is.1 is.2 is.3), λ w. refl)
