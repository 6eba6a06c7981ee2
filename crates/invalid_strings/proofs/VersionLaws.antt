-- Laws about prefixes of versions, and that a text has at most one offset and one reason.
use Rattle.std.proofs.Common.{◌≡◌, ℕ, ◌++◌, ◌∙◌, [], ⊎_elim, Bool, true, false, append-nil, append_assoc, refl, subst, sym}
use Rattle.std.specs.Prelude.{◌↔◌, IsTrue, Option}
use Rattle.std.proofs.lemmas.Bool.{cases_order}
use Rattle.semver_texts.specs.Texts.{Text}
use Rattle.semver_texts.specs.ToolVersions.{IsVersionTextIn}
use Rattle.semver_texts.specs.declared.grammar.Grammar.{Grammar}
use Rattle.invalid_strings.specs.Reasons.{IsReason, reason_by}
use Rattle.invalid_strings.specs.VersionCompletions.{version_completions}
use Rattle.invalid_strings.specs.VersionPrefixes.{IsLongestVersionPrefix, IsPrefixIn, IsWholePrefixIn}
use Rattle.invalid_strings.specs.declared.reasons.Reason.{Reason}
use Rattle.invalid_strings.proofs.LongestPrefixes.{whole_from}
use Rattle.invalid_strings.proofs.VersionPrefixes.{known}

pub shorter_prefix : (d : Grammar) (x y : Text) → IsPrefixIn d (x ++ y) → IsPrefixIn d x
shorter_prefix d x y prefix = (y ++ prefix.0, subst (IsVersionTextIn d) (append_assoc x y prefix.0) prefix.1)

pub empty_prefix : (d : Grammar) → IsWholePrefixIn d []
empty_prefix d =
    let w = (known d).completions in whole_from (IsVersionTextIn d) version_completions [] w [] w.some

pub version_prefix : (d : Grammar) (t : Text) → IsVersionTextIn d t → IsWholePrefixIn d t
version_prefix d t w = ([], tt, subst (IsVersionTextIn d) (sym (append-nil t)) w)

pub one_longest : (d : Grammar) (t : Text) (m n : ℕ) → IsLongestVersionPrefix d t m → IsLongestVersionPrefix d t n → m ≡ n
one_longest d t m n a b =
    ⊎_elim (λ e. e)
    (λ other. ⊎_elim (λ less. absurd (a.no_longer n less b.within b.prefix)) (λ more. absurd (b.no_longer m more a.within a.prefix)) other)
    (cases_order m n)

pub same_test : (x y : Bool) (P : Type 0) → IsTrue x ↔ P → IsTrue y ↔ P → x ≡ y
same_test true true P f g = refl
same_test true false P f g = sym (g.1 (f.0 refl))
same_test false true P f g = f.1 (g.0 refl)
same_test false false P f g = refl

pub one_reason : (d : Grammar) (prefix : Text) (next : Option ℕ) (x y : Reason) → IsReason d prefix next x
    → IsReason d prefix next y → x ≡ y
one_reason d prefix next x y a b =
    a.is
    ∙ (λ i. reason_by d (same_test a.version b.version _ a.is_version b.is_version i)
    (same_test a.letter b.letter _ a.takes_letter b.takes_letter i)
    (same_test a.zero b.zero _ a.takes_zero b.takes_zero i)
    (same_test a.too_long b.too_long _ a.is_too_long b.is_too_long i) prefix next)
    ∙ sym b.is
