-- Two results that are sets with the same versions count as the same.
use Rattle.std.proofs.Common.{IfOk, ◌≡◌, ◌↔◌, [], refl, sym, ap, ◌∙◌, inl, inr, Result, Ok, Err}
use Rattle.semver_parser.specs.declared.RangeError.{RangeError}
use Rattle.semver_parser.specs.declared.RangeError.TheVariants.{OutOfMemory}
use Rattle.semver_parser.specs.RangeTexts.{Refuses}
use Rattle.semver_parser.specs.Versions.{PlainVersion, VersionValue}
use Rattle.version_sets.specs.VersionSets.{SetValue, contains, Fits}
use Rattle.semver_texts.specs.declared.grammar.Digits.{Digits}
use Rattle.version_sets.specs.declared.OperationError.{OperationError}
use Rattle.version_sets.specs.declared.OperationError.TheVariants.{DifferentDigits, DifferentMeanings, OutOfMemory as NoMemory}
use Rattle.result_laws.specs.OneResult.{AreOne, itself, seen}
use Rattle.result_laws.specs.SameSets.{AreAlike}
use Rattle.result_laws.proofs.OneResult.{one, of_ok}

-- two sets that are returned satisfy `AreAlike`
abbrev pub Alike : {E : Type 0} → Result SetValue E → Result SetValue E → Type 0
Alike r s = IfOk r (λ a. IfOk s (AreAlike a))

-- a set that is returned reads digits in this way
abbrev pub ReadsAs : {E : Type 0} → Digits → Result SetValue E → Type 0
ReadsAs d r = IfOk r (λ a. a.digits ≡ d)

-- any two sets with P contain the same versions
abbrev pub Agree : (SetValue → Type 0) → Type 0
Agree P = (a b : SetValue) → P a → P b → (v : PlainVersion) → Fits v → contains a v ≡ contains b v

-- two results of reading a text count as the same if P determines the versions of a set whenever
-- the text fits
pub one_read : {T L F : Type 0} {P : SetValue → Type 0} (d : Digits) (r s : Result SetValue RangeError) → Refuses T L F r
    → Refuses T L F s → Alike r s → ReadsAs d r → ReadsAs d s → IfOk r P → IfOk s P → (F → Agree P) → AreOne OutOfMemory itself r s
one_read d r s p q alike dr ds h k agree =
    one itself r s p q (λ a b is is' text.
    of_ok _ is' (of_ok _ is alike) (of_ok _ is dr ∙ sym (of_ok _ is' ds)) (agree text a b (of_ok _ is h) (of_ok _ is' k)))

-- an error that is never returned comes in no case
pub never : {P : Type 0} → ¬ P → P ↔ ⊥
never f = (f, λ e. absurd e)

-- two results of an operation on two sets or two ranges count as the same if both return
-- `DifferentDigits` in the same cases, and `DifferentMeanings` too, and their values have equal views
pub one_operation : {A V : Type 0} (view : A → V) (D M : Type 0) (r s : Result A OperationError)
    → (r ≡ Err DifferentDigits) ↔ D → (s ≡ Err DifferentDigits) ↔ D → (r ≡ Err DifferentMeanings) ↔ M → (s ≡ Err DifferentMeanings) ↔ M
    → ((a b : A) → r ≡ Ok a → s ≡ Ok b → view a ≡ view b) → AreOne NoMemory view r s
one_operation view D M (Ok a) (Ok b) p q m n h = inl (ap Ok (h a b refl refl))
one_operation view D M (Ok a) (Err NoMemory) p q m n h = inr (inr (a, refl, refl))
one_operation view D M (Err NoMemory) (Ok b) p q m n h = inr (inl (b, refl, refl))
one_operation view D M (Err NoMemory) (Err NoMemory) p q m n h = inl refl
one_operation view D M (Err DifferentDigits) s p q m n h = inl (ap (seen view) (sym (q.1 (p.0 refl))))
one_operation view D M r (Err DifferentDigits) p q m n h = inl (ap (seen view) (p.1 (q.0 refl)))
one_operation view D M (Err DifferentMeanings) s p q m n h = inl (ap (seen view) (sym (n.1 (m.0 refl))))
one_operation view D M r (Err DifferentMeanings) p q m n h = inl (ap (seen view) (m.1 (n.0 refl)))

-- a version without build metadata
abbrev pub plainly : PlainVersion → VersionValue
plainly v = record { plain = v; build = [] }
