use Rattle.std.proofs.Common.{◌≡◌, Option, Some, None, MatchOption, IfSome, String, Global, refl, ap, option_map, string_bytes}
use Rattle.semver_texts.specs.Texts.{Text}
use Rattle.semver_ranges.specs.declared.dialect.Dialect.{Dialect}
use Rattle.repaired_strings.specs.Errors.{IsValid}
use Rattle.repaired_strings.specs.Repairs.{AreRepairs, IsBeyondRepair}
use Rattle.repaired_strings.specs.declared.errors.Expected.{Expected}
use Rattle.result_laws.proofs.OneResult.{of_ok, one_made}
use Rattle.result_laws.proofs.repairs.one_repaired.Goals as goal

-- the clauses of `repaired` for its result: a valid string, or none
record IsAnswer (e : Expected) (d : Dialect) (t : Text) (o : Option (String Global)) : Type 0 where
  valid : IfSome o (λ s. IsValid e d (string_bytes s))
  repairs : IfSome o (λ s. AreRepairs e d t (string_bytes s))
  none : MatchOption o (IsBeyondRepair e d t) (λ s. Unit {0})

module _ (e : Expected) (d : Dialect) (t : Text)
    (same : (x y : Text) → AreRepairs e d t x → IsValid e d x → AreRepairs e d t y → IsValid e d y → x ≡ y)
    (never : (x : Text) → AreRepairs e d t x → IsValid e d x → ¬ (IsBeyondRepair e d t)) where
  one_answer : (o p : Option (String Global)) → IsAnswer e d t o → IsAnswer e d t p → option_map string_bytes o ≡ option_map string_bytes p
  one_answer None None a b = refl
  one_answer None (Some s) a b = absurd (never (string_bytes s) b.repairs b.valid a.none)
  one_answer (Some r) None a b = absurd (never (string_bytes r) a.repairs a.valid b.none)
  one_answer (Some r) (Some s) a b = ap Some (same (string_bytes r) (string_bytes s) a.repairs a.valid b.repairs b.valid)

pub returns : goal.returns
returns c =
    let first = c.repaired.ensures in
    let second = c.repaired-2.ensures in
    let laws = c.one_repaired.ensures in
    let e = c.args.expected in
    let d = c.args.dialect in
    let t = c.args.text.now in
    record {
      one = one_made (option_map string_bytes) _ _ (λ a b is is'.
          one_answer e d t (laws.same e d t) (laws.none e d t) a b
          (record { valid = of_ok _ is first.valid; repairs = of_ok _ is first.repairs; none = of_ok _ is first.none })
          (record { valid = of_ok _ is' second.valid; repairs = of_ok _ is' second.repairs; none = of_ok _ is' second.none }));
    }
