-- At most one index is that of the highest version.
use Rattle.std.proofs.Common.{◌≡◌, ◌≢◌, ◌⊎◌, ◌<◌, ℕ, List, Option, Some, None, arith, refl, rules, ap, Less, Greater, ⊎_elim}
use Rattle.std.specs.Borrow.{Bor}
use Rattle.std.specs.Cmp.{IsTotalOrder}
use Rattle.std.specs.declared.cmp.Ordering.{Ordering}
use Rattle.semver_texts.specs.declared.grammar.Grammar.{Grammar}
use Rattle.semver_texts.specs.Texts.{Text}
use Rattle.semver_texts.specs.Versions.{PlainVersion}
use Rattle.tool_ranges.specs.declared.highest.Extreme.{Extreme}
use Rattle.tool_ranges.specs.Highest.{FindsExtreme, IsHighest, IsMember, order_for}
use Rattle.version_sets.specs.VersionSets.{SetValue}
use Rattle.tool_ranges.proofs.HighestMembers.{total_for}

three : (i j : ℕ) → (i < j) ⊎ (j < i) ⊎ (i ≡ j)
three i j = grind arith

module _ (order : PlainVersion → PlainVersion → Ordering) (total : IsTotalOrder order) where
  above_less : (v w : PlainVersion) → order v w ≡ Less → order w v ≢ Greater → ⊥
  above_less v w less low = search rules

  one_highest : (IsOne : ℕ → PlainVersion → Type 0) (i j : ℕ) → IsHighest order IsOne i → IsHighest order IsOne j → i ≡ j
  one_highest IsOne i j p q =
      ⊎_elim (λ less. absurd (above_less p.version q.version (q.earlier i p.version p.is_one less) (p.later j q.version q.is_one)))
      (⊎_elim (λ less. absurd (above_less q.version p.version (p.earlier j q.version q.is_one less) (q.later i p.version p.is_one))) (λ e.
      e))
      (three i j)

pub one_found : (which : Extreme) (g : Grammar) (set : SetValue) (texts : List (Bor Text)) (a b : Option ℕ) → FindsExtreme which g set texts a
    → FindsExtreme which g set texts b → a ≡ b
one_found which g set texts None None p q = refl
one_found which g set texts None (Some j) p q = absurd (p j q.version q.is_one)
one_found which g set texts (Some i) None p q = absurd (q i p.version p.is_one)
one_found which g set texts (Some i) (Some j) p q =
    ap Some (one_highest (order_for which) (total_for which) (IsMember g set texts) i j p q)
