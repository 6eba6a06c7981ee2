-- The sides of a term don't depend on how its identifiers of digits are read.
use Rattle.std.proofs.Common.{◌≡◌, Bool, not, Option, ap, sym, ◌∙◌}
use Rattle.semver_texts.specs.Digits.{plain_by}
use Rattle.semver_texts.specs.Texts.{is_empty}
use Rattle.semver_texts.specs.Versions.{PlainVersion}
use Rattle.semver_texts.specs.declared.grammar.Digits.{Digits}
use Rattle.semver_ranges.specs.Sides.{SideValue}
use Rattle.version_sets.specs.Steps.Cuts.{is_between}
use Rattle.version_sets.proofs.DigitLaws.{by_empty}
use Rattle.tool_ranges.specs.Steps.Table.{is_between_releases}

module _ (all : Bool → Option SideValue × Option SideValue) (p : PlainVersion) (digits : Digits) where
  same_pre : (not (is_empty p.pre)) ≡ not (is_empty (plain_by digits p).pre)
  same_pre = ap not (sym (by_empty digits p.pre))

  pub same_sides : (lower upper : Option SideValue) → lower ≡ (all (not (is_empty p.pre))).0 → upper ≡ (all (not (is_empty p.pre))).1
      → (v : PlainVersion) → is_between (lower, upper) (plain_by digits p) v
      ≡ is_between (all (not (is_empty (plain_by digits p).pre))) (plain_by digits p) v
  same_sides lower upper e f v = λ i. is_between ((e ∙ ap (λ b. (all b).0) same_pre) i, (f ∙ ap (λ b. (all b).1) same_pre) i) (plain_by digits p) v

  -- the same for the bounds of npm's default rule
  pub same_releases : (lower upper : Option SideValue) → lower ≡ (all (not (is_empty p.pre))).0 → upper ≡ (all (not (is_empty p.pre))).1
      → (v : PlainVersion) → is_between_releases (lower, upper) (plain_by digits p) v
      ≡ is_between_releases (all (not (is_empty (plain_by digits p).pre))) (plain_by digits p) v
  same_releases lower upper e f v =
      λ i. is_between_releases ((e ∙ ap (λ b. (all b).0) same_pre) i, (f ∙ ap (λ b. (all b).1) same_pre) i) (plain_by digits p) v
