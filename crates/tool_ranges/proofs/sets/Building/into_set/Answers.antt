use Rattle.std.proofs.Common.{◌≡◌, Bool, true, false, not, ◌&&◌, ◌||◌, refl, sym, ap, ◌∙◌, inl, inr}
use Rattle.std.specs.List.{list_any}
use Rattle.semver_texts.specs.Texts.{is_empty}
use Rattle.semver_texts.specs.Versions.{PlainVersion}
use Rattle.version_sets.specs.VersionSets.{Fits, contains}
use Rattle.version_sets.specs.Steps.Ends.{has_numbers, in_each, in_ranges}
use Rattle.std.proofs.lemmas.Result.{IfOk-weaker}
use Rattle.tool_ranges.specs.Steps.Building.{known}
use Rattle.tool_ranges.specs.Steps.Matching.{counts, ended, takes_all, takes_releases}
use Rattle.tool_ranges.proofs.BuiltSets.{every_is_met, last_kinds, met_of, met_is_met}
use Rattle.tool_ranges.proofs.sets.Building.into_set.Goals as goal
use Rattle.tool_ranges.proofs.sets.Building.into_set.Goals.{In_ok-set}

pub returns-then-self-is_by_default_of_npm-clause-meaning : goal.returns-then-self-is_by_default_of_npm-clause-meaning
returns-then-self-is_by_default_of_npm-clause-meaning c =
    IfOk-weaker c.into_set.result _ _ (λ set is v small. is v small
    ∙ ap (λ b. b || (is_empty v.pre && in_each c.new-then-self-is_by_default_of_npm.result v)) (c.new.ensures.none v)
    ∙ ap (λ b. is_empty v.pre && b) (c.new-then-self-is_by_default_of_npm.ensures.all v small)
    ∙ and_true (is_empty v.pre)
    ∙ sym (every_is_met c.args.dialect c.args.rule v (ended (counts (takes_all c.args.rule) v) (known (takes_all c.args.rule) v c.args.self))
    (ap (λ b. (c.args.self.matched_all || c.args.self.matches_all) && b) (sym c.is_by_default_of_npm.ensures) ∙ c.if-self-is_by_default_of_npm.true)))
    c.into_set.ensures.meaning
  where
    and_true : (b : Bool) → (b && true) ≡ b
    and_true true = refl
    and_true false = refl

met : (c : In_ok-set) (v : PlainVersion) → Fits v
    → contains c.in_ok-set.set v ≡ (ended (counts (takes_all c.args.rule) v) (known (takes_all c.args.rule) v c.args.self)).met
met c v small =
    let own = c.args.self in
    c.in_ok-set.ensures.meaning v small
    ∙ ap (λ b. b || (is_empty v.pre && in_each own.here v)) (c.in_ok-push_pre_releases.ensures.known v small
    ∙ ap (λ all. in_ranges own.ranges v || (not (is_empty v.pre)
    && (in_each own.here v && (counts all v || list_any (has_numbers v) c.deref.result.now)))) c.takes_all.ensures
    ∙ ap (λ ns. in_ranges own.ranges v || (not (is_empty v.pre)
    && (in_each own.here v && (counts (takes_all c.args.rule) v || list_any (has_numbers v) ns)))) c.deref.ensures.value)
    ∙ last_kinds (takes_all c.args.rule) v (in_ranges own.ranges v) (in_each own.here v) (list_any (has_numbers v) own.stated.items)

none : (c : In_ok-set) → ((c.args.self.matched_all || c.args.self.matches_all) && takes_releases c.args.dialect c.args.rule) ≡ false
none c = ap (λ b. (c.args.self.matched_all || c.args.self.matches_all) && b) (sym c.is_by_default_of_npm.ensures) ∙ c.if-self-is_by_default_of_npm.false

pub returns-in-Excluded-clause-meaning : goal.returns-in-Excluded-clause-meaning
returns-in-Excluded-clause-meaning c = λ v small.
    let here = (goal.at.returns-in-Excluded-clause-meaning c).In_ok-set in
    let p = ended (counts (takes_all c.args.rule) v) (known (takes_all c.args.rule) v c.args.self) in
    c.only_releases.ensures.releases v ∙ ap (λ b. is_empty v.pre && b) (met here v small)
    ∙ ap (λ rule. met_of rule v p) (sym c.in-Excluded.is) ∙ sym (met_is_met c.args.dialect c.args.rule v p (none here))

pub returns-clause-meaning : goal.returns-clause-meaning
returns-clause-meaning c = λ v small.
    let here = (goal.at.returns-clause-meaning c).In_ok-set in
    let p = ended (counts (takes_all c.args.rule) v) (known (takes_all c.args.rule) v c.args.self) in
    met here v small ∙ elim c.in-ByDialect.is [
      | inl e ↦ ap (λ rule. met_of rule v p) (sym e)
      | inr e ↦ ap (λ rule. met_of rule v p) (sym e)
    ] ∙ sym (met_is_met c.args.dialect c.args.rule v p (none here))
