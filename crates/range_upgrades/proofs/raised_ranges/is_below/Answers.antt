use Rattle.std.proofs.Common.{◌≡◌, Bool, Err, true, false, not, ap, refl, sym, ◌∙◌, true≢false}
use Rattle.version_sets.specs.declared.rules.PreReleases.TheVariants.{Included}
use Rattle.tool_ranges.specs.declared.meaning.Rules.{Rules}
use Rattle.range_upgrades.proofs.Satisfied.{no_set, range_has}
use Rattle.range_upgrades.proofs.raised_ranges.is_below.Goals as goal

pub returns-in-Ok : goal.returns-in-Ok
returns-in-Ok c =
    let m : Rules = record { dialect = c.args.dialect; pre_releases = Included } in
    let is = c.in-Ok.ensures.refusals.accepted in
    let has = range_has c.one_tree.ensures.same_tree m c.args.term.now c.args.version.now c.requires is c.in-Ok.has c.in-Ok.ensures.has in (
      λ e. (is, λ some. true≢false (sym (has.1 some) ∙ flip c.in-Ok.has e)),
      λ below. other c.in-Ok.has (λ e. below.1 (has.0 e)),
    )
  where
    flip : (b : Bool) → not b ≡ true → b ≡ false
    flip true e = cc
    flip false e = refl

    other : (b : Bool) → ¬ (b ≡ true) → not b ≡ true
    other true isnt = absurd (isnt refl)
    other false isnt = refl

pub returns-in-Err : goal.returns-in-Err
returns-in-Err c = (
  λ e. cc,
  λ below. absurd (no_set c.one_tree.ensures.same_tree c.args.dialect c.args.term.now c.in-Err.field-0 c.in-Err.ensures.refusals
      (λ e. c.in-Err.ensures.no_memory (ap Err e)) below.0),
)
