use Rattle.std.proofs.Common.{◌≡◌, Bool, true, false, not, ◌&&◌, ◌||◌, refl, sym, ap, ◌∙◌, get_or, take}
use Rattle.semver_texts.specs.Versions.{PlainVersion}
use Rattle.version_sets.specs.declared.release.Release.{Release}
use Rattle.std.proofs.lemmas.List.Folds.{list_any_more}
use Rattle.std.specs.List.{list_any}
use Rattle.semver_texts.specs.Texts.{is_empty}
use Rattle.version_sets.specs.Steps.Ends.{has_numbers, in_each, in_ranges}
use Rattle.tool_ranges.proofs.sets.push_pre_releases.Goals as goal

nothing_more : (o n h : Bool) → o ≡ (o || (n && (h && false)))
nothing_more true n h = refl
nothing_more false true true = refl
nothing_more false true false = refl
nothing_more false false h = refl

one_more : (o n h s x : Bool) → ((o || (n && (h && s))) || (n && (h && x))) ≡ (o || (n && (h && (s || x))))
one_more true n h s x = refl
one_more false true true s x = refl
one_more false true false s x = refl
one_more false false h s x = refl

pub loop-numbers-init : goal.loop-numbers-init
loop-numbers-init c = (λ v small. nothing_more (in_ranges c.args.ranges.now v) (not (is_empty v.pre)) (in_each c.args.here.now v), λ digits e f. f)

pub loop-numbers-preserved : goal.loop-numbers-preserved
loop-numbers-preserved c =
    let so_far = c.loop-numbers.invariant in
    let none : Release = record { major = 0; minor = 0; patch = 0 } in
    let before = λ (v : PlainVersion). list_any (has_numbers v) (take c.loop-numbers.numbers-index c.args.stated.now) in (
      λ v small. c.in_ok-push_stated.ensures.meaning v small
          ∙ ap (λ b. b || (not (is_empty v.pre) && (in_each c.args.here.now v
          && has_numbers v (get_or c.args.stated.now c.loop-numbers.numbers-index none)))) (so_far.0 v small)
          ∙ one_more (in_ranges c.args.ranges.now v) (not (is_empty v.pre)) (in_each c.args.here.now v) (before v)
          (has_numbers v (get_or c.args.stated.now c.loop-numbers.numbers-index none))
          ∙ ap (λ b. in_ranges c.args.ranges.now v || (not (is_empty v.pre) && (in_each c.args.here.now v && b)))
          (sym (list_any_more (has_numbers v) c.args.stated.now c.loop-numbers.numbers-index none c.loop-numbers-test.true)),
      λ digits e f. c.in_ok-push_stated.ensures.printable digits e (so_far.1 digits e f),
    )
