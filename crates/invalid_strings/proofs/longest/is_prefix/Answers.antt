use Rattle.std.proofs.Common.{◌∙◌, [], arith, refl, subst, sym}
use Rattle.std.proofs.lemmas.Str.{IsUtf8-nil}
use Rattle.invalid_strings.proofs.Completing.{goes_on, none_left, none_more, room_at}
use Rattle.invalid_strings.proofs.longest.is_prefix.Goals as goal

pub complete-requires : goal.complete-requires
complete-requires g c =
    let l = g.L.Language in
    record {
      held = c.loop-completion.invariant.held;
      room = room_at (l.completions c.args.language.now)
          c.all_completions-completion-items.result.now (λ r. r.now) c.all_completions-completion-items.ensures
          c.requires.short c.loop-completion.completion-index _ c.loop-completion-test.true _ _ (omega arith);
    }

pub loop-completion-init : goal.loop-completion-init
loop-completion-init g c =
    record {
      held = record { more = []; utf8 = IsUtf8-nil; is = c.join.ensures.joined };
      room = c.join.ensures.room;
      none = λ k below. absurd (omega arith);
    }

pub loop-completion-preserved : goal.loop-completion-preserved
loop-completion-preserved g c =
    let l = g.L.Language in
    let text = c.as_str.ensures.value ∙ c.complete.ensures.completed in
    record {
      held = c.complete.ensures.held;
      room = omega arith;
      none = none_more (l.is_text c.args.language.now) (l.completions c.args.language.now)
          c.args.prefix.now c.all_completions-completion-items.result.now (λ r. r.now) c.all_completions-completion-items.ensures
          c.loop-completion.completion-index _ c.loop-completion-test.true
          (λ is. let h = c.contains.ensures.1 (subst (l.is_text c.args.language.now) (sym text) is) in cc) c.loop-completion.invariant.none;
    }

pub returns-then-contains-clause-found : goal.returns-then-contains-clause-found
returns-then-contains-clause-found g c =
    let l = g.L.Language in
    let text = c.as_str.ensures.value ∙ c.complete.ensures.completed in (
      λ found. goes_on (l.is_text c.args.language.now) (l.completions c.args.language.now)
          c.args.prefix.now c.all_completions-completion-items.result.now (λ r. r.now) c.all_completions-completion-items.ensures
          c.loop-completion.completion-index _ c.loop-completion-test.true
          (subst (l.is_text c.args.language.now) text (c.contains.ensures.0 c.if-contains.true)),
      λ goes. refl,
    )

pub returns-clause-found : goal.returns-clause-found
returns-clause-found g c =
    let l = g.L.Language in (
      λ h. cc,
      λ goes. absurd (none_left (l.is_text c.args.language.now) (l.completions c.args.language.now)
          c.args.prefix.now c.all_completions-completion-items.result.now (λ r. r.now) c.all_completions-completion-items.ensures
          c.loop-completion.completion-index c.loop-completion-test.false c.loop-completion.invariant.none goes),
    )
