use Rattle.std.proofs.Common.{◌∙◌, arith, refl, rules, subst, sym, take}
use Rattle.invalid_strings.specs.VersionCompletions.{byte_completions}
use Rattle.invalid_strings.specs.VersionPrefixes.{IsVersionOf}
use Rattle.invalid_strings.proofs.Completing.{none_left, none_more, room_at}
use Rattle.invalid_strings.proofs.VersionPrefixes.{known}
use Rattle.invalid_strings.proofs.bytes.goes_on.Goals as goal

pub write-requires : goal.write-requires
write-requires c =
    room_at byte_completions c.args.completions.now (λ r. r.now) c.requires.completions (search rules)
    c.loop-completion.completion-index _ c.loop-completion-test.true c.args.end _ (omega arith)

pub loop-completion-preserved : goal.loop-completion-preserved
loop-completion-preserved c =
    let text = rw c.loop-completion.invariant.begins at c.write.ensures.written in
    record {
      begins = c.write.ensures.before ∙ c.loop-completion.invariant.begins;
      none = none_more (IsVersionOf c.args.len c.args.grammar) byte_completions (take c.args.end c.args.buffer.now) c.args.completions.now
          (λ r. r.now) c.requires.completions c.loop-completion.completion-index _ c.loop-completion-test.true
          (λ is. let h = c.is_version.ensures.1 (subst (IsVersionOf c.args.len c.args.grammar) (sym text) is) in cc)
          c.loop-completion.invariant.none;
    }

pub returns-then-is_version : goal.returns-then-is_version
returns-then-is_version c =
    let text = rw c.loop-completion.invariant.begins at c.write.ensures.written in
    record {
      found = (λ yes. (_, subst (IsVersionOf c.args.len c.args.grammar) text (c.is_version.ensures.0 c.if-is_version.true)), λ goes. refl);
      prefix = c.write.ensures.before ∙ c.loop-completion.invariant.begins;
    }

pub returns-clause-found : goal.returns-clause-found
returns-clause-found c =
    let prefix = take c.args.end c.args.buffer.now in (
      λ h. cc,
      λ goes. absurd (none_left (IsVersionOf c.args.len c.args.grammar) byte_completions prefix c.args.completions.now (λ r. r.now)
          c.requires.completions c.loop-completion.completion-index c.loop-completion-test.false c.loop-completion.invariant.none
          ((known c.args.grammar).bytes c.args.len prefix goes.0 goes.1)),
    )
