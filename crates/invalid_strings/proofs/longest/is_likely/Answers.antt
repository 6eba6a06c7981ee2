use Rattle.std.proofs.Common.{◌<◌, ◌∙◌, arith, length, subst}
use Rattle.invalid_strings.proofs.Completing.{as_long, goes_on, room_at}
use Rattle.invalid_strings.proofs.longest.is_likely.Goals as goal

pub bounds-completions-likely : goal.bounds-completions-likely
bounds-completions-likely g c =
    omega (
      arith,
      as_long (g.L.Language.completions c.args.language.now) c.all_completions-completions.result.now (λ r. r.now)
          c.all_completions-completions.ensures,
    )

pub join-requires : goal.join-requires
join-requires g c =
    let l = g.L.Language in
    let refs = c.all_completions-completions.result.now in
    let inside : c.likely.result < length refs =
    omega (arith, as_long (l.completions c.args.language.now) refs (λ r. r.now) c.all_completions-completions.ensures) in
    room_at (l.completions c.args.language.now) refs (λ r. r.now) c.all_completions-completions.ensures
    c.requires.short c.likely.result _ inside _ _ (omega arith)

pub returns-clause-found : goal.returns-clause-found
returns-clause-found g c is =
    let l = g.L.Language in
    let refs = c.all_completions-completions.result.now in
    let inside : c.likely.result < length refs =
    omega (arith, as_long (l.completions c.args.language.now) refs (λ r. r.now) c.all_completions-completions.ensures) in
    goes_on (l.is_text c.args.language.now) (l.completions c.args.language.now) c.args.prefix.now refs (λ r. r.now)
    c.all_completions-completions.ensures c.likely.result _ inside
    (subst (l.is_text c.args.language.now) (c.as_str.ensures.value ∙ c.join.ensures.joined) (c.contains.ensures.0 is))
