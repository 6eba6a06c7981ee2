use Rattle.std.proofs.Common.{rules, inl, inr, refl}
use Rattle.version_sets.specs.declared.PreReleases.TheVariants.{Excluded, Included}
use Rattle.command_line.proofs.options.MeaningOptions.take.Goals as goal
use Rattle.command_line.proofs.options.MeaningOptions.take.Goals.{in-text-2+in_ok-set_dialect-in-text-2, in_default-argument+in-text-4+in_ok-set_pre_releases-in-text-4, in_default-argument+in-text-3+in_ok-set_pre_releases-in-text-3, in-text2}

pub returns-clause-rule : goal.returns-clause-rule
returns-clause-rule c = λ rule option is free none. elim is [
  | inl e ↦ elim e.2 [
    | inl a ↦ search rules
    | inr a ↦ search rules
  ]
  | inr e ↦ elim e.2 [
    | inl a ↦ search rules
    | inr a ↦ search rules
  ]
]

pub returns-clause-rule_twice : goal.returns-clause-rule_twice
returns-clause-rule_twice c = λ rule option earlier is free some. elim is [
  | inl e ↦ elim e.2 [
    | inl a ↦ search rules
    | inr a ↦ search rules
  ]
  | inr e ↦ elim e.2 [
    | inl a ↦ search rules
    | inr a ↦ search rules
  ]
]

pub returns-in_err-set_pre_releases-in-text-4-clause-left : goal.returns-in_err-set_pre_releases-in-text-4-clause-left
returns-in_err-set_pre_releases-in-text-4-clause-left c = λ free other. absurd (other (inr (inr (inl (Included, _, inr (refl, refl, c.in-text-4.is))))))

pub returns-in_err-set_pre_releases-in-text-3-clause-left : goal.returns-in_err-set_pre_releases-in-text-3-clause-left
returns-in_err-set_pre_releases-in-text-3-clause-left c = λ free other. absurd (other (inr (inr (inl (Excluded, _, inl (refl, refl, c.in-text-3.is))))))

pub returns-clause-left : goal.returns-clause-left
returns-clause-left c = λ free other. elim c.match-argument.branch [
  | in-text-2+in_ok-set_dialect-in-text-2 w ↦ absurd (other (inr (inl w.in-text-2.is)))
  | in_default-argument+in-text-4+in_ok-set_pre_releases-in-text-4 w ↦ absurd (other (inr (inr (inl (Included, _, inr (refl, refl, w.in-text-4.is))))))
  | in_default-argument+in-text-3+in_ok-set_pre_releases-in-text-3 w ↦ absurd (other (inr (inr (inl (Excluded, _, inl (refl, refl, w.in-text-3.is))))))
  | in-text2 w ↦ absurd (other (inl w.in-text.is))
]
