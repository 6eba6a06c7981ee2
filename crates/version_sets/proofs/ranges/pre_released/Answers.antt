use Rattle.std.proofs.Common.{◌≡◌, ap, is_ge, not, ◌&&◌, ◌∙◌, refl}
use Rattle.std.specs.Prelude.{option_map}
use Rattle.semver_texts.specs.Precedence.{precedence}
use Rattle.semver_texts.specs.Versions.{PlainVersion}
use Rattle.version_sets.specs.Steps.Cuts.{is_past_lower, is_past_upper}
use Rattle.version_sets.specs.Steps.EndPlaces.{end_place}
use Rattle.version_sets.specs.Steps.Spans.{reached}
use Rattle.version_sets.specs.VersionSets.{IsPreRelease}
use Rattle.version_sets.proofs.KindLaws.{pre_release_lowest}
use Rattle.version_sets.proofs.ranges.pre_released.Goals as goal
use Rattle.version_sets.proofs.ranges.pre_released.Goals.{Joined-interval-2, in-Some, in-None, in-Some-upper, in-None-upper}

lower : (c : Joined-interval-2) (v : PlainVersion) → IsPreRelease v
    → reached precedence (option_map end_place c.match-interval.from) v ≡ is_past_lower c.args.digits c.args.interval.now.lower v
lower c v kind = elim c.match-interval.branch [
  | in-Some w ↦ rw (w.from-is, w.in-Some.is) (w.first-from.ensures.meaning v kind)
  | in-None w ↦ rw (w.from-is, w.in-None.is) (ap (λ p. is_ge (precedence v p)) w.lowest.ensures.place ∙ pre_release_lowest _ v refl kind.1 refl)
]

upper : (c : Joined-interval-2) (v : PlainVersion) → IsPreRelease v
    → reached precedence (option_map end_place c.match-interval-2.to) v ≡ is_past_upper c.args.digits c.args.interval.now.upper v
upper c v kind = elim c.match-interval-2.branch [
  | in-Some-upper w ↦ rw (w.to-is, w.in-Some-upper.is) (w.first-to.ensures.meaning v kind)
  | in-None-upper w ↦ rw (w.to-is, w.in-None-upper.is) refl
]

pub returns-clause-meaning : goal.returns-clause-meaning
returns-clause-meaning c = λ v kind i. lower c v kind i && not (upper c v kind i)
