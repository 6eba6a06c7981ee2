use Rattle.std.proofs.Common.{refl, rules, subst, sym, ◌∙◌}
use Rattle.semver_versions.specs.VersionRefs.{version_of}
use Rattle.range_upgrades.specs.RaisedRanges.{IsBelow}
use Rattle.range_upgrades.proofs.RaisedTerms.{one_part}
use Rattle.range_upgrades.proofs.raised_ranges.is_to_raise.Goals as goal

pub returns-in-Some : goal.returns-in-Some
returns-in-Some c = (
  λ e. record {
    in_last = search rules;
    bounds = sym c.is_lower_bound.ensures ∙ c.if-is_lower_bound.false;
    term = c.in-Some.text.now;
    alone = c.in-Some.ensures.some;
    below = c.is_below.ensures.0 e;
  },
  λ raise. c.is_below.ensures.1 (subst (λ t. IsBelow c.args.dialect t (version_of c.args.version.now).plain)
      (one_part raise.alone c.in-Some.ensures.some) raise.below),
)

pub returns-in-None : goal.returns-in-None
returns-in-None c = (λ e. cc, λ raise. absurd (c.in-None.ensures.none refl raise.term raise.alone))
