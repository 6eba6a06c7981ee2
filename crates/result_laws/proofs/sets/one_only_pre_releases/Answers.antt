use Rattle.std.proofs.Common.{◌&&◌, not, sym, ap, ◌∙◌}
use Rattle.semver_parser.specs.Texts.{is_empty}
use Rattle.version_sets.specs.VersionSets.{SetValue, contains}
use Rattle.result_laws.proofs.sets.one_only_pre_releases.Goals as goal

pub returns : goal.returns
returns c =
    record {
      one = c.are_alike.ensures.alike (c.only_pre_releases-first.ensures.digits ∙ ap (λ (s : SetValue). s.digits) c.requires
          ∙ sym c.only_pre_releases-second.ensures.digits) (λ v fits.
          c.only_pre_releases-first.ensures.pre_releases v ∙ ap (λ s. not (is_empty v.pre) && contains s v) c.requires
          ∙ sym (c.only_pre_releases-second.ensures.pre_releases v));
    }
