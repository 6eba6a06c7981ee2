use Rattle.std.proofs.Common.{◌&&◌, sym, ap, ◌∙◌}
use Rattle.semver_parser.specs.Texts.{is_empty}
use Rattle.version_sets.specs.VersionSets.{SetValue, contains}
use Rattle.result_laws.proofs.sets.one_only_releases.Goals as goal

pub returns : goal.returns
returns c =
    record {
      one = c.are_alike.ensures.alike (c.only_releases-first.ensures.digits ∙ ap (λ (s : SetValue). s.digits) c.requires
          ∙ sym c.only_releases-second.ensures.digits) (λ v fits.
          c.only_releases-first.ensures.releases v ∙ ap (λ s. is_empty v.pre && contains s v) c.requires
          ∙ sym (c.only_releases-second.ensures.releases v));
    }
