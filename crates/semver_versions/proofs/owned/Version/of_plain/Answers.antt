use Rattle.std.proofs.Common.{rules, refl, ◌∙◌, map}
use Rattle.semver_texts.specs.PrintedText.{identifier_text}
use Rattle.semver_texts.specs.VersionViews.{version_value}
use Rattle.semver_versions.proofs.PrintedPre.{no_build, part_texts}
use Rattle.semver_versions.proofs.owned.Version.of_plain.Goals as goal

pub invariant_of-borrowed : goal.invariant_of-borrowed
invariant_of-borrowed c =
    let v = version_value c.args.original.now in
    let is = c.printed_pre.ensures v.plain (search rules, (search rules, (search rules, tt)))
    (c.deref.ensures ∙ c.in_ok-printed.ensures.ok ∙ no_build v c.requires.no_build) in
    (rw is (part_texts (map identifier_text v.plain.pre) c.requires.parts), refl)

pub returns : goal.returns
returns c =
    let v = version_value c.args.original.now in
    let is = c.printed_pre.ensures v.plain (search rules, (search rules, (search rules, tt)))
    (c.deref.ensures ∙ c.in_ok-printed.ensures.ok ∙ no_build v c.requires.no_build) in
    record { same = rw is at c.owned.ensures.same }
