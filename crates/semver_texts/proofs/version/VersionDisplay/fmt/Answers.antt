use Rattle.std.proofs.Common.{◌++◌, codes, refl, rules}
use Rattle.std.specs.Prelude.{map}
use Rattle.std.specs.List.{join_with_byte}
use Rattle.std.specs.Fmt.{decimal}
use Rattle.semver_texts.specs.Versions.{numbers}
use Rattle.std.proofs.Output.{has_written_append, has_written_of_eq}
use Rattle.semver_texts.specs.declared.version.Identifier.{Identifier}
use Rattle.semver_texts.specs.Texts.{Text, marked}
use Rattle.semver_texts.specs.PrintedText.{identifier_text}
use Rattle.semver_texts.specs.VersionViews.{identifier_value, version_value}
use Rattle.semver_texts.proofs.Joins.{map_view}
use Rattle.semver_texts.proofs.version.VersionDisplay.fmt.Goals as goal

pub returns-clause-writes : goal.returns-clause-writes
returns-clause-writes g c = λ plain ok.
    let shown : Identifier → Text = λ x. identifier_text (identifier_value x) in
    let triple = c.in_ok-write.ensures.writes plain (search rules) in
    let pre = (rw c.deref.ensures.value at (c.in_ok-write_part.ensures shown (λ _. refl))) triple.plain (search rules) in
    let build = (rw c.deref-2.ensures.value at (c.write_part-2.ensures shown (λ _. refl))) pre.plain ok in
    let v = c.args.self.now in
    has_written_of_eq _ _ _ _ _
    (λ i. (join_with_byte 46 (map decimal (numbers (version_value v).plain))
    ++ marked (codes "-") (map_view identifier_text identifier_value v.pre.items i))
    ++ marked (codes "+") (map_view identifier_text identifier_value v.build.items i))
    (has_written_append _ _ _ _ _ _ (has_written_append _ _ _ _ _ _ triple pre) build)
