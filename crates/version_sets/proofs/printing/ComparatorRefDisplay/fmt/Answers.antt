use Rattle.std.proofs.Common.{◌++◌, ◌∙◌, ◌∷◌, [], refl, ap, sym, append_assoc, rules}
use Rattle.std.specs.Prelude.{map, codes}
use Rattle.std.specs.Fmt.{decimal}
use Rattle.std.specs.List.{join_with_byte}
use Rattle.std.proofs.Output.{has_written_append, has_written_of_eq}
use Rattle.semver_ranges.specs.PrintedRanges.{op_text}
use Rattle.semver_texts.proofs.Joins.{map_view}
use Rattle.semver_texts.specs.PrintedText.{identifier_text}
use Rattle.semver_texts.specs.Texts.{Text, marked}
use Rattle.semver_texts.specs.VersionViews.{identifier_value}
use Rattle.semver_texts.specs.declared.version.Identifier.{Identifier}
use Rattle.version_sets.proofs.WrittenSets.{same_texts}
use Rattle.version_sets.proofs.printing.ComparatorRefDisplay.fmt.Goals as goal

pub returns-clause-writes : goal.returns-clause-writes
returns-clause-writes g c = λ plain ok.
    let s = c.args.self.now in
    let triple = c.in_ok-write.ensures.writes plain (search rules) in
    let pre = c.write_part.ensures (λ (i : Identifier). identifier_text (identifier_value i)) (λ _. refl) triple.plain ok in
    let numbers : Text = join_with_byte 46 (map decimal (s.numbers.major ∷ s.numbers.minor ∷ s.numbers.patch ∷ [])) in
    let whole = append_assoc (op_text s.op) numbers (marked (codes "-")
    (map (λ (i : Identifier). identifier_text (identifier_value i)) s.pre.now))
    ∙ ap (λ l. op_text s.op ++ (numbers ++ marked (codes "-") l))
    (map_view identifier_text identifier_value s.pre.now ∙ sym (same_texts s.digits (map identifier_value s.pre.now))) in
    has_written_of_eq _ _ _ _ _ whole (has_written_append _ _ _ _ _ _ triple pre)
