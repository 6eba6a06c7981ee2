use Rattle.std.proofs.Common.{◌++◌, ◌∙◌, ◌∷◌, [], refl, ap, append_assoc, rules}
use Rattle.std.specs.Prelude.{map, codes}
use Rattle.std.specs.Fmt.{decimal}
use Rattle.std.specs.List.{join_with_byte}
use Rattle.std.proofs.Output.{has_written_append, has_written_of_eq}
use Rattle.semver_ranges.specs.declared.range.Identifier.{Identifier}
use Rattle.semver_texts.specs.Texts.{Text, marked}
use Rattle.semver_texts.specs.PrintedText.{identifier_text}
use Rattle.semver_ranges.specs.PrintedRanges.{op_text}
use Rattle.semver_ranges.specs.RangeViews.{identifier_of}
use Rattle.semver_texts.proofs.Joins.{map_view}
use Rattle.semver_ranges.proofs.range.ComparatorDisplay.fmt.Goals as goal

pub returns-clause-writes : goal.returns-clause-writes
returns-clause-writes g c = λ plain ok.
    let s = c.args.self.now in
    let triple = c.in_ok-write.ensures.writes plain (search rules) in
    let pre = (rw c.deref.ensures.value at (c.write_part.ensures (λ (i : Identifier). identifier_text (identifier_of i)) (λ _. refl)))
    triple.plain ok in
    let numbers : Text = join_with_byte 46 (map decimal (s.major ∷ s.minor ∷ s.patch ∷ [])) in
    let whole = append_assoc (op_text s.op) numbers (marked (codes "-")
    (map (λ (i : Identifier). identifier_text (identifier_of i)) s.pre.items))
    ∙ ap (λ l. op_text s.op ++ (numbers ++ marked (codes "-") l)) (map_view identifier_text identifier_of s.pre.items) in
    has_written_of_eq _ _ _ _ _ whole (has_written_append _ _ _ _ _ _ triple pre)
