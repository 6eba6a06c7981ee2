use Rattle.std.proofs.Common.{◌∙◌, ap, map, sym}
use Rattle.std.proofs.lemmas.List.{take_all}
use Rattle.semver_texts.specs.Digits.{as_kept, identifier_by}
use Rattle.semver_texts.specs.VersionViews.{identifier_value}
use Rattle.version_sets.proofs.DigitLaws.{kept_each}
use Rattle.version_sets.proofs.comparators.copied.Goals as goal

pub returns : goal.returns
returns c =
    let xs = c.args.identifiers.now in
    c.loop-identifier.invariant
    ∙ ap (map (λ x. as_kept (identifier_by c.args.digits (identifier_value x))))
    (take_all c.loop-identifier.identifier-index xs c.loop-identifier-test.false)
    ∙ sym (kept_each identifier_value c.args.digits xs)
