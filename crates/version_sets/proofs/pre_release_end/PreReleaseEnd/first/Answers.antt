use Rattle.std.proofs.Common.{◌≡◌, false, ap, is_ge, is_gt, map, ◌∙◌, rules}
use Rattle.std.specs.Prelude.{Some}
use Rattle.semver_texts.specs.Digits.{plain_by}
use Rattle.semver_texts.specs.Precedence.{precedence}
use Rattle.semver_texts.specs.Texts.{cut_at_dots, is_empty}
use Rattle.semver_ranges.specs.Partials.{kept}
use Rattle.version_sets.specs.Releases.{release_value}
use Rattle.version_sets.proofs.NumberLaws.{from-lowest}
use Rattle.version_sets.proofs.EndLaws.{by_first, end_prints, past_end}
use Rattle.version_sets.proofs.pre_release_end.PreReleaseEnd.first.Goals as goal

pub returns-in-Below-clause-meaning : goal.returns-in-Below-clause-meaning
returns-in-Below-clause-meaning c = λ v kind. rw c.in-Below.is
    (ap (λ p. is_ge (precedence v p)) c.lowest.ensures.place ∙ from-lowest (Some c.args.cut.now.numbers) v kind.1
    ∙ ap is_ge (by_first v (release_value c.args.cut.now.numbers)))

pub returns-in-At-clause-printable : goal.returns-in-At-clause-printable
returns-in-At-clause-printable c =
    let some : is_empty (map kept (cut_at_dots c.args.cut.now.pre.now)) ≡ false = search rules in
    let l = c.beside.result in
    end_prints l c.args.digits c.beside.ensures.digits
    (ap (λ t. is_empty (map kept (cut_at_dots t))) c.beside.ensures.pre ∙ some) (search rules)

pub returns-in-Past-clause-meaning : goal.returns-in-Past-clause-meaning
returns-in-Past-clause-meaning c = λ v kind.
    let some : is_empty (map kept (cut_at_dots c.args.cut.now.pre.now)) ≡ false = search rules in
    let l = c.beside-in-Past.result in
    rw c.in-Past.is (past_end l c.args.digits c.beside-in-Past.ensures.digits
    (ap (λ t. is_empty (map kept (cut_at_dots t))) c.beside-in-Past.ensures.pre ∙ some) c.beside-in-Past.ensures.successor v kind.1
    ∙ (λ i. is_gt (precedence v (plain_by c.args.digits (record (release_value (c.beside-in-Past.ensures.numbers i)) {
      pre = map kept (cut_at_dots (c.beside-in-Past.ensures.pre i));
    })))))

pub returns-in-Past-clause-printable : goal.returns-in-Past-clause-printable
returns-in-Past-clause-printable c =
    let some : is_empty (map kept (cut_at_dots c.args.cut.now.pre.now)) ≡ false = search rules in
    end_prints c.beside-in-Past.result c.args.digits c.beside-in-Past.ensures.digits
    (ap (λ t. is_empty (map kept (cut_at_dots t))) c.beside-in-Past.ensures.pre ∙ some) (search rules)
