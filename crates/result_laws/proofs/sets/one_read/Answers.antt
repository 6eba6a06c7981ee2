use Rattle.semver_texts.specs.Digits.{digits_in}
use Rattle.semver_ranges.specs.DialectTable.{grammar_of}
use Rattle.std.proofs.Common.{sym, ◌∙◌}
use Rattle.result_laws.proofs.SameSets.{one_read, plainly}
use Rattle.result_laws.proofs.sets.one_read.Goals as goal

pub returns : goal.returns
returns c =
    let r = c.read-first.ensures in
    let s = c.read-second.ensures in
    record {
      one = one_read (digits_in (grammar_of c.args.meaning.dialect)) _ _ r.refusals s.refusals c.results_are_alike.ensures.alike r.digits s.digits r.meaning s.meaning
          (λ text a b p q v fits. p text.0 (plainly v) text.1 fits ∙ sym (q text.0 (plainly v) text.1 fits));
    }
