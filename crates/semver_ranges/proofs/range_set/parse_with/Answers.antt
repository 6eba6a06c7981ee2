use Rattle.std.proofs.Common.{◌≡◌, refl, sym, ap, ◌∙◌, subst}
use Rattle.semver_texts.specs.Texts.{Text}
use Rattle.semver_texts.specs.declared.grammar.Grammar.TheVariants.{Crate}
use Rattle.semver_ranges.specs.declared.dialect.Dialect.{Dialect}
use Rattle.semver_ranges.specs.declared.events.Events.{Events}
use Rattle.semver_ranges.specs.declared.range.Compat.{Compat}
use Rattle.semver_ranges.specs.declared.range.Compat.TheVariants as mode
use Rattle.semver_ranges.specs.DialectTable.{grammar_of, mode_of, own_dialect}
use Rattle.semver_ranges.specs.Sides.{term_fits}
use Rattle.semver_ranges.specs.TermComparators.{printed_term}
use Rattle.semver_ranges.specs.Steps.Answers.{IsAnswerBy}
use Rattle.semver_ranges.specs.Steps.CursorViews.{IsBegunIn}
use Rattle.semver_ranges.specs.Steps.RangeEvents.{events}
use Rattle.semver_ranges.proofs.OwnTable.{answered}
use Rattle.semver_ranges.proofs.range_set.parse_with.Goals as goal

own_grammar : (mode : Compat) → grammar_of (own_dialect mode) ≡ Crate
own_grammar mode.Cargo = refl
own_grammar mode.Npm = refl

begun_in : (mode : Compat) (t u : Text) (d : Dialect) (begin : Events) → d ≡ own_dialect mode → IsBegunIn Crate u begin → u ≡ t
    → IsBegunIn (grammar_of d) t begin
begun_in mode t u d begin is begun same =
    subst (λ g. IsBegunIn g t begin) (sym (ap grammar_of is ∙ own_grammar mode)) (subst (λ t. IsBegunIn Crate t begin) same begun)

pub rewrite-requires : goal.rewrite-requires
rewrite-requires c = (
  c.args.input.now,
  begun_in c.args.compat c.args.input.now c.as_bytes.result.now c.of_mode.result c.new-begin.result c.of_mode.ensures c.new-begin.ensures
      c.as_bytes.ensures.value,
)

pub returns : goal.returns
returns c =
    let t = c.args.input.now in
    answered c.args.style c.args.compat t c.rewrite.result
    (subst (λ d. IsAnswerBy (events (grammar_of d) t) (term_fits d) (printed_term c.args.style d) (mode_of d) c.rewrite.result)
    c.of_mode.ensures (c.rewrite.ensures t (begun_in c.args.compat t c.as_bytes.result.now c.of_mode.result c.new-begin.result c.of_mode.ensures
    c.new-begin.ensures c.as_bytes.ensures.value)))
