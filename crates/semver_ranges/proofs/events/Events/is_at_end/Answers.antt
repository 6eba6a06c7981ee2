use Rattle.std.proofs.Common.{◌≡◌, Bool, true, false, ◌&&◌, not, Some, [], ◌∷◌, refl, sym, ◌∙◌}
use Rattle.semver_texts.specs.Texts.{Text, is_empty}
use Rattle.semver_texts.specs.declared.grammar.Grammar.{Grammar}
use Rattle.semver_texts.specs.declared.grammar.Grammar.TheVariants as grammar
use Rattle.semver_ranges.specs.Steps.RangeEvents.{events_left}
use Rattle.semver_ranges.proofs.events.Events.is_at_end.Goals as goal

none_left : (d : Grammar) → events_left d false [] ≡ Some []
none_left grammar.Cargo = refl
none_left grammar.Npm = refl
none_left grammar.Crate = refl

at_end : (d : Grammar) (begins : Bool) (t : Text) → (not begins && is_empty t) ≡ true → events_left d begins t ≡ Some []
at_end d true t e = cc
at_end d false [] e = none_left d
at_end d false (b ∷ t) e = cc

pub returns-in-None : goal.returns-in-None
returns-in-None c = λ d o has is.
    let cursor = c.args.self.now.cursor in
    (rw c.in-None.is at has) ∙ at_end d cursor.begins_range cursor.rest.now (sym c.is_at_end.ensures ∙ is)
