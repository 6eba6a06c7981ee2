use Rattle.std.proofs.Common.{◌∙◌, subst, sym}
use Rattle.tool_ranges.specs.Meanings.{MeansAs}
use Rattle.requirements.proofs.requirement.reads_back.Goals as goal

pub returns-in-Ok : goal.returns-in-Ok
returns-in-Ok c = λ e.
    let set = c.in-Ok.ensures.refusals.accepted in
    let means = c.in-Ok.ensures.contains in
    let same = sym c.versions.ensures ∙ c.eq.ensures.one_form.0 e ∙ c.versions-in-Ok.ensures in
    record {
      set = rw c.rules.ensures at set;
      means = subst (MeansAs c.args.range.now.meaning c.args.text.now) same (rw c.rules.ensures at means);
    }
