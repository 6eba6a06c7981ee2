use Rattle.semver_tokens.proofs.Components.{component_decimal, component_text}
use Rattle.semver_tokens.proofs.lexer.component.Goals as goal

pub returns-in-Some : goal.returns-in-Some
returns-in-Some c = component_decimal c.args.run.now c.in-Some.number c.in-Some.ensures.0 c.in-Some.ensures.1

pub returns-in-None : goal.returns-in-None
returns-in-None c = component_text c.args.run.now c.requires.0 c.in-None.ensures
