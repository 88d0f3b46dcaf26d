use Rattle.std.proofs.Common.{sym, ◌∙◌}
use Rattle.std.specs.Option.{option_copied}
use Rattle.sgml_automaton.specs.Automaton.{term_of}
use Rattle.sgml_automaton.proofs.Lists.{step_refused}
use Rattle.sgml_automaton.proofs.automaton.Automaton.step.Goals as goal

pub returns-in_default-clause-answer : goal.returns-in_default-clause-answer
returns-in_default-clause-answer c = step_refused (term_of c.args.self.now c.args.state.now) (option_copied c.args.name) (sym c.next.ensures ∙ c.in_default.is)
