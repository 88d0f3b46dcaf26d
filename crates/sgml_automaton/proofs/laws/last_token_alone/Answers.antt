use Rattle.sgml_automaton.proofs.Reached.{last_alone}
use Rattle.sgml_automaton.proofs.laws.last_token_alone.Goals as goal

pub returns : goal.returns
returns c = last_alone
