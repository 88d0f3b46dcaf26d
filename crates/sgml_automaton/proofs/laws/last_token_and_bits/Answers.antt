use Rattle.sgml_automaton.proofs.Reached.{last_and_bits}
use Rattle.sgml_automaton.proofs.laws.last_token_and_bits.Goals as goal

pub returns : goal.returns
returns c = last_and_bits
