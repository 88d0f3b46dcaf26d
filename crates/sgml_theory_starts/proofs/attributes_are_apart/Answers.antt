use Rattle.sgml_theory_starts.proofs.Apart.{nothing-is-apart, declared-is-apart, attributes-are-apart}
use Rattle.sgml_theory_starts.proofs.attributes_are_apart.Goals as goal

pub returns-clause-nothing : goal.returns-clause-nothing
returns-clause-nothing c = nothing-is-apart

pub returns-clause-declared : goal.returns-clause-declared
returns-clause-declared c = declared-is-apart

pub returns-clause-attributes : goal.returns-clause-attributes
returns-clause-attributes c = attributes-are-apart
