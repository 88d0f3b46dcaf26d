use Rattle.sgml_theory_prologs.proofs.AtBorder.{nothing-is-open, instructions-are-told}
use Rattle.sgml_theory_prologs.proofs.nothing_is_open.Goals as goal

pub returns-clause-nothing : goal.returns-clause-nothing
returns-clause-nothing c = nothing-is-open

pub returns-clause-told : goal.returns-clause-told
returns-clause-told c = instructions-are-told
