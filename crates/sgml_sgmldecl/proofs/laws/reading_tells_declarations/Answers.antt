use Rattle.sgml_sgmldecl.proofs.Whole.{declared_read, read_declared, refused_front}
use Rattle.sgml_sgmldecl.proofs.Longest.{longest_refused}
use Rattle.sgml_sgmldecl.proofs.laws.reading_tells_declarations.Goals as goal

pub returns-clause-told : goal.returns-clause-told
returns-clause-told c = λ text n told. (read_declared text n told, λ there. declared_read text n told there.0 there.1)

pub returns-clause-none : goal.returns-clause-none
returns-clause-none c = λ text n. (refused_front text n, λ there. longest_refused text n there.0 there.1)
