use Rattle.sgml_theory_again.proofs.Texts.{allowed-text}
use Rattle.sgml_theory_again.proofs.Standing.{start-mode}
use Rattle.sgml_theory_again.proofs.what_is_allowed_has_its_place.Goals as goal

pub returns-clause-text : goal.returns-clause-text
returns-clause-text c = allowed-text

pub returns-clause-starts : goal.returns-clause-starts
returns-clause-starts c = λ s n a. start-mode s.context n a
