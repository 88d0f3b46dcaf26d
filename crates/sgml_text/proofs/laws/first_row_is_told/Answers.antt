use Rattle.sgml_text.proofs.Telling.{told-first, first-told, none-told}
use Rattle.sgml_text.proofs.laws.first_row_is_told.Goals as goal

pub returns-clause-told : goal.returns-clause-told
returns-clause-told c s = λ rows reason h. told-first rows reason h

pub returns-clause-holds : goal.returns-clause-holds
returns-clause-holds c s = λ rows reason h. first-told rows reason h

pub returns-clause-none : goal.returns-clause-none
returns-clause-none c s = λ rows h. none-told rows h
