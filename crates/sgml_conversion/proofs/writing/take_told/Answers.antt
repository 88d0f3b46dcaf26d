use Rattle.sgml_conversion.proofs.writing.take_told.Goals as goal

pub returns-in-Ok-clause-takes : goal.returns-in-Ok-clause-takes
returns-in-Ok-clause-takes g c = rw c.deref.ensures.value at c.in-Ok.ensures.takes

pub returns-in-Err-clause-takes : goal.returns-in-Err-clause-takes
returns-in-Err-clause-takes g c = rw c.deref.ensures.value at c.in-Err.ensures.takes
