-- Each </> and each NET that is spelled has the type that it has there.
use Rattle.sgml_theory_worked.specs.theory_reading.Pieces.{Kind, End, Short, Net}
use Rattle.sgml_theory_worked.specs.theory_reading.Unread.{Outside}
use Rattle.sgml_theory_worked.specs.theory_reading.State.{State}
use Rattle.sgml_theory_kinds.specs.theory_spelling.Stacked.{Stacked, stacked}
use Rattle.sgml_theory_kinds.specs.theory_spelling.Spelled.{forms}
use Rattle.sgml_theory_kinds.specs.Kinds.{HasItsPlace}
use Rattle.sgml_theory_kinds.proofs.Placed.{spelled-pieces-have-their-places}
use Rattle.sgml_theory_written.specs.Standing.{HasItsType, TypesItsEnds}

has-its-type : (outside : Outside) (s : State) (t : Stacked) (k : Kind) → HasItsPlace outside s t k → HasItsType s.context k
has-its-type outside s t (End n Short) h = h
has-its-type outside s t (End n Net) h = h
has-its-type outside s t _ h = tt

pub types-its-ends : TypesItsEnds forms
types-its-ends outside s t p e = has-its-type outside s (stacked t) p.kind (spelled-pieces-have-their-places outside s t p e)
