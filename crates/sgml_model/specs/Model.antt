-- The terms of models, and of what is left of them.
use Rattle.sgml_model.specs.Term as t
use Rattle.sgml_model.specs.View.{view}
use Rattle.sgml_model.specs.declared.model.Model.{Model}
use Rattle.sgml_model.specs.declared.residual.Residual.{Residual}

abbrev pub model_of : Model → t.Term
model_of m = view m.term

abbrev pub left_of : Residual → t.Term
left_of r = view r.term
