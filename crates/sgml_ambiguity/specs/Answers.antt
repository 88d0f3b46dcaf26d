-- What is said of a model.
use Rattle.std.specs.Prelude.{Option, Some, None}
use Rattle.sgml_model.specs.Term.{Term}
use Rattle.sgml_ambiguity.specs.Ambiguity.{IsAmbiguous, IsUnambiguous}
use Rattle.sgml_ambiguity.specs.Scan.{token}
use Rattle.sgml_ambiguity.specs.declared.ambiguity.Ambiguity.{Ambiguity}

-- nothing exactly where the model is unambiguous; else two tokens of one name that can both come
-- in one term that can be reached
abbrev pub Judges : Term → Option Ambiguity → Type 0
Judges m None = IsUnambiguous m
Judges m (Some a) = IsAmbiguous m (token a.first a.name) (token a.second a.name)
