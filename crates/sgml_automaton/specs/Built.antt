-- What `build` answers.
use Rattle.sgml_model.specs.Term.{Term}
use Rattle.sgml_ambiguity.specs.Ambiguity.{IsAmbiguous}
use Rattle.sgml_ambiguity.specs.Scan.{token}
use Rattle.sgml_automaton.specs.declared.building.BuildError.{BuildError}
use Rattle.sgml_automaton.specs.declared.building.BuildError.TheVariants.{Memory, Ambiguous}

-- the refusal names two tokens of one name that can both come in one term that can be reached
abbrev pub Refuses : Term → BuildError → Type 0
Refuses m Memory = Unit {0}
Refuses m (Ambiguous first second name) = IsAmbiguous m (token first name) (token second name)
