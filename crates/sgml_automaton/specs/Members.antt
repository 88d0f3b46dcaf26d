-- The members of a group, as terms.
use Rattle.std.specs.Prelude.{List, map}
use Rattle.sgml_model.specs.Term.{Terms}
use Rattle.sgml_model.specs.View.{view, terms}
use Rattle.sgml_model.specs.declared.term.Term.{Term}

abbrev pub terms_of : List Term → Terms
terms_of ms = terms (map view ms)
