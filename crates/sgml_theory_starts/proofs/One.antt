-- A start by numbers is one by names.
use Rattle.std.proofs.Common.{ap, Option}
use Rattle.sgml_starts.specs.dtd_elements.Types.{ElementType}
use Rattle.sgml_starts.specs.dtd.Doctypes.{Doctype}
use Rattle.sgml_starts.specs.Starts.{tables_of, definitions_in, list_in}
use Rattle.sgml_starts.specs.Values.{Start}
use Rattle.sgml_declared.specs.theory_reading.Types.{attributes}
use Rattle.sgml_theory_starts.specs.Starts.{Table, StartsAreNamed, StartsAreOne}
use Rattle.sgml_theory_starts.proofs.Refused.{one-reason}
use Rattle.sgml_theory_starts.proofs.Valued.{values-are, currents-are}

abbrev of-type : Doctype → Table → Option ElementType → Start
of-type d table o = record { syntax = d.syntax; tables = tables_of d; definitions = definitions_in d o; list = list_in d o; currents = table }

pub are-named : StartsAreNamed
unfolding attributes
are-named d element t table h = ap (of-type d table) h

pub are-one : StartsAreOne
are-one s n table all ss how proper at_once apart are h = record {
  reason = one-reason s n table all ss how proper at_once apart are h;
  values = λ values none each. values-are s n table all ss how proper at_once values apart are h none each;
  currents = λ values new none each after. currents-are s n table all ss how proper at_once values new apart are h none each after;
}
