use Rattle.sgml_attr.proofs.Parting.{parts-are, parts-only, parts-kept}
use Rattle.sgml_attr.proofs.laws.parts_stand_between_spaces.Goals as goal

pub returns-clause-are : goal.returns-clause-are
returns-clause-are c = λ units. parts-are units

pub returns-clause-only : goal.returns-clause-only
returns-clause-only c = λ ps units h. parts-only ps units h

pub returns-clause-kept : goal.returns-clause-kept
returns-clause-kept c = λ units. parts-kept units
