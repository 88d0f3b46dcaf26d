use Rattle.std.proofs.Common.{[], ◌∷◌, ◌++◌, ap, refl}
use Rattle.sgml_esis.proofs.Holding.{puts_as}
use Rattle.sgml_theory_reading.specs.Types.{name_of_entity}
use Rattle.sgml_event_lines.specs.Standing.{text_bytes}
use Rattle.sgml_theory_reading.specs.Lines.{DataRefLine}
use Rattle.sgml_event_lines.proofs.Placing.{instruction_put, defines_one}
use Rattle.sgml_event_lines.proofs.values.put_lines.Goals as goal

pub returns-in-Pi : goal.returns-in-Pi
returns-in-Pi g c = rw c.in-Pi.is (instruction_put c.args.dtd.now c.in-Pi.text _ _ c.args.pen.now _ _ _ (puts_as _ _ _ _ _ _ (63 ∷ text_bytes c.items.result.now ++ 10 ∷ []) _ (ap (λ v. 63 ∷ text_bytes v ++ 10 ∷ []) c.items.ensures) c.put_text_line.ensures) (record { entities = refl; notations = refl }))

pub returns-in-DataRef : goal.returns-in-DataRef
returns-in-DataRef g c = rw c.in-DataRef.is (defines_one c.args.dtd.now (DataRefLine (name_of_entity c.args.dtd.now c.in-DataRef.entity)) _ _ _ _ _ _ c.put_reference.ensures)
