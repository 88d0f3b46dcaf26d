use Rattle.sgml_event_lines.proofs.values.define_for.Goals as goal

pub returns-in-Notation : goal.returns-in-Notation
returns-in-Notation g c = rw c.in-Notation.is c.define_notation.ensures

pub returns-in-Entities : goal.returns-in-Entities
returns-in-Entities g c = rw c.in-Entities.is (rw c.items.ensures at c.define_entities.ensures)
