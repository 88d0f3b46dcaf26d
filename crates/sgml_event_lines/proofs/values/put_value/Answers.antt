use Rattle.std.proofs.Common.{◌∷◌, List, ℕ, ap, ◌∙◌, refl}
use Rattle.std.specs.Prelude.{codes, flat_map, map}
use Rattle.sgml_esis.proofs.Holding.{puts_two}
use Rattle.sgml_event_lines.specs.Standing.{unit_bytes}
use Rattle.sgml_theory_reading.specs.Types.{name_of_entity}
use Rattle.sgml_esis.specs.Spelling.{spell_names}
use Rattle.sgml_event_lines.proofs.Bytes.{names_spelled}
use Rattle.sgml_event_lines.proofs.values.put_value.Goals as goal

pub returns-in-Cdata : goal.returns-in-Cdata
returns-in-Cdata g c = rw c.in-Cdata.is (puts_two _ _ _ _ _ _ _ _ _ (codes " CDATA ") (flat_map (unit_bytes c.args.dtd.now) c.items.result.now) (codes " CDATA ") (flat_map (unit_bytes c.args.dtd.now) c.in-Cdata.units) refl (ap (flat_map (unit_bytes c.args.dtd.now)) c.items.ensures) c.put-in-Cdata.ensures c.put_units.ensures)

pub returns-in-Notation : goal.returns-in-Notation
returns-in-Notation g c = rw c.in-Notation.is (puts_two _ _ _ _ _ _ _ _ _ (codes " NOTATION ") c.items-in-Notation.result.now (codes " NOTATION ") c.in-Notation.notation refl c.items-in-Notation.ensures.list c.put-in-Notation.ensures c.put-in-Notation-2.ensures)

pub returns-in-Entities : goal.returns-in-Entities
returns-in-Entities g c =
    let f : ℕ → List ℕ = λ number. 32 ∷ name_of_entity c.args.dtd.now number in
    rw c.in-Entities.is (puts_two _ _ _ _ _ _ _ _ _ (codes " ENTITY") (flat_map f c.items-in-Entities.result.now) (codes " ENTITY") (spell_names (map (name_of_entity c.args.dtd.now) c.in-Entities.numbers)) refl (ap (flat_map f) c.items-in-Entities.ensures ∙ names_spelled c.args.dtd.now c.in-Entities.numbers) c.put-in-Entities.ensures c.put_entity_names.ensures)

pub returns-in-Tokens : goal.returns-in-Tokens
returns-in-Tokens g c = rw c.in-Tokens.is (puts_two _ _ _ _ _ _ _ _ _ (codes " TOKEN") (spell_names c.items-in-Tokens.result.now) (codes " TOKEN") (spell_names c.in-Tokens.tokens) refl (ap spell_names c.items-in-Tokens.ensures) c.put-in-Tokens.ensures c.put_names.ensures)
