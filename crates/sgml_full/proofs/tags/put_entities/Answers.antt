use Rattle.std.proofs.Common.{ℕ, List, sym, ap}
use Rattle.std.specs.Prelude.{map}
use Rattle.sgml_said.specs.theory_reading.Types.{name_of_entity}
use Rattle.sgml_esis.specs.Spelling.{spell_names}
use Rattle.sgml_esis.proofs.Holding.{puts_then, puts_as}
use Rattle.sgml_full.specs.Spelled.{spaced}
use Rattle.sgml_full.proofs.Data.{names_spelled}
use Rattle.sgml_full.proofs.tags.put_entities.Goals as goal

pub returns-in-Some : goal.returns-in-Some
returns-in-Some g c =
    let name : ℕ → List ℕ = name_of_entity c.args.dtd.now in
    puts_as _ _ _ _ _ _ _ _ (sym (ap (λ (numbers : List ℕ). spaced (map name numbers)) (rw c.in-Some.is at c.split_first.ensures.cases).0))
    (puts_then _ _ _ _ _ _ _ _ _ (name c.in-Some.first.now) (spell_names (map name c.in-Some.rest.now)) (puts_as _ _ _ _ _ _ c.entity_name.result.now _ c.entity_name.ensures c.put.ensures) (puts_as _ _ _ _ _ _ _ _ (names_spelled c.args.dtd.now c.in-Some.rest.now) c.put_more_entities.ensures))
