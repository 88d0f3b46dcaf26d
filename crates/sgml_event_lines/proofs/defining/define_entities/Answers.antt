use Rattle.std.proofs.Common.{ap, get_or, take, take_all}
use Rattle.std.specs.Prelude.{map}
use Rattle.std.proofs.lemmas.List.{get_or_default}
use Rattle.sgml_theory_reading.specs.Types.{name_of_entity}
use Rattle.sgml_theory_reading.specs.Lines.{define_entities}
use Rattle.sgml_event_lines.proofs.Placing.{entity_put, defines_as}
use Rattle.sgml_event_lines.proofs.defining.define_entities.Goals as goal

pub loop-number-preserved : goal.loop-number-preserved
loop-number-preserved g c =
    entity_put c.args.dtd.now c.args.numbers.now c.loop-number.number-index (get_or c.args.numbers.now c.loop-number.number-index 0) _ _ _ _ _ _ _ _ _ c.loop-number-test.true
    (get_or_default c.args.numbers.now c.loop-number.number-index 0 (get_or c.args.numbers.now c.loop-number.number-index 0) c.loop-number-test.true)
    c.loop-number.invariant (rw c.entity_name.ensures at c.define_entity.ensures)

pub returns : goal.returns
returns g c =
    defines_as c.args.dtd.now (λ known. define_entities c.args.dtd.now known (map (name_of_entity c.args.dtd.now) (take c.loop-number.number-index c.args.numbers.now))) (λ known. define_entities c.args.dtd.now known (map (name_of_entity c.args.dtd.now) c.args.numbers.now)) _ _ _ _ _ _
    (λ known. ap (λ xs. define_entities c.args.dtd.now known (map (name_of_entity c.args.dtd.now) xs)) (take_all c.loop-number.number-index c.args.numbers.now c.loop-number-test.false))
    c.loop-number.invariant
