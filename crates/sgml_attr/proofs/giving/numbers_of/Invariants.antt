use Rattle.std.proofs.Common.{◌≡◌, take, map}
use Rattle.sgml_attr.specs.Values.{entity_number}
use Rattle.sgml_attr.proofs.giving.numbers_of.Given as goal

abbrev pub invariant-loop-name : goal.invariant-loop-name
invariant-loop-name l = l.numbers.items ≡ map (entity_number l.entities.entities) (take l.name-index l.names)
