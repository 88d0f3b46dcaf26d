use Rattle.std.proofs.Common.{◌≡◌, take, true}
use Rattle.std.specs.List.{list_all}
use Rattle.sgml_full.specs.Events.{is_spelled}
use Rattle.sgml_full.proofs.full.first_unspelled.Given as goal

abbrev pub invariant-loop-index : goal.invariant-loop-index
invariant-loop-index l = list_all is_spelled (take l.index l.events) ≡ true
