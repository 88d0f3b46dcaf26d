use Rattle.std.proofs.Common.{◌≡◌, false, take}
use Rattle.std.specs.List.{list_any}
use Rattle.sgml_theory_reading.specs.Types.{is_required}
use Rattle.sgml_infer.proofs.element.any_required.Given as goal

abbrev pub invariant-loop-definition : goal.invariant-loop-definition
invariant-loop-definition l = list_any is_required (take l.definition-index l.definitions) ≡ false
