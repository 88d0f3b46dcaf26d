use Rattle.std.proofs.Common.{◌≡◌, true, take}
use Rattle.std.specs.List.{list_all}
use Rattle.sgml_starts.specs.Plain.{is_listed}
use Rattle.sgml_starts.proofs.listed.are_listed.Given as goal

abbrev pub invariant-loop-name : goal.invariant-loop-name
invariant-loop-name l = list_all (is_listed l.syntax l.declared) (take l.name-index l.names) ≡ true
