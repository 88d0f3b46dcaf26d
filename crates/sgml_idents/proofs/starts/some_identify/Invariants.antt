use Rattle.std.proofs.Common.{◌≡◌, false, take}
use Rattle.std.specs.List.{list_any}
use Rattle.sgml_idents.specs.Noted.{definition_identifies}
use Rattle.sgml_idents.proofs.starts.some_identify.Given as goal

abbrev pub invariant-loop-definition : goal.invariant-loop-definition
invariant-loop-definition l = list_any definition_identifies (take l.definition-index l.definitions) ≡ false
