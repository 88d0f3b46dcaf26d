use Rattle.std.proofs.Common.{◌≡◌, take}
use Rattle.sgml_names.specs.Naming.{general_names}
use Rattle.sgml_names.proofs.names.general_names.Given as goal

abbrev pub invariant-loop-name : goal.invariant-loop-name
invariant-loop-name l = l.all.items ≡ general_names l.syntax (take l.name-index l.names)
