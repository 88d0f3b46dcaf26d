use Rattle.std.proofs.Common.{◌≡◌, false, take}
use Rattle.sgml_attr.specs.Rows.{passes_namelen}
use Rattle.sgml_attr.proofs.rows.passes_namelen.Given as goal

abbrev pub invariant-loop-name : goal.invariant-loop-name
invariant-loop-name l = passes_namelen l.syntax (take l.name-index l.names) ≡ false
