use Rattle.std.proofs.Common.{take}
use Rattle.sgml_catalog.specs.Keys.{IsIndexOf}
use Rattle.sgml_catalog.proofs.noting.index_of.Given as goal

abbrev pub invariant-loop-number : goal.invariant-loop-number
invariant-loop-number l = IsIndexOf l.index (take l.number l.entries)
