use Rattle.std.proofs.Common.{◌≡◌, drop}
use Rattle.sgml_catalog.specs.Resolving.{declaration_of}
use Rattle.sgml_catalog.proofs.catalog.Catalog.sgmldecl.Given as goal

abbrev pub invariant-loop-entry : goal.invariant-loop-entry
invariant-loop-entry l = declaration_of (drop l.entry-index l.entry-items) ≡ declaration_of l.entry-items
