use Rattle.std.proofs.Common.{◌≡◌, drop}
use Rattle.sgml_names.specs.Index.{found}
use Rattle.sgml_names.proofs.index.among_few.Given as goal

abbrev pub invariant-loop-entry : goal.invariant-loop-entry
invariant-loop-entry l = found (drop l.entry-index l.entries) l.name ≡ found l.entries l.name
