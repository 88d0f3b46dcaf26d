use Rattle.std.proofs.Common.{◌≡◌, drop, map}
use Rattle.sgml_text.specs.Characters.{upper}
use Rattle.sgml_names.specs.Index.{found}
use Rattle.sgml_names.proofs.index.folded_among_few.Given as goal

abbrev pub invariant-loop-entry : goal.invariant-loop-entry
invariant-loop-entry l = found (drop l.entry-index l.entries) (map upper l.spelled) ≡ found l.entries (map upper l.spelled)
