use Rattle.std.proofs.Common.{◌≡◌, ◌++◌, map, drop}
use Rattle.sgml_model.specs.View.{view, terms}
use Rattle.sgml_ambiguity.specs.Once.{hashes_of}
use Rattle.sgml_ambiguity.proofs.once.+note.Given as goal

abbrev pub invariant-note_all-loop-i : goal.invariant-note_all-loop-i
invariant-note_all-loop-i l = l.hashes ≡ l.fn.hashes ++ hashes_of (terms (map view (drop l.i l.members)))
