use Rattle.std.proofs.Common.{◌≡◌, take}
use Rattle.sgml_names.specs.Hashed.{hashes}
use Rattle.sgml_names.proofs.index.slots_of.Given as goal

abbrev pub invariant-loop-entry : goal.invariant-loop-entry
invariant-loop-entry l = l.slots ≡ hashes l.fn.hashing (take l.entry-index l.entries)
