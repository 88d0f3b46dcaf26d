use Rattle.std.proofs.Common.{length, ◌-◌, ◌≤◌, take}
use Rattle.sgml_io.specs.Pieces.{HasMade}
use Rattle.sgml_storage.proofs.Fronts.{AreShorter}
use Rattle.sgml_storage.proofs.storage.stored.Given as goal

-- no front so far has made so many
abbrev pub invariant-loop-count : goal.invariant-loop-count
invariant-loop-count l = record {
  within : l.count ≤ length l.bytes;
  made : HasMade l.reader (take l.count l.bytes) l.text.items;
  shorter : AreShorter l.bytes l.n l.count;
}

abbrev pub decreases-loop-count : goal.decreases-loop-count
decreases-loop-count l = length l.bytes - l.count
