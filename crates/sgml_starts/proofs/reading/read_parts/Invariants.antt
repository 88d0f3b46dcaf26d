use Rattle.std.proofs.Common.{◌<◌, length}
use Rattle.sgml_markup.specs.Walks.{parts_left, StandsIn}
use Rattle.sgml_starts.proofs.Walked.{IsReading}
use Rattle.sgml_starts.proofs.reading.read_parts.Given as goal

abbrev pub invariant-parts : goal.invariant-parts
invariant-parts l = record {
  stands : StandsIn l.tag l.walk;
  some : 0 < length l.stack.places;
  reading : IsReading (record { syntax = l.syntax; tables = l.entities; texts = l.texts; stack = l.fn.stack }) l.tag l.name l.specs.items l.stack (parts_left l.syntax l.tag l.walk);
}

abbrev pub decreases-parts : goal.decreases-parts
decreases-parts l = length (parts_left l.syntax l.tag l.walk)
