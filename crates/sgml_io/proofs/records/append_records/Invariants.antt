use Rattle.std.proofs.Common.{◌≡◌, ◌≤◌, ◌++◌, ℕ, List, length, drop, take}
use Rattle.memchr.specs.Find.{is_byte2, places_between}
use Rattle.sgml_io.specs.Records.{records_from}
use Rattle.sgml_io.proofs.records.append_records.Given as goal

abbrev pub invariant-ends : goal.invariant-ends
invariant-ends l = record {
  within : l.done ≤ length l.bytes;
  left : l.ends ≡ places_between (is_byte2 13 10) l.bytes l.done (length l.bytes);
  made : (rest : List ℕ) → l.text.items ++ records_from l.edge.0 l.edge.1 (drop l.done l.bytes ++ rest) ≡ l.fn.text.items ++ records_from l.start l.cr (l.bytes ++ rest);
  kept : take (length l.fn.text.items) l.text.items ≡ l.fn.text.items;
}

abbrev pub decreases-ends : goal.decreases-ends
decreases-ends l = length l.ends
