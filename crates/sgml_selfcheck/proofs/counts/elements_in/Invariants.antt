use Rattle.std.proofs.Common.{◌≡◌, ◌+◌, ◌≤◌, drop}
use Rattle.sgml_selfcheck.specs.Counts.{elements_in}
use Rattle.sgml_selfcheck.proofs.counts.elements_in.Given as goal

abbrev pub invariant-bytes : goal.invariant-bytes
invariant-bytes l = record {
  counted : l.count + elements_in l.begins (drop l.b-index l.bytes) ≡ elements_in l.fn.begins l.bytes;
  few : l.count ≤ l.b-index;
}
