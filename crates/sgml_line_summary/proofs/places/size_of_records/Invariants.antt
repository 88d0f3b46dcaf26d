use Rattle.std.proofs.Common.{◌≡◌, ◌+◌, drop}
use Rattle.sgml_line_summary.specs.Begins.{size_of_records}
use Rattle.sgml_line_summary.proofs.places.size_of_records.Given as goal

abbrev pub invariant-bytes : goal.invariant-bytes
invariant-bytes l = l.i + size_of_records l.left (drop l.i l.text) ≡ size_of_records l.count l.text
