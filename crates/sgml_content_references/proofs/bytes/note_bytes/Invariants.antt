use Rattle.std.proofs.Common.{◌≡◌, ◌+◌, ◌*◌, ◌-◌, ◌≤◌, ◌++◌, length, drop}
use Rattle.std.specs.Prelude.{vec_capacity}
use Rattle.sgml_theory_reading.specs.Facets.{byte_items}
use Rattle.sgml_content_references.specs.Ordinary.{all_noted_in, bytes_shown}
use Rattle.sgml_content_references.proofs.bytes.note_bytes.Given as goal

abbrev pub invariant-loop-i : goal.invariant-loop-i
invariant-loop-i l = record {
  elements : all_noted_in (byte_items (drop l.i l.string)) l.inside.elements ≡ all_noted_in (byte_items l.string) l.fn.inside.elements;
  ended : l.inside.ended ≡ l.fn.inside.ended;
  places : l.inside.room ≡ l.fn.inside.room;
  out : l.out.items ++ bytes_shown l.inside.elements (drop l.i l.string) ≡ l.fn.out.items ++ bytes_shown l.fn.inside.elements l.string;
  room : length l.out.items + 2 * (length l.string - l.i) ≤ vec_capacity l.out;
}
