use Rattle.std.proofs.Common.{◌≡◌, drop}
use Rattle.sgml_theory_reading.specs.Facets.{byte_items}
use Rattle.sgml_content_references.specs.Ordinary.{all_noted_in}
use Rattle.sgml_content_references.proofs.bytes.note_separators.Given as goal

abbrev pub invariant-loop-i : goal.invariant-loop-i
invariant-loop-i l = record {
  elements : all_noted_in (byte_items (drop l.i l.string)) l.inside.elements ≡ all_noted_in (byte_items l.string) l.fn.inside.elements;
  ended : l.inside.ended ≡ l.fn.inside.ended;
  places : l.inside.room ≡ l.fn.inside.room;
}
