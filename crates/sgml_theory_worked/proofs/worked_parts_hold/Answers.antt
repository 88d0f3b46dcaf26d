use Rattle.sgml_theory_worked.proofs.Parts as parts
use Rattle.sgml_theory_worked.proofs.worked_parts_hold.Goals as goal

pub returns : goal.returns
returns c = record {
  notation_and_data_entity = parts.notation-and-data-entity;
  sdata_in_data_line = parts.sdata-in-data-line;
  current_value_kept = parts.current-value-kept;
  current_value_interpreted = parts.current-value-interpreted;
  dangling_idref = parts.dangling-idref;
  dangling_lines = parts.dangling-lines;
  repeated_id = parts.repeated-id;
  map_of_parent = parts.map-of-parent;
  map_set_empty = parts.map-set-empty;
  map_after_end = parts.map-after-end;
  beginning = parts.beginning;
  declaration_read = parts.declaration-read;
  comment_read = parts.comment-read;
  reference_in_no_type = parts.reference-in-no-type;
  reference_where_none_stands = parts.reference-where-none-stands;
  reference_in_its_place = parts.reference-in-its-place;
  text_on_top = parts.text-on-top;
  places_of_both = parts.places-of-both;
  length_of_text = parts.length-of-text;
  base_of_document = parts.base-of-document;
  base_of_subset = parts.base-of-subset;
  base_of_text_in_subset = parts.base-of-text-in-subset;
}
