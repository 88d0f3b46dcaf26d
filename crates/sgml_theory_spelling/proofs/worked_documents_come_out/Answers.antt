use Rattle.sgml_theory_spelling.proofs.Given.{what-comes-out-is-read}
use Rattle.sgml_theory_spelling.proofs.Worked as worked
use Rattle.sgml_theory_spelling.proofs.worked_documents_come_out.Goals as goal

pub returns : goal.returns
returns c = record {
  is_read = what-comes-out-is-read;
  tags_left_out = worked.tags-left-out;
  content_models = worked.content-models;
  record_ends = worked.record-ends;
  references = worked.references;
  parameter_references = worked.parameter-references;
  marked_sections = worked.marked-sections;
  short_references = worked.short-references;
  declared = worked.declared;
  attribute_values = worked.attribute-values;
  sgml_declarations = worked.sgml-declarations;
  characters_and_ends = worked.characters-and-ends;
  lengths = worked.lengths;
  limits = worked.limits;
  modes_and_ends = worked.modes-and-ends;
  random_tags_first = worked.random-tags-first;
  random_tags_second = worked.random-tags-second;
  random_omissions = worked.random-omissions;
  random_attributes = worked.random-attributes;
  random_entities = worked.random-entities;
  random_sections = worked.random-sections;
  random_maps = worked.random-maps;
  random_records = worked.random-records;
  aimed_first = worked.aimed-first;
  aimed_second = worked.aimed-second;
  aimed_third = worked.aimed-third;
}
