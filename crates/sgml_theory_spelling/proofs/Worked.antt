-- The worked documents come to what they should: each is computed.
use Rattle.std.proofs.Common.{refl}
use Rattle.sgml_theory_spelling.specs.Worked.{AllComeOut}
use Rattle.sgml_theory_spelling.specs.Worked as worked
use Rattle.sgml_theory_spelling.specs.Random as samples
use Rattle.sgml_theory_reading.specs.model.Reading.{run}
use Rattle.sgml_theory_reading.specs.records.Facts.{facts, noted}
use Rattle.sgml_theory_reading.specs.Facets.{effect, is_omitted, is_omitted_start, is_start, is_finish, ended_type, token, items_of, turn, border, map_set, specified, stage_after, declares, subset_named}
use Rattle.sgml_theory_reading.specs.Nest.{types, nest}
use Rattle.sgml_theory_reading.specs.Types.{element_type, attributes, has_same_list, has_conref, has_current, entity_number, entity, notation, map_number, map_entries, map_of_type, type_of, has_required}
use Rattle.sgml_theory_reading.specs.Context.{context, context_after}
use Rattle.sgml_theory_reading.specs.Omission.{allowed, finished, inside_of_ended, leaves}
use Rattle.sgml_theory_reading.specs.Reasons.{row, content_refusal, end_refusal, finish_refusal, reason}
use Rattle.sgml_theory_reading.specs.Runs.{bound_of}
use Rattle.sgml_theory_reading.specs.ShortTags.{empty_start_type, empty_end_type, net_in_force, net_type}
use Rattle.sgml_theory_reading.specs.Walk.{next_omitted}
use Rattle.sgml_theory_reading.specs.Characters.{has_text, separator_kind, ordinary, kind_noted, ends_at_once}
use Rattle.sgml_theory_reading.specs.Currents.{currents}
use Rattle.sgml_theory_reading.specs.Events.{shown, events}
use Rattle.sgml_theory_reading.specs.Identifiers.{id_fault}
use Rattle.sgml_theory_reading.specs.Lines.{lines}
use Rattle.sgml_theory_reading.specs.Maps.{map_settings}
use Rattle.sgml_theory_reading.specs.Reads.{refusal}
use Rattle.sgml_theory_reading.specs.Sections.{sections}
use Rattle.sgml_theory_reading.specs.State.{record_ends, last_ended, stage, state, after_piece}
use Rattle.sgml_theory_reading.specs.Unread.{external_subset, file_of, text_of, unread, texts, rests, spent}
use Rattle.sgml_scan.specs.delim.Tables.{stands}
use Rattle.sgml_scan.specs.markup.References.{in_literal}
use Rattle.sgml_sgmldecl.specs.Machine.{run as run_declaration_machine}
use Rattle.sgml_theory_reading.specs.decl_forms.Attributes.{attribute_at, attlist_at}
use Rattle.sgml_theory_reading.specs.decl_forms.Doctypes.{doctype_at}
use Rattle.sgml_theory_reading.specs.decl_forms.Elements.{element_at}
use Rattle.sgml_theory_reading.specs.decl_forms.EntityForms.{entity_at}
use Rattle.sgml_theory_reading.specs.decl_forms.Externals.{notation_at}
use Rattle.sgml_theory_reading.specs.decl_forms.Maps.{shortref_at, usemap_at}
use Rattle.sgml_theory_reading.specs.ambiguity.Scan.{cross}
use Rattle.sgml_theory_spelling.specs.Attributes.{unvalued, valued}
use Rattle.sgml_theory_spelling.specs.Content.{section_start, content_piece}
use Rattle.sgml_scan.specs.delim.Verdicts.{recognised}
use Rattle.sgml_scan.specs.Decided.{token_decided}
use Rattle.sgml_theory_spelling.specs.Decided.{decided}
use Rattle.sgml_theory_spelling.specs.Declared.{lexed, is_whole}
use Rattle.sgml_theory_spelling.specs.Texts.{texts_of, stack_of, source_of}
use Rattle.sgml_theory_reading.specs.decl_lexemes.Reads.{read_all}
use Rattle.sgml_theory_spelling.specs.Places.{mode_at, map_at}
use Rattle.sgml_theory_spelling.specs.Prolog.{piece_before, at_type_end, subset_piece}
use Rattle.sgml_theory_spelling.specs.References.{meaning_of, parameter_kind, subset_unopened}
use Rattle.sgml_theory_spelling.specs.SgmlDeclared.{sgml_piece}
use Rattle.sgml_theory_spelling.specs.Spelled.{spelled}
use Rattle.sgml_theory_spelling.specs.Tags.{element_of, specifications_of}
use Rattle.sgml_theory_spelling.specs.Tokens.{token_at}

pub tags-left-out : AllComeOut worked.tags_left_out
unfolding run facts noted effect is_omitted is_omitted_start is_start is_finish ended_type token items_of turn border map_set specified stage_after declares subset_named types nest element_type attributes has_same_list has_conref has_current entity_number entity notation map_number map_entries map_of_type type_of has_required context context_after allowed finished inside_of_ended leaves row content_refusal end_refusal finish_refusal reason bound_of empty_start_type empty_end_type net_in_force net_type next_omitted has_text separator_kind ordinary kind_noted ends_at_once currents shown events id_fault lines map_settings refusal sections record_ends last_ended stage state after_piece external_subset file_of text_of unread texts rests spent stands in_literal run_declaration_machine attribute_at attlist_at doctype_at element_at entity_at notation_at shortref_at usemap_at cross unvalued valued section_start content_piece recognised token_decided decided lexed is_whole texts_of stack_of source_of read_all mode_at map_at piece_before at_type_end subset_piece meaning_of parameter_kind subset_unopened sgml_piece spelled element_of specifications_of token_at
tags-left-out = (record { ends = refl; lines_are = refl }, (record { ends = refl; lines_are = refl }, (record { ends = refl; lines_are = refl }, (record { ends = refl; lines_are = refl }, (record { ends = refl; lines_are = refl }, (record { ends = refl; lines_are = refl }, (record { ends = refl; lines_are = refl }, (record { ends = refl; lines_are = refl }, (record { ends = refl; lines_are = refl }, (record { ends = refl; lines_are = refl }, (record { ends = refl; lines_are = refl }, (record { ends = refl; lines_are = refl }, (record { ends = refl; lines_are = refl }, tt)))))))))))))

pub content-models : AllComeOut worked.content_models
unfolding run facts noted effect is_omitted is_omitted_start is_start is_finish ended_type token items_of turn border map_set specified stage_after declares subset_named types nest element_type attributes has_same_list has_conref has_current entity_number entity notation map_number map_entries map_of_type type_of has_required context context_after allowed finished inside_of_ended leaves row content_refusal end_refusal finish_refusal reason bound_of empty_start_type empty_end_type net_in_force net_type next_omitted has_text separator_kind ordinary kind_noted ends_at_once currents shown events id_fault lines map_settings refusal sections record_ends last_ended stage state after_piece external_subset file_of text_of unread texts rests spent stands in_literal run_declaration_machine attribute_at attlist_at doctype_at element_at entity_at notation_at shortref_at usemap_at cross unvalued valued section_start content_piece recognised token_decided decided lexed is_whole texts_of stack_of source_of read_all mode_at map_at piece_before at_type_end subset_piece meaning_of parameter_kind subset_unopened sgml_piece spelled element_of specifications_of token_at
content-models = (record { ends = refl; lines_are = refl }, (record { ends = refl; lines_are = refl }, (record { ends = refl; lines_are = refl }, (record { ends = refl; lines_are = refl }, (record { ends = refl; lines_are = refl }, (record { ends = refl; lines_are = refl }, (record { ends = refl; lines_are = refl }, tt)))))))

pub record-ends : AllComeOut worked.record_ends
unfolding run facts noted effect is_omitted is_omitted_start is_start is_finish ended_type token items_of turn border map_set specified stage_after declares subset_named types nest element_type attributes has_same_list has_conref has_current entity_number entity notation map_number map_entries map_of_type type_of has_required context context_after allowed finished inside_of_ended leaves row content_refusal end_refusal finish_refusal reason bound_of empty_start_type empty_end_type net_in_force net_type next_omitted has_text separator_kind ordinary kind_noted ends_at_once currents shown events id_fault lines map_settings refusal sections record_ends last_ended stage state after_piece external_subset file_of text_of unread texts rests spent stands in_literal run_declaration_machine attribute_at attlist_at doctype_at element_at entity_at notation_at shortref_at usemap_at cross unvalued valued section_start content_piece recognised token_decided decided lexed is_whole texts_of stack_of source_of read_all mode_at map_at piece_before at_type_end subset_piece meaning_of parameter_kind subset_unopened sgml_piece spelled element_of specifications_of token_at
record-ends = (record { ends = refl; lines_are = refl }, (record { ends = refl; lines_are = refl }, (record { ends = refl; lines_are = refl }, tt)))

pub references : AllComeOut worked.references
unfolding run facts noted effect is_omitted is_omitted_start is_start is_finish ended_type token items_of turn border map_set specified stage_after declares subset_named types nest element_type attributes has_same_list has_conref has_current entity_number entity notation map_number map_entries map_of_type type_of has_required context context_after allowed finished inside_of_ended leaves row content_refusal end_refusal finish_refusal reason bound_of empty_start_type empty_end_type net_in_force net_type next_omitted has_text separator_kind ordinary kind_noted ends_at_once currents shown events id_fault lines map_settings refusal sections record_ends last_ended stage state after_piece external_subset file_of text_of unread texts rests spent stands in_literal run_declaration_machine attribute_at attlist_at doctype_at element_at entity_at notation_at shortref_at usemap_at cross unvalued valued section_start content_piece recognised token_decided decided lexed is_whole texts_of stack_of source_of read_all mode_at map_at piece_before at_type_end subset_piece meaning_of parameter_kind subset_unopened sgml_piece spelled element_of specifications_of token_at
references = (record { ends = refl; lines_are = refl }, (record { ends = refl; lines_are = refl }, (record { ends = refl; lines_are = refl }, (record { ends = refl; lines_are = refl }, (record { ends = refl; lines_are = refl }, (record { ends = refl; lines_are = refl }, (record { ends = refl; lines_are = refl }, (record { ends = refl; lines_are = refl }, (record { ends = refl; lines_are = refl }, (record { ends = refl; lines_are = refl }, (record { ends = refl; lines_are = refl }, tt)))))))))))

pub parameter-references : AllComeOut worked.parameter_references
unfolding run facts noted effect is_omitted is_omitted_start is_start is_finish ended_type token items_of turn border map_set specified stage_after declares subset_named types nest element_type attributes has_same_list has_conref has_current entity_number entity notation map_number map_entries map_of_type type_of has_required context context_after allowed finished inside_of_ended leaves row content_refusal end_refusal finish_refusal reason bound_of empty_start_type empty_end_type net_in_force net_type next_omitted has_text separator_kind ordinary kind_noted ends_at_once currents shown events id_fault lines map_settings refusal sections record_ends last_ended stage state after_piece external_subset file_of text_of unread texts rests spent stands in_literal run_declaration_machine attribute_at attlist_at doctype_at element_at entity_at notation_at shortref_at usemap_at cross unvalued valued section_start content_piece recognised token_decided decided lexed is_whole texts_of stack_of source_of read_all mode_at map_at piece_before at_type_end subset_piece meaning_of parameter_kind subset_unopened sgml_piece spelled element_of specifications_of token_at
parameter-references = (record { ends = refl; lines_are = refl }, (record { ends = refl; lines_are = refl }, (record { ends = refl; lines_are = refl }, (record { ends = refl; lines_are = refl }, (record { ends = refl; lines_are = refl }, (record { ends = refl; lines_are = refl }, (record { ends = refl; lines_are = refl }, (record { ends = refl; lines_are = refl }, (record { ends = refl; lines_are = refl }, tt)))))))))

pub marked-sections : AllComeOut worked.marked_sections
unfolding run facts noted effect is_omitted is_omitted_start is_start is_finish ended_type token items_of turn border map_set specified stage_after declares subset_named types nest element_type attributes has_same_list has_conref has_current entity_number entity notation map_number map_entries map_of_type type_of has_required context context_after allowed finished inside_of_ended leaves row content_refusal end_refusal finish_refusal reason bound_of empty_start_type empty_end_type net_in_force net_type next_omitted has_text separator_kind ordinary kind_noted ends_at_once currents shown events id_fault lines map_settings refusal sections record_ends last_ended stage state after_piece external_subset file_of text_of unread texts rests spent stands in_literal run_declaration_machine attribute_at attlist_at doctype_at element_at entity_at notation_at shortref_at usemap_at cross unvalued valued section_start content_piece recognised token_decided decided lexed is_whole texts_of stack_of source_of read_all mode_at map_at piece_before at_type_end subset_piece meaning_of parameter_kind subset_unopened sgml_piece spelled element_of specifications_of token_at
marked-sections = (record { ends = refl; lines_are = refl }, (record { ends = refl; lines_are = refl }, (record { ends = refl; lines_are = refl }, (record { ends = refl; lines_are = refl }, (record { ends = refl; lines_are = refl }, (record { ends = refl; lines_are = refl }, (record { ends = refl; lines_are = refl }, (record { ends = refl; lines_are = refl }, (record { ends = refl; lines_are = refl }, tt)))))))))

pub short-references : AllComeOut worked.short_references
unfolding run facts noted effect is_omitted is_omitted_start is_start is_finish ended_type token items_of turn border map_set specified stage_after declares subset_named types nest element_type attributes has_same_list has_conref has_current entity_number entity notation map_number map_entries map_of_type type_of has_required context context_after allowed finished inside_of_ended leaves row content_refusal end_refusal finish_refusal reason bound_of empty_start_type empty_end_type net_in_force net_type next_omitted has_text separator_kind ordinary kind_noted ends_at_once currents shown events id_fault lines map_settings refusal sections record_ends last_ended stage state after_piece external_subset file_of text_of unread texts rests spent stands in_literal run_declaration_machine attribute_at attlist_at doctype_at element_at entity_at notation_at shortref_at usemap_at cross unvalued valued section_start content_piece recognised token_decided decided lexed is_whole texts_of stack_of source_of read_all mode_at map_at piece_before at_type_end subset_piece meaning_of parameter_kind subset_unopened sgml_piece spelled element_of specifications_of token_at
short-references = (record { ends = refl; lines_are = refl }, (record { ends = refl; lines_are = refl }, (record { ends = refl; lines_are = refl }, (record { ends = refl; lines_are = refl }, (record { ends = refl; lines_are = refl }, (record { ends = refl; lines_are = refl }, (record { ends = refl; lines_are = refl }, tt)))))))

pub declared : AllComeOut worked.declared
unfolding run facts noted effect is_omitted is_omitted_start is_start is_finish ended_type token items_of turn border map_set specified stage_after declares subset_named types nest element_type attributes has_same_list has_conref has_current entity_number entity notation map_number map_entries map_of_type type_of has_required context context_after allowed finished inside_of_ended leaves row content_refusal end_refusal finish_refusal reason bound_of empty_start_type empty_end_type net_in_force net_type next_omitted has_text separator_kind ordinary kind_noted ends_at_once currents shown events id_fault lines map_settings refusal sections record_ends last_ended stage state after_piece external_subset file_of text_of unread texts rests spent stands in_literal run_declaration_machine attribute_at attlist_at doctype_at element_at entity_at notation_at shortref_at usemap_at cross unvalued valued section_start content_piece recognised token_decided decided lexed is_whole texts_of stack_of source_of read_all mode_at map_at piece_before at_type_end subset_piece meaning_of parameter_kind subset_unopened sgml_piece spelled element_of specifications_of token_at
declared = (record { ends = refl; lines_are = refl }, (record { ends = refl; lines_are = refl }, (record { ends = refl; lines_are = refl }, (record { ends = refl; lines_are = refl }, (record { ends = refl; lines_are = refl }, (record { ends = refl; lines_are = refl }, (record { ends = refl; lines_are = refl }, (record { ends = refl; lines_are = refl }, (record { ends = refl; lines_are = refl }, (record { ends = refl; lines_are = refl }, (record { ends = refl; lines_are = refl }, (record { ends = refl; lines_are = refl }, (record { ends = refl; lines_are = refl }, (record { ends = refl; lines_are = refl }, (record { ends = refl; lines_are = refl }, (record { ends = refl; lines_are = refl }, (record { ends = refl; lines_are = refl }, (record { ends = refl; lines_are = refl }, (record { ends = refl; lines_are = refl }, (record { ends = refl; lines_are = refl }, (record { ends = refl; lines_are = refl }, tt)))))))))))))))))))))

pub attribute-values : AllComeOut worked.attribute_values
unfolding run facts noted effect is_omitted is_omitted_start is_start is_finish ended_type token items_of turn border map_set specified stage_after declares subset_named types nest element_type attributes has_same_list has_conref has_current entity_number entity notation map_number map_entries map_of_type type_of has_required context context_after allowed finished inside_of_ended leaves row content_refusal end_refusal finish_refusal reason bound_of empty_start_type empty_end_type net_in_force net_type next_omitted has_text separator_kind ordinary kind_noted ends_at_once currents shown events id_fault lines map_settings refusal sections record_ends last_ended stage state after_piece external_subset file_of text_of unread texts rests spent stands in_literal run_declaration_machine attribute_at attlist_at doctype_at element_at entity_at notation_at shortref_at usemap_at cross unvalued valued section_start content_piece recognised token_decided decided lexed is_whole texts_of stack_of source_of read_all mode_at map_at piece_before at_type_end subset_piece meaning_of parameter_kind subset_unopened sgml_piece spelled element_of specifications_of token_at
attribute-values = (record { ends = refl; lines_are = refl }, (record { ends = refl; lines_are = refl }, (record { ends = refl; lines_are = refl }, (record { ends = refl; lines_are = refl }, (record { ends = refl; lines_are = refl }, (record { ends = refl; lines_are = refl }, (record { ends = refl; lines_are = refl }, (record { ends = refl; lines_are = refl }, (record { ends = refl; lines_are = refl }, (record { ends = refl; lines_are = refl }, (record { ends = refl; lines_are = refl }, (record { ends = refl; lines_are = refl }, (record { ends = refl; lines_are = refl }, (record { ends = refl; lines_are = refl }, (record { ends = refl; lines_are = refl }, (record { ends = refl; lines_are = refl }, (record { ends = refl; lines_are = refl }, (record { ends = refl; lines_are = refl }, (record { ends = refl; lines_are = refl }, tt)))))))))))))))))))

pub sgml-declarations : AllComeOut worked.sgml_declarations
unfolding run facts noted effect is_omitted is_omitted_start is_start is_finish ended_type token items_of turn border map_set specified stage_after declares subset_named types nest element_type attributes has_same_list has_conref has_current entity_number entity notation map_number map_entries map_of_type type_of has_required context context_after allowed finished inside_of_ended leaves row content_refusal end_refusal finish_refusal reason bound_of empty_start_type empty_end_type net_in_force net_type next_omitted has_text separator_kind ordinary kind_noted ends_at_once currents shown events id_fault lines map_settings refusal sections record_ends last_ended stage state after_piece external_subset file_of text_of unread texts rests spent stands in_literal run_declaration_machine attribute_at attlist_at doctype_at element_at entity_at notation_at shortref_at usemap_at cross unvalued valued section_start content_piece recognised token_decided decided lexed is_whole texts_of stack_of source_of read_all mode_at map_at piece_before at_type_end subset_piece meaning_of parameter_kind subset_unopened sgml_piece spelled element_of specifications_of token_at
sgml-declarations = (record { ends = refl; lines_are = refl }, (record { ends = refl; lines_are = refl }, (record { ends = refl; lines_are = refl }, (record { ends = refl; lines_are = refl }, (record { ends = refl; lines_are = refl }, (record { ends = refl; lines_are = refl }, (record { ends = refl; lines_are = refl }, (record { ends = refl; lines_are = refl }, tt))))))))

pub characters-and-ends : AllComeOut worked.characters_and_ends
unfolding run facts noted effect is_omitted is_omitted_start is_start is_finish ended_type token items_of turn border map_set specified stage_after declares subset_named types nest element_type attributes has_same_list has_conref has_current entity_number entity notation map_number map_entries map_of_type type_of has_required context context_after allowed finished inside_of_ended leaves row content_refusal end_refusal finish_refusal reason bound_of empty_start_type empty_end_type net_in_force net_type next_omitted has_text separator_kind ordinary kind_noted ends_at_once currents shown events id_fault lines map_settings refusal sections record_ends last_ended stage state after_piece external_subset file_of text_of unread texts rests spent stands in_literal run_declaration_machine attribute_at attlist_at doctype_at element_at entity_at notation_at shortref_at usemap_at cross unvalued valued section_start content_piece recognised token_decided decided lexed is_whole texts_of stack_of source_of read_all mode_at map_at piece_before at_type_end subset_piece meaning_of parameter_kind subset_unopened sgml_piece spelled element_of specifications_of token_at
characters-and-ends = (record { ends = refl; lines_are = refl }, (record { ends = refl; lines_are = refl }, (record { ends = refl; lines_are = refl }, (record { ends = refl; lines_are = refl }, (record { ends = refl; lines_are = refl }, (record { ends = refl; lines_are = refl }, tt))))))

pub random-tags-first : AllComeOut samples.random_tags_first
unfolding run facts noted effect is_omitted is_omitted_start is_start is_finish ended_type token items_of turn border map_set specified stage_after declares subset_named types nest element_type attributes has_same_list has_conref has_current entity_number entity notation map_number map_entries map_of_type type_of has_required context context_after allowed finished inside_of_ended leaves row content_refusal end_refusal finish_refusal reason bound_of empty_start_type empty_end_type net_in_force net_type next_omitted has_text separator_kind ordinary kind_noted ends_at_once currents shown events id_fault lines map_settings refusal sections record_ends last_ended stage state after_piece external_subset file_of text_of unread texts rests spent stands in_literal run_declaration_machine attribute_at attlist_at doctype_at element_at entity_at notation_at shortref_at usemap_at cross unvalued valued section_start content_piece recognised token_decided decided lexed is_whole texts_of stack_of source_of read_all mode_at map_at piece_before at_type_end subset_piece meaning_of parameter_kind subset_unopened sgml_piece spelled element_of specifications_of token_at
random-tags-first = (record { ends = refl; lines_are = refl }, (record { ends = refl; lines_are = refl }, (record { ends = refl; lines_are = refl }, (record { ends = refl; lines_are = refl }, (record { ends = refl; lines_are = refl }, (record { ends = refl; lines_are = refl }, (record { ends = refl; lines_are = refl }, (record { ends = refl; lines_are = refl }, (record { ends = refl; lines_are = refl }, (record { ends = refl; lines_are = refl }, (record { ends = refl; lines_are = refl }, (record { ends = refl; lines_are = refl }, (record { ends = refl; lines_are = refl }, (record { ends = refl; lines_are = refl }, (record { ends = refl; lines_are = refl }, (record { ends = refl; lines_are = refl }, tt))))))))))))))))

pub random-tags-second : AllComeOut samples.random_tags_second
unfolding run facts noted effect is_omitted is_omitted_start is_start is_finish ended_type token items_of turn border map_set specified stage_after declares subset_named types nest element_type attributes has_same_list has_conref has_current entity_number entity notation map_number map_entries map_of_type type_of has_required context context_after allowed finished inside_of_ended leaves row content_refusal end_refusal finish_refusal reason bound_of empty_start_type empty_end_type net_in_force net_type next_omitted has_text separator_kind ordinary kind_noted ends_at_once currents shown events id_fault lines map_settings refusal sections record_ends last_ended stage state after_piece external_subset file_of text_of unread texts rests spent stands in_literal run_declaration_machine attribute_at attlist_at doctype_at element_at entity_at notation_at shortref_at usemap_at cross unvalued valued section_start content_piece recognised token_decided decided lexed is_whole texts_of stack_of source_of read_all mode_at map_at piece_before at_type_end subset_piece meaning_of parameter_kind subset_unopened sgml_piece spelled element_of specifications_of token_at
random-tags-second = (record { ends = refl; lines_are = refl }, (record { ends = refl; lines_are = refl }, (record { ends = refl; lines_are = refl }, tt)))

pub random-omissions : AllComeOut samples.random_omissions
unfolding run facts noted effect is_omitted is_omitted_start is_start is_finish ended_type token items_of turn border map_set specified stage_after declares subset_named types nest element_type attributes has_same_list has_conref has_current entity_number entity notation map_number map_entries map_of_type type_of has_required context context_after allowed finished inside_of_ended leaves row content_refusal end_refusal finish_refusal reason bound_of empty_start_type empty_end_type net_in_force net_type next_omitted has_text separator_kind ordinary kind_noted ends_at_once currents shown events id_fault lines map_settings refusal sections record_ends last_ended stage state after_piece external_subset file_of text_of unread texts rests spent stands in_literal run_declaration_machine attribute_at attlist_at doctype_at element_at entity_at notation_at shortref_at usemap_at cross unvalued valued section_start content_piece recognised token_decided decided lexed is_whole texts_of stack_of source_of read_all mode_at map_at piece_before at_type_end subset_piece meaning_of parameter_kind subset_unopened sgml_piece spelled element_of specifications_of token_at
random-omissions = (record { ends = refl; lines_are = refl }, (record { ends = refl; lines_are = refl }, (record { ends = refl; lines_are = refl }, (record { ends = refl; lines_are = refl }, (record { ends = refl; lines_are = refl }, (record { ends = refl; lines_are = refl }, (record { ends = refl; lines_are = refl }, (record { ends = refl; lines_are = refl }, (record { ends = refl; lines_are = refl }, (record { ends = refl; lines_are = refl }, (record { ends = refl; lines_are = refl }, (record { ends = refl; lines_are = refl }, (record { ends = refl; lines_are = refl }, (record { ends = refl; lines_are = refl }, (record { ends = refl; lines_are = refl }, tt)))))))))))))))

pub random-attributes : AllComeOut samples.random_attributes
unfolding run facts noted effect is_omitted is_omitted_start is_start is_finish ended_type token items_of turn border map_set specified stage_after declares subset_named types nest element_type attributes has_same_list has_conref has_current entity_number entity notation map_number map_entries map_of_type type_of has_required context context_after allowed finished inside_of_ended leaves row content_refusal end_refusal finish_refusal reason bound_of empty_start_type empty_end_type net_in_force net_type next_omitted has_text separator_kind ordinary kind_noted ends_at_once currents shown events id_fault lines map_settings refusal sections record_ends last_ended stage state after_piece external_subset file_of text_of unread texts rests spent stands in_literal run_declaration_machine attribute_at attlist_at doctype_at element_at entity_at notation_at shortref_at usemap_at cross unvalued valued section_start content_piece recognised token_decided decided lexed is_whole texts_of stack_of source_of read_all mode_at map_at piece_before at_type_end subset_piece meaning_of parameter_kind subset_unopened sgml_piece spelled element_of specifications_of token_at
random-attributes = (record { ends = refl; lines_are = refl }, (record { ends = refl; lines_are = refl }, (record { ends = refl; lines_are = refl }, (record { ends = refl; lines_are = refl }, (record { ends = refl; lines_are = refl }, (record { ends = refl; lines_are = refl }, (record { ends = refl; lines_are = refl }, (record { ends = refl; lines_are = refl }, tt))))))))

pub random-entities : AllComeOut samples.random_entities
unfolding run facts noted effect is_omitted is_omitted_start is_start is_finish ended_type token items_of turn border map_set specified stage_after declares subset_named types nest element_type attributes has_same_list has_conref has_current entity_number entity notation map_number map_entries map_of_type type_of has_required context context_after allowed finished inside_of_ended leaves row content_refusal end_refusal finish_refusal reason bound_of empty_start_type empty_end_type net_in_force net_type next_omitted has_text separator_kind ordinary kind_noted ends_at_once currents shown events id_fault lines map_settings refusal sections record_ends last_ended stage state after_piece external_subset file_of text_of unread texts rests spent stands in_literal run_declaration_machine attribute_at attlist_at doctype_at element_at entity_at notation_at shortref_at usemap_at cross unvalued valued section_start content_piece recognised token_decided decided lexed is_whole texts_of stack_of source_of read_all mode_at map_at piece_before at_type_end subset_piece meaning_of parameter_kind subset_unopened sgml_piece spelled element_of specifications_of token_at
random-entities = (record { ends = refl; lines_are = refl }, (record { ends = refl; lines_are = refl }, (record { ends = refl; lines_are = refl }, (record { ends = refl; lines_are = refl }, (record { ends = refl; lines_are = refl }, (record { ends = refl; lines_are = refl }, tt))))))

pub random-sections : AllComeOut samples.random_sections
unfolding run facts noted effect is_omitted is_omitted_start is_start is_finish ended_type token items_of turn border map_set specified stage_after declares subset_named types nest element_type attributes has_same_list has_conref has_current entity_number entity notation map_number map_entries map_of_type type_of has_required context context_after allowed finished inside_of_ended leaves row content_refusal end_refusal finish_refusal reason bound_of empty_start_type empty_end_type net_in_force net_type next_omitted has_text separator_kind ordinary kind_noted ends_at_once currents shown events id_fault lines map_settings refusal sections record_ends last_ended stage state after_piece external_subset file_of text_of unread texts rests spent stands in_literal run_declaration_machine attribute_at attlist_at doctype_at element_at entity_at notation_at shortref_at usemap_at cross unvalued valued section_start content_piece recognised token_decided decided lexed is_whole texts_of stack_of source_of read_all mode_at map_at piece_before at_type_end subset_piece meaning_of parameter_kind subset_unopened sgml_piece spelled element_of specifications_of token_at
random-sections = (record { ends = refl; lines_are = refl }, (record { ends = refl; lines_are = refl }, (record { ends = refl; lines_are = refl }, (record { ends = refl; lines_are = refl }, (record { ends = refl; lines_are = refl }, (record { ends = refl; lines_are = refl }, (record { ends = refl; lines_are = refl }, (record { ends = refl; lines_are = refl }, (record { ends = refl; lines_are = refl }, (record { ends = refl; lines_are = refl }, (record { ends = refl; lines_are = refl }, (record { ends = refl; lines_are = refl }, (record { ends = refl; lines_are = refl }, (record { ends = refl; lines_are = refl }, (record { ends = refl; lines_are = refl }, (record { ends = refl; lines_are = refl }, tt))))))))))))))))

pub random-maps : AllComeOut samples.random_maps
unfolding run facts noted effect is_omitted is_omitted_start is_start is_finish ended_type token items_of turn border map_set specified stage_after declares subset_named types nest element_type attributes has_same_list has_conref has_current entity_number entity notation map_number map_entries map_of_type type_of has_required context context_after allowed finished inside_of_ended leaves row content_refusal end_refusal finish_refusal reason bound_of empty_start_type empty_end_type net_in_force net_type next_omitted has_text separator_kind ordinary kind_noted ends_at_once currents shown events id_fault lines map_settings refusal sections record_ends last_ended stage state after_piece external_subset file_of text_of unread texts rests spent stands in_literal run_declaration_machine attribute_at attlist_at doctype_at element_at entity_at notation_at shortref_at usemap_at cross unvalued valued section_start content_piece recognised token_decided decided lexed is_whole texts_of stack_of source_of read_all mode_at map_at piece_before at_type_end subset_piece meaning_of parameter_kind subset_unopened sgml_piece spelled element_of specifications_of token_at
random-maps = (record { ends = refl; lines_are = refl }, (record { ends = refl; lines_are = refl }, (record { ends = refl; lines_are = refl }, (record { ends = refl; lines_are = refl }, (record { ends = refl; lines_are = refl }, (record { ends = refl; lines_are = refl }, (record { ends = refl; lines_are = refl }, (record { ends = refl; lines_are = refl }, tt))))))))

pub random-records : AllComeOut samples.random_records
unfolding run facts noted effect is_omitted is_omitted_start is_start is_finish ended_type token items_of turn border map_set specified stage_after declares subset_named types nest element_type attributes has_same_list has_conref has_current entity_number entity notation map_number map_entries map_of_type type_of has_required context context_after allowed finished inside_of_ended leaves row content_refusal end_refusal finish_refusal reason bound_of empty_start_type empty_end_type net_in_force net_type next_omitted has_text separator_kind ordinary kind_noted ends_at_once currents shown events id_fault lines map_settings refusal sections record_ends last_ended stage state after_piece external_subset file_of text_of unread texts rests spent stands in_literal run_declaration_machine attribute_at attlist_at doctype_at element_at entity_at notation_at shortref_at usemap_at cross unvalued valued section_start content_piece recognised token_decided decided lexed is_whole texts_of stack_of source_of read_all mode_at map_at piece_before at_type_end subset_piece meaning_of parameter_kind subset_unopened sgml_piece spelled element_of specifications_of token_at
random-records = (record { ends = refl; lines_are = refl }, (record { ends = refl; lines_are = refl }, (record { ends = refl; lines_are = refl }, (record { ends = refl; lines_are = refl }, (record { ends = refl; lines_are = refl }, (record { ends = refl; lines_are = refl }, (record { ends = refl; lines_are = refl }, (record { ends = refl; lines_are = refl }, (record { ends = refl; lines_are = refl }, (record { ends = refl; lines_are = refl }, (record { ends = refl; lines_are = refl }, (record { ends = refl; lines_are = refl }, (record { ends = refl; lines_are = refl }, (record { ends = refl; lines_are = refl }, (record { ends = refl; lines_are = refl }, (record { ends = refl; lines_are = refl }, tt))))))))))))))))

pub aimed-first : AllComeOut samples.aimed_first
unfolding run facts noted effect is_omitted is_omitted_start is_start is_finish ended_type token items_of turn border map_set specified stage_after declares subset_named types nest element_type attributes has_same_list has_conref has_current entity_number entity notation map_number map_entries map_of_type type_of has_required context context_after allowed finished inside_of_ended leaves row content_refusal end_refusal finish_refusal reason bound_of empty_start_type empty_end_type net_in_force net_type next_omitted has_text separator_kind ordinary kind_noted ends_at_once currents shown events id_fault lines map_settings refusal sections record_ends last_ended stage state after_piece external_subset file_of text_of unread texts rests spent stands in_literal run_declaration_machine attribute_at attlist_at doctype_at element_at entity_at notation_at shortref_at usemap_at cross unvalued valued section_start content_piece recognised token_decided decided lexed is_whole texts_of stack_of source_of read_all mode_at map_at piece_before at_type_end subset_piece meaning_of parameter_kind subset_unopened sgml_piece spelled element_of specifications_of token_at
aimed-first = (record { ends = refl; lines_are = refl }, (record { ends = refl; lines_are = refl }, (record { ends = refl; lines_are = refl }, (record { ends = refl; lines_are = refl }, (record { ends = refl; lines_are = refl }, (record { ends = refl; lines_are = refl }, (record { ends = refl; lines_are = refl }, (record { ends = refl; lines_are = refl }, (record { ends = refl; lines_are = refl }, (record { ends = refl; lines_are = refl }, (record { ends = refl; lines_are = refl }, (record { ends = refl; lines_are = refl }, (record { ends = refl; lines_are = refl }, (record { ends = refl; lines_are = refl }, (record { ends = refl; lines_are = refl }, (record { ends = refl; lines_are = refl }, tt))))))))))))))))

pub aimed-second : AllComeOut samples.aimed_second
unfolding run facts noted effect is_omitted is_omitted_start is_start is_finish ended_type token items_of turn border map_set specified stage_after declares subset_named types nest element_type attributes has_same_list has_conref has_current entity_number entity notation map_number map_entries map_of_type type_of has_required context context_after allowed finished inside_of_ended leaves row content_refusal end_refusal finish_refusal reason bound_of empty_start_type empty_end_type net_in_force net_type next_omitted has_text separator_kind ordinary kind_noted ends_at_once currents shown events id_fault lines map_settings refusal sections record_ends last_ended stage state after_piece external_subset file_of text_of unread texts rests spent stands in_literal run_declaration_machine attribute_at attlist_at doctype_at element_at entity_at notation_at shortref_at usemap_at cross unvalued valued section_start content_piece recognised token_decided decided lexed is_whole texts_of stack_of source_of read_all mode_at map_at piece_before at_type_end subset_piece meaning_of parameter_kind subset_unopened sgml_piece spelled element_of specifications_of token_at
aimed-second = (record { ends = refl; lines_are = refl }, (record { ends = refl; lines_are = refl }, (record { ends = refl; lines_are = refl }, (record { ends = refl; lines_are = refl }, (record { ends = refl; lines_are = refl }, (record { ends = refl; lines_are = refl }, (record { ends = refl; lines_are = refl }, (record { ends = refl; lines_are = refl }, (record { ends = refl; lines_are = refl }, (record { ends = refl; lines_are = refl }, (record { ends = refl; lines_are = refl }, (record { ends = refl; lines_are = refl }, (record { ends = refl; lines_are = refl }, (record { ends = refl; lines_are = refl }, (record { ends = refl; lines_are = refl }, (record { ends = refl; lines_are = refl }, tt))))))))))))))))

pub aimed-third : AllComeOut samples.aimed_third
unfolding run facts noted effect is_omitted is_omitted_start is_start is_finish ended_type token items_of turn border map_set specified stage_after declares subset_named types nest element_type attributes has_same_list has_conref has_current entity_number entity notation map_number map_entries map_of_type type_of has_required context context_after allowed finished inside_of_ended leaves row content_refusal end_refusal finish_refusal reason bound_of empty_start_type empty_end_type net_in_force net_type next_omitted has_text separator_kind ordinary kind_noted ends_at_once currents shown events id_fault lines map_settings refusal sections record_ends last_ended stage state after_piece external_subset file_of text_of unread texts rests spent stands in_literal run_declaration_machine attribute_at attlist_at doctype_at element_at entity_at notation_at shortref_at usemap_at cross unvalued valued section_start content_piece recognised token_decided decided lexed is_whole texts_of stack_of source_of read_all mode_at map_at piece_before at_type_end subset_piece meaning_of parameter_kind subset_unopened sgml_piece spelled element_of specifications_of token_at
aimed-third = (record { ends = refl; lines_are = refl }, (record { ends = refl; lines_are = refl }, (record { ends = refl; lines_are = refl }, (record { ends = refl; lines_are = refl }, (record { ends = refl; lines_are = refl }, (record { ends = refl; lines_are = refl }, (record { ends = refl; lines_are = refl }, (record { ends = refl; lines_are = refl }, (record { ends = refl; lines_are = refl }, (record { ends = refl; lines_are = refl }, tt))))))))))

pub lengths : AllComeOut worked.lengths
unfolding run facts noted effect is_omitted is_omitted_start is_start is_finish ended_type token items_of turn border map_set specified stage_after declares subset_named types nest element_type attributes has_same_list has_conref has_current entity_number entity notation map_number map_entries map_of_type type_of has_required context context_after allowed finished inside_of_ended leaves row content_refusal end_refusal finish_refusal reason bound_of empty_start_type empty_end_type net_in_force net_type next_omitted has_text separator_kind ordinary kind_noted ends_at_once currents shown events id_fault lines map_settings refusal sections record_ends last_ended stage state after_piece external_subset file_of text_of unread texts rests spent stands in_literal run_declaration_machine attribute_at attlist_at doctype_at element_at entity_at notation_at shortref_at usemap_at cross unvalued valued section_start content_piece recognised token_decided decided lexed is_whole texts_of stack_of source_of read_all mode_at map_at piece_before at_type_end subset_piece meaning_of parameter_kind subset_unopened sgml_piece spelled element_of specifications_of token_at
lengths = (record { ends = refl; lines_are = refl }, (record { ends = refl; lines_are = refl }, (record { ends = refl; lines_are = refl }, (record { ends = refl; lines_are = refl }, (record { ends = refl; lines_are = refl }, (record { ends = refl; lines_are = refl }, (record { ends = refl; lines_are = refl }, (record { ends = refl; lines_are = refl }, (record { ends = refl; lines_are = refl }, (record { ends = refl; lines_are = refl }, (record { ends = refl; lines_are = refl }, (record { ends = refl; lines_are = refl }, (record { ends = refl; lines_are = refl }, (record { ends = refl; lines_are = refl }, (record { ends = refl; lines_are = refl }, (record { ends = refl; lines_are = refl }, (record { ends = refl; lines_are = refl }, (record { ends = refl; lines_are = refl }, (record { ends = refl; lines_are = refl }, (record { ends = refl; lines_are = refl }, (record { ends = refl; lines_are = refl }, tt)))))))))))))))))))))

pub limits : AllComeOut worked.limits
unfolding run facts noted effect is_omitted is_omitted_start is_start is_finish ended_type token items_of turn border map_set specified stage_after declares subset_named types nest element_type attributes has_same_list has_conref has_current entity_number entity notation map_number map_entries map_of_type type_of has_required context context_after allowed finished inside_of_ended leaves row content_refusal end_refusal finish_refusal reason bound_of empty_start_type empty_end_type net_in_force net_type next_omitted has_text separator_kind ordinary kind_noted ends_at_once currents shown events id_fault lines map_settings refusal sections record_ends last_ended stage state after_piece external_subset file_of text_of unread texts rests spent stands in_literal run_declaration_machine attribute_at attlist_at doctype_at element_at entity_at notation_at shortref_at usemap_at cross unvalued valued section_start content_piece recognised token_decided decided lexed is_whole texts_of stack_of source_of read_all mode_at map_at piece_before at_type_end subset_piece meaning_of parameter_kind subset_unopened sgml_piece spelled element_of specifications_of token_at
limits = (record { ends = refl; lines_are = refl }, (record { ends = refl; lines_are = refl }, (record { ends = refl; lines_are = refl }, (record { ends = refl; lines_are = refl }, (record { ends = refl; lines_are = refl }, (record { ends = refl; lines_are = refl }, (record { ends = refl; lines_are = refl }, (record { ends = refl; lines_are = refl }, (record { ends = refl; lines_are = refl }, (record { ends = refl; lines_are = refl }, (record { ends = refl; lines_are = refl }, (record { ends = refl; lines_are = refl }, (record { ends = refl; lines_are = refl }, (record { ends = refl; lines_are = refl }, (record { ends = refl; lines_are = refl }, tt)))))))))))))))

pub modes-and-ends : AllComeOut worked.modes_and_ends
unfolding run facts noted effect is_omitted is_omitted_start is_start is_finish ended_type token items_of turn border map_set specified stage_after declares subset_named types nest element_type attributes has_same_list has_conref has_current entity_number entity notation map_number map_entries map_of_type type_of has_required context context_after allowed finished inside_of_ended leaves row content_refusal end_refusal finish_refusal reason bound_of empty_start_type empty_end_type net_in_force net_type next_omitted has_text separator_kind ordinary kind_noted ends_at_once currents shown events id_fault lines map_settings refusal sections record_ends last_ended stage state after_piece external_subset file_of text_of unread texts rests spent stands in_literal run_declaration_machine attribute_at attlist_at doctype_at element_at entity_at notation_at shortref_at usemap_at cross unvalued valued section_start content_piece recognised token_decided decided lexed is_whole texts_of stack_of source_of read_all mode_at map_at piece_before at_type_end subset_piece meaning_of parameter_kind subset_unopened sgml_piece spelled element_of specifications_of token_at
modes-and-ends = (record { ends = refl; lines_are = refl }, (record { ends = refl; lines_are = refl }, (record { ends = refl; lines_are = refl }, (record { ends = refl; lines_are = refl }, (record { ends = refl; lines_are = refl }, (record { ends = refl; lines_are = refl }, (record { ends = refl; lines_are = refl }, (record { ends = refl; lines_are = refl }, (record { ends = refl; lines_are = refl }, (record { ends = refl; lines_are = refl }, (record { ends = refl; lines_are = refl }, (record { ends = refl; lines_are = refl }, (record { ends = refl; lines_are = refl }, (record { ends = refl; lines_are = refl }, (record { ends = refl; lines_are = refl }, (record { ends = refl; lines_are = refl }, (record { ends = refl; lines_are = refl }, (record { ends = refl; lines_are = refl }, (record { ends = refl; lines_are = refl }, (record { ends = refl; lines_are = refl }, (record { ends = refl; lines_are = refl }, (record { ends = refl; lines_are = refl }, (record { ends = refl; lines_are = refl }, tt)))))))))))))))))))))))
