-- Each worked case holds: its outcome is computed.
use Rattle.std.specs.Prelude.{ℕ, false, refl}
use Rattle.sgml_theory_reading.specs.records.Facts.{facts, noted}
use Rattle.sgml_theory_reading.specs.model.Reading.{run}
use Rattle.sgml_theory_reading.specs.decl_forms.Elements.{element_at}
use Rattle.sgml_theory_reading.specs.Types.{element_type, type_of, attributes, has_same_list, has_required, has_conref, has_current, entity_number, entity, notation, map_of_type}
use Rattle.sgml_theory_reading.specs.Facets.{effect, is_omitted, is_omitted_start, is_start, is_finish, ended_type, token, items_of, turn, border, map_set, specified, stage_after, declares, subset_named}
use Rattle.sgml_theory_reading.specs.Nest.{types, nest}
use Rattle.sgml_theory_reading.specs.Context.{context, context_after}
use Rattle.sgml_theory_reading.specs.Omission.{allowed, finished, inside_of_ended, leaves}
use Rattle.sgml_theory_reading.specs.Runs.{bound_of}
use Rattle.sgml_theory_reading.specs.Walk.{next_omitted}
use Rattle.sgml_theory_reading.specs.Reasons.{row, content_refusal, end_refusal, finish_refusal, reason}
use Rattle.sgml_theory_reading.specs.ShortTags.{empty_start_type, empty_end_type, net_in_force, net_type}
use Rattle.sgml_theory_reading.specs.Unread.{rests, spent, texts, text_of, file_of, external_subset, standing}
use Rattle.sgml_theory_reading.specs.Sections.{sections}
use Rattle.sgml_theory_reading.specs.Maps.{map_settings}
use Rattle.sgml_theory_reading.specs.Currents.{currents}
use Rattle.sgml_theory_reading.specs.State.{state, after_piece, record_ends, last_ended, stage}
use Rattle.sgml_theory_reading.specs.Characters.{has_text, separator_kind, kind_noted, ends_at_once}
use Rattle.sgml_theory_reading.specs.Events.{events, shown}
use Rattle.sgml_theory_reading.specs.Identifiers.{id_fault}
use Rattle.sgml_theory_reading.specs.Outcome.{Outcome, outcome}
use Rattle.sgml_theory_reading.proofs.Computed.{gives-computed}
use Rattle.sgml_theory_worked.specs.Spelling.{spelling, not_at_end, without_attributes, with_none, small}
use Rattle.sgml_theory_worked.specs.Documents.{prolog}
use Rattle.sgml_theory_worked.specs.Shows.{Holds, input_of}
use Rattle.sgml_theory_worked.specs.Cases as cases
use Rattle.sgml_theory_worked.specs.Cases.{Case}

abbrev computed : ℕ → Case → Outcome
computed n c = outcome n small false (input_of c).outside (state (prolog c.syntax c.declarations)) (standing (input_of c) (prolog c.syntax c.declarations))

pub all-tags-present : Holds cases.all_tags_present
unfolding element_type attributes entity_number entity notation map_of_type type_of has_required has_same_list has_current has_conref element_at run effect is_omitted is_omitted_start is_start is_finish ended_type token items_of turn border map_set specified stage_after declares subset_named types nest context context_after allowed finished inside_of_ended leaves bound_of next_omitted row content_refusal end_refusal finish_refusal reason empty_start_type empty_end_type net_in_force net_type facts noted rests spent texts text_of file_of external_subset sections map_settings currents state after_piece record_ends last_ended stage has_text separator_kind kind_noted ends_at_once events shown id_fault spelling not_at_end without_attributes with_none
all-tags-present = gives-computed 40 small (input_of cases.all_tags_present) (prolog cases.all_tags_present.syntax cases.all_tags_present.declarations) (computed 40 cases.all_tags_present) cases.all_tags_present.expected refl refl refl refl refl

pub first-and-last-record-ends : Holds cases.first_and_last_record_ends
unfolding element_type attributes entity_number entity notation map_of_type type_of has_required has_same_list has_current has_conref element_at run effect is_omitted is_omitted_start is_start is_finish ended_type token items_of turn border map_set specified stage_after declares subset_named types nest context context_after allowed finished inside_of_ended leaves bound_of next_omitted row content_refusal end_refusal finish_refusal reason empty_start_type empty_end_type net_in_force net_type facts noted rests spent texts text_of file_of external_subset sections map_settings currents state after_piece record_ends last_ended stage has_text separator_kind kind_noted ends_at_once events shown id_fault spelling not_at_end without_attributes with_none
first-and-last-record-ends = gives-computed 40 small (input_of cases.first_and_last_record_ends) (prolog cases.first_and_last_record_ends.syntax cases.first_and_last_record_ends.declarations) (computed 40 cases.first_and_last_record_ends) cases.first_and_last_record_ends.expected refl refl refl refl refl

pub record-end-after-instruction : Holds cases.record_end_after_instruction
unfolding element_type attributes entity_number entity notation map_of_type type_of has_required has_same_list has_current has_conref element_at run effect is_omitted is_omitted_start is_start is_finish ended_type token items_of turn border map_set specified stage_after declares subset_named types nest context context_after allowed finished inside_of_ended leaves bound_of next_omitted row content_refusal end_refusal finish_refusal reason empty_start_type empty_end_type net_in_force net_type facts noted rests spent texts text_of file_of external_subset sections map_settings currents state after_piece record_ends last_ended stage has_text separator_kind kind_noted ends_at_once events shown id_fault spelling not_at_end without_attributes with_none
record-end-after-instruction = gives-computed 40 small (input_of cases.record_end_after_instruction) (prolog cases.record_end_after_instruction.syntax cases.record_end_after_instruction.declarations) (computed 40 cases.record_end_after_instruction) cases.record_end_after_instruction.expected refl refl refl refl refl

pub mixed-record-ends : Holds cases.mixed_record_ends
unfolding element_type attributes entity_number entity notation map_of_type type_of has_required has_same_list has_current has_conref element_at run effect is_omitted is_omitted_start is_start is_finish ended_type token items_of turn border map_set specified stage_after declares subset_named types nest context context_after allowed finished inside_of_ended leaves bound_of next_omitted row content_refusal end_refusal finish_refusal reason empty_start_type empty_end_type net_in_force net_type facts noted rests spent texts text_of file_of external_subset sections map_settings currents state after_piece record_ends last_ended stage has_text separator_kind kind_noted ends_at_once events shown id_fault spelling not_at_end without_attributes with_none
mixed-record-ends = gives-computed 40 small (input_of cases.mixed_record_ends) (prolog cases.mixed_record_ends.syntax cases.mixed_record_ends.declarations) (computed 40 cases.mixed_record_ends) cases.mixed_record_ends.expected refl refl refl refl refl

pub record-end-before-inclusion : Holds cases.record_end_before_inclusion
unfolding element_type attributes entity_number entity notation map_of_type type_of has_required has_same_list has_current has_conref element_at run effect is_omitted is_omitted_start is_start is_finish ended_type token items_of turn border map_set specified stage_after declares subset_named types nest context context_after allowed finished inside_of_ended leaves bound_of next_omitted row content_refusal end_refusal finish_refusal reason empty_start_type empty_end_type net_in_force net_type facts noted rests spent texts text_of file_of external_subset sections map_settings currents state after_piece record_ends last_ended stage has_text separator_kind kind_noted ends_at_once events shown id_fault spelling not_at_end without_attributes with_none
record-end-before-inclusion = gives-computed 40 small (input_of cases.record_end_before_inclusion) (prolog cases.record_end_before_inclusion.syntax cases.record_end_before_inclusion.declarations) (computed 40 cases.record_end_before_inclusion) cases.record_end_before_inclusion.expected refl refl refl refl refl

pub null-end-tags : Holds cases.null_end_tags
unfolding element_type attributes entity_number entity notation map_of_type type_of has_required has_same_list has_current has_conref element_at run effect is_omitted is_omitted_start is_start is_finish ended_type token items_of turn border map_set specified stage_after declares subset_named types nest context context_after allowed finished inside_of_ended leaves bound_of next_omitted row content_refusal end_refusal finish_refusal reason empty_start_type empty_end_type net_in_force net_type facts noted rests spent texts text_of file_of external_subset sections map_settings currents state after_piece record_ends last_ended stage has_text separator_kind kind_noted ends_at_once events shown id_fault spelling not_at_end without_attributes with_none
null-end-tags = gives-computed 40 small (input_of cases.null_end_tags) (prolog cases.null_end_tags.syntax cases.null_end_tags.declarations) (computed 40 cases.null_end_tags) cases.null_end_tags.expected refl refl refl refl refl

pub empty-start-tag-under-omittag : Holds cases.empty_start_tag_under_omittag
unfolding element_type attributes entity_number entity notation map_of_type type_of has_required has_same_list has_current has_conref element_at run effect is_omitted is_omitted_start is_start is_finish ended_type token items_of turn border map_set specified stage_after declares subset_named types nest context context_after allowed finished inside_of_ended leaves bound_of next_omitted row content_refusal end_refusal finish_refusal reason empty_start_type empty_end_type net_in_force net_type facts noted rests spent texts text_of file_of external_subset sections map_settings currents state after_piece record_ends last_ended stage has_text separator_kind kind_noted ends_at_once events shown id_fault spelling not_at_end without_attributes with_none
empty-start-tag-under-omittag = gives-computed 40 small (input_of cases.empty_start_tag_under_omittag) (prolog cases.empty_start_tag_under_omittag.syntax cases.empty_start_tag_under_omittag.declarations) (computed 40 cases.empty_start_tag_under_omittag) cases.empty_start_tag_under_omittag.expected refl refl refl refl refl

pub empty-start-tag-without-omittag : Holds cases.empty_start_tag_without_omittag
unfolding element_type attributes entity_number entity notation map_of_type type_of has_required has_same_list has_current has_conref element_at run effect is_omitted is_omitted_start is_start is_finish ended_type token items_of turn border map_set specified stage_after declares subset_named types nest context context_after allowed finished inside_of_ended leaves bound_of next_omitted row content_refusal end_refusal finish_refusal reason empty_start_type empty_end_type net_in_force net_type facts noted rests spent texts text_of file_of external_subset sections map_settings currents state after_piece record_ends last_ended stage has_text separator_kind kind_noted ends_at_once events shown id_fault spelling not_at_end without_attributes with_none
empty-start-tag-without-omittag = gives-computed 40 small (input_of cases.empty_start_tag_without_omittag) (prolog cases.empty_start_tag_without_omittag.syntax cases.empty_start_tag_without_omittag.declarations) (computed 40 cases.empty_start_tag_without_omittag) cases.empty_start_tag_without_omittag.expected refl refl refl refl refl

pub required-child-missing : Holds cases.required_child_missing
unfolding element_type attributes entity_number entity notation map_of_type type_of has_required has_same_list has_current has_conref element_at run effect is_omitted is_omitted_start is_start is_finish ended_type token items_of turn border map_set specified stage_after declares subset_named types nest context context_after allowed finished inside_of_ended leaves bound_of next_omitted row content_refusal end_refusal finish_refusal reason empty_start_type empty_end_type net_in_force net_type facts noted rests spent texts text_of file_of external_subset sections map_settings currents state after_piece record_ends last_ended stage has_text separator_kind kind_noted ends_at_once events shown id_fault spelling not_at_end without_attributes with_none
required-child-missing = gives-computed 40 small (input_of cases.required_child_missing) (prolog cases.required_child_missing.syntax cases.required_child_missing.declarations) (computed 40 cases.required_child_missing) cases.required_child_missing.expected refl refl refl refl refl

pub data-in-element-content : Holds cases.data_in_element_content
unfolding element_type attributes entity_number entity notation map_of_type type_of has_required has_same_list has_current has_conref element_at run effect is_omitted is_omitted_start is_start is_finish ended_type token items_of turn border map_set specified stage_after declares subset_named types nest context context_after allowed finished inside_of_ended leaves bound_of next_omitted row content_refusal end_refusal finish_refusal reason empty_start_type empty_end_type net_in_force net_type facts noted rests spent texts text_of file_of external_subset sections map_settings currents state after_piece record_ends last_ended stage has_text separator_kind kind_noted ends_at_once events shown id_fault spelling not_at_end without_attributes with_none
data-in-element-content = gives-computed 40 small (input_of cases.data_in_element_content) (prolog cases.data_in_element_content.syntax cases.data_in_element_content.declarations) (computed 40 cases.data_in_element_content) cases.data_in_element_content.expected refl refl refl refl refl

pub four-tags-inferred : Holds cases.four_tags_inferred
unfolding element_type attributes entity_number entity notation map_of_type type_of has_required has_same_list has_current has_conref element_at run effect is_omitted is_omitted_start is_start is_finish ended_type token items_of turn border map_set specified stage_after declares subset_named types nest context context_after allowed finished inside_of_ended leaves bound_of next_omitted row content_refusal end_refusal finish_refusal reason empty_start_type empty_end_type net_in_force net_type facts noted rests spent texts text_of file_of external_subset sections map_settings currents state after_piece record_ends last_ended stage has_text separator_kind kind_noted ends_at_once events shown id_fault spelling not_at_end without_attributes with_none
four-tags-inferred = gives-computed 40 small (input_of cases.four_tags_inferred) (prolog cases.four_tags_inferred.syntax cases.four_tags_inferred.declarations) (computed 40 cases.four_tags_inferred) cases.four_tags_inferred.expected refl refl refl refl refl

pub refused-walk-prints-nothing : Holds cases.refused_walk_prints_nothing
unfolding element_type attributes entity_number entity notation map_of_type type_of has_required has_same_list has_current has_conref element_at run effect is_omitted is_omitted_start is_start is_finish ended_type token items_of turn border map_set specified stage_after declares subset_named types nest context context_after allowed finished inside_of_ended leaves bound_of next_omitted row content_refusal end_refusal finish_refusal reason empty_start_type empty_end_type net_in_force net_type facts noted rests spent texts text_of file_of external_subset sections map_settings currents state after_piece record_ends last_ended stage has_text separator_kind kind_noted ends_at_once events shown id_fault spelling not_at_end without_attributes with_none
refused-walk-prints-nothing = gives-computed 40 small (input_of cases.refused_walk_prints_nothing) (prolog cases.refused_walk_prints_nothing.syntax cases.refused_walk_prints_nothing.declarations) (computed 40 cases.refused_walk_prints_nothing) cases.refused_walk_prints_nothing.expected refl refl refl refl refl

pub etago-out-of-context-is-data : Holds cases.etago_out_of_context_is_data
unfolding element_type attributes entity_number entity notation map_of_type type_of has_required has_same_list has_current has_conref element_at run effect is_omitted is_omitted_start is_start is_finish ended_type token items_of turn border map_set specified stage_after declares subset_named types nest context context_after allowed finished inside_of_ended leaves bound_of next_omitted row content_refusal end_refusal finish_refusal reason empty_start_type empty_end_type net_in_force net_type facts noted rests spent texts text_of file_of external_subset sections map_settings currents state after_piece record_ends last_ended stage has_text separator_kind kind_noted ends_at_once events shown id_fault spelling not_at_end without_attributes with_none
etago-out-of-context-is-data = gives-computed 40 small (input_of cases.etago_out_of_context_is_data) (prolog cases.etago_out_of_context_is_data.syntax cases.etago_out_of_context_is_data.declarations) (computed 40 cases.etago_out_of_context_is_data) cases.etago_out_of_context_is_data.expected refl refl refl refl refl

pub no-document-element : Holds cases.no_document_element
unfolding element_type attributes entity_number entity notation map_of_type type_of has_required has_same_list has_current has_conref element_at run effect is_omitted is_omitted_start is_start is_finish ended_type token items_of turn border map_set specified stage_after declares subset_named types nest context context_after allowed finished inside_of_ended leaves bound_of next_omitted row content_refusal end_refusal finish_refusal reason empty_start_type empty_end_type net_in_force net_type facts noted rests spent texts text_of file_of external_subset sections map_settings currents state after_piece record_ends last_ended stage has_text separator_kind kind_noted ends_at_once events shown id_fault spelling not_at_end without_attributes with_none
no-document-element = gives-computed 40 small (input_of cases.no_document_element) (prolog cases.no_document_element.syntax cases.no_document_element.declarations) (computed 40 cases.no_document_element) cases.no_document_element.expected refl refl refl refl refl

pub recursive-omission-reaches-taglvl : Holds cases.recursive_omission_reaches_taglvl
unfolding element_type attributes entity_number entity notation map_of_type type_of has_required has_same_list has_current has_conref element_at run effect is_omitted is_omitted_start is_start is_finish ended_type token items_of turn border map_set specified stage_after declares subset_named types nest context context_after allowed finished inside_of_ended leaves bound_of next_omitted row content_refusal end_refusal finish_refusal reason empty_start_type empty_end_type net_in_force net_type facts noted rests spent texts text_of file_of external_subset sections map_settings currents state after_piece record_ends last_ended stage has_text separator_kind kind_noted ends_at_once events shown id_fault spelling not_at_end without_attributes with_none
recursive-omission-reaches-taglvl = gives-computed 40 small (input_of cases.recursive_omission_reaches_taglvl) (prolog cases.recursive_omission_reaches_taglvl.syntax cases.recursive_omission_reaches_taglvl.declarations) (computed 40 cases.recursive_omission_reaches_taglvl) cases.recursive_omission_reaches_taglvl.expected refl refl refl refl refl

pub optional-then-required : Holds cases.optional_then_required
unfolding element_type attributes entity_number entity notation map_of_type type_of has_required has_same_list has_current has_conref element_at run effect is_omitted is_omitted_start is_start is_finish ended_type token items_of turn border map_set specified stage_after declares subset_named types nest context context_after allowed finished inside_of_ended leaves bound_of next_omitted row content_refusal end_refusal finish_refusal reason empty_start_type empty_end_type net_in_force net_type facts noted rests spent texts text_of file_of external_subset sections map_settings currents state after_piece record_ends last_ended stage has_text separator_kind kind_noted ends_at_once events shown id_fault spelling not_at_end without_attributes with_none
optional-then-required = gives-computed 40 small (input_of cases.optional_then_required) (prolog cases.optional_then_required.syntax cases.optional_then_required.declarations) (computed 40 cases.optional_then_required) cases.optional_then_required.expected refl refl refl refl refl

pub and-group-either-order : Holds cases.and_group_either_order
unfolding element_type attributes entity_number entity notation map_of_type type_of has_required has_same_list has_current has_conref element_at run effect is_omitted is_omitted_start is_start is_finish ended_type token items_of turn border map_set specified stage_after declares subset_named types nest context context_after allowed finished inside_of_ended leaves bound_of next_omitted row content_refusal end_refusal finish_refusal reason empty_start_type empty_end_type net_in_force net_type facts noted rests spent texts text_of file_of external_subset sections map_settings currents state after_piece record_ends last_ended stage has_text separator_kind kind_noted ends_at_once events shown id_fault spelling not_at_end without_attributes with_none
and-group-either-order = gives-computed 40 small (input_of cases.and_group_either_order) (prolog cases.and_group_either_order.syntax cases.and_group_either_order.declarations) (computed 40 cases.and_group_either_order) cases.and_group_either_order.expected refl refl refl refl refl

pub and-group-unfinished : Holds cases.and_group_unfinished
unfolding element_type attributes entity_number entity notation map_of_type type_of has_required has_same_list has_current has_conref element_at run effect is_omitted is_omitted_start is_start is_finish ended_type token items_of turn border map_set specified stage_after declares subset_named types nest context context_after allowed finished inside_of_ended leaves bound_of next_omitted row content_refusal end_refusal finish_refusal reason empty_start_type empty_end_type net_in_force net_type facts noted rests spent texts text_of file_of external_subset sections map_settings currents state after_piece record_ends last_ended stage has_text separator_kind kind_noted ends_at_once events shown id_fault spelling not_at_end without_attributes with_none
and-group-unfinished = gives-computed 40 small (input_of cases.and_group_unfinished) (prolog cases.and_group_unfinished.syntax cases.and_group_unfinished.declarations) (computed 40 cases.and_group_unfinished) cases.and_group_unfinished.expected refl refl refl refl refl

pub or-group-second : Holds cases.or_group_second
unfolding element_type attributes entity_number entity notation map_of_type type_of has_required has_same_list has_current has_conref element_at run effect is_omitted is_omitted_start is_start is_finish ended_type token items_of turn border map_set specified stage_after declares subset_named types nest context context_after allowed finished inside_of_ended leaves bound_of next_omitted row content_refusal end_refusal finish_refusal reason empty_start_type empty_end_type net_in_force net_type facts noted rests spent texts text_of file_of external_subset sections map_settings currents state after_piece record_ends last_ended stage has_text separator_kind kind_noted ends_at_once events shown id_fault spelling not_at_end without_attributes with_none
or-group-second = gives-computed 40 small (input_of cases.or_group_second) (prolog cases.or_group_second.syntax cases.or_group_second.declarations) (computed 40 cases.or_group_second) cases.or_group_second.expected refl refl refl refl refl

pub or-group-both : Holds cases.or_group_both
unfolding element_type attributes entity_number entity notation map_of_type type_of has_required has_same_list has_current has_conref element_at run effect is_omitted is_omitted_start is_start is_finish ended_type token items_of turn border map_set specified stage_after declares subset_named types nest context context_after allowed finished inside_of_ended leaves bound_of next_omitted row content_refusal end_refusal finish_refusal reason empty_start_type empty_end_type net_in_force net_type facts noted rests spent texts text_of file_of external_subset sections map_settings currents state after_piece record_ends last_ended stage has_text separator_kind kind_noted ends_at_once events shown id_fault spelling not_at_end without_attributes with_none
or-group-both = gives-computed 40 small (input_of cases.or_group_both) (prolog cases.or_group_both.syntax cases.or_group_both.declarations) (computed 40 cases.or_group_both) cases.or_group_both.expected refl refl refl refl refl

pub inclusion-and-exclusion : Holds cases.inclusion_and_exclusion
unfolding element_type attributes entity_number entity notation map_of_type type_of has_required has_same_list has_current has_conref element_at run effect is_omitted is_omitted_start is_start is_finish ended_type token items_of turn border map_set specified stage_after declares subset_named types nest context context_after allowed finished inside_of_ended leaves bound_of next_omitted row content_refusal end_refusal finish_refusal reason empty_start_type empty_end_type net_in_force net_type facts noted rests spent texts text_of file_of external_subset sections map_settings currents state after_piece record_ends last_ended stage has_text separator_kind kind_noted ends_at_once events shown id_fault spelling not_at_end without_attributes with_none
inclusion-and-exclusion = gives-computed 40 small (input_of cases.inclusion_and_exclusion) (prolog cases.inclusion_and_exclusion.syntax cases.inclusion_and_exclusion.declarations) (computed 40 cases.inclusion_and_exclusion) cases.inclusion_and_exclusion.expected refl refl refl refl refl

pub excluded-in-itself : Holds cases.excluded_in_itself
unfolding element_type attributes entity_number entity notation map_of_type type_of has_required has_same_list has_current has_conref element_at run effect is_omitted is_omitted_start is_start is_finish ended_type token items_of turn border map_set specified stage_after declares subset_named types nest context context_after allowed finished inside_of_ended leaves bound_of next_omitted row content_refusal end_refusal finish_refusal reason empty_start_type empty_end_type net_in_force net_type facts noted rests spent texts text_of file_of external_subset sections map_settings currents state after_piece record_ends last_ended stage has_text separator_kind kind_noted ends_at_once events shown id_fault spelling not_at_end without_attributes with_none
excluded-in-itself = gives-computed 40 small (input_of cases.excluded_in_itself) (prolog cases.excluded_in_itself.syntax cases.excluded_in_itself.declarations) (computed 40 cases.excluded_in_itself) cases.excluded_in_itself.expected refl refl refl refl refl
