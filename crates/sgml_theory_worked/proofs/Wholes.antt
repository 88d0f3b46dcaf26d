-- Each worked document that is read from its first byte holds: its outcome is computed.
use Rattle.std.specs.Prelude.{ℕ, refl}
use Rattle.sgml_theory_reading.specs.records.Facts.{facts, noted}
use Rattle.sgml_theory_reading.specs.model.Reading.{run}
use Rattle.sgml_theory_reading.specs.decl_forms.Elements.{element_at}
use Rattle.sgml_theory_reading.specs.decl_forms.Doctypes.{doctype_at}
use Rattle.sgml_theory_reading.specs.Types.{element_type, type_of, attributes, has_same_list, has_required, has_conref, has_current, entity_number, entity, notation, map_of_type}
use Rattle.sgml_theory_reading.specs.Facets.{effect, is_omitted, is_omitted_start, is_start, is_finish, ended_type, token, items_of, turn, border, map_set, specified, stage_after, declares, subset_named}
use Rattle.sgml_theory_reading.specs.Nest.{types, nest}
use Rattle.sgml_theory_reading.specs.Context.{context, context_after}
use Rattle.sgml_theory_reading.specs.Omission.{allowed, finished, inside_of_ended, leaves}
use Rattle.sgml_theory_reading.specs.Runs.{bound_of}
use Rattle.sgml_theory_reading.specs.Walk.{next_omitted}
use Rattle.sgml_theory_reading.specs.Reasons.{row, content_refusal, end_refusal, finish_refusal, reason}
use Rattle.sgml_theory_reading.specs.ShortTags.{empty_start_type, empty_end_type, net_in_force, net_type}
use Rattle.sgml_theory_reading.specs.Unread.{rests, spent, texts, text_of, file_of, external_subset, standing}
use Rattle.sgml_theory_reading.specs.Sections.{sections}
use Rattle.sgml_theory_reading.specs.Maps.{map_settings}
use Rattle.sgml_theory_reading.specs.Currents.{currents}
use Rattle.sgml_theory_reading.specs.State.{state, after_piece, record_ends, last_ended, stage}
use Rattle.sgml_theory_reading.specs.Characters.{has_text, separator_kind, kind_noted, ends_at_once}
use Rattle.sgml_theory_reading.specs.Events.{events, shown}
use Rattle.sgml_theory_reading.specs.Identifiers.{id_fault}
use Rattle.sgml_theory_reading.specs.Outcome.{Outcome, outcome}
use Rattle.sgml_theory_reading.proofs.Computed.{gives-computed}
use Rattle.sgml_theory_reading.specs.Unread.{opening}
use Rattle.sgml_theory_worked.specs.Spelling.{spelling, not_at_end, without_attributes, with_none, small}
use Rattle.sgml_theory_worked.specs.Shows.{HoldsWhole, whole_input}
use Rattle.sgml_theory_worked.specs.Whole as whole
use Rattle.sgml_theory_worked.specs.Whole.{Whole}

abbrev computed_whole : ℕ → Whole → Outcome
computed_whole n w = outcome n small w.was_cut w.outside (state (opening w.outside)) (standing (whole_input w) (opening w.outside))

pub external-subset-alone : HoldsWhole whole.external_subset_alone
unfolding element_type attributes entity_number entity notation map_of_type type_of has_required has_same_list has_current has_conref element_at run effect is_omitted is_omitted_start is_start is_finish ended_type token items_of turn border map_set specified stage_after declares subset_named types nest context context_after allowed finished inside_of_ended leaves bound_of next_omitted row content_refusal end_refusal finish_refusal reason empty_start_type empty_end_type net_in_force net_type facts noted rests spent texts text_of file_of external_subset sections map_settings currents state after_piece record_ends last_ended stage has_text separator_kind kind_noted ends_at_once events shown id_fault spelling not_at_end without_attributes with_none doctype_at
external-subset-alone = gives-computed 40 small (whole_input whole.external_subset_alone) (opening whole.external_subset_alone.outside) (computed_whole 40 whole.external_subset_alone) whole.external_subset_alone.expected refl refl refl refl refl

pub subset-by-catalog : HoldsWhole whole.subset_by_catalog
unfolding element_type attributes entity_number entity notation map_of_type type_of has_required has_same_list has_current has_conref element_at run effect is_omitted is_omitted_start is_start is_finish ended_type token items_of turn border map_set specified stage_after declares subset_named types nest context context_after allowed finished inside_of_ended leaves bound_of next_omitted row content_refusal end_refusal finish_refusal reason empty_start_type empty_end_type net_in_force net_type facts noted rests spent texts text_of file_of external_subset sections map_settings currents state after_piece record_ends last_ended stage has_text separator_kind kind_noted ends_at_once events shown id_fault spelling not_at_end without_attributes with_none doctype_at
subset-by-catalog = gives-computed 40 small (whole_input whole.subset_by_catalog) (opening whole.subset_by_catalog.outside) (computed_whole 40 whole.subset_by_catalog) whole.subset_by_catalog.expected refl refl refl refl refl

pub both-subsets : HoldsWhole whole.both_subsets
unfolding element_type attributes entity_number entity notation map_of_type type_of has_required has_same_list has_current has_conref element_at run effect is_omitted is_omitted_start is_start is_finish ended_type token items_of turn border map_set specified stage_after declares subset_named types nest context context_after allowed finished inside_of_ended leaves bound_of next_omitted row content_refusal end_refusal finish_refusal reason empty_start_type empty_end_type net_in_force net_type facts noted rests spent texts text_of file_of external_subset sections map_settings currents state after_piece record_ends last_ended stage has_text separator_kind kind_noted ends_at_once events shown id_fault spelling not_at_end without_attributes with_none doctype_at
both-subsets = gives-computed 40 small (whole_input whole.both_subsets) (opening whole.both_subsets.outside) (computed_whole 40 whole.both_subsets) whole.both_subsets.expected refl refl refl refl refl

pub cut-document : HoldsWhole whole.cut_document
unfolding element_type attributes entity_number entity notation map_of_type type_of has_required has_same_list has_current has_conref element_at run effect is_omitted is_omitted_start is_start is_finish ended_type token items_of turn border map_set specified stage_after declares subset_named types nest context context_after allowed finished inside_of_ended leaves bound_of next_omitted row content_refusal end_refusal finish_refusal reason empty_start_type empty_end_type net_in_force net_type facts noted rests spent texts text_of file_of external_subset sections map_settings currents state after_piece record_ends last_ended stage has_text separator_kind kind_noted ends_at_once events shown id_fault spelling not_at_end without_attributes with_none doctype_at
cut-document = gives-computed 40 small (whole_input whole.cut_document) (opening whole.cut_document.outside) (computed_whole 40 whole.cut_document) whole.cut_document.expected refl refl refl refl refl

pub no-document-type : HoldsWhole whole.no_document_type
unfolding element_type attributes entity_number entity notation map_of_type type_of has_required has_same_list has_current has_conref element_at run effect is_omitted is_omitted_start is_start is_finish ended_type token items_of turn border map_set specified stage_after declares subset_named types nest context context_after allowed finished inside_of_ended leaves bound_of next_omitted row content_refusal end_refusal finish_refusal reason empty_start_type empty_end_type net_in_force net_type facts noted rests spent texts text_of file_of external_subset sections map_settings currents state after_piece record_ends last_ended stage has_text separator_kind kind_noted ends_at_once events shown id_fault spelling not_at_end without_attributes with_none doctype_at
no-document-type = gives-computed 40 small (whole_input whole.no_document_type) (opening whole.no_document_type.outside) (computed_whole 40 whole.no_document_type) whole.no_document_type.expected refl refl refl refl refl
