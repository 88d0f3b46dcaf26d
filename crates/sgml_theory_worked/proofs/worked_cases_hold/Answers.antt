use Rattle.sgml_theory_worked.proofs.Worked as worked
use Rattle.sgml_theory_worked.proofs.worked_cases_hold.Goals as goal

pub returns-clause-all_tags_present : goal.returns-clause-all_tags_present
returns-clause-all_tags_present c = worked.all-tags-present

pub returns-clause-first_and_last_record_ends : goal.returns-clause-first_and_last_record_ends
returns-clause-first_and_last_record_ends c = worked.first-and-last-record-ends

pub returns-clause-record_end_after_instruction : goal.returns-clause-record_end_after_instruction
returns-clause-record_end_after_instruction c = worked.record-end-after-instruction

pub returns-clause-mixed_record_ends : goal.returns-clause-mixed_record_ends
returns-clause-mixed_record_ends c = worked.mixed-record-ends

pub returns-clause-record_end_before_inclusion : goal.returns-clause-record_end_before_inclusion
returns-clause-record_end_before_inclusion c = worked.record-end-before-inclusion

pub returns-clause-null_end_tags : goal.returns-clause-null_end_tags
returns-clause-null_end_tags c = worked.null-end-tags

pub returns-clause-empty_start_tag_under_omittag : goal.returns-clause-empty_start_tag_under_omittag
returns-clause-empty_start_tag_under_omittag c = worked.empty-start-tag-under-omittag

pub returns-clause-empty_start_tag_without_omittag : goal.returns-clause-empty_start_tag_without_omittag
returns-clause-empty_start_tag_without_omittag c = worked.empty-start-tag-without-omittag

pub returns-clause-required_child_missing : goal.returns-clause-required_child_missing
returns-clause-required_child_missing c = worked.required-child-missing

pub returns-clause-data_in_element_content : goal.returns-clause-data_in_element_content
returns-clause-data_in_element_content c = worked.data-in-element-content

pub returns-clause-four_tags_inferred : goal.returns-clause-four_tags_inferred
returns-clause-four_tags_inferred c = worked.four-tags-inferred

pub returns-clause-refused_walk_prints_nothing : goal.returns-clause-refused_walk_prints_nothing
returns-clause-refused_walk_prints_nothing c = worked.refused-walk-prints-nothing

pub returns-clause-etago_out_of_context_is_data : goal.returns-clause-etago_out_of_context_is_data
returns-clause-etago_out_of_context_is_data c = worked.etago-out-of-context-is-data

pub returns-clause-no_document_element : goal.returns-clause-no_document_element
returns-clause-no_document_element c = worked.no-document-element

pub returns-clause-recursive_omission_reaches_taglvl : goal.returns-clause-recursive_omission_reaches_taglvl
returns-clause-recursive_omission_reaches_taglvl c = worked.recursive-omission-reaches-taglvl

pub returns-clause-optional_then_required : goal.returns-clause-optional_then_required
returns-clause-optional_then_required c = worked.optional-then-required

pub returns-clause-and_group_either_order : goal.returns-clause-and_group_either_order
returns-clause-and_group_either_order c = worked.and-group-either-order

pub returns-clause-and_group_unfinished : goal.returns-clause-and_group_unfinished
returns-clause-and_group_unfinished c = worked.and-group-unfinished

pub returns-clause-or_group_second : goal.returns-clause-or_group_second
returns-clause-or_group_second c = worked.or-group-second

pub returns-clause-or_group_both : goal.returns-clause-or_group_both
returns-clause-or_group_both c = worked.or-group-both

pub returns-clause-inclusion_and_exclusion : goal.returns-clause-inclusion_and_exclusion
returns-clause-inclusion_and_exclusion c = worked.inclusion-and-exclusion

pub returns-clause-excluded_in_itself : goal.returns-clause-excluded_in_itself
returns-clause-excluded_in_itself c = worked.excluded-in-itself
