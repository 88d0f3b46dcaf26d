-- Each worked part holds: it is computed.
use Rattle.std.specs.Prelude.{◌≡◌, Some, None, [], ◌∷◌, ◌++◌, true, refl, codes}
use Rattle.sgml_theory_reading.specs.text.declared.reason.Reason.TheVariants.{Repeated, Dangling, Undefined, OmitUndeclared, Undeclared}
use Rattle.sgml_theory_reading.specs.syntax.Implied.{implied_syntax}
use Rattle.sgml_theory_reading.specs.records.Facts.{facts, noted}
use Rattle.sgml_theory_reading.specs.model.Reading.{run}
use Rattle.sgml_theory_reading.specs.text.Units.{characters}
use Rattle.sgml_theory_reading.specs.text.declared.unit.Unit.TheVariants as unit
use Rattle.sgml_theory_reading.specs.entity.Stack.{place_at}
use Rattle.sgml_theory_reading.specs.attr.declared.value.AttrValue.TheVariants as value
use Rattle.sgml_theory_reading.specs.decl_forms.Elements.{element_at}
use Rattle.sgml_theory_reading.specs.decl_forms.Attributes.{attlist_at, attribute_at}
use Rattle.sgml_theory_reading.specs.decl_forms.EntityForms.{entity_at}
use Rattle.sgml_theory_reading.specs.decl_forms.Externals.{notation_at}
use Rattle.sgml_theory_reading.specs.decl_forms.Maps.{shortref_at, usemap_at}
use Rattle.sgml_theory_reading.specs.dtd_maps.declared.uses.MapOf.TheVariants as map_of
use Rattle.sgml_theory_reading.specs.Types.{element_type, type_of, attributes, has_same_list, has_current, entity_number, entity, notation, map_of_type}
use Rattle.sgml_theory_reading.specs.Facets.{effect, is_omitted_start, is_start, is_finish, ended_type, token, items_of, turn, border, map_set, specified, stage_after, declares, subset_named, AtBeginning, BeforeDoctype}
use Rattle.sgml_theory_reading.specs.Pieces.{Sgml, Sep, Comment, End, UseMap, Tag}
use Rattle.sgml_theory_reading.specs.Nest.{types, nest}
use Rattle.sgml_theory_reading.specs.Context.{context}
use Rattle.sgml_theory_reading.specs.Omission.{allowed, finished}
use Rattle.sgml_theory_reading.specs.Reasons.{row, content_refusal, reason}
use Rattle.sgml_theory_reading.specs.Unread.{unread, rests, spent, text_of, file_of, texts, external_subset}
use Rattle.sgml_theory_reading.specs.Sections.{sections}
use Rattle.sgml_theory_reading.specs.Maps.{map_settings}
use Rattle.sgml_theory_reading.specs.Currents.{currents}
use Rattle.sgml_theory_reading.specs.State.{state, record_ends, last_ended, stage}
use Rattle.sgml_theory_reading.specs.Reads.{refusal}
use Rattle.sgml_theory_reading.specs.Events.{events, shown}
use Rattle.sgml_theory_reading.specs.Identifiers.{id_fault}
use Rattle.sgml_theory_reading.specs.Lines.{lines, lines_by}
use Rattle.sgml_theory_worked.specs.Spelling.{with_none, small}
use Rattle.sgml_theory_worked.specs.Declared.{base}
use Rattle.sgml_theory_worked.specs.Documents.{D, P}
use Rattle.sgml_theory_worked.specs.Parts.{picture_type, picture_events, picture_lines, sdata_history, sdata_lines, current_history, text_history, X, Y, U, dangling_events, dangling_lines, repeated_events, map_after, start, stage_after_kinds, refused_with_reference, reference_input, reference_history, base_on}

pub notation-and-data-entity : lines_by picture_type picture_events true ≡ picture_lines
unfolding element_at notation_at entity_at attlist_at attribute_at entity_number entity notation id_fault
notation-and-data-entity = refl

pub sdata-in-data-line : lines small sdata_history ≡ sdata_lines
unfolding element_at entity_at run element_type entity_number entity notation type_of effect is_omitted_start is_start is_finish ended_type token items_of turn border map_set specified stage_after declares types nest context facts noted texts external_subset subset_named sections map_settings currents state record_ends last_ended stage events shown id_fault lines with_none
sdata-in-data-line = refl

pub current-value-kept : currents current_history P X ≡ Some (value.Tokens (U ∷ []))
unfolding element_at attlist_at attribute_at attributes has_same_list has_current specified types declares currents
current-value-kept = refl

pub current-value-interpreted : currents text_history P Y ≡ Some (value.Cdata (characters (codes "a b") ++ (unit.Byte 9 ∷ [])))
unfolding element_at attlist_at attribute_at attributes has_same_list has_current specified types declares currents
current-value-interpreted = refl

pub dangling-idref : id_fault dangling_events ≡ Some (1, Dangling)
unfolding id_fault
dangling-idref = refl

pub dangling-lines : lines_by picture_type dangling_events true ≡ dangling_lines
unfolding element_at notation_at entity_at attlist_at attribute_at id_fault
dangling-lines = refl

pub repeated-id : id_fault repeated_events ≡ Some (2, Repeated)
unfolding id_fault
repeated-id = refl

pub map-of-parent : map_after (start D ∷ (start P ∷ [])) ≡ map_of.Map 0
unfolding element_at shortref_at usemap_at run map_of_type effect is_omitted_start is_start declares types nest context map_set map_settings state
map-of-parent = refl

pub map-set-empty : map_after (start D ∷ (start P ∷ (UseMap None ∷ []))) ≡ map_of.Empty
unfolding element_at shortref_at usemap_at run map_of_type effect is_omitted_start is_start declares types nest context map_set map_settings state
map-set-empty = refl

pub map-after-end : map_after (start D ∷ (start P ∷ (UseMap None ∷ (End P Tag ∷ [])))) ≡ map_of.Map 0
unfolding element_at shortref_at usemap_at run map_of_type effect is_omitted_start is_start declares types nest context map_set map_settings state
map-after-end = refl

pub beginning : stage_after_kinds (Sep 10 ∷ (Sep 32 ∷ [])) ≡ AtBeginning
unfolding stage stage_after
beginning = refl

pub declaration-read : stage_after_kinds (Sep 10 ∷ (Sgml implied_syntax ∷ [])) ≡ BeforeDoctype
unfolding stage stage_after
declaration-read = refl

pub comment-read : stage_after_kinds (Comment ∷ []) ≡ BeforeDoctype
unfolding stage stage_after
comment-read = refl

pub reference-in-no-type : refused_with_reference (codes "Q") ≡ Some Undefined
unfolding element_at run element_type type_of effect is_omitted_start is_start declares types nest context refusal
reference-in-no-type = refl

pub reference-where-none-stands : refused_with_reference P ≡ Some OmitUndeclared
unfolding element_at run element_type type_of effect is_omitted_start is_start declares types nest context refusal token allowed finished row content_refusal reason
reference-where-none-stands = refl

pub reference-in-its-place : refused_with_reference D ≡ Some Undeclared
unfolding element_at run element_type type_of effect is_omitted_start is_start declares types nest context refusal token allowed finished row content_refusal reason specified
reference-in-its-place = refl

pub text-on-top : rests reference_input reference_history ≡ (record { entity = 2; bytes = codes "text" }) ∷ ((record { entity = 0; bytes = codes "x" }) ∷ [])
unfolding element_at entity_at rests turn declares types external_subset subset_named text_of file_of entity
text-on-top = refl

pub places-of-both : unread reference_history ≡ place_at 2 0 ∷ (place_at 0 6 ∷ [])
unfolding unread turn element_at entity_at
places-of-both = refl

pub length-of-text : spent reference_input.outside reference_history ≡ 4
unfolding element_at entity_at spent turn declares types external_subset subset_named text_of file_of entity
length-of-text = refl

pub base-of-document : base_on (0 ∷ []) ≡ base
unfolding file_of
base-of-document = refl

pub base-of-subset : base_on (1 ∷ (0 ∷ [])) ≡ codes "s"
unfolding file_of
base-of-subset = refl

pub base-of-text-in-subset : base_on (2 ∷ (1 ∷ (0 ∷ []))) ≡ codes "s"
unfolding file_of entity_at entity
base-of-text-in-subset = refl
