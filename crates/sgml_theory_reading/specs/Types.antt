-- What a document type says of a name or a number (11): words over its tables, which are lists of
-- declarations. Of two declarations of one name the first holds.
use Rattle.std.specs.Prelude.{ℕ, ◌==◌, Bool, true, false, Option, Some, None, is_some, option_map, option_and_then, unwrap_or, find, List, [], bytes_eq, map, slice_get}
use Rattle.std.specs.List.{list_any}
use Rattle.sgml_dtd.specs.model.Term.{Term, empty}
use Rattle.sgml_dtd.specs.model.ReaderView.{sign}
use Rattle.sgml_dtd.specs.model.Reading.{reading}
use Rattle.sgml_dtd.specs.entity.declared.kinds.Space.{Space}
use Rattle.sgml_dtd.specs.entity.declared.kinds.External.{External}
use Rattle.sgml_dtd.specs.entity.declared.kinds.Body.{Body}
use Rattle.sgml_dtd.specs.entity.declared.kinds.Entity.{Entity}
use Rattle.sgml_dtd.specs.entity.Entities.{Tables, number_of, entity_at, external_of}
use Rattle.sgml_dtd.specs.attr.declared.definition.Default.{Default}
use Rattle.sgml_dtd.specs.attr.declared.definition.Default.TheVariants as default
use Rattle.sgml_dtd.specs.attr.declared.definition.Definition.{Definition}
use Rattle.sgml_dtd.specs.shortref.Maps.{number_in, pairs_of}
use Rattle.sgml_dtd.specs.decl_forms.declared.element.ContentForm.{ContentForm}
use Rattle.sgml_dtd.specs.decl_forms.declared.element.ContentForm.TheVariants as form
use Rattle.sgml_dtd.specs.dtd_elements.Types.{ElementType}
use Rattle.sgml_dtd.specs.dtd_elements.Types as elements
use Rattle.sgml_dtd.specs.dtd_attlists.declared.list.AttributeList.{AttributeList}
use Rattle.sgml_dtd.specs.dtd_attlists.Tables.{list_of}
use Rattle.sgml_dtd.specs.dtd_maps.declared.uses.MapOf.{MapOf}
use Rattle.sgml_dtd.specs.dtd_maps.declared.uses.MapUse.{MapUse}
use Rattle.sgml_dtd.specs.dtd_maps.Tables.{first_use, map_for}
use Rattle.sgml_dtd.specs.Doctypes.{Doctype, map_table, definitions_for}
use Rattle.sgml_theory_reading.specs.Names.{Name}

-- ELEMENT TYPES (11.2)

-- the element type of a name: what stands at its number
unfoldable pub element_type : Doctype → Name → Option ElementType
element_type d n = option_and_then (λ i. slice_get (elements.types d.elements) i) (elements.number_of d.elements n)

abbrev pub is_declared : Doctype → Name → Bool
is_declared d n = is_some (element_type d n)

-- what stands for a type without a declaration
abbrev pub undeclared : ElementType
undeclared = record {
  name = [];
  omits = record { start = false; end = false };
  body = record { content = form.Empty; excluded = []; included = [] };
}

unfoldable pub type_of : Doctype → Name → ElementType
type_of d n = unwrap_or (element_type d n) undeclared

-- what may stand in an element (11.2.3, 11.2.4)
pub data Content : Type 0 where
  Model : (term : Term) → Content
  Any : Content
  Cdata : Content
  Rcdata : Content
  -- declared EMPTY
  Void : Content

-- a model is the term that its group reads as
abbrev pub content_in : ContentForm → Content
content_in form.Empty = Void
content_in form.Cdata = Cdata
content_in form.Rcdata = Rcdata
content_in form.Any = Any
content_in (form.Model ts) = Model (unwrap_or (reading (map sign ts)) empty)

abbrev pub content_of : ElementType → Content
content_of e = content_in e.body.content

abbrev pub model_of : Content → Term
model_of (Model term) = term
model_of _ = empty

-- ANY is no declared content (11.2.3)
abbrev pub has_declared_content : Content → Bool
has_declared_content (Model term) = false
has_declared_content Any = false
has_declared_content _ = true

abbrev pub has_model : Content → Bool
has_model (Model term) = true
has_model _ = false

-- the name is one of these
abbrev pub is_in : Name → List Name → Bool
is_in n ns = list_any (bytes_eq n) ns

-- ATTRIBUTES (11.3)

-- the attribute list of an element type: what stands at its number
unfoldable pub attribute_list : Doctype → Name → Option AttributeList
attribute_list d n = option_and_then (λ i. slice_get d.lists i) (list_of d.lists n)

-- the definitions of an element type; none without an attribute list
unfoldable pub attributes : Doctype → Name → List Definition
attributes d n = definitions_for d.lists n

abbrev pub same_number : Option ℕ → Option ℕ → Bool
same_number (Some i) (Some j) = i == j
same_number _ _ = false

-- the two element types have one attribute list
unfoldable pub has_same_list : Doctype → Name → Name → Bool
has_same_list d n m = same_number (list_of d.lists n) (list_of d.lists m)

abbrev pub is_required_default : Default → Bool
is_required_default default.Required = true
is_required_default _ = false

abbrev pub is_current_default : Default → Bool
is_current_default default.Current = true
is_current_default _ = false

abbrev pub is_conref_default : Default → Bool
is_conref_default default.Conref = true
is_conref_default _ = false

abbrev pub is_required : Definition → Bool
is_required a = is_required_default a.default

-- the definition of an attribute: the first of its name
abbrev pub definition_of : Doctype → Name → Name → Option Definition
definition_of d n a = find (λ (x : Definition). bytes_eq a x.name) (attributes d n)

abbrev pub default_is : (Default → Bool) → Option Definition → Bool
default_is test None = false
default_is test (Some x) = test x.default

-- a start-tag has to specify some attribute (11.3.4)
unfoldable pub has_required : Doctype → Name → Bool
has_required d n = list_any is_required (attributes d n)

-- the attribute, where it is specified, stands for the content (11.3.4)
unfoldable pub has_conref : Doctype → Name → Name → Bool
has_conref d n a = default_is is_conref_default (definition_of d n a)

-- the attribute's default is the value that was specified last
unfoldable pub has_current : Doctype → Name → Name → Bool
has_current d n a = default_is is_current_default (definition_of d n a)

-- ENTITIES AND NOTATIONS (10.5, 11.4). Entities are numbered: 0 is the document, 1 the external
-- subset, and from 2 on stand those that are declared, in order.

-- the number of the entity of this name in this space
unfoldable pub entity_number : Doctype → Space → Name → Option ℕ
entity_number d space n = number_of d.entities space n

-- the declared entity of a number
unfoldable pub entity : Doctype → ℕ → Option Entity
entity d number = entity_at d.entities number

-- the declared entity of a name in a space
abbrev pub entity_named : Doctype → Space → Name → Option Entity
entity_named d space n = option_and_then (entity d) (entity_number d space n)

abbrev pub body_of : Doctype → ℕ → Option Body
body_of d number = option_map (λ (e : Entity). e.body) (entity d number)

abbrev pub name_of_entity : Doctype → ℕ → Name
name_of_entity d number = unwrap_or (option_map (λ (e : Entity). e.name) (entity d number)) []

-- the external identifier of the notation of this name
unfoldable pub notation : Doctype → Name → Option External
notation d n = external_of d.notations n

-- the entities and notations, for values that name some
abbrev pub entity_tables : Doctype → Tables
entity_tables d = record { entities = d.entities; notations = d.notations }

-- SHORT REFERENCES (11.5, 11.6). Maps are numbered from 0 on.

unfoldable pub map_number : Doctype → Name → Option ℕ
map_number d n = number_in d.maps n

-- the map of a name: what stands at its number
unfoldable pub map_named : Doctype → Name → Option (Name × List (ℕ × Name))
map_named d n = option_and_then (λ i. slice_get d.maps i) (number_in d.maps n)

-- what the map of this number maps: strings by their numbers, and the names of entities
unfoldable pub map_entries : Doctype → ℕ → List (ℕ × Name)
map_entries d number = pairs_of (slice_get d.maps number)

-- the use that names an element type first
unfoldable pub use_of_type : Doctype → Name → Option MapUse
use_of_type d n = first_use d.uses n

-- the map of an element type, by that use: its parent's where there is none
unfoldable pub map_of_type : Doctype → Name → MapOf
map_of_type d n = map_for (map_table d) n
