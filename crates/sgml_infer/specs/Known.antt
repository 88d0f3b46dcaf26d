-- What is known of an element type by its number.
use Rattle.std.specs.Prelude.{◌≡◌, ◌==◌, ℕ, Bool, true, false, Option, Some, None, is_some, List, slice_get}
use Rattle.std.specs.List.{list_any}
use Rattle.sgml_automaton.specs.model.Term.{required}
use Rattle.sgml_automaton.specs.Position.{room}
use Rattle.sgml_dtd_elements.specs.Types.{number_of}
use Rattle.sgml_dtd.specs.dtd_attlists.Tables.{list_of}
use Rattle.sgml_dtd.specs.Doctypes.{Doctype, definitions_for}
use Rattle.sgml_theory_reading.specs.Names.{Name}
use Rattle.sgml_theory_reading.specs.Types.{Content, Model, Any, Cdata, Rcdata, Void, content_of, is_required, map_of_type}
use Rattle.sgml_theory_reading.specs.Characters.{content_has_text}
use Rattle.sgml_infer.specs.Tables.{name_at, type_at, IsNumber}
use Rattle.sgml_infer.specs.Links.{has_exceptions}
use Rattle.sgml_infer.specs.declared.known.ContentKind.{ContentKind}
use Rattle.sgml_infer.specs.declared.known.ContentKind.TheVariants as kind
use Rattle.sgml_infer.specs.declared.known.Known.{Known}

-- what may stand in the elements, without the model
abbrev pub content_kind : Content → ContentKind
content_kind (Model x) = kind.Model
content_kind Any = kind.Any
content_kind Cdata = kind.Cdata
content_kind Rcdata = kind.Rcdata
content_kind Void = kind.Empty

abbrev pub is_model : ContentKind → Bool
is_model kind.Model = true
is_model _ = false

-- declared CDATA, RCDATA or EMPTY
abbrev pub is_declared_content : ContentKind → Bool
is_declared_content kind.Model = false
is_declared_content kind.Any = false
is_declared_content _ = true

abbrev pub is_empty : ContentKind → Bool
is_empty kind.Empty = true
is_empty _ = false

-- the element type that must come first in the content, where its model has no AND groups
abbrev pub first_by : Doctype → Bool → Option Name → Option ℕ
first_by t true (Some n) = number_of t.elements n
first_by t _ _ = None

abbrev pub first_in : Doctype → Content → Option ℕ
first_in t (Model x) = first_by t (room x == 0) (required x)
first_in t _ = None

-- in the elements of the type of a number
abbrev pub first_at : Doctype → ℕ → Option ℕ
first_at t i = first_in t (content_of (type_at t i))

abbrev pub known_of : Doctype → ℕ → Known
known_of t i = record {
  name = name_at t i;
  content = content_kind (content_of (type_at t i));
  has_text = content_has_text (content_of (type_at t i));
  omits_start = (type_at t i).omits.start;
  omits_end = (type_at t i).omits.end;
  has_required = list_any is_required (definitions_for t.lists (name_at t i));
  has_exceptions = has_exceptions (type_at t i);
  has_list = is_some (list_of t.lists (name_at t i));
  map = map_of_type t (name_at t i);
  first = first_at t i;
}

-- the table has each element type at its number
abbrev pub AreKnown : Doctype → List Known → Type 0
AreKnown t ks = (i : ℕ) → IsNumber t i → slice_get ks i ≡ Some (known_of t i)
