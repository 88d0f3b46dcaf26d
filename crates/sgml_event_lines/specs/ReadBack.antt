-- THE LINES OF EVENTS ARE A FILE OF LINES, which is read back as it was written.
use Rattle.std.specs.Prelude.{◌≡◌, ℕ, Bool, true, not, ◌&&◌, is_some, List, Vec, Result, Ok, Err, slice_get, ⊤}
use Rattle.std.specs.List.{list_all}
use Rattle.std.specs.declared.alloc.Global.{Global}
use Rattle.sgml_esis.specs.declared.line.Line.{Line as FileLine}
use Rattle.sgml_esis.specs.declared.read.LinesError.{LinesError}
use Rattle.sgml_esis.specs.declared.read.LinesError.TheVariants as errors
use Rattle.sgml_esis.specs.Grammar.{is_word, is_none, IsFile}
use Rattle.sgml_esis.specs.Spelling.{spell_lines}
use Rattle.sgml_esis.specs.Outcome.{Reads}
use Rattle.sgml_entity.specs.declared.kinds.Body.{Body}
use Rattle.sgml_entity.specs.declared.kinds.Body.TheVariants as body
use Rattle.sgml_entity.specs.declared.kinds.Entity.{Entity}
use Rattle.sgml_entity.specs.Entities.{entity_at}
use Rattle.sgml_attr.specs.declared.definition.Definition.{Definition}
use Rattle.sgml_attr.specs.declared.value.AttrValue.{AttrValue}
use Rattle.sgml_attr.specs.declared.value.AttrValue.TheVariants as value
use Rattle.sgml_dtd.specs.dtd_elements.Types.{ElementType, types}
use Rattle.sgml_dtd.specs.dtd_attlists.declared.list.AttributeList.{AttributeList}
use Rattle.sgml_dtd.specs.Doctypes.{Doctype}
use Rattle.sgml_events.specs.declared.event.Event.{Event}
use Rattle.sgml_events.specs.declared.event.Event.TheVariants as event
use Rattle.sgml_event_lines.specs.Lines.{lines_told}

-- THE NAMES OF A DOCUMENT TYPE are words of lines: those of its element types, attributes and entities, and of
-- the notations of external data
abbrev pub body_words : Body → Bool
body_words (body.ExternalData kind external notation) = is_word notation
body_words _ = true

abbrev pub list_words : AttributeList → Bool
list_words l = list_all (λ (x : Definition). is_word x.name) l.definitions

abbrev pub entity_words : Entity → Bool
entity_words e = is_word e.name && body_words e.body

pub record HasWords (d : Doctype) : Type 0 where
  pub elements : list_all (λ (t : ElementType). is_word t.name) (types d.elements) ≡ true
  pub lists : list_all list_words d.lists ≡ true
  pub entities : list_all entity_words d.entities ≡ true

-- AN EVENT OF IT: the numbers are those of element types and entities, and a value has one or more tokens, which
-- are words
abbrev pub is_some_type : Doctype → ℕ → Bool
is_some_type d number = is_some (slice_get (types d.elements) number)

abbrev pub is_some_entity : Doctype → ℕ → Bool
is_some_entity d number = is_some (entity_at d.entities number)

abbrev pub value_words : Doctype → AttrValue → Bool
value_words d (value.Notation n) = is_word n
value_words d (value.Entities es) = not (is_none es) && list_all (is_some_entity d) es
value_words d (value.Tokens ts) = not (is_none ts) && list_all is_word ts
value_words d _ = true

abbrev pub event_words : Doctype → Event → Bool
event_words d (event.Start element place values) = is_some_type d element && list_all (value_words d) values
event_words d (event.End element) = is_some_type d element
event_words d (event.DataRef e) = is_some_entity d e
event_words d _ = true

-- reading answers these lines, unless there is no memory
abbrev pub IsRead : List FileLine → Result (Vec FileLine Global) LinesError → Type 0
IsRead ls (Ok read) = read.items ≡ ls
IsRead ls (Err (errors.BadLine number)) = ⊥
IsRead ls (Err errors.Memory) = ⊤

-- what is written of such events is a file of their lines, and whatever reads it as lines reads these
pub record IsReadBack (ls : List FileLine) : Type 0 where
  pub file : IsFile ls (spell_lines ls)
  pub read : (answer : Result (Vec FileLine Global) LinesError) → Reads (spell_lines ls) answer → IsRead ls answer

abbrev pub AreReadBack : Type 0
AreReadBack =
    (d : Doctype) (es : List Event) (conforming : Bool) → HasWords d → list_all (event_words d) es ≡ true
    → IsReadBack (lines_told d es conforming)
