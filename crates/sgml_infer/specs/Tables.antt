-- What a document type says of an element type by its number.
use Rattle.std.specs.Prelude.{ℕ, Bool, ◌||◌, ◌<◌, [], Option, Some, None, slice_get, length}
use Rattle.sgml_automaton.specs.model.Term.{Term}
use Rattle.sgml_dtd_elements.specs.Types.{ElementType, types}
use Rattle.sgml_dtd.specs.Doctypes.{Doctype}
use Rattle.sgml_theory_reading.specs.Names.{Name}
use Rattle.sgml_theory_reading.specs.Types.{undeclared, type_of, content_of, model_of, has_required, has_declared_content}

abbrev pub name_in : Option ElementType → Name
name_in None = []
name_in (Some e) = e.name

abbrev pub name_at : Doctype → ℕ → Name
name_at t i = name_in (slice_get (types t.elements) i)

abbrev pub said_in : Option ElementType → ElementType
said_in None = undeclared
said_in (Some e) = e

-- what is said of the element type of this number
abbrev pub type_at : Doctype → ℕ → ElementType
type_at t i = said_in (slice_get (types t.elements) i)

abbrev pub model_at : Doctype → ℕ → Term
model_at t i = model_of (content_of (type_at t i))

-- an element of the type has a required attribute or declared content
abbrev pub must_be_written : Doctype → Name → Bool
must_be_written t n = has_required t n || has_declared_content (content_of (type_of t n))

abbrev pub IsNumber : Doctype → ℕ → Type 0
IsNumber t i = i < length (types t.elements)
