-- What the declarations of a document type say, one after another (10.5, 11.1 to 11.6).
use Rattle.std.specs.Prelude.{ℕ, Bool, List, [], ◌∷◌, ◌++◌, Option, Some, None, is_some, if◌then◌else◌}
use Rattle.sgml_syntax.specs.declared.syntax.Syntax.{Syntax}
use Rattle.sgml_entity.specs.sgml_names.Naming.{general_name, entity_name}
use Rattle.sgml_entity.specs.declared.kinds.Body.{Body}
use Rattle.sgml_entity.specs.declared.kinds.Body.TheVariants as body
use Rattle.sgml_entity.specs.declared.kinds.Entity.{Entity}
use Rattle.sgml_entity.specs.declared.kinds.Notation.{Notation}
use Rattle.sgml_entity.specs.Entities.{number_of}
use Rattle.sgml_dtd_attlists.specs.sgml_attr.declared.definition.Definition.{Definition}
use Rattle.sgml_dtd_elements.specs.sgml_decl_forms.declared.element.ElementDeclaration.{ElementDeclaration}
use Rattle.sgml_dtd_elements.specs.sgml_decl_forms.declared.entity.EntityDeclaration.{EntityDeclaration}
use Rattle.sgml_dtd_elements.specs.sgml_decl_forms.declared.external.NotationDeclaration.{NotationDeclaration}
use Rattle.sgml_dtd_elements.specs.sgml_decl_forms.declared.declaration.Declaration.{Declaration}
use Rattle.sgml_dtd_elements.specs.sgml_decl_forms.declared.declaration.Declaration.TheVariants as form
use Rattle.sgml_dtd_elements.specs.Folded.{folded}
use Rattle.sgml_dtd_attlists.specs.declared.list.AttributeList.{AttributeList}
use Rattle.sgml_dtd_attlists.specs.Interpreted.{list_in}
use Rattle.sgml_dtd_attlists.specs.Tables.{list_of, definitions_of}
use Rattle.sgml_dtd_maps.specs.declared.uses.MapUse.{MapUse}
use Rattle.sgml_dtd_maps.specs.Tables.{MapTable, map_in, use_in}

-- a document type, so far
pub record Doctype : Type 0 where
  pub syntax : Syntax
  -- its name, once its head was read (11.1)
  pub name : Option (List ℕ)
  -- the element declarations and the attribute lists, in their order, with their names as the syntax has them
  pub elements : List ElementDeclaration
  pub lists : List AttributeList
  -- the entities and notations that hold, in the order of their declarations
  pub entities : List Entity
  pub notations : List Notation
  -- the short reference maps and their uses, in their order
  pub maps : List (List ℕ × List (ℕ × List ℕ))
  pub uses : List MapUse

-- nothing is declared
abbrev pub nothing : Syntax → Doctype
nothing syntax = record { syntax = syntax; name = None; elements = []; lists = []; entities = []; notations = []; maps = []; uses = [] }

-- the name of a notation is a general name (13.4.5)
abbrev pub body_in : Syntax → Body → Body
body_in syntax (body.Sgml t) = body.Sgml t
body_in syntax (body.Cdata t) = body.Cdata t
body_in syntax (body.Sdata t) = body.Sdata t
body_in syntax (body.Pi t) = body.Pi t
body_in syntax (body.External e) = body.External e
body_in syntax (body.ExternalData kind e notation) = body.ExternalData kind e (general_name syntax notation)

-- an entity that is declared in a file of this name
abbrev pub entity_in : Syntax → List ℕ → EntityDeclaration → Entity
entity_in syntax base d = record { name = entity_name syntax d.name; space = d.space; body = body_in syntax d.body; base = base }

-- of declarations of one name in one space the first holds (10.5)
abbrev pub with_entity : List Entity → Entity → List Entity
with_entity es e = if is_some (number_of es e.space e.name) then es else es ++ e ∷ []

abbrev pub notation_in : Syntax → NotationDeclaration → Notation
notation_in syntax d = record { name = general_name syntax d.name; external = d.external }

-- the document type after a declaration that is in a file of this name
abbrev pub with_declared : List ℕ → Doctype → Declaration → Doctype
with_declared base t (form.Element d) = record t { elements = t.elements ++ folded t.syntax d ∷ [] }
with_declared base t (form.Attlist d) = record t { lists = t.lists ++ list_in t.syntax d ∷ [] }
with_declared base t (form.Entity d) = record t { entities = with_entity t.entities (entity_in t.syntax base d) }
with_declared base t (form.Notation d) = record t { notations = t.notations ++ notation_in t.syntax d ∷ [] }
with_declared base t (form.Shortref d) = record t { maps = t.maps ++ map_in t.syntax d ∷ [] }
with_declared base t (form.Usemap d) = record t { uses = t.uses ++ use_in t.syntax d ∷ [] }
with_declared base t (form.Doctype d) = record t { name = Some (general_name t.syntax d.name) }

-- the maps with their uses
abbrev pub map_table : Doctype → MapTable
map_table t = record { maps = t.maps; uses = t.uses }

-- the definitions of a list, where there is one
abbrev pub definitions_at : List AttributeList → Option ℕ → List Definition
definitions_at lists None = []
definitions_at lists (Some n) = definitions_of lists n

-- the attribute definitions of an element type: those of the list that names it (11.3)
abbrev pub definitions_for : List AttributeList → List ℕ → List Definition
definitions_for lists name = definitions_at lists (list_of lists name)
