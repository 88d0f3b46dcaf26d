-- What holds of each list of declarations.
use Rattle.std.specs.Prelude.{◌≡◌, ℕ, List, [], ◌∷◌, Option, Some, None, if◌then◌else◌, fold, map, option_and_then}
use Rattle.std.specs.List.{filter_map}
use Rattle.sgml_syntax.specs.declared.syntax.Syntax.{Syntax}
use Rattle.sgml_entity.specs.declared.kinds.Entity.{Entity}
use Rattle.sgml_entity.specs.declared.kinds.Notation.{Notation}
use Rattle.sgml_entity.specs.declared.kinds.Space.{Space}
use Rattle.sgml_entity.specs.Entities.{is_entity, number_of, entity_at}
use Rattle.sgml_dtd_elements.specs.sgml_decl_forms.declared.element.ElementDeclaration.{ElementDeclaration}
use Rattle.sgml_dtd_elements.specs.sgml_decl_forms.declared.declaration.Declaration.{Declaration}
use Rattle.sgml_dtd_elements.specs.sgml_decl_forms.declared.declaration.Declaration.TheVariants as form
use Rattle.sgml_dtd_elements.specs.Folded.{folded}
use Rattle.sgml_dtd_attlists.specs.declared.list.AttributeList.{AttributeList}
use Rattle.sgml_dtd_attlists.specs.Interpreted.{list_in}
use Rattle.sgml_dtd_maps.specs.declared.uses.MapUse.{MapUse}
use Rattle.sgml_dtd_maps.specs.Tables.{map_in, use_in}
use Rattle.sgml_dtd.specs.Doctypes.{Doctype, nothing, with_declared, with_entity, entity_in, notation_in}

-- a declaration, and the name of the file in which it stands
pub record Placed : Type 0 where
  pub base : List ℕ
  pub said : Declaration

-- the document type after these declarations
abbrev pub after_all : Doctype → List Placed → Doctype
after_all t [] = t
after_all t (p ∷ ps) = after_all (with_declared p.base t p.said) ps

abbrev pub doctype_of : Syntax → List Placed → Doctype
doctype_of syntax ps = after_all (nothing syntax) ps

-- what a declaration declares
abbrev pub element_in : Syntax → Declaration → Option ElementDeclaration
element_in syntax (form.Element d) = Some (folded syntax d)
element_in syntax (form.Attlist d) = None
element_in syntax (form.Entity d) = None
element_in syntax (form.Notation d) = None
element_in syntax (form.Shortref d) = None
element_in syntax (form.Usemap d) = None
element_in syntax (form.Doctype d) = None

abbrev pub list_declared : Syntax → Declaration → Option AttributeList
list_declared syntax (form.Element d) = None
list_declared syntax (form.Attlist d) = Some (list_in syntax d)
list_declared syntax (form.Entity d) = None
list_declared syntax (form.Notation d) = None
list_declared syntax (form.Shortref d) = None
list_declared syntax (form.Usemap d) = None
list_declared syntax (form.Doctype d) = None

abbrev pub entity_declared : Syntax → List ℕ → Declaration → Option Entity
entity_declared syntax base (form.Element d) = None
entity_declared syntax base (form.Attlist d) = None
entity_declared syntax base (form.Entity d) = Some (entity_in syntax base d)
entity_declared syntax base (form.Notation d) = None
entity_declared syntax base (form.Shortref d) = None
entity_declared syntax base (form.Usemap d) = None
entity_declared syntax base (form.Doctype d) = None

abbrev pub notation_declared : Syntax → Declaration → Option Notation
notation_declared syntax (form.Element d) = None
notation_declared syntax (form.Attlist d) = None
notation_declared syntax (form.Entity d) = None
notation_declared syntax (form.Notation d) = Some (notation_in syntax d)
notation_declared syntax (form.Shortref d) = None
notation_declared syntax (form.Usemap d) = None
notation_declared syntax (form.Doctype d) = None

abbrev pub map_declared : Syntax → Declaration → Option (List ℕ × List (ℕ × List ℕ))
map_declared syntax (form.Element d) = None
map_declared syntax (form.Attlist d) = None
map_declared syntax (form.Entity d) = None
map_declared syntax (form.Notation d) = None
map_declared syntax (form.Shortref d) = Some (map_in syntax d)
map_declared syntax (form.Usemap d) = None
map_declared syntax (form.Doctype d) = None

abbrev pub use_declared : Syntax → Declaration → Option MapUse
use_declared syntax (form.Element d) = None
use_declared syntax (form.Attlist d) = None
use_declared syntax (form.Entity d) = None
use_declared syntax (form.Notation d) = None
use_declared syntax (form.Shortref d) = None
use_declared syntax (form.Usemap d) = Some (use_in syntax d)
use_declared syntax (form.Doctype d) = None

-- all that is declared, form by form, in its order
abbrev pub elements_in : Syntax → List Placed → List ElementDeclaration
elements_in syntax ps = filter_map (λ p. element_in syntax p.said) ps

abbrev pub lists_in : Syntax → List Placed → List AttributeList
lists_in syntax ps = filter_map (λ p. list_declared syntax p.said) ps

abbrev pub entities_in : Syntax → List Placed → List Entity
entities_in syntax ps = filter_map (λ p. entity_declared syntax p.base p.said) ps

abbrev pub notations_in : Syntax → List Placed → List Notation
notations_in syntax ps = filter_map (λ p. notation_declared syntax p.said) ps

abbrev pub maps_in : Syntax → List Placed → List (List ℕ × List (ℕ × List ℕ))
maps_in syntax ps = filter_map (λ p. map_declared syntax p.said) ps

abbrev pub uses_in : Syntax → List Placed → List MapUse
uses_in syntax ps = filter_map (λ p. use_declared syntax p.said) ps

-- the first entity of this name in this space
abbrev pub first_entity_of : List Entity → Space → List ℕ → Option Entity
first_entity_of [] space name = None
first_entity_of (e ∷ es) space name = if is_entity space name e then Some e else first_entity_of es space name

-- The tables have all that is declared, in its order. Of entities of one name in one space the first
-- is found.
pub record IsDeclared (syntax : Syntax) (ps : List Placed) : Type 0 where
  pub elements : (doctype_of syntax ps).elements ≡ elements_in syntax ps
  pub lists : (doctype_of syntax ps).lists ≡ lists_in syntax ps
  pub notations : (doctype_of syntax ps).notations ≡ notations_in syntax ps
  pub maps : (doctype_of syntax ps).maps ≡ maps_in syntax ps
  pub uses : (doctype_of syntax ps).uses ≡ uses_in syntax ps
  pub entities : (space : Space) (name : List ℕ) →
      option_and_then (entity_at (doctype_of syntax ps).entities) (number_of (doctype_of syntax ps).entities space name)
      ≡ first_entity_of (entities_in syntax ps) space name

abbrev pub WhatIsFoundWasDeclared : Type 0
WhatIsFoundWasDeclared = (syntax : Syntax) (ps : List Placed) → IsDeclared syntax ps
