-- The document type after declarations one after another.
use Rattle.std.proofs.Common.{◌≡◌, ℕ, List, [], ◌∷◌, ◌++◌, Option, Some, None, refl, sym, ap, ◌∙◌, append_assoc}
use Rattle.std.proofs.lemmas.List.{append-nil}
use Rattle.std.specs.List.{filter_map, cons_option}
use Rattle.sgml_syntax.specs.declared.syntax.Syntax.{Syntax}
use Rattle.sgml_entity.specs.declared.kinds.Entity.{Entity}
use Rattle.sgml_dtd_elements.specs.sgml_decl_forms.declared.declaration.Declaration.{Declaration}
use Rattle.sgml_dtd_elements.specs.sgml_decl_forms.declared.declaration.Declaration.TheVariants as form
use Rattle.sgml_dtd_elements.specs.Folded.{folded}
use Rattle.sgml_dtd_attlists.specs.Interpreted.{list_in}
use Rattle.sgml_dtd_maps.specs.Tables.{map_in, use_in}
use Rattle.sgml_dtd.specs.Doctypes.{Doctype, nothing, with_declared, with_entity, entity_in, notation_in}
use Rattle.sgml_dtd.specs.Laws.{Placed, after_all, element_in, list_declared, entity_declared, notation_declared, elements_in, lists_in, entities_in, notations_in, map_declared, use_declared, maps_in, uses_in}

-- the entities that hold after more declarations
abbrev pub entities_after : List Entity → List Entity → List Entity
entities_after es [] = es
entities_after es (e ∷ more) = entities_after (with_entity es e) more

elements_here : (said : Declaration) (base : List ℕ) (t : Doctype) (ps : List Placed) → ((u : Doctype) → (after_all u ps).elements ≡ u.elements ++ elements_in u.syntax ps) → (after_all (with_declared base t said) ps).elements ≡ t.elements ++ cons_option (element_in t.syntax said) (elements_in t.syntax ps)
elements_here (form.Element d) base t ps again = again (with_declared base t (form.Element d)) ∙ append_assoc t.elements (folded t.syntax d ∷ []) (elements_in t.syntax ps)
elements_here (form.Attlist d) base t ps again = again (with_declared base t (form.Attlist d))
elements_here (form.Entity d) base t ps again = again (with_declared base t (form.Entity d))
elements_here (form.Notation d) base t ps again = again (with_declared base t (form.Notation d))
elements_here (form.Shortref d) base t ps again = again (with_declared base t (form.Shortref d))
elements_here (form.Usemap d) base t ps again = again (with_declared base t (form.Usemap d))
elements_here (form.Doctype d) base t ps again = again (with_declared base t (form.Doctype d))

pub elements_after : (t : Doctype) (ps : List Placed) → (after_all t ps).elements ≡ t.elements ++ elements_in t.syntax ps
elements_after t [] = sym (append-nil t.elements)
elements_after t (p ∷ ps) = elements_here p.said p.base t ps (λ u. elements_after u ps)

lists_here : (said : Declaration) (base : List ℕ) (t : Doctype) (ps : List Placed) → ((u : Doctype) → (after_all u ps).lists ≡ u.lists ++ lists_in u.syntax ps) → (after_all (with_declared base t said) ps).lists ≡ t.lists ++ cons_option (list_declared t.syntax said) (lists_in t.syntax ps)
lists_here (form.Element d) base t ps again = again (with_declared base t (form.Element d))
lists_here (form.Attlist d) base t ps again = again (with_declared base t (form.Attlist d)) ∙ append_assoc t.lists (list_in t.syntax d ∷ []) (lists_in t.syntax ps)
lists_here (form.Entity d) base t ps again = again (with_declared base t (form.Entity d))
lists_here (form.Notation d) base t ps again = again (with_declared base t (form.Notation d))
lists_here (form.Shortref d) base t ps again = again (with_declared base t (form.Shortref d))
lists_here (form.Usemap d) base t ps again = again (with_declared base t (form.Usemap d))
lists_here (form.Doctype d) base t ps again = again (with_declared base t (form.Doctype d))

pub lists_after : (t : Doctype) (ps : List Placed) → (after_all t ps).lists ≡ t.lists ++ lists_in t.syntax ps
lists_after t [] = sym (append-nil t.lists)
lists_after t (p ∷ ps) = lists_here p.said p.base t ps (λ u. lists_after u ps)

notations_here : (said : Declaration) (base : List ℕ) (t : Doctype) (ps : List Placed) → ((u : Doctype) → (after_all u ps).notations ≡ u.notations ++ notations_in u.syntax ps) → (after_all (with_declared base t said) ps).notations ≡ t.notations ++ cons_option (notation_declared t.syntax said) (notations_in t.syntax ps)
notations_here (form.Element d) base t ps again = again (with_declared base t (form.Element d))
notations_here (form.Attlist d) base t ps again = again (with_declared base t (form.Attlist d))
notations_here (form.Entity d) base t ps again = again (with_declared base t (form.Entity d))
notations_here (form.Notation d) base t ps again = again (with_declared base t (form.Notation d)) ∙ append_assoc t.notations (notation_in t.syntax d ∷ []) (notations_in t.syntax ps)
notations_here (form.Shortref d) base t ps again = again (with_declared base t (form.Shortref d))
notations_here (form.Usemap d) base t ps again = again (with_declared base t (form.Usemap d))
notations_here (form.Doctype d) base t ps again = again (with_declared base t (form.Doctype d))

pub notations_after : (t : Doctype) (ps : List Placed) → (after_all t ps).notations ≡ t.notations ++ notations_in t.syntax ps
notations_after t [] = sym (append-nil t.notations)
notations_after t (p ∷ ps) = notations_here p.said p.base t ps (λ u. notations_after u ps)

holding_here : (said : Declaration) (base : List ℕ) (t : Doctype) (ps : List Placed) → ((u : Doctype) → (after_all u ps).entities ≡ entities_after u.entities (entities_in u.syntax ps)) → (after_all (with_declared base t said) ps).entities ≡ entities_after t.entities (cons_option (entity_declared t.syntax base said) (entities_in t.syntax ps))
holding_here (form.Element d) base t ps again = again (with_declared base t (form.Element d))
holding_here (form.Attlist d) base t ps again = again (with_declared base t (form.Attlist d))
holding_here (form.Entity d) base t ps again = again (with_declared base t (form.Entity d))
holding_here (form.Notation d) base t ps again = again (with_declared base t (form.Notation d))
holding_here (form.Shortref d) base t ps again = again (with_declared base t (form.Shortref d))
holding_here (form.Usemap d) base t ps again = again (with_declared base t (form.Usemap d))
holding_here (form.Doctype d) base t ps again = again (with_declared base t (form.Doctype d))

pub holding_after : (t : Doctype) (ps : List Placed) → (after_all t ps).entities ≡ entities_after t.entities (entities_in t.syntax ps)
holding_after t [] = refl
holding_after t (p ∷ ps) = holding_here p.said p.base t ps (λ u. holding_after u ps)

maps_here : (said : Declaration) (base : List ℕ) (t : Doctype) (ps : List Placed) → ((u : Doctype) → (after_all u ps).maps ≡ u.maps ++ maps_in u.syntax ps) → (after_all (with_declared base t said) ps).maps ≡ t.maps ++ cons_option (map_declared t.syntax said) (maps_in t.syntax ps)
maps_here (form.Element d) base t ps again = again (with_declared base t (form.Element d))
maps_here (form.Attlist d) base t ps again = again (with_declared base t (form.Attlist d))
maps_here (form.Entity d) base t ps again = again (with_declared base t (form.Entity d))
maps_here (form.Notation d) base t ps again = again (with_declared base t (form.Notation d))
maps_here (form.Shortref d) base t ps again = again (with_declared base t (form.Shortref d)) ∙ append_assoc t.maps (map_in t.syntax d ∷ []) (maps_in t.syntax ps)
maps_here (form.Usemap d) base t ps again = again (with_declared base t (form.Usemap d))
maps_here (form.Doctype d) base t ps again = again (with_declared base t (form.Doctype d))

pub maps_after : (t : Doctype) (ps : List Placed) → (after_all t ps).maps ≡ t.maps ++ maps_in t.syntax ps
maps_after t [] = sym (append-nil t.maps)
maps_after t (p ∷ ps) = maps_here p.said p.base t ps (λ u. maps_after u ps)

uses_here : (said : Declaration) (base : List ℕ) (t : Doctype) (ps : List Placed) → ((u : Doctype) → (after_all u ps).uses ≡ u.uses ++ uses_in u.syntax ps) → (after_all (with_declared base t said) ps).uses ≡ t.uses ++ cons_option (use_declared t.syntax said) (uses_in t.syntax ps)
uses_here (form.Element d) base t ps again = again (with_declared base t (form.Element d))
uses_here (form.Attlist d) base t ps again = again (with_declared base t (form.Attlist d))
uses_here (form.Entity d) base t ps again = again (with_declared base t (form.Entity d))
uses_here (form.Notation d) base t ps again = again (with_declared base t (form.Notation d))
uses_here (form.Shortref d) base t ps again = again (with_declared base t (form.Shortref d))
uses_here (form.Usemap d) base t ps again = again (with_declared base t (form.Usemap d)) ∙ append_assoc t.uses (use_in t.syntax d ∷ []) (uses_in t.syntax ps)
uses_here (form.Doctype d) base t ps again = again (with_declared base t (form.Doctype d))

pub uses_after : (t : Doctype) (ps : List Placed) → (after_all t ps).uses ≡ t.uses ++ uses_in t.syntax ps
uses_after t [] = sym (append-nil t.uses)
uses_after t (p ∷ ps) = uses_here p.said p.base t ps (λ u. uses_after u ps)
