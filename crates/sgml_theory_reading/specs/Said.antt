-- What one declaration says of a name, where it is one of its kind that names it (10.5, 11).
use Rattle.std.specs.Prelude.{ℕ, Option, Some, None, option_and_then, List, bytes_eq, if◌then◌else◌}
use Rattle.sgml_dtd.specs.syntax.declared.syntax.Syntax.{Syntax}
use Rattle.sgml_dtd.specs.entity.declared.kinds.Space.{Space}
use Rattle.sgml_dtd.specs.entity.declared.kinds.External.{External}
use Rattle.sgml_dtd.specs.entity.declared.kinds.Entity.{Entity}
use Rattle.sgml_dtd.specs.entity.declared.kinds.Notation.{Notation}
use Rattle.sgml_dtd.specs.entity.Entities.{is_entity}
use Rattle.sgml_dtd.specs.decl_forms.declared.element.ElementDeclaration.{ElementDeclaration}
use Rattle.sgml_dtd.specs.decl_forms.declared.declaration.Declaration.{Declaration}
use Rattle.sgml_dtd.specs.dtd_elements.Types.{ElementType}
use Rattle.sgml_dtd.specs.dtd_elements.Laws.{type_in}
use Rattle.sgml_dtd.specs.dtd_attlists.declared.list.AttributeList.{AttributeList}
use Rattle.sgml_dtd.specs.dtd_maps.declared.uses.MapUse.{MapUse}
use Rattle.sgml_dtd.specs.Laws.{element_in, list_declared, entity_declared, notation_declared, map_declared, use_declared}
use Rattle.sgml_theory_reading.specs.Names.{Name, Text}
use Rattle.sgml_theory_reading.specs.Types.{is_in}

abbrev pub type_if : Name → ElementDeclaration → Option ElementType
type_if n d = if is_in n d.names then Some (type_in d n) else None

abbrev pub type_said : Syntax → Name → Declaration → Option ElementType
type_said syntax n x = option_and_then (type_if n) (element_in syntax x)

abbrev pub list_if : Name → AttributeList → Option AttributeList
list_if n l = if is_in n l.names then Some l else None

abbrev pub list_said : Syntax → Name → Declaration → Option AttributeList
list_said syntax n x = option_and_then (list_if n) (list_declared syntax x)

abbrev pub entity_if : Space → Name → Entity → Option Entity
entity_if space n e = if is_entity space n e then Some e else None

abbrev pub entity_said : Syntax → Text → Space → Name → Declaration → Option Entity
entity_said syntax base space n x = option_and_then (entity_if space n) (entity_declared syntax base x)

abbrev pub notation_if : Name → Notation → Option External
notation_if n o = if bytes_eq n o.name then Some o.external else None

abbrev pub notation_said : Syntax → Name → Declaration → Option External
notation_said syntax n x = option_and_then (notation_if n) (notation_declared syntax x)

abbrev pub map_if : Name → Name × List (ℕ × Name) → Option (Name × List (ℕ × Name))
map_if n m = if bytes_eq m.0 n then Some m else None

abbrev pub map_said : Syntax → Name → Declaration → Option (Name × List (ℕ × Name))
map_said syntax n x = option_and_then (map_if n) (map_declared syntax x)

abbrev pub use_if : Name → MapUse → Option MapUse
use_if n u = if is_in n u.targets then Some u else None

abbrev pub use_said : Syntax → Name → Declaration → Option MapUse
use_said syntax n x = option_and_then (use_if n) (use_declared syntax x)
