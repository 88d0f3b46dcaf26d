-- What an attribute list declaration declares (11.3): its names folded, its default values interpreted.
use Rattle.std.specs.Prelude.{ℕ, List, [], Option, Some, None, map}
use Rattle.sgml_syntax.specs.declared.syntax.Syntax.{Syntax}
use Rattle.sgml_names.specs.Naming.{general_name, general_names}
use Rattle.sgml_text.specs.declared.unit.Unit.{Unit as AnyUnit}
use Rattle.sgml_attr.specs.declared.definition.Declared.{Declared}
use Rattle.sgml_attr.specs.declared.definition.Declared.TheVariants as declared
use Rattle.sgml_attr.specs.declared.definition.Default.{Default}
use Rattle.sgml_attr.specs.declared.definition.Default.TheVariants as defaults
use Rattle.sgml_attr.specs.declared.definition.Definition.{Definition}
use Rattle.sgml_attr.specs.Literal.{interpreted}
use Rattle.sgml_decl_forms.specs.declared.attlist.AttributeForm.{AttributeForm}
use Rattle.sgml_decl_forms.specs.declared.attlist.AttlistDeclaration.{AttlistDeclaration}
use Rattle.sgml_dtd_attlists.specs.declared.list.AttributeList.{AttributeList}

-- the names or tokens of a declared value's group (11.3.3)
abbrev pub group_of : Declared → List (List ℕ)
group_of (declared.Notation names) = names
group_of (declared.Group names) = names
group_of _ = []

-- those of a group are folded as general names are (13.4.5)
abbrev pub declared_in : Syntax → Declared → Declared
declared_in syntax (declared.Notation names) = declared.Notation (general_names syntax names)
declared_in syntax (declared.Group names) = declared.Group (general_names syntax names)
declared_in syntax other = other

-- a default value is interpreted as a specified one is (7.9.3, 11.3.4)
abbrev pub default_in : Declared → Default → Default
default_in declared (defaults.Value units) = defaults.Value (interpreted declared units)
default_in declared (defaults.Fixed units) = defaults.Fixed (interpreted declared units)
default_in declared other = other

abbrev pub definition_in : Syntax → AttributeForm → Definition
definition_in syntax a = record {
  name = general_name syntax a.name;
  declared = declared_in syntax a.declared;
  default = default_in a.declared a.default;
}

-- one list, for all element types that the declaration names
abbrev pub list_in : Syntax → AttlistDeclaration → AttributeList
list_in syntax d = record {
  names = general_names syntax d.names;
  definitions = map (definition_in syntax) d.attributes;
}

-- the units of a default that is a value
abbrev pub default_units : Default → Option (List AnyUnit)
default_units (defaults.Value units) = Some units
default_units (defaults.Fixed units) = Some units
default_units _ = None
