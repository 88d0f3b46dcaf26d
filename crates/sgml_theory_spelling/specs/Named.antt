-- The attribute that a specification names, by its number and by its name.
use Rattle.std.specs.Prelude.{◌≡◌, ℕ, Option, Some, option_and_then, List, Ok, slice_get}
use Rattle.sgml_scan.specs.text.declared.unit.Unit.{Unit as AnyUnit}
use Rattle.sgml_theory_reading.specs.attr.declared.definition.Definition.{Definition}
use Rattle.sgml_theory_reading.specs.attr.Matching.{attribute_by}
use Rattle.sgml_theory_reading.specs.dtd.Doctypes.{Doctype}
use Rattle.sgml_theory_reading.specs.Names.{Name, Text}
use Rattle.sgml_theory_reading.specs.Types.{attributes}
use Rattle.sgml_theory_spelling.specs.Attributes.{definition_named}
use Rattle.sgml_theory_spelling.specs.Tags.{attribute_named}

-- no two definitions have one name (11.3)
abbrev pub AreApart : List Definition → Type 0
AreApart xs = (i j : ℕ) (x y : Definition) → slice_get xs i ≡ Some x → slice_get xs j ≡ Some y → x.name ≡ y.name → i ≡ j

-- the definition of the name that is told is that of the number
abbrev pub NamedIsNumbered : Type 0
NamedIsNumbered =
    (d : Doctype) (n : Name) (name : Option Text) (units : List AnyUnit) → AreApart (attributes d n) →
    definition_named d n (attribute_named d (attributes d n) name (Ok units))
    ≡ option_and_then (slice_get (attributes d n)) (attribute_by d.syntax.general_fold (attributes d n) name units)
