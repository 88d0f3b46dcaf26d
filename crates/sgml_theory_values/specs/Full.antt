-- THE VALUES OF A FULL DOCUMENT, as their literals are read.
use Rattle.std.specs.Prelude.{[], map, if◌then◌else◌}
use Rattle.sgml_full.specs.text.declared.unit.Unit.{Unit as AnyUnit}
use Rattle.sgml_full.specs.text.declared.unit.Unit.TheVariants as unit
use Rattle.sgml_full.specs.text.Units.{characters}
use Rattle.sgml_full.specs.attr.declared.value.AttrValue.TheVariants as of
use Rattle.sgml_full.specs.dtd.Doctypes.{Doctype}
use Rattle.sgml_theory_starts.specs.theory_reading.Types.{name_of_entity}
use Rattle.sgml_full.specs.Spelled.{has_map, is_itself, spaced}
use Rattle.sgml_theory_values.specs.Starts.{Writer}

-- a character that is spelled by its number is a coded one
abbrev pub unit_read : Doctype → AnyUnit → AnyUnit
unit_read d (unit.Byte b) = if is_itself (has_map d) b then unit.Byte b else unit.Coded b
unit_read d (unit.Coded b) = if is_itself (has_map d) b then unit.Byte b else unit.Coded b
unit_read d (unit.Sdata e) = unit.Sdata e

abbrev pub value_read : Doctype → Writer
value_read d of.Implied = []
value_read d (of.Cdata us) = map (unit_read d) us
value_read d (of.Notation n) = characters n
value_read d (of.Entities es) = characters (spaced (map (name_of_entity d) es))
value_read d (of.Tokens ts) = characters (spaced ts)
