-- The units of a text, however they are kept.
use Rattle.std.specs.Prelude.{◌≡◌, List, map, true, ⊤}
use Rattle.std.specs.List.{list_all}
use Rattle.sgml_esis.specs.declared.line.EscUnit.{EscUnit}
use Rattle.sgml_esis.specs.declared.line.EscUnit.TheVariants.{Byte}
use Rattle.sgml_esis.specs.declared.line.Units.{Units}
use Rattle.sgml_esis.specs.declared.line.Units.TheVariants.{Plain, Any}
use Rattle.sgml_esis.specs.Plain.{is_plain}

abbrev pub units_of : Units → List EscUnit
units_of (Plain text) = map Byte text
units_of (Any units) = units.items

-- bytes that are kept so all stand for themselves
abbrev pub IsKept : Units → Type 0
IsKept (Plain text) = list_all is_plain text ≡ true
IsKept (Any units) = ⊤
