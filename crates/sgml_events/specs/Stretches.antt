-- The units of a stretch of data, however they are kept.
use Rattle.std.specs.Prelude.{Bool, true, false, List, [], ◌∷◌}
use Rattle.sgml_text.specs.Units.{characters}
use Rattle.sgml_text.specs.declared.unit.Unit.{Unit as AnyUnit}
use Rattle.sgml_events.specs.declared.stretch.Kept.{Kept}
use Rattle.sgml_events.specs.declared.stretch.Kept.TheVariants as kept
use Rattle.sgml_events.specs.declared.stretch.Parts.{Parts}
use Rattle.sgml_events.specs.declared.stretch.Parts.TheVariants as parts

abbrev pub units_kept : Kept → List AnyUnit
units_kept (kept.Bytes text) = characters text
units_kept (kept.Units units) = units
units_kept kept.RecordEnd = characters (13 ∷ [])

abbrev pub units_shown : Parts → List AnyUnit
units_shown (parts.Bytes bytes) = characters bytes.now
units_shown (parts.Units units) = units.now

abbrev pub is_none : {A : Type 0} → List A → Bool
is_none [] = true
is_none (x ∷ xs) = false
