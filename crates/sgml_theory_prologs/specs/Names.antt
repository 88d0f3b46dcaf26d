-- The name characters of the reference concrete syntax, of which an SGML declaration is written (9.2.1, 13).
use Rattle.std.specs.Prelude.{◌≡◌, true}
use Rattle.sgml_io.specs.text.declared.name_set.NameSet.{NameSet}
use Rattle.sgml_io.specs.text.NameCharacters.{is_name_character}

-- `-` and `.` go on names, as they do there (13.4.5, LCNMCHAR)
pub record HasReferenceNames (names : NameSet) : Type 0 where
  pub minus : is_name_character names 45 ≡ true
  pub stop : is_name_character names 46 ≡ true
