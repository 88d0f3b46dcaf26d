-- Which files are read first of all. (profile)
use Rattle.std.specs.Prelude.{◌==◌, ◌||◌, ℕ, Bool}
use Rattle.sgml_settings.specs.BadFiles.{catalog_number, declaration_number}

-- the numbers of the files that are read first of all: the catalog's, that of its SGML declaration, and the document's
abbrev pub is_first_read : ℕ → Bool
is_first_read number = (number == 0) || (number == catalog_number) || (number == declaration_number)
