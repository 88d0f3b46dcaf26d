-- A declaration that is taken in the prolog, by what is kept (11).
use Rattle.std.specs.Prelude.{ℕ, List}
use Rattle.sgml_declared.specs.theory_reading.Names.{Text}
use Rattle.sgml_declared.specs.theory_standing.Kept.{Kept}
use Rattle.sgml_declared.specs.Files.{Choices}
use Rattle.sgml_declared.specs.Taking.{DeclarationIsTaken}

-- the tables have what the declaration that stands next says, and it is read over
abbrev pub TakesDeclaration : Choices → List (ℕ × Text) → Kept → Kept → Type 0
TakesDeclaration c texts old new = DeclarationIsTaken c old.doctype old.subset texts new.doctype old.stack new.stack
