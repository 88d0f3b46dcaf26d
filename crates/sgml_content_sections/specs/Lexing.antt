-- The lexemes of a declaration in content, by what is kept (10, 11.6.2).
use Rattle.std.specs.Prelude.{ℕ, List}
use Rattle.sgml_decl_lexemes.specs.decl_parts.declared.ends.Construct.TheVariants.{Declaration}
use Rattle.sgml_decl_lexemes.specs.declared.lexeme.Lexeme.{Lexeme}
use Rattle.sgml_theory_reading.specs.Names.{Text}
use Rattle.sgml_declared.specs.theory_standing.Kept.{Kept}
use Rattle.sgml_declared.specs.Files.{Choices}
use Rattle.sgml_declared.specs.Reading.{AreTheLexemes}

-- those of the declaration that stands next, and what is kept after it
abbrev pub AreLexemesNext : Choices → List (ℕ × Text) → Kept → Kept → List Lexeme → Type 0
AreLexemesNext c texts old new lexemes = AreTheLexemes Declaration c old.doctype old.subset texts old.stack new.stack lexemes
