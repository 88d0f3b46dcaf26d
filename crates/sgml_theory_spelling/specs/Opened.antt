-- How texts that are opened, and texts in files, are those that the layers below know.
use Rattle.std.specs.Prelude.{◌≡◌, ℕ, true, Some, None, option_map, is_some, map, length}
use Rattle.sgml_scan.specs.text.declared.place.Place.{Place}
use Rattle.sgml_theory_reading.specs.entity.Stack.{Stack, refusal}
use Rattle.sgml_theory_reading.specs.entity.Texts as texts
use Rattle.sgml_theory_reading.specs.decl_lexemes.Sources.{reason_of}
use Rattle.sgml_theory_reading.specs.dtd.Doctypes.{Doctype}
use Rattle.sgml_theory_reading.specs.Names.{Name, Text}
use Rattle.sgml_theory_reading.specs.Types.{entity}
use Rattle.sgml_theory_reading.specs.Unread.{Outside, Sources, Found, file_of, text_of}
use Rattle.sgml_theory_spelling.specs.Stacked.{Stacked}
use Rattle.sgml_theory_spelling.specs.References.{unopened}
use Rattle.sgml_theory_spelling.specs.Texts.{texts_of}

-- a stack of texts is the one that a piece depends on, wherever its places are
pub record StackShows (s : Stack) (outside : Outside) (d : Doctype) (t : Stacked) : Type 0 where
  pub levels : s.levels ≡ d.syntax.quantities.entlvl
  pub expand : s.expand ≡ outside.expand
  pub spent : s.spent ≡ t.spent
  pub entities : map (λ (p : Place). p.entity) s.places ≡ t.entities

-- a text that is there isn't opened for the reason for which it isn't pushed on the stack
abbrev pub UnopenedIsRefused : Type 0
UnopenedIsRefused =
    (s : Stack) (outside : Outside) (k : Sources) (t : Stacked) (number : ℕ) → StackShows s outside k.doctype t
    → unopened outside k t number None ≡ option_map reason_of (refusal number (length (text_of outside k number)) s)

-- the text in the file of a declared entity is the one that a declaration is read with
abbrev pub FilesAreTexts : Type 0
FilesAreTexts =
    (outside : Outside) (k : Sources) (n : ℕ) (file : Name) (text : Text) → is_some (entity k.doctype n) ≡ true → file_of outside k n ≡ Some file
    → outside.fetched file ≡ Found text → texts.text_of (texts_of outside k.doctype.entities) n ≡ Some text
