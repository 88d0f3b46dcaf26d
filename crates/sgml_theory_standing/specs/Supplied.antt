-- Which inputs a reader may be reading, by the texts that it was given so far.
use Rattle.std.specs.Prelude.{◌≡◌, ℕ, ◌<◌, ◌==◌, Bool, true, false, List, [], Some, is_some, if◌then◌else◌}
use Rattle.sgml_theory_spelling.specs.entity.Texts.{text_of}
use Rattle.sgml_theory_spelling.specs.theory_reading.Names.{Name, Text}
use Rattle.sgml_theory_spelling.specs.theory_reading.Facets.{subset_number}
use Rattle.sgml_theory_spelling.specs.theory_reading.Unread.{Outside, Input, Found, Sources, file_of}

-- this is the text in the file of the entity of this number
pub record IsInFile (outside : Outside) (k : Sources) (number : ℕ) (text : Text) : Type 0 where
  pub file : Name
  pub named : file_of outside k number ≡ Some file
  pub found : outside.fetched file ≡ Found text

-- each text that was given, but for the document's, which is number 0, is the one in its entity's file
abbrev pub AreSupplied : Outside → Sources → List (ℕ × Text) → Type 0
AreSupplied outside k texts = (number : ℕ) (text : Text) → 0 < number → text_of texts number ≡ Some text → IsInFile outside k number text

-- SO FAR: the text of the external subset may be given before its head is read, which names its file
abbrev pub is_named : Sources → ℕ → Bool
is_named k number = if number == subset_number then is_some k.subset else true

abbrev pub AreSuppliedSoFar : Outside → Sources → List (ℕ × Text) → Type 0
AreSuppliedSoFar outside k texts =
    (number : ℕ) (text : Text) → 0 < number → is_named k number ≡ true → text_of texts number ≡ Some text → IsInFile outside k number text

-- `more` is what is still to come of the document: nothing once it has ended, which one that was cut never has
pub record MayFollow (ended : Bool) (I : Input) (more : Text) : Type 0 where
  pub whole : ended ≡ true → more ≡ []
  pub uncut : ended ≡ true → I.was_cut ≡ false
