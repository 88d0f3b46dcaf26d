-- Where places are: that each is in a text that has a name.
use Rattle.std.specs.Prelude.{◌≡◌, ◌⊎◌, ◌==◌, ◌≤◌, ℕ, true, is_some, length, if◌then◌else◌}
use Rattle.sgml_io.specs.text.declared.place.Place.{Place}
use Rattle.sgml_theory_spelling.specs.theory_reading.Names.{Text}
use Rattle.sgml_theory_spelling.specs.theory_reading.Types.{entity}
use Rattle.sgml_theory_spelling.specs.theory_reading.Pieces.{History}
use Rattle.sgml_theory_spelling.specs.theory_reading.Unread.{Input, Outside, Sources, sources, file_of, text_of}

-- the text of an entity is in a file, or in its declaration: so it is of the document, whose number is 0, of the external
-- subset where that has a file, whose number is 1, and of each entity that is declared
abbrev pub IsNamed : Outside → Sources → ℕ → Type 0
IsNamed outside k number = (is_some (file_of outside k number) ≡ true) ⊎ (is_some (entity k.doctype number) ≡ true)

-- the text of an entity of an input, after what was read
abbrev pub text_in : Input → History → ℕ → Text
text_in I h number = if number == 0 then I.document else text_of I.outside (sources h) number

-- A PLACE that is in a text with a name
pub record IsThere (I : Input) (h : History) (p : Place) : Type 0 where
  pub named : IsNamed I.outside (sources h) p.entity
  pub within : p.at ≤ length (text_in I h p.entity)
