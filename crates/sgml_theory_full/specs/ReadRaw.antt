-- WHAT IS READ IN CDATA CONTENT (9.1, 9.6.2, 11.2.3), where no reference is recognised.
use Rattle.std.specs.Prelude.{◌≡◌, Bool, true, false, List, [], ◌∷◌}
use Rattle.sgml_theory_values.specs.syntax.declared.syntax.Syntax.{Syntax}
use Rattle.sgml_theory_values.specs.delim.declared.delim.Mode.TheVariants as mode
use Rattle.sgml_theory_values.specs.theory_reading.Names.{Text}
use Rattle.sgml_theory_values.specs.theory_reading.Pieces.{Piece, Kind, Char, Re, Rs, End}
use Rattle.sgml_theory_values.specs.theory_reading.State.{State, after_piece}
use Rattle.sgml_theory_full.specs.Raw.{begins_end_tag}
use Rattle.sgml_theory_full.specs.Conforming.{mode_in}

-- the characters that are read one directly after another
abbrev pub with_character : Kind → Text → Text
with_character (Char b) text = b ∷ text
with_character kind text = []

abbrev pub characters : List Piece → Text
characters [] = []
characters (p ∷ ps) = with_character p.kind (characters ps)

abbrev pub is_record_end : Kind → Bool
is_record_end (Re live) = true
is_record_end kind = false

-- WHERE AN ELEMENT WITH CDATA CONTENT is the innermost one: what holds there of each piece, by whether a record end
-- stands directly before it, and by the characters directly after it
abbrev pub EachInCdata : (Syntax → Bool → Text → Kind → Type 0) → Bool → State → List Piece → Type 0
EachInCdata P after_end s [] = Unit {0}
EachInCdata P after_end s (p ∷ ps) =
    (mode_in s ≡ mode.Cdt → P s.context.doctype.syntax after_end (characters ps) p.kind)
    × EachInCdata P (is_record_end p.kind) (after_piece p s) ps

-- DATA, AND THE END of the element: with those after it a character begins no end-tag, and a record start stands
-- directly after a record end
abbrev pub IsReadRaw : Syntax → Bool → Text → Kind → Type 0
IsReadRaw s after_end text (Char b) = begins_end_tag s (b ∷ text) ≡ false
IsReadRaw s after_end text (Re live) = Unit {0}
IsReadRaw s after_end text Rs = after_end ≡ true
IsReadRaw s after_end text (End n how) = Unit {0}
IsReadRaw s after_end text kind = ⊥

abbrev pub AllReadRaw : State → List Piece → Type 0
AllReadRaw s ps = EachInCdata IsReadRaw false s ps
