-- How much of a document is held: it was given, and isn't read.
use Rattle.std.specs.Prelude.{◌≡◌, ◌+◌, ℕ, false, List, [], ◌∷◌, length, drop}
use Rattle.sgml_text.specs.declared.place.Place.{Place}
use Rattle.sgml_entity.specs.Stack.{place_at}
use Rattle.sgml_entity.specs.Texts.{text_of}
use Rattle.sgml_decl_lexemes.specs.Sources.{or_empty}
use Rattle.sgml_declared.specs.theory_reading.Names.{Text}
use Rattle.sgml_declared.specs.theory_reading.Pieces.{History}
use Rattle.sgml_declared.specs.theory_reading.Unread.{Input, unread}
use Rattle.sgml_declared.specs.theory_reading.Reads.{ends_in_finish}
use Rattle.sgml_declared.specs.theory_reading.Events.{Event as Said}
use Rattle.sgml_parse.specs.There.{Reading}
use Rattle.sgml_parse.specs.There as reading
use Rattle.sgml_parse.specs.Parsing.{Parser, IsParsing}

-- the place of the document, which lies under all texts
abbrev pub lowest : List Place → Place
lowest [] = place_at 0 0
lowest (p ∷ []) = p
lowest (p ∷ q ∷ ps) = lowest (q ∷ ps)

abbrev pub places_in : Reading → List Place
places_in (reading.Prolog r) = r.kept.stack.places
places_in (reading.Instance r) = r.content.kept.stack.places
places_in reading.Lost = []

-- WHAT IS HELD: what was given of the document's text behind the place up to which it was read
abbrev pub held_in : Reading → List (ℕ × Text) → Text
held_in there texts = drop (lowest (places_in there)).at (or_empty (text_of texts 0))

-- WHAT ISN'T READ of the document
abbrev pub document_unread : Input → History → Text
document_unread I h = drop (lowest (unread h)).at I.document

-- so many bytes of it are held, of each input that may be being read: the others are to come
abbrev pub IsHeld : Parser → ℕ → Type 0
IsHeld p count =
    (I : Input) (more : Text) (h : History) (told : List Said) → IsParsing p I more h told → ends_in_finish h ≡ false
    → count + length more ≡ length (document_unread I h)
