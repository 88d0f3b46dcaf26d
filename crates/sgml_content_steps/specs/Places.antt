-- The places of starts and of instructions, as events tell them (7.4, 8).
use Rattle.std.specs.Prelude.{◌≡◌, ℕ, Bool, true, not, ◌||◌, length, slice_get, flat_map, List, [], ◌∷◌, ◌++◌, Some}
use Rattle.std.specs.List.{list_any}
use Rattle.sgml_text.specs.declared.place.Place.{Place}
use Rattle.sgml_events.specs.declared.event.Event.{Event}
use Rattle.sgml_events.specs.declared.event.Event.TheVariants as event
use Rattle.sgml_theory_starts.specs.theory_reading.Pieces.{Piece, Kind, History}
use Rattle.sgml_theory_starts.specs.theory_reading.Facets.{is_start, shows_instruction}
use Rattle.sgml_theory_starts.specs.theory_reading.Reads.{Move, places_of, start_places, instruction_places}
use Rattle.sgml_theory_starts.specs.theory_reading.Events.{Event as Said, instructions}
use Rattle.sgml_theory_starts.specs.theory_reading.Identifiers.{starts}

-- what has a place of its own among events
pub data Sort : Type 0 where
  OfStarts : Sort
  OfInstructions : Sort

abbrev pub is_of : Sort → Kind → Bool
is_of OfStarts x = is_start x
is_of OfInstructions x = shows_instruction x

-- how many of these events are of the sort
abbrev pub number_of : Sort → List Said → ℕ
number_of OfStarts es = length (starts es)
number_of OfInstructions es = length (instructions es)

-- the places of those among these events
abbrev pub place_told : Sort → Event → List Place
place_told OfStarts (event.Start element place values) = place ∷ []
place_told OfInstructions (event.Pi text entity place) = place ∷ []
place_told sort _ = []

abbrev pub places_told : Sort → List Event → List Place
places_told sort es = flat_map (place_told sort) es

-- AFTER WHAT WAS TOLD of what was read these events are to be told: those of a sort have the places of the pieces of
-- that sort that were read and not told
pub record HavePlaces (sort : Sort) (h : History) (told : List Said) (es : List Event) : Type 0 where
  pub before : List Place
  pub places : places_of (is_of sort) h ≡ before ++ places_told sort es
  pub count : length before ≡ number_of sort told

abbrev pub ArePlaced : History → List Said → List Event → Type 0
ArePlaced h told es = (sort : Sort) → HavePlaces sort h told es

-- A START, OR AN INSTRUCTION, that is told after these events has the place of the one that was read
abbrev pub IsPlaced : History → List Said → Event → Type 0
IsPlaced h told (event.Start element place values) = slice_get (start_places h) (length (starts told)) ≡ Some place
IsPlaced h told (event.Pi text entity place) = slice_get (instruction_places h) (length (instructions told)) ≡ Some place
IsPlaced h told _ = Unit {0}

-- no element begins in one of these moves but the first, and no instruction stands in one, so that all have one place
abbrev pub has_placed : Move → Bool
has_placed m = list_any (λ (p : Piece). is_start p.kind || shows_instruction p.kind) (m.omitted ++ m.visible ∷ [])

abbrev pub placed_first : List Move → Bool
placed_first [] = true
placed_first (m ∷ ms) = not (list_any has_placed ms)
