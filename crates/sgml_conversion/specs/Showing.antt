-- What was told of a document, and written, up to some moment.
use Rattle.std.specs.Prelude.{◌≡◌, ℕ, false, List, slice_get, Option, Some, None, IfSome, Result, Ok, Err}
use Rattle.sgml_text.specs.declared.place.Place.{Place}
use Rattle.sgml_syntax.specs.declared.syntax.Syntax.{Syntax}
use Rattle.sgml_dtd.specs.entity.Stack.{is_on}
use Rattle.sgml_dtd.specs.Doctypes.{Doctype}
use Rattle.sgml_events.specs.declared.event.Event.{Event}
use Rattle.sgml_said.specs.Told.{all_said}
use Rattle.sgml_idents.specs.declared.idents.Idents.{Idents}
use Rattle.sgml_idents.specs.Noted.{starts_of}
use Rattle.sgml_idents.specs.Judged.{place_at}
use Rattle.sgml_said.specs.theory_reading.Pieces.{History}
use Rattle.sgml_said.specs.theory_reading.Facets.{AfterSubset, subset_number}
use Rattle.sgml_said.specs.theory_reading.Unread.{Input, unread}
use Rattle.sgml_said.specs.theory_reading.State.{stage}
use Rattle.sgml_said.specs.theory_reading.Reads.{Move, ReadOn, after_moves, start_places, instruction_places}
use Rattle.sgml_theory_ending.specs.theory_spelling.Spelled.{forms}
use Rattle.sgml_source.specs.declaring.Files.{Choices}
use Rattle.sgml_event_lines.specs.declared.writer.Writer.{Writer}
use Rattle.sgml_source.specs.content_steps.Places.{OfInstructions, places_told}
use Rattle.sgml_source.specs.parse.Parsing.{Parser, doctype_in}
use Rattle.sgml_conversion.specs.declared.answer.Ending.{Ending}
use Rattle.sgml_conversion.specs.declared.answer.Failure.{Failure}
use Rattle.sgml_source.specs.declared.source.Source.{Source}
use Rattle.sgml_source.specs.Inputs.{Files, IsInputOf}
use Rattle.sgml_conversion.specs.Converting.{FailsFrom}
use Rattle.sgml_conversion.specs.Ending.{ReadsTo}
use Rattle.sgml_source.specs.Feeding.{IsAt}
use Rattle.sgml_conversion.specs.Writing.{StandAfter}

-- THE STARTS AND THE INSTRUCTIONS among these events have the places of those that were read
abbrev pub StartsArePlaced : History → Doctype → List Event → Type 0
StartsArePlaced h d es =
    (number : ℕ) (place : Place) → place_at (starts_of d es) number ≡ Some place → slice_get (start_places h) number ≡ Some place

abbrev pub InstructionsArePlaced : History → List Event → Type 0
InstructionsArePlaced h es =
    (number : ℕ) (place : Place) → slice_get (places_told OfInstructions es) number ≡ Some place
    → slice_get (instruction_places h) number ≡ Some place

pub record ArePlaced (h : History) (d : Doctype) (es : List Event) : Type 0 where
  pub starts : StartsArePlaced h d es
  pub instructions : InstructionsArePlaced h es

-- THE PROLOG has been read, with the external subset
pub record IsPastProlog (h : History) : Type 0 where
  pub stage_is : stage h ≡ AfterSubset
  pub no_subset : is_on subset_number (unread h) ≡ false

-- THESE EVENTS were told of what was read
pub record IsShown (limit : ℕ) (bytes : List ℕ) (left : ℕ → Option (List ℕ)) (s : Source) (p : Parser) (I : Input) (h : History) (es : List Event) : Type 0 where
  pub at : IsAt limit bytes left s p I h (all_said (doctype_in p.reading) es)
  pub placed : ArePlaced h (doctype_in p.reading) es
  pub past : IsPastProlog h

-- after some moves
pub record ShowsThen (limit : ℕ) (bytes : List ℕ) (left : ℕ → Option (List ℕ)) (s : Source) (p : Parser) (I : Input) (h : History) (es : List Event) : Type 0 where
  pub moves : List Move
  pub read : ReadOn forms I h moves
  pub shown : IsShown limit bytes left s p I (after_moves h moves) es

-- OF EACH INPUT that a document may be, of which these events were told, over a store that tells its files
abbrev pub ForEachInput : Option Files → (ℕ → Option (List ℕ)) → Source → Parser → List Event → (ℕ → List ℕ → Input → History → Type 0) → Type 0
ForEachInput known left s p es P =
    IfSome known (λ files. (limit : ℕ) (c : Choices) (declaration : Option Syntax) (bytes : List ℕ) (I : Input) (h : History)
    → IsInputOf limit files c declaration bytes I → IsShown limit bytes left s p I h es → P limit bytes I h)

-- A TURN IN THE INSTANCE: more events were told and written, or this is the outcome, or a front was written
abbrev pub InstanceTurns : Option (List ℕ) → ℕ → Option Files → (ℕ → Option (List ℕ)) → Source → Parser → List Event → (ℕ → Option (List ℕ)) → Source → Parser → Option (List ℕ) → ℕ → Writer → Idents → Result (Option Ending) Failure → Type 0
InstanceTurns start count known left s p es left' s' p' taken faults w i (Ok None) =
    (es' : List Event) × StandAfter start count taken faults w i (doctype_in p'.reading) es' × ForEachInput known left s p es (λ limit bytes I h. ShowsThen limit bytes left' s' p' I h es')
InstanceTurns start count known left s p es left' s' p' taken faults w i (Ok (Some a)) = ForEachInput known left s p es (λ limit bytes I h. ReadsTo p' a I h start taken)
InstanceTurns start count known left s p es left' s' p' taken faults w i (Err e) = ForEachInput known left s p es (λ limit bytes I h. FailsFrom I h start taken)

abbrev pub InstanceEnds : Option (List ℕ) → Option Files → (ℕ → Option (List ℕ)) → Source → Parser → List Event → Parser → Option (List ℕ) → Result Ending Failure → Type 0
InstanceEnds start known left s p es p' taken (Ok a) = ForEachInput known left s p es (λ limit bytes I h. ReadsTo p' a I h start taken)
InstanceEnds start known left s p es p' taken (Err e) = ForEachInput known left s p es (λ limit bytes I h. FailsFrom I h start taken)

-- THE SAME from a store and into a sink of which it is told what they have: whatever was written, the instance is
-- converted to its end, or a turn of it
abbrev pub EndsInstance : {S O : Type 0} → (S → Option Files) → (S → ℕ → Option (List ℕ)) → (O → Option (List ℕ)) → (O → ℕ) → S → Source → Parser → O → Writer → Idents → Parser → O → Result Ending Failure → Type 0
EndsInstance files left taken faults store s p out w i p' out' result =
    (start : Option (List ℕ)) (count : ℕ) (es : List Event) → StandAfter start count (taken out) (faults out) w i (doctype_in p.reading) es
    → InstanceEnds start (files store) (left store) s p es p' (taken out') result

abbrev pub TurnsInstance : {S O : Type 0} → (S → Option Files) → (S → ℕ → Option (List ℕ)) → (O → Option (List ℕ)) → (O → ℕ) → S → Source → Parser → O → Writer → Idents → S → Source → Parser → O → Writer → Idents → Result (Option Ending) Failure → Type 0
TurnsInstance files left taken faults store s p out w i store' s' p' out' w' i' result =
    (start : Option (List ℕ)) (count : ℕ) (es : List Event) → StandAfter start count (taken out) (faults out) w i (doctype_in p.reading) es
    → InstanceTurns start count (files store) (left store) s p es (left store') s' p' (taken out') (faults out') w' i' result
