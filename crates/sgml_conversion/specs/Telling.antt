-- What is told of a document that is read to its end before anything is written.
use Rattle.std.specs.Prelude.{◌≡◌, ◌⊎◌, ◌+◌, ℕ, true, List, [], ◌++◌, drop, length, slice_get, Option, Some, None, IfSome, Result, Ok, Err, IfOk}
use Rattle.std.specs.List.{list_all}
use Rattle.std.specs.Io.KnownBytes.{Appends}
use Rattle.sgml_text.specs.declared.place.Place.{Place}
use Rattle.sgml_text.specs.declared.place.Refusal.{Refusal}
use Rattle.sgml_text.specs.declared.reason.Reason.TheVariants.{PiNotSpelled}
use Rattle.sgml_io.specs.Writes.{AppendsFront}
use Rattle.sgml_syntax.specs.declared.syntax.Syntax.{Syntax}
use Rattle.sgml_dtd.specs.Doctypes.{Doctype}
use Rattle.sgml_events.specs.declared.event.Event.{Event}
use Rattle.sgml_events.specs.declared.event.Event.TheVariants as event
use Rattle.sgml_said.specs.Told.{all_said}
use Rattle.sgml_storage.specs.Storage.{IsStorageOf}
use Rattle.sgml_full.specs.Full.{full_document}
use Rattle.sgml_full.specs.Events.{is_spelled, IsFirstUnspelled}
use Rattle.sgml_said.specs.theory_reading.Names.{Text}
use Rattle.sgml_said.specs.theory_reading.Pieces.{History}
use Rattle.sgml_said.specs.theory_reading.Nest.{types}
use Rattle.sgml_said.specs.theory_reading.Unread.{Input, opening}
use Rattle.sgml_said.specs.theory_reading.Reads.{Move, ReadOn, after_moves, stop_place, ends_in_finish, instruction_places}
use Rattle.sgml_said.specs.theory_reading.Events.{events, instructions}
use Rattle.sgml_said.specs.theory_reading.Identifiers.{id_fault}
use Rattle.sgml_theory_ending.specs.theory_spelling.Spelled.{forms}
use Rattle.sgml_source.specs.declaring.Files.{Choices}
use Rattle.sgml_source.specs.parse.Parsing.{Parser, KnowsTexts, IsAfterProlog, doctype_in}
use Rattle.sgml_source.specs.content_steps.Places.{OfInstructions, places_told}
use Rattle.sgml_source.specs.declared.source.Phase.{Phase}
use Rattle.sgml_source.specs.declared.source.Source.{Source}
use Rattle.sgml_source.specs.declared.told.Paused.{Paused}
use Rattle.sgml_source.specs.declared.told.Paused.TheVariants as paused
use Rattle.sgml_source.specs.Inputs.{Files, IsInputOf}
use Rattle.sgml_source.specs.Stopping.{IsStop}
use Rattle.sgml_conversion.specs.declared.answer.Outcome.{Outcome}
use Rattle.sgml_conversion.specs.declared.answer.Failure.{Failure}
use Rattle.sgml_conversion.specs.declared.answer.Failure.TheVariants as failure
use Rattle.sgml_conversion.specs.declared.answer.Ending.{Ending}
use Rattle.sgml_conversion.specs.declared.answer.Ending.TheVariants as ending
use Rattle.sgml_conversion.specs.declared.whole.WholeRead.{WholeRead}
use Rattle.sgml_conversion.specs.declared.whole.WholeRead.TheVariants as read
use Rattle.sgml_conversion.specs.Converting.{IsIdFault}
use Rattle.sgml_conversion.specs.Showing.{ArePlaced, IsShown, ShowsThen, ForEachInput}
use Rattle.sgml_conversion.specs.Beginning.{OfEachInput}
use Rattle.sgml_source.specs.Feeding.{IsAt}
use Rattle.sgml_conversion.specs.Documents.{HasRead, source_of}
use Rattle.sgml_conversion.specs.Full.{FullAnswers}

-- the document has ended, or reading stops
abbrev pub IsThereBy : Option Refusal → Input → History → Type 0
IsThereBy None I h = ends_in_finish h ≡ true
IsThereBy (Some r) I h = IsStop I h r

-- THESE EVENTS tell of all that reads
pub record TellsAll (p : Parser) (refused : Option Refusal) (I : Input) (h : History) (es : List Event) : Type 0 where
  pub moves : List Move
  pub read : ReadOn forms I h moves
  pub there : IsThereBy refused I (after_moves h moves)
  pub told : events forms (after_moves h moves) ≡ all_said (doctype_in p.reading) es
  pub placed : ArePlaced (after_moves h moves) (doctype_in p.reading) es
  pub typed : doctype_in p.reading ≡ types (after_moves h moves)
  pub knows : (more : Text) × KnowsTexts p I more (after_moves h moves)

-- a turn: more was told, or all that reads
abbrev pub TurnsOn : Option Files → (ℕ → Option (List ℕ)) → Source → Parser → List Event → (ℕ → Option (List ℕ)) → Source → Parser → List Event → Paused → Type 0
TurnsOn known left s p es left' s' p' es' paused.Going = ForEachInput known left s p es (λ limit bytes I h. ShowsThen limit bytes left' s' p' I h es')
TurnsOn known left s p es left' s' p' es' paused.Finished = ForEachInput known left s p es (λ limit bytes I h. TellsAll p' None I h es')
TurnsOn known left s p es left' s' p' es' (paused.Refused r) = ForEachInput known left s p es (λ limit bytes I h. TellsAll p' (Some r) I h es')

-- after so many instructions the next have these places
abbrev pub InstructionsArePlacedFrom : ℕ → History → List Event → Type 0
InstructionsArePlacedFrom before h es =
    (number : ℕ) (place : Place) → slice_get (places_told OfInstructions es) number ≡ Some place
    → slice_get (instruction_places h) (before + number) ≡ Some place

-- READ TO THE END, of a document of which nothing was read: refused there, or whole
pub record StopsFrom (p : Parser) (r : Refusal) (I : Input) (h : History) : Type 0 where
  pub moves : List Move
  pub read : ReadOn forms I h moves
  pub end : IsStop I (after_moves h moves) r ⊎ IsIdFault (after_moves h moves) r
  pub knows : (more : Text) × KnowsTexts p I more (after_moves h moves)

-- from the end of the prolog, which has so many bytes of the text, to the end of the document: these events tell of it
pub record EndsRest (p : Parser) (at : ℕ) (I : Input) (h : History) (es : List Event) : Type 0 where
  pub border : IsAfterProlog h
  pub moves : List Move
  pub read : ReadOn forms I h moves
  pub over : ends_in_finish (after_moves h moves) ≡ true
  pub agree : id_fault (events forms (after_moves h moves)) ≡ None
  pub told : events forms (after_moves h moves) ≡ events forms h ++ all_said (types (after_moves h moves)) es
  pub placed : InstructionsArePlacedFrom (length (instructions (events forms h))) (after_moves h moves) es
  pub at_is : at ≡ (stop_place h).at
  pub typed : doctype_in p.reading ≡ types (after_moves h moves)
  pub knows : (more : Text) × KnowsTexts p I more (after_moves h moves)

pub record EndsWhole (p : Parser) (at : ℕ) (I : Input) (h : History) (es : List Event) : Type 0 where
  pub prolog : List Move
  pub read : ReadOn forms I h prolog
  pub ends : EndsRest p at I (after_moves h prolog) es

abbrev pub RestEnds : Parser → WholeRead → List Event → Input → History → Type 0
RestEnds p (read.Whole from at) es I h = EndsRest p at I h (drop from es)
RestEnds p (read.Refused r) es I h = StopsFrom p r I h

abbrev pub WholeEnds : Parser → WholeRead → List Event → Input → History → Type 0
WholeEnds p (read.Whole from at) es I h = EndsWhole p at I h (drop from es)
WholeEnds p (read.Refused r) es I h = StopsFrom p r I h

-- where the prolog has been read, of which these events were told
abbrev pub RestReads : Option Files → (ℕ → Option (List ℕ)) → Source → Parser → List Event → Parser → List Event → WholeRead → Type 0
RestReads known left s p es p' es' x =
    IfSome known (λ files. (limit : ℕ) (c : Choices) (declaration : Option Syntax) (bytes : List ℕ) (I : Input) (h : History)
    → IsInputOf limit files c declaration bytes I → IsShown limit bytes left s p I h es → IsAfterProlog h → events forms h ≡ all_said (doctype_in p.reading) es
    → RestEnds p' x es' I h)

-- where nothing has been read, of each input that the document may be
abbrev pub ReadsToEnd : Option Files → (ℕ → Option (List ℕ)) → Source → Parser → Parser → List Event → WholeRead → Type 0
ReadsToEnd known left s p p' es x = OfEachInput known left s p (λ limit bytes I h. WholeEnds p' x es I h)

-- these events and more
abbrev pub HasMore : List Event → List Event → Type 0
HasMore old new = (more : List Event) × (new ≡ old ++ more)

-- THE FIRST INSTRUCTION among these events that can't be spelled is at this place
abbrev pub IsAtPlace : Option Event → Place → Type 0
IsAtPlace (Some (event.Pi text entity place)) p = place ≡ p
IsAtPlace e p = ⊥

pub record IsUnspelledAmong (es : List Event) (r : Refusal) : Type 0 where
  pub index : ℕ
  pub first : IsFirstUnspelled es index
  pub place : IsAtPlace (slice_get es index) r.place
  pub reason : r.reason ≡ PiNotSpelled

-- WRITTEN was the full document after a prolog of so many bytes of the text, or a front of it, or nothing
pub record HasFull (bytes : List ℕ) (at : ℕ) (d : Doctype) (es : List Event) (text : List ℕ) : Type 0 where
  pub spelled : list_all is_spelled es ≡ true
  pub prolog : List ℕ
  pub storage : IsStorageOf bytes at prolog
  pub is : text ≡ full_document prolog d (all_said d es)

abbrev pub WritesDocument : List ℕ → ℕ → Doctype → List Event → Option (List ℕ) → Option (List ℕ) → Result Ending Failure → Type 0
WritesDocument bytes at d es before now (Ok ending.Conforming) = (text : List ℕ) × HasFull bytes at d es text × Appends before now text
WritesDocument bytes at d es before now (Ok (ending.Refused r)) = IsUnspelledAmong es r × (now ≡ before)
WritesDocument bytes at d es before now (Err failure.Sink) = (text : List ℕ) × HasFull bytes at d es text × AppendsFront before now text
WritesDocument bytes at d es before now (Err failure.Store) = now ≡ before
WritesDocument bytes at d es before now (Err failure.Memory) = now ≡ before

-- what is answered then
abbrev pub WritesRead : List ℕ → Doctype → List Event → Option (List ℕ) → Option (List ℕ) → WholeRead → Result Ending Failure → Type 0
WritesRead bytes d es before now (read.Whole from at) result = WritesDocument bytes at d (drop from es) before now result
WritesRead bytes d es before now (read.Refused r) result = (result ≡ Ok (ending.Refused r)) × (now ≡ before)

-- WHERE A PARSER STANDS FOR NOTHING READ of what was read of its file, it is answered so
abbrev pub FullFed : ℕ → ℕ → List ℕ → Phase → Parser → Option Files → (ℕ → Option (List ℕ)) → Option (List ℕ) → Option (List ℕ) → Result Outcome Failure → Type 0
FullFed limit id bytes phase p known left before now result =
    IfSome known (λ files. (c : Choices) (declaration : Option Syntax) (whole : List ℕ) (I : Input)
    → IsInputOf limit files c declaration whole I → HasRead limit whole (left id) bytes phase
    → IsAt limit whole left (source_of limit id bytes phase) p I (opening I.outside) []
    → FullAnswers whole I before now result)

-- the document of this id, of which nothing was read
abbrev pub FullFound : ℕ → Choices → Option Syntax → Option Files → (ℕ → Option (List ℕ)) → ℕ → Option (List ℕ) → Option (List ℕ) → Result Outcome Failure → Type 0
FullFound limit c declaration known left id before now result =
    IfSome known (λ files. (bytes : List ℕ) (I : Input) → left id ≡ Some bytes → IsInputOf limit files c declaration bytes I → FullAnswers bytes I before now result)

-- THE SAME from a store of which it is told which files it has and what is left of each
abbrev pub RestReadsBy : {S : Type 0} → (S → Option Files) → (S → ℕ → Option (List ℕ)) → S → Source → Parser → List Event → Parser → List Event → WholeRead → Type 0
RestReadsBy files left store s p es p' es' x = RestReads (files store) (left store) s p es p' es' x

abbrev pub TellsRest : {S E : Type 0} → (S → Option Files) → (S → ℕ → Option (List ℕ)) → S → Source → Parser → List Event → Parser → List Event → Result (Option Refusal) E → Type 0
TellsRest files left store s p es p' es' result =
    IfOk result (λ refused. ForEachInput (files store) (left store) s p es (λ limit bytes I h. TellsAll p' refused I h es'))

abbrev pub Tells : {S E : Type 0} → (S → Option Files) → (S → ℕ → Option (List ℕ)) → S → Source → Parser → List Event → S → Source → Parser → List Event → Result Paused E → Type 0
Tells files left store s p es store' s' p' es' result = IfOk result (TurnsOn (files store) (left store) s p es (left store') s' p' es')

abbrev pub FullFedFrom : {S O : Type 0} → ℕ → ℕ → List ℕ → Phase → Parser → (S → Option Files) → (S → ℕ → Option (List ℕ)) → S → (O → Option (List ℕ)) → O → O → Result Outcome Failure → Type 0
FullFedFrom limit id bytes phase p files left store taken out out' result = FullFed limit id bytes phase p (files store) (left store) (taken out) (taken out') result

abbrev pub FullFoundIn : {S O : Type 0} → ℕ → Choices → Option Syntax → ℕ → (S → Option Files) → (S → ℕ → Option (List ℕ)) → S → (O → Option (List ℕ)) → O → O → Result Outcome Failure → Type 0
FullFoundIn limit c declaration id files left store taken out out' result = FullFound limit c declaration (files store) (left store) id (taken out) (taken out') result
