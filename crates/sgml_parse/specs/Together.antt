-- How a parser reads many events on in the part of the document that it is in.
use Rattle.std.specs.Prelude.{◌≡◌, ◌⊎◌, ◌++◌, ◌∷◌, [], ℕ, Bool, true, false, List, Option, Some, None, Result, Ok, Err}
use Rattle.std.specs.List.{list_all}
use Rattle.sgml_text.specs.declared.place.Place.{Place}
use Rattle.sgml_text.specs.declared.reason.Reason.{Reason}
use Rattle.sgml_events.specs.declared.event.Event.{Event}
use Rattle.sgml_instance.specs.said.Told.{all_said}
use Rattle.sgml_declared.specs.theory_reading.Names.{Text}
use Rattle.sgml_declared.specs.theory_reading.Pieces.{History}
use Rattle.sgml_declared.specs.theory_reading.Unread.{Input}
use Rattle.sgml_declared.specs.theory_reading.Reads.{Move, ReadOn, after_moves}
use Rattle.sgml_declared.specs.theory_reading.Events.{Event as Said}
use Rattle.sgml_declared.specs.theory_spelling.Spelled.{forms}
use Rattle.sgml_declared.specs.Files.{Choices}
use Rattle.sgml_instance.specs.Batches.{EachIsPlaced}
use Rattle.sgml_instance.specs.declared.answer.InstancePause.{InstancePause}
use Rattle.sgml_instance.specs.declared.answer.InstancePause.TheVariants as instance_pause
use Rattle.sgml_instance.specs.declared.answer.InstanceError.{InstanceError}
use Rattle.sgml_instance.specs.declared.answer.InstanceError.TheVariants as instance_error
use Rattle.sgml_parse.specs.declared.answer.ParsePause.{ParsePause}
use Rattle.sgml_parse.specs.declared.answer.ParsePause.TheVariants as pause
use Rattle.sgml_parse.specs.declared.answer.ParseStep.{ParseStep}
use Rattle.sgml_parse.specs.declared.answer.ParseStep.TheVariants as step
use Rattle.sgml_parse.specs.declared.answer.ParseError.{ParseError}
use Rattle.sgml_parse.specs.declared.answer.ParseError.TheVariants as error
use Rattle.sgml_parse.specs.declared.answer.Wanted.{Wanted}
use Rattle.sgml_parse.specs.declared.reading.Reading.{Reading as Kept}
use Rattle.sgml_parse.specs.There.{Reading, reading_of}
use Rattle.sgml_parse.specs.Missing.{why_missing}
use Rattle.sgml_parse.specs.Locating.{HasSources}
use Rattle.sgml_parse.specs.Parsing.{Reads, IsSound, doctype_in, is_in_instance, is_instruction}
use Rattle.sgml_parse.specs.Batches.{Pauses, UnlessMemory, AreThoseThen, GoesOverThen, wanted_at, error_of}
use Rattle.std.specs.Global.{Vec}

-- after some moves
pub record ReachesThen (new : Reading) (texts : List (ℕ × Text)) (ended : Bool) (I : Input) (more : Text) (h : History) (told : List Said) (gained : List Event) (result : Result ParsePause ParseError) : Type 0 where
  pub moves : List Move
  pub read : ReadOn forms I h moves
  pub pauses : Pauses new texts ended I (after_moves h moves) (told ++ all_said (doctype_in new) gained) (Reads new texts ended I more (after_moves h moves)) result
  pub placed : EachIsPlaced (after_moves h moves) (doctype_in new) told gained
  pub tables : AreThoseThen new (after_moves h moves) result
  pub sources : UnlessMemory result (HasSources new texts I (after_moves h moves))

-- WHAT IS ANSWERED, by the reader alone
abbrev pub ReadsMany : List (ℕ × Text) → Bool → Reading → Reading → List Event → Result ParsePause ParseError → Type 0
ReadsMany texts ended old new gained result =
    (I : Input) (more : Text) (h : History) (told : List Said) → Reads old texts ended I more h told → ReachesThen new texts ended I more h told gained result

-- WHAT A READER ANSWERS, as a parser tells it
pub record IsAnswerThen (c : Choices) (ts : List (ℕ × Text)) (ended : Bool) (old new : Reading) (before after : List Event) (result : Result ParsePause ParseError) : Type 0 where
  pub gained : List Event
  pub appended : after ≡ before ++ gained
  pub reads : ReadsMany ts ended old new gained result
  pub early : is_in_instance old ≡ false → list_all is_instruction gained ≡ true
  pub over : GoesOverThen old new result
  pub sound : IsSound c new (error_of result)

-- an answer, with its event appended, where memory was there for it
abbrev pub IsEvent : Result ParseStep ParseError → Type 0
IsEvent (Ok (step.Event e)) = Unit {0}
IsEvent _ = ⊥

abbrev pub IsAppended : Result ParseStep ParseError → List Event → List Event → Result ParsePause ParseError → Type 0
IsAppended answer before after (Ok pause.Going) = (e : Event) × (answer ≡ Ok (step.Event e)) × (after ≡ before ++ e ∷ [])
IsAppended answer before after (Ok pause.Prolog) = (answer ≡ Ok step.Prolog) × (after ≡ before)
IsAppended answer before after (Ok (pause.Want number file)) = (answer ≡ Ok (step.Want number file)) × (after ≡ before)
IsAppended answer before after (Ok pause.More) = (answer ≡ Ok step.More) × (after ≡ before)
IsAppended answer before after (Ok pause.Finished) = (answer ≡ Ok step.Finished) × (after ≡ before)
IsAppended answer before after (Err e) = ((answer ≡ Err e) ⊎ ((e ≡ error.Memory) × IsEvent answer)) × (after ≡ before)

-- what the reader of the instance answered, as it is told
abbrev pub pause_of_instance : Result InstancePause InstanceError → Result ParsePause ParseError
pause_of_instance (Ok instance_pause.Going) = Ok pause.Going
pause_of_instance (Ok (instance_pause.Want number file)) = Ok (pause.Want number file)
pause_of_instance (Ok instance_pause.More) = Ok pause.More
pause_of_instance (Ok instance_pause.Finished) = Ok pause.Finished
pause_of_instance (Err (instance_error.Refused x)) = Err (error.Refused x)
pause_of_instance (Err instance_error.Memory) = Err error.Memory

-- THE ANSWER, by which it was noted what is wanted, where there was memory for its name
abbrev pub IsWantThen : Result ParsePause ParseError → Type 0
IsWantThen (Ok (pause.Want number file)) = Unit {0}
IsWantThen _ = ⊥

abbrev pub IsNotedThen : Result ParsePause ParseError → Option Wanted → Result ParsePause ParseError → Type 0
IsNotedThen answer wanted (Ok p) = (answer ≡ Ok p) × (wanted ≡ wanted_at p)
IsNotedThen answer wanted (Err e) = (answer ≡ Err e) ⊎ ((e ≡ error.Memory) × IsWantThen answer)

-- what is wanted, unless it was supplied that it isn't there
abbrev pub unless_missing_then : Place → Option Reason → ℕ → Text → Result ParsePause ParseError
unless_missing_then place None number file = Ok (pause.Want number file)
unless_missing_then place (Some why) number file = Err (error.Refused (record { place = place; reason = why }))

abbrev pub checked_then : List (ℕ × Reason) → Place → Result ParsePause ParseError → Result ParsePause ParseError
checked_then missing place (Ok (pause.Want number file)) = unless_missing_then place (why_missing missing number) number file
checked_then missing place answer = answer

abbrev pub IsToldThen : List (ℕ × Reason) → Place → Result ParsePause ParseError → Option Wanted → Result ParsePause ParseError → Type 0
IsToldThen missing place answer wanted result = (noted : Result ParsePause ParseError) × IsNotedThen answer wanted noted × (result ≡ checked_then missing place noted)

-- by what is kept
abbrev pub AnswersThen : Choices → List (ℕ × Text) → Bool → Kept → Kept → Vec Event → Vec Event → Result ParsePause ParseError → Type 0
AnswersThen c ts ended old new before after result = IsAnswerThen c ts ended (reading_of old) (reading_of new) before.items after.items result
