-- What the reader of the instance answers after many events.
use Rattle.std.specs.Prelude.{◌≡◌, ℕ, Bool, true, false, ◌++◌, [], ◌∷◌, List, Option, Some, None, Result, Ok, Err}
use Rattle.sgml_text.specs.declared.place.Place.{Place}
use Rattle.sgml_events.specs.declared.event.Event.{Event}
use Rattle.sgml_content_tags.specs.said.Told.{said, all_said}
use Rattle.sgml_dtd.specs.Doctypes.{Doctype}
use Rattle.sgml_declared.specs.theory_reading.Names.{Text}
use Rattle.sgml_declared.specs.theory_reading.Pieces.{History}
use Rattle.sgml_declared.specs.theory_reading.Unread.{Input}
use Rattle.sgml_declared.specs.theory_reading.Reads.{Move, ReadOn, after_moves, ends_in_finish}
use Rattle.sgml_declared.specs.theory_reading.Events as reading
use Rattle.sgml_declared.specs.theory_spelling.Spelled.{forms}
use Rattle.sgml_content_tags.specs.sgml_content_steps.Places.{IsPlaced}
use Rattle.sgml_instance.specs.Reading.{Reader, IsReading, HasToldAll, Leads, reader_with}
use Rattle.sgml_instance.specs.declared.answer.InstancePause.{InstancePause}
use Rattle.sgml_instance.specs.declared.answer.InstancePause.TheVariants as pause
use Rattle.sgml_instance.specs.declared.answer.InstanceStep.TheVariants as step
use Rattle.sgml_instance.specs.declared.answer.InstanceError.{InstanceError}
use Rattle.std.specs.Global.{Vec}
use Rattle.sgml_declared.specs.Files.{Choices}
use Rattle.sgml_content_tags.specs.sgml_content_steps.Content.{Content}

-- EACH START among these events, told one after another after those told before, has the place of the one that was read
abbrev pub EachIsPlaced : History → Doctype → List reading.Event → List Event → Type 0
EachIsPlaced h d told [] = Unit {0}
EachIsPlaced h d told (e ∷ es) = IsPlaced h told e × EachIsPlaced h d (told ++ said d e) es

-- where all that was read was told, it goes on before the end of the document, or it is answered why nothing is told next
abbrev pub Pauses : Reader → List (ℕ × Text) → Bool → Input → Text → History → List reading.Event → Result InstancePause InstanceError → Type 0
Pauses new texts ended I more h told (Ok pause.Going) = HasToldAll new texts ended I more h told × (ends_in_finish h ≡ false)
Pauses new texts ended I more h told (Ok (pause.Want number file)) = Leads new texts ended I more h told (Ok (step.Want number file))
Pauses new texts ended I more h told (Ok pause.More) = Leads new texts ended I more h told (Ok step.More)
Pauses new texts ended I more h told (Ok pause.Finished) = Leads new texts ended I more h told (Ok step.Finished)
Pauses new texts ended I more h told (Err e) = Leads new texts ended I more h told (Err e)

-- after some moves, which these events tell
pub record Gains (new : Reader) (texts : List (ℕ × Text)) (ended : Bool) (I : Input) (more : Text) (h : History) (told : List reading.Event) (gained : List Event) (result : Result InstancePause InstanceError) : Type 0 where
  pub moves : List Move
  pub read : ReadOn forms I h moves
  pub pauses : Pauses new texts ended I more (after_moves h moves) (told ++ all_said new.content.kept.doctype gained) result
  pub placed : EachIsPlaced (after_moves h moves) new.content.kept.doctype told gained

-- THE ANSWER, for every input that it may be reading, all that was read of it and all that was told
abbrev pub ReadIsReading : Reader → Reader → List (ℕ × Text) → Bool → List Event → Result InstancePause InstanceError → Type 0
ReadIsReading old new texts ended gained result =
    (I : Input) (more : Text) (h : History) (told : List reading.Event)
    → IsReading old texts ended I more h told → Gains new texts ended I more h told gained result

-- the events stand behind those that stood there
abbrev pub ReadsOn : Reader → Reader → List (ℕ × Text) → Bool → List Event → List Event → Result InstancePause InstanceError → Type 0
ReadsOn old new texts ended before after result = (gained : List Event) × (after ≡ before ++ gained) × ReadIsReading old new texts ended gained result

-- the error that is answered
abbrev pub error_of : Result InstancePause InstanceError → Option InstanceError
error_of (Ok x) = None
error_of (Err e) = Some e

-- with the events that wait, the last of them first
abbrev pub ReadsMany : Choices → List (ℕ × Text) → Bool → Content → Vec Event → Bool → Content → Vec Event → Bool → Vec Event → Vec Event → Result InstancePause InstanceError → Type 0
ReadsMany c texts ended old waiting was new waits over told_old told_new result =
    ReadsOn (reader_with c old waiting was) (reader_with c new waits over) texts ended told_old.items told_new.items result
