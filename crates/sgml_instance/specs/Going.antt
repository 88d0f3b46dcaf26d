-- How the reader of the instance goes from step to step.
use Rattle.std.specs.Prelude.{◌≡◌, ◌<◌, ◌+◌, ℕ, Bool, true, false, if◌then◌else◌, ◌∷◌, ◌++◌, [], List, Option, Some, None, Result, Ok, Err, reverse}
use Rattle.sgml_text.specs.declared.place.Place.{Place}
use Rattle.sgml_events.specs.declared.event.Event.{Event}
use Rattle.sgml_declared.specs.theory_reading.Names.{Text}
use Rattle.sgml_declared.specs.theory_reading.Pieces.{History}
use Rattle.sgml_declared.specs.theory_reading.Unread.{Input}
use Rattle.sgml_declared.specs.theory_reading.Reads.{Move, ReadOn, after_moves}
use Rattle.sgml_declared.specs.theory_reading.Events as reading
use Rattle.sgml_declared.specs.theory_spelling.Spelled.{forms}
use Rattle.sgml_declared.specs.theory_standing.Next.{left_to_read}
use Rattle.sgml_declared.specs.Files.{Choices}
use Rattle.sgml_prolog_steps.specs.declared.stepping.Stop.{Stop}
use Rattle.sgml_prolog_steps.specs.declared.stepping.Stop.TheVariants as stop
use Rattle.sgml_content_tags.specs.sgml_content_steps.Content.{Content}
use Rattle.sgml_instance.specs.Reading.{Reader, IsReading, NextIsReading, reader, reader_with}
use Rattle.sgml_instance.specs.Batches.{ReadsOn}
use Rattle.sgml_instance.specs.Stepping.{IsStepOn, taken}
use Rattle.sgml_instance.specs.declared.answer.InstancePause.{InstancePause}
use Rattle.sgml_instance.specs.declared.answer.InstancePause.TheVariants as pause
use Rattle.sgml_instance.specs.declared.answer.InstanceStep.{InstanceStep}
use Rattle.sgml_instance.specs.declared.answer.InstanceStep.TheVariants as step
use Rattle.sgml_instance.specs.declared.answer.InstanceError.{InstanceError}
use Rattle.sgml_instance.specs.declared.answer.InstanceError.TheVariants as error
use Rattle.sgml_instance.specs.declared.stepping.Turn.{Turn}
use Rattle.sgml_instance.specs.declared.stepping.Turn.TheVariants as turn
use Rattle.std.specs.Global.{Vec}

-- WHAT WAS READ so far, and what the reader keeps then
pub record GoesTo (new : Reader) (texts : List (ℕ × Text)) (ended : Bool) (I : Input) (more : Text) (h : History) (told : List reading.Event) : Type 0 where
  pub moves : List Move
  pub read : ReadOn forms I h moves
  pub goes_on : IsReading new texts ended I more (after_moves h moves) told

abbrev pub GoesFrom : Choices → List (ℕ × Text) → Bool → Reader → Reader → Type 0
GoesFrom c texts ended old new =
    (I : Input) (more : Text) (h : History) (told : List reading.Event)
    → IsReading old texts ended I more h told → GoesTo new texts ended I more h told

-- where nothing waited, it is told why there is none
abbrev pub IsAnswered : Choices → List (ℕ × Text) → Bool → Content → Content → Result InstanceStep InstanceError → Type 0
IsAnswered c texts ended old new result =
    (from : Reader) → GoesFrom c texts ended from (reader c old [] false) → NextIsReading from (reader c new [] false) texts ended result

-- WHAT IS ANSWERED where nothing was taken at this place
abbrev pub stopped_at : Stop → Place → Result InstanceStep InstanceError
stopped_at (stop.Refused r) place = Err (error.Refused (record { place = place; reason = r }))
stopped_at (stop.Wanted number file) place = Ok (step.Want number file)
stopped_at stop.More place = Ok step.More
stopped_at stop.Memory place = Err error.Memory

abbrev pub is_end : Turn → Bool
is_end turn.Went = false
is_end turn.Ended = true

-- why nothing was taken, if so
abbrev pub stop_of : Result (Unit {0}) Stop → Option Stop
stop_of (Ok done) = None
stop_of (Err e) = Some e

-- WHAT IS READ ON in one call tells these events, after those that wait
abbrev pub GoesOn : Choices → List (ℕ × Text) → Bool → Content → Bool → Content → Bool → List Event → List Event → Type 0
GoesOn c texts ended old was new over before after =
    (es : List Event) × (after ≡ before ++ es) × ((waiting : List Event) → GoesFrom c texts ended (reader c old waiting was) (reader c new (waiting ++ es) over))

-- ONE STEP FURTHER: something is taken, or this is why nothing is
abbrev pub Advances : Choices → List (ℕ × Text) → Bool → Content → Content → Bool → List Event → List Event → Option Stop → Type 0
Advances c texts ended old new over before after None = GoesOn c texts ended old false new over before after
Advances c texts ended old new over before after (Some s) = IsStepOn c texts ended old new [] (Err s) × (after ≡ before) × (over ≡ false)

-- so less is left to read then, or the end
abbrev pub left_then : Content → List (ℕ × Text) → Bool → ℕ
left_then x texts over = left_to_read x.kept texts + (if over then 0 else 1)

abbrev pub FallsBy : List (ℕ × Text) → Content → Content → Bool → Option Stop → Type 0
FallsBy texts old new over None = left_then new texts over < left_then old texts false
FallsBy texts old new over (Some s) = Unit {0}

-- AS FAR AS IT WAS READ an event waits, or the document has ended; or this is answered
abbrev pub IsFilled : Choices → List (ℕ × Text) → Bool → Reader → Content → List Event → Bool → Option (Result InstanceStep InstanceError) → Type 0
IsFilled c texts ended old new waiting over None = GoesFrom c texts ended old (reader c new waiting over) × (waiting ≡ [] → over ≡ true)
IsFilled c texts ended old new waiting over (Some result) = NextIsReading old (reader c new waiting over) texts ended result

abbrev pub has_none : List Event → Bool
has_none [] = true
has_none (e ∷ es) = false

-- THE FIRST EVENT that waits is told; where none does, the document has ended
abbrev pub FirstIsTold : List Event → List Event → Result InstanceStep InstanceError → Type 0
FirstIsTold before after (Ok (step.Event e)) = before ≡ e ∷ after
FirstIsTold before after (Ok step.Finished) = (before ≡ []) × (after ≡ [])
FirstIsTold before after _ = ⊥

-- MANY EVENTS are read on after those that wait, which stand there already
abbrev pub ReadsRest : Choices → List (ℕ × Text) → Bool → Content → Bool → Content → Bool → List Event → List Event → Result InstancePause InstanceError → Type 0
ReadsRest c texts ended old was new over before after result =
    (earlier waiting : List Event) → before ≡ earlier ++ waiting → ReadsOn (reader c old waiting was) (reader c new [] over) texts ended earlier after result

abbrev pub paused_at : Stop → Place → Result InstancePause InstanceError
paused_at (stop.Refused r) place = Err (error.Refused (record { place = place; reason = r }))
paused_at (stop.Wanted number file) place = Ok (pause.Want number file)
paused_at stop.More place = Ok pause.More
paused_at stop.Memory place = Err error.Memory

abbrev pub pause_after : Bool → InstancePause
pause_after true = pause.Finished
pause_after false = pause.Going

-- THE SAME with the events that wait, the last of them first
abbrev pub Fills : Choices → List (ℕ × Text) → Bool → Content → Vec Event → Bool → Content → Vec Event → Bool → Option (Result InstanceStep InstanceError) → Type 0
Fills c texts ended old waiting was new waits over result = IsFilled c texts ended (reader_with c old waiting was) new (reverse waits.items) over result

-- where none waits, in their order
abbrev pub FillsFrom : Choices → List (ℕ × Text) → Bool → Content → Bool → Content → Vec Event → Bool → Option (Result InstanceStep InstanceError) → Type 0
FillsFrom c texts ended old was new waits over result = IsFilled c texts ended (reader c old [] was) new waits.items over result

-- of a step that answers whether it went on, and else why not
abbrev pub AdvancesBy : Choices → List (ℕ × Text) → Bool → Content → Content → Bool → Vec Event → Vec Event → Bool → Stop → Type 0
AdvancesBy c texts ended old new over told_old told_new went stop =
    Advances c texts ended old new over told_old.items told_new.items (stop_of (taken went stop))
