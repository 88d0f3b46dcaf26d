-- How reading goes from step to step of content, and what is told of it.
use Rattle.std.specs.Prelude.{◌≡◌, ℕ, Bool, true, false, [], ◌∷◌, ◌++◌, List, Result, Ok, Err}
use Rattle.sgml_text.specs.declared.place.Place.{Place}
use Rattle.sgml_text.specs.declared.reason.Reason.{Reason}
use Rattle.sgml_scan.specs.declared.state.ScanState.{ScanState}
use Rattle.sgml_events.specs.declared.event.Event.{Event}
use Rattle.sgml_declared.specs.theory_reading.Names.{Name, Text}
use Rattle.sgml_declared.specs.theory_reading.Pieces.{History}
use Rattle.sgml_declared.specs.theory_reading.Unread.{Input}
use Rattle.sgml_declared.specs.theory_reading.Events as reading
use Rattle.sgml_declared.specs.theory_standing.Supplied.{MayFollow}
use Rattle.sgml_declared.specs.theory_standing.Laws.{Gain}
use Rattle.sgml_declared.specs.theory_reading.Reads.{top_place}
use Rattle.sgml_declared.specs.theory_standing.Kept.{Kept}
use Rattle.sgml_declared.specs.theory_standing.Held.{Held}
use Rattle.sgml_declared.specs.Files.{Choices}
use Rattle.sgml_prolog_steps.specs.declared.stepping.Stop.{Stop}
use Rattle.sgml_prolog_steps.specs.declared.stepping.Stop.TheVariants as stop
use Rattle.sgml_content_tags.specs.sgml_content_steps.Standing.{IsHeld}
use Rattle.sgml_content_tags.specs.sgml_content_steps.Content.{Content, Holds}
use Rattle.sgml_content_tags.specs.sgml_content_steps.Steps.{IsStep, ToldAt}
use Rattle.sgml_instance.specs.Reading.{Reader, IsReading, NextIsReading, reader, BeginsAfterProlog}
use Rattle.sgml_instance.specs.Stepping.{IsStepOn, HoldsNothing, on}
use Rattle.sgml_instance.specs.Going.{GoesFrom, IsAnswered}
use Rattle.sgml_instance.specs.declared.stepping.Turn.TheVariants as turn
use Rattle.sgml_instance.specs.declared.answer.InstanceStep.TheVariants as step
use Rattle.sgml_instance.specs.declared.answer.InstanceError.TheVariants as error

-- IT BEGINS where the prolog has been read, with nothing open
abbrev pub BeginsWithNothing : Type 0
BeginsWithNothing = (c : Choices) (k : Kept) (x : Content) → x.kept ≡ k → HoldsNothing x → BeginsAfterProlog k (reader c x [] false)

-- A STEP of content, in the state in which content is scanned there, is a step for all that may be held
abbrev pub StepIsOn : Type 0
StepIsOn =
    (c : Choices) (st : ScanState) (texts : List (ℕ × Text)) (ended : Bool) (old new : Content) (told : List Event) (result : Result (Unit {0}) Stop)
    → ((x : Held) → Holds old x → IsHeld old.kept st x) → ToldAt old.kept told → IsStep c st texts ended old new told result
    → IsStepOn c texts ended old new told (on result)

-- READING GOES from step to step, where nothing waits to be told, up to the end of the document
abbrev pub NothingGoes : Type 0
NothingGoes = (c : Choices) (texts : List (ℕ × Text)) (ended : Bool) (r : Reader) → GoesFrom c texts ended r r

abbrev pub StepGoesOn : Type 0
StepGoesOn =
    (c : Choices) (texts : List (ℕ × Text)) (ended : Bool) (from : Reader) (k new : Content) (es : List Event)
    → GoesFrom c texts ended from (reader c k [] false) → IsStepOn c texts ended k new es (Ok turn.Went) → GoesFrom c texts ended from (reader c new es false)

abbrev pub EndGoesOn : Type 0
EndGoesOn =
    (c : Choices) (texts : List (ℕ × Text)) (ended : Bool) (from : Reader) (k new : Content) (es : List Event)
    → GoesFrom c texts ended from (reader c k [] false) → IsStepOn c texts ended k new es (Ok turn.Ended) → GoesFrom c texts ended from (reader c new es true)

-- WHAT WAITS IS TOLD, one event after another; then the document has ended
abbrev pub EventIsTold : Type 0
EventIsTold =
    (c : Choices) (texts : List (ℕ × Text)) (ended : Bool) (from : Reader) (k : Content) (over : Bool) (e : Event) (es : List Event)
    → GoesFrom c texts ended from (reader c k (e ∷ es) over) → NextIsReading from (reader c k es over) texts ended (Ok (step.Event e))

abbrev pub EndIsTold : Type 0
EndIsTold =
    (c : Choices) (texts : List (ℕ × Text)) (ended : Bool) (from : Reader) (k : Content)
    → GoesFrom c texts ended from (reader c k [] true) → NextIsReading from (reader c k [] true) texts ended (Ok step.Finished)

-- WHY NOTHING WAS TAKEN is what is answered
abbrev pub MoreIsAnswered : Type 0
MoreIsAnswered =
    (c : Choices) (texts : List (ℕ × Text)) (ended : Bool) (k new : Content) (es : List Event)
    → IsStepOn c texts ended k new es (Err stop.More) → IsAnswered c texts ended k new (Ok step.More)

abbrev pub RefusalIsAnswered : Type 0
RefusalIsAnswered =
    (c : Choices) (texts : List (ℕ × Text)) (ended : Bool) (k new : Content) (es : List Event) (place : Place) (r : Reason)
    → IsStepOn c texts ended k new es (Err (stop.Refused r)) → place ≡ top_place k.kept.stack.places
    → IsAnswered c texts ended k new (Err (error.Refused (record { place = place; reason = r })))

abbrev pub WantIsAnswered : Type 0
WantIsAnswered =
    (c : Choices) (texts : List (ℕ × Text)) (ended : Bool) (k new : Content) (es : List Event) (number : ℕ) (file : Name)
    → IsStepOn c texts ended k new es (Err (stop.Wanted number file)) → IsAnswered c texts ended k new (Ok (step.Want number file))

-- MORE TEXTS leave what it stands for as it is: more of the document, and texts of entities that aren't being read
abbrev pub MoreTextsReadOn : Type 0
MoreTextsReadOn =
    (r : Reader) (old new : List (ℕ × Text)) (was ended : Bool) (I : Input) (bytes more : Text) (h : History) (told : List reading.Event)
    → IsReading r old was I (bytes ++ more) h told → Gain r.content.kept I.outside old new bytes → MayFollow ended I more
    → IsReading r new ended I more h told
