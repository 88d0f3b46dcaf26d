-- How a parser reads on in the part of the document that it is in.
use Rattle.std.specs.Prelude.{◌≡◌, ◌⊎◌, ℕ, Bool, true, List, Option, Some, None, Result, Ok, Err}
use Rattle.sgml_text.specs.declared.place.Place.{Place}
use Rattle.sgml_text.specs.declared.reason.Reason.{Reason}
use Rattle.sgml_events.specs.declared.event.Event.TheVariants as event
use Rattle.sgml_declared.specs.theory_reading.Names.{Text}
use Rattle.sgml_declared.specs.theory_reading.Pieces.{History}
use Rattle.sgml_declared.specs.theory_reading.Unread.{Input}
use Rattle.sgml_declared.specs.theory_reading.Reads.{Move, ReadOn, after_moves}
use Rattle.sgml_declared.specs.theory_reading.Events.{Event as Said}
use Rattle.sgml_declared.specs.theory_spelling.Spelled.{forms}
use Rattle.sgml_declared.specs.theory_standing.Prologs.{is_over}
use Rattle.sgml_declared.specs.Files.{Choices}
use Rattle.sgml_prolog.specs.Reading as prolog
use Rattle.sgml_prolog.specs.declared.answer.PrologStep.{PrologStep}
use Rattle.sgml_prolog.specs.declared.answer.PrologStep.TheVariants as prolog_step
use Rattle.sgml_prolog.specs.declared.answer.PrologError.{PrologError}
use Rattle.sgml_prolog.specs.declared.answer.PrologError.TheVariants as prolog_error
use Rattle.sgml_instance.specs.Reading as content
use Rattle.sgml_instance.specs.declared.answer.InstanceStep.{InstanceStep}
use Rattle.sgml_instance.specs.declared.answer.InstanceStep.TheVariants as instance_step
use Rattle.sgml_instance.specs.declared.answer.InstanceError.{InstanceError}
use Rattle.sgml_instance.specs.declared.answer.InstanceError.TheVariants as instance_error
use Rattle.sgml_parse.specs.declared.answer.ParseStep.{ParseStep}
use Rattle.sgml_parse.specs.declared.answer.ParseStep.TheVariants as step
use Rattle.sgml_parse.specs.declared.answer.ParseError.{ParseError}
use Rattle.sgml_parse.specs.declared.answer.ParseError.TheVariants as error
use Rattle.sgml_parse.specs.There.{Reading}
use Rattle.sgml_parse.specs.There as reading
use Rattle.sgml_parse.specs.declared.answer.Wanted.{Wanted}
use Rattle.sgml_parse.specs.Missing.{why_missing}
use Rattle.sgml_parse.specs.Locating.{KnowsThen, HasSources}
use Rattle.sgml_parse.specs.Parsing.{Reads, Leads, AreThoseRead, TellsInstructions, wanted_in, GoesOver, IsSound, error_in}

-- after some moves
pub record Reaches (new : Reading) (texts : List (ℕ × Text)) (ended : Bool) (I : Input) (more : Text) (h : History) (told : List Said) (result : Result ParseStep ParseError) : Type 0 where
  pub moves : List Move
  pub read : ReadOn forms I h moves
  pub leads : Leads new texts ended I (after_moves h moves) told (Reads new texts ended I more (after_moves h moves)) result
  pub tables : AreThoseRead new (after_moves h moves) told result
  pub sources : KnowsThen result (HasSources new texts I (after_moves h moves))

-- WHAT IS ANSWERED, by the reader alone
abbrev pub ReadsNext : List (ℕ × Text) → Bool → Reading → Reading → Result ParseStep ParseError → Type 0
ReadsNext texts ended old new result =
    (I : Input) (more : Text) (h : History) (told : List Said) → Reads old texts ended I more h told → Reaches new texts ended I more h told result

-- THE PROLOG HAS BEEN READ, by a reader with these options
abbrev pub IsOver : Choices → Reading → Type 0
IsOver c (reading.Prolog r) = (is_over r.kept ≡ true) × (r.options ≡ c)
IsOver c _ = ⊥

-- the instance begins after it
abbrev pub BeginsAfter : Choices → prolog.Reader → Reading → Type 0
BeginsAfter c r (reading.Instance x) = content.BeginsAfterProlog r.kept x × (x.options ≡ c)
BeginsAfter c r _ = ⊥

abbrev pub BeginsOver : Choices → Reading → Reading → Type 0
BeginsOver c (reading.Prolog r) new = BeginsAfter c r new
BeginsOver c _ new = ⊥

-- and is told, or no memory was there
abbrev pub TellsProlog : Choices → Reading → Reading → Result ParseStep ParseError → Type 0
TellsProlog c old new (Ok s) = (s ≡ step.Prolog) × BeginsOver c old new
TellsProlog c old new (Err e) = (e ≡ error.Memory) × (new ≡ reading.Lost)

-- what the reader of the prolog answered, as it is told
abbrev pub IsOverIfDone : Choices → Reading → Result PrologStep PrologError → Type 0
IsOverIfDone c old (Ok prolog_step.Done) = IsOver c old
IsOverIfDone c old _ = Unit {0}

abbrev pub error_of_prolog : PrologError → ParseError
error_of_prolog (prolog_error.Refused x) = error.Refused x
error_of_prolog prolog_error.Memory = error.Memory

abbrev pub answer_of_prolog : Result PrologStep PrologError → Result ParseStep ParseError
answer_of_prolog (Ok (prolog_step.Pi text entity place)) = Ok (step.Event (event.Pi text entity place))
answer_of_prolog (Ok (prolog_step.Want number file)) = Ok (step.Want number file)
answer_of_prolog (Ok prolog_step.More) = Ok step.More
answer_of_prolog (Ok prolog_step.Done) = Ok step.Prolog
answer_of_prolog (Err e) = Err (error_of_prolog e)

abbrev pub AnswersOfProlog : Choices → Reading → Reading → Result PrologStep PrologError → Result ParseStep ParseError → Type 0
AnswersOfProlog c old new (Ok prolog_step.Done) result = TellsProlog c old new result
AnswersOfProlog c old new answer result = (result ≡ answer_of_prolog answer) × (new ≡ old)

-- what the reader of the instance answered, as it is told
abbrev pub answer_of_instance : Result InstanceStep InstanceError → Result ParseStep ParseError
answer_of_instance (Ok (instance_step.Event e)) = Ok (step.Event e)
answer_of_instance (Ok (instance_step.Want number file)) = Ok (step.Want number file)
answer_of_instance (Ok instance_step.More) = Ok step.More
answer_of_instance (Ok instance_step.Finished) = Ok step.Finished
answer_of_instance (Err (instance_error.Refused x)) = Err (error.Refused x)
answer_of_instance (Err instance_error.Memory) = Err error.Memory

-- THE ANSWER, by which it was noted what is wanted, where there was memory for its name
abbrev pub IsWant : Result ParseStep ParseError → Type 0
IsWant (Ok (step.Want number file)) = Unit {0}
IsWant _ = ⊥

abbrev pub IsNoted : Result ParseStep ParseError → Option Wanted → Result ParseStep ParseError → Type 0
IsNoted answer wanted (Ok s) = (answer ≡ Ok s) × (wanted ≡ wanted_in answer)
IsNoted answer wanted (Err error.Memory) = (answer ≡ Err error.Memory) ⊎ IsWant answer
IsNoted answer wanted (Err e) = answer ≡ Err e

-- what is wanted, unless it was supplied that it isn't there: then it is refused at this place
abbrev pub unless_missing : Place → Option Reason → ℕ → Text → Result ParseStep ParseError
unless_missing place None number file = Ok (step.Want number file)
unless_missing place (Some why) number file = Err (error.Refused (record { place = place; reason = why }))

abbrev pub checked : List (ℕ × Reason) → Place → Result ParseStep ParseError → Result ParseStep ParseError
checked missing place (Ok (step.Want number file)) = unless_missing place (why_missing missing number) number file
checked missing place answer = answer

-- the answer that is told
abbrev pub IsToldOf : List (ℕ × Reason) → Place → Result ParseStep ParseError → Option Wanted → Result ParseStep ParseError → Type 0
IsToldOf missing place answer wanted result = (noted : Result ParseStep ParseError) × IsNoted answer wanted noted × (result ≡ checked missing place noted)

-- WHAT A READER ANSWERS, as a parser tells it
pub record IsAnswer (c : Choices) (ts : List (ℕ × Text)) (ended : Bool) (old new : Reading) (result : Result ParseStep ParseError) : Type 0 where
  pub reads : ReadsNext ts ended old new result
  pub over : GoesOver old new result
  pub early : TellsInstructions old result
  pub sound : IsSound c new (error_in result)
