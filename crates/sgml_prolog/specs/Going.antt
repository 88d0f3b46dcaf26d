-- How a reader of the prolog goes from step to step.
use Rattle.std.specs.Prelude.{◌≡◌, ℕ, Bool, true, List, Option, Some, None, Result, Ok, Err, map}
use Rattle.sgml_text.specs.declared.place.Place.{Place}
use Rattle.sgml_text.specs.declared.reason.Reason.{Reason}
use Rattle.sgml_declared.specs.theory_reading.Names.{Name, Text}
use Rattle.sgml_declared.specs.theory_reading.Pieces.{Piece, History}
use Rattle.sgml_declared.specs.theory_reading.Unread.{Input}
use Rattle.sgml_declared.specs.theory_reading.Reads.{ReadOn, after_moves, top_place}
use Rattle.sgml_declared.specs.theory_spelling.Spelled.{forms}
use Rattle.sgml_declared.specs.theory_standing.Kept.{Kept}
use Rattle.sgml_declared.specs.theory_standing.Prologs.{is_over, alone}
use Rattle.sgml_declared.specs.Files.{Choices}
use Rattle.sgml_prolog_steps.specs.Steps.{are_silent, IsStep}
use Rattle.sgml_prolog_steps.specs.declared.stepping.Turn.{Turn}
use Rattle.sgml_prolog_steps.specs.declared.stepping.Turn.TheVariants as turn
use Rattle.sgml_prolog_steps.specs.declared.stepping.Stop.{Stop}
use Rattle.sgml_prolog_steps.specs.declared.stepping.Stop.TheVariants as stop
use Rattle.sgml_prolog.specs.Reading.{Reader, IsReading, reader, ReadsOn, asked_after, asked_in}
use Rattle.sgml_prolog.specs.declared.answer.PrologStep.{PrologStep}
use Rattle.sgml_prolog.specs.declared.answer.PrologStep.TheVariants as step
use Rattle.sgml_prolog.specs.declared.answer.PrologError.{PrologError}
use Rattle.sgml_prolog.specs.declared.answer.PrologError.TheVariants as error

-- WHAT WAS READ so far: pieces of which nothing is told, after which the reader keeps this
pub record GoesTo (new : Reader) (texts : List (ℕ × Text)) (ended : Bool) (I : Input) (more : Text) (h : History) : Type 0 where
  pub pieces : List Piece
  pub silent : are_silent pieces ≡ true
  pub read : ReadOn forms I h (map alone pieces)
  pub goes_on : IsReading new texts ended I more (after_moves h (map alone pieces))

abbrev pub Goes : Choices → List (ℕ × Text) → Bool → Option Name → Kept → Kept → Type 0
Goes c texts ended asked old new =
    (I : Input) (more : Text) (h : History)
    → IsReading (reader c old asked None) texts ended I more h → GoesTo (reader c new asked None) texts ended I more h

-- before a step nothing was read, and silent steps go on
abbrev pub NothingGoes : Type 0
NothingGoes = (c : Choices) (texts : List (ℕ × Text)) (ended : Bool) (asked : Option Name) (k : Kept) → Goes c texts ended asked k k

abbrev pub SilentGoesOn : Type 0
SilentGoesOn =
    (c : Choices) (texts : List (ℕ × Text)) (ended : Bool) (asked : Option Name) (old k new : Kept)
    → Goes c texts ended asked old k → IsStep c texts ended asked k new (Ok turn.Silent) → Goes c texts ended asked old new

-- WHAT IS ANSWERED THEN is what reads
abbrev pub OverIsDone : Type 0
OverIsDone =
    (c : Choices) (texts : List (ℕ × Text)) (ended : Bool) (asked : Option Name) (old k : Kept)
    → Goes c texts ended asked old k → is_over k ≡ true → ReadsOn c texts ended old k asked asked (Ok step.Done)

abbrev pub MoreIsMore : Type 0
MoreIsMore =
    (c : Choices) (texts : List (ℕ × Text)) (ended : Bool) (asked : Option Name) (old k new : Kept)
    → Goes c texts ended asked old k → IsStep c texts ended asked k new (Err stop.More)
    → ReadsOn c texts ended old new asked asked (Ok step.More)

abbrev pub InstructionIsTold : Type 0
InstructionIsTold =
    (c : Choices) (texts : List (ℕ × Text)) (ended : Bool) (asked : Option Name) (old k new : Kept) (place : Place) (text : Text) (entity : Option ℕ)
    → Goes c texts ended asked old k → IsStep c texts ended asked k new (Ok (turn.Instruction text entity)) → place ≡ top_place k.stack.places
    → ReadsOn c texts ended old new asked asked (Ok (step.Pi text entity place))

abbrev pub RefusalIsTold : Type 0
RefusalIsTold =
    (c : Choices) (texts : List (ℕ × Text)) (ended : Bool) (asked : Option Name) (old k new : Kept) (place : Place) (r : Reason)
    → Goes c texts ended asked old k → IsStep c texts ended asked k new (Err (stop.Refused r)) → place ≡ top_place k.stack.places
    → ReadsOn c texts ended old new asked asked (Err (error.Refused (record { place = place; reason = r })))

abbrev pub WantIsTold : Type 0
WantIsTold =
    (c : Choices) (texts : List (ℕ × Text)) (ended : Bool) (asked : Option Name) (old k new : Kept) (number : ℕ) (file : Name)
    → Goes c texts ended asked old k → IsStep c texts ended asked k new (Err (stop.Wanted number file))
    → ReadsOn c texts ended old new asked (asked_after number file asked) (Ok (step.Want number file))

-- WHAT IS TOLD of a step at a place: of what it took
abbrev pub told_at : Turn → Place → Option (Result PrologStep PrologError)
told_at turn.Silent place = None
told_at (turn.Instruction text entity) place = Some (Ok (step.Pi text entity place))

-- and where it took nothing
abbrev pub stopped_at : Stop → Place → Result PrologStep PrologError
stopped_at (stop.Refused r) place = Err (error.Refused (record { place = place; reason = r }))
stopped_at (stop.Wanted number file) place = Ok (step.Want number file)
stopped_at stop.More place = Ok step.More
stopped_at stop.Memory place = Err error.Memory

-- but for want of memory
abbrev pub IsToldStop : Stop → Place → Result PrologStep PrologError → Type 0
IsToldStop s place (Err error.Memory) = Unit {0}
IsToldStop s place result = result ≡ stopped_at s place

-- ONE STEP FURTHER nothing is told, or this is answered
abbrev pub IsAnswered : Choices → List (ℕ × Text) → Bool → Option Name → Option Name → Kept → Kept → Result PrologStep PrologError → Type 0
IsAnswered c texts ended asked asked' k new result =
    (old : Kept) → Goes c texts ended asked old k → ReadsOn c texts ended old new asked asked' result

abbrev pub Advances : Choices → List (ℕ × Text) → Bool → Option Name → Option Name → Kept → Kept → Option (Result PrologStep PrologError) → Type 0
Advances c texts ended asked asked' k new None = IsStep c texts ended asked k new (Ok turn.Silent)
Advances c texts ended asked asked' k new (Some result) = IsAnswered c texts ended asked asked' k new result

abbrev pub asked_then : Option (Result PrologStep PrologError) → Option Name → Option Name
asked_then None asked = asked
asked_then (Some result) asked = asked_in result asked
