-- What a parser tells of many events at once.
use Rattle.std.specs.Prelude.{◌≡◌, ℕ, Bool, true, false, ◌++◌, List, Option, Some, None, IfSome, Result, Ok, Err}
use Rattle.std.specs.List.{list_all}
use Rattle.sgml_events.specs.declared.event.Event.{Event}
use Rattle.sgml_instance.specs.said.Told.{all_said}
use Rattle.sgml_declared.specs.theory_reading.Names.{Text}
use Rattle.sgml_declared.specs.theory_reading.Pieces.{History}
use Rattle.sgml_declared.specs.theory_reading.Nest.{types}
use Rattle.sgml_declared.specs.theory_reading.Unread.{Input}
use Rattle.sgml_declared.specs.theory_reading.Reads.{Move, ReadOn, after_moves, ends_in_finish}
use Rattle.sgml_declared.specs.theory_reading.Events.{Event as Said, events}
use Rattle.sgml_declared.specs.theory_spelling.Spelled.{forms}
use Rattle.sgml_instance.specs.Batches.{EachIsPlaced}
use Rattle.sgml_parse.specs.declared.answer.ParsePause.{ParsePause}
use Rattle.sgml_parse.specs.declared.answer.ParsePause.TheVariants as pause
use Rattle.sgml_parse.specs.declared.answer.ParseStep.TheVariants as step
use Rattle.sgml_parse.specs.declared.answer.ParseError.{ParseError}
use Rattle.sgml_parse.specs.declared.answer.ParseError.TheVariants as error
use Rattle.sgml_parse.specs.declared.answer.Wanted.{Wanted}
use Rattle.sgml_text.specs.declared.reason.Reason.{Reason}
use Rattle.sgml_parse.specs.Missing.{why_missing}
use Rattle.sgml_parse.specs.There.{Reading}
use Rattle.sgml_parse.specs.Parsing.{Parser, IsParsing, Leads, KnowsTexts, doctype_in, is_in_instance, is_instruction, place_in}

-- after what was read, all of which was told, where `Stands` tells by what was told what it stands for
abbrev pub Pauses : Reading → List (ℕ × Text) → Bool → Input → History → List Said → (List Said → Type 0) → Result ParsePause ParseError → Type 0
Pauses there texts ended I h told Stands (Ok pause.Going) = Stands told × (events forms h ≡ told) × (ends_in_finish h ≡ false)
Pauses there texts ended I h told Stands (Ok pause.Prolog) = Leads there texts ended I h told Stands (Ok step.Prolog)
Pauses there texts ended I h told Stands (Ok (pause.Want number file)) = Leads there texts ended I h told Stands (Ok (step.Want number file))
Pauses there texts ended I h told Stands (Ok pause.More) = Leads there texts ended I h told Stands (Ok step.More)
Pauses there texts ended I h told Stands (Ok pause.Finished) = Leads there texts ended I h told Stands (Ok step.Finished)
Pauses there texts ended I h told Stands (Err e) = Leads there texts ended I h told Stands (Err e)

-- where memory was there
abbrev pub UnlessMemory : Result ParsePause ParseError → Type 0 → Type 0
UnlessMemory (Err error.Memory) known = Unit {0}
UnlessMemory result known = known

-- THE TABLES are those of what was read; more is never asked for at the end
abbrev pub AreThoseThen : Reading → History → Result ParsePause ParseError → Type 0
AreThoseThen there h (Ok pause.More) = (doctype_in there ≡ types h) × (ends_in_finish h ≡ false)
AreThoseThen there h result = UnlessMemory result (doctype_in there ≡ types h)

-- after some moves, which these events tell
pub record Gains (new : Parser) (I : Input) (more : Text) (h : History) (told : List Said) (gained : List Event) (result : Result ParsePause ParseError) : Type 0 where
  pub moves : List Move
  pub read : ReadOn forms I h moves
  pub pauses : Pauses new.reading new.texts new.ended I (after_moves h moves) (told ++ all_said (doctype_in new.reading) gained) (IsParsing new I more (after_moves h moves)) result
  pub placed : EachIsPlaced (after_moves h moves) (doctype_in new.reading) told gained
  pub tables : AreThoseThen new.reading (after_moves h moves) result
  pub knows : UnlessMemory result (KnowsTexts new I more (after_moves h moves))

-- THE ANSWER, for every input that may be being read, all that was read of it and all that was told
abbrev pub ReadIsParsing : Parser → Parser → List Event → Result ParsePause ParseError → Type 0
ReadIsParsing old new gained result =
    (I : Input) (more : Text) (h : History) (told : List Said) → IsParsing old I more h told → Gains new I more h told gained result

-- the events stand behind those that stood there; before the prolog is told they are instructions (8)
pub record ReadsOn (old new : Parser) (before after : List Event) (result : Result ParsePause ParseError) : Type 0 where
  pub gained : List Event
  pub appended : after ≡ before ++ gained
  pub reads : ReadIsParsing old new gained result
  pub early : is_in_instance old.reading ≡ false → list_all is_instruction gained ≡ true

-- THE PROLOG IS TOLD ONCE, where reading goes over to the instance, which it doesn't leave
abbrev pub GoesOverThen : Reading → Reading → Result ParsePause ParseError → Type 0
GoesOverThen old new (Ok pause.Prolog) = (is_in_instance old ≡ false) × (is_in_instance new ≡ true)
GoesOverThen old new _ = is_in_instance new ≡ is_in_instance old

-- a text that isn't there is refused
abbrev pub IsRefusedThenIfGone : Parser → Result ParsePause ParseError → Type 0
IsRefusedThenIfGone p result =
    IfSome p.gone (λ why. p.failed ≡ None → result ≡ Err (error.Refused (record { place = place_in p.reading; reason = why })))

-- what is wanted wasn't supplied
abbrev pub WantsUnsuppliedThen : List (ℕ × Reason) → Result ParsePause ParseError → Type 0
WantsUnsuppliedThen missing (Ok (pause.Want number file)) = why_missing missing number ≡ None
WantsUnsuppliedThen missing result = Unit {0}

abbrev pub error_of : Result ParsePause ParseError → Option ParseError
error_of (Ok x) = None
error_of (Err e) = Some e

abbrev pub wanted_at : ParsePause → Option Wanted
wanted_at (pause.Want number file) = Some (record { entity = number; name = file })
wanted_at _ = None

-- after an answer that was an error, what was wanted isn't
abbrev pub IsWantedThen : Result ParsePause ParseError → Option Wanted → Type 0
IsWantedThen (Ok p) wanted = wanted ≡ wanted_at p
IsWantedThen (Err e) wanted = Unit {0}
