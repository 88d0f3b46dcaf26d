-- What a parser stands for, and what it tells by what reads of the input.
use Rattle.std.specs.Prelude.{◌≡◌, ◌⊎◌, ◌<◌, ℕ, Bool, true, false, ◌++◌, [], List, Option, Some, None, IfSome, IsSome, Result, Ok, Err}
use Rattle.sgml_text.specs.declared.place.Place.{Place}
use Rattle.sgml_text.specs.declared.reason.Reason.{Reason}
use Rattle.sgml_io.specs.declared.records.RecordReader.{RecordReader}
use Rattle.sgml_entity.specs.Stack.{is_on}
use Rattle.sgml_entity.specs.Texts.{text_of}
use Rattle.sgml_decl_lexemes.specs.Sources.{or_empty}
use Rattle.sgml_dtd.specs.Doctypes.{Doctype, nothing}
use Rattle.sgml_syntax.specs.Implied.{implied_syntax}
use Rattle.sgml_events.specs.declared.event.Event.{Event}
use Rattle.sgml_events.specs.declared.event.Event.TheVariants as event
use Rattle.sgml_instance.specs.said.Told.{said}
use Rattle.sgml_declared.specs.theory_reading.Names.{Name, Text}
use Rattle.sgml_declared.specs.theory_reading.Types.{entity}
use Rattle.sgml_declared.specs.theory_reading.Pieces.{History}
use Rattle.sgml_declared.specs.theory_reading.Nest.{types}
use Rattle.sgml_declared.specs.theory_reading.Facets.{subset_number}
use Rattle.sgml_declared.specs.theory_reading.Unread.{Input, Outside, file_of, file_of_entity}
use Rattle.sgml_declared.specs.theory_reading.State.{state}
use Rattle.sgml_declared.specs.theory_reading.Reads.{Move, ReadOn, after_moves, Stops, stop_place, top_place, ends_in_finish, is_first_border}
use Rattle.sgml_declared.specs.theory_reading.Events.{Event as Said, events}
use Rattle.sgml_declared.specs.theory_spelling.Decided.{decided}
use Rattle.sgml_declared.specs.theory_spelling.References.{missing_fetched}
use Rattle.sgml_declared.specs.theory_spelling.Spelled.{forms}
use Rattle.sgml_declared.specs.theory_standing.Kept.{Kept, given, sources_of}
use Rattle.sgml_declared.specs.theory_standing.Prologs.{is_in_prolog}
use Rattle.sgml_declared.specs.Files.{Choices, IsOutsideOf, InEach}
use Rattle.sgml_prolog_steps.specs.Steps.{IsFileNext}
use Rattle.sgml_instance.specs.content_steps.Places.{IsPlaced}
use Rattle.sgml_prolog.specs.Reading as prolog
use Rattle.sgml_instance.specs.Reading as content
use Rattle.sgml_parse.specs.declared.answer.ParseStep.{ParseStep}
use Rattle.sgml_parse.specs.declared.answer.ParseStep.TheVariants as step
use Rattle.sgml_parse.specs.declared.answer.ParseError.{ParseError}
use Rattle.sgml_parse.specs.declared.answer.ParseError.TheVariants as error
use Rattle.sgml_parse.specs.declared.answer.Wanted.{Wanted}
use Rattle.sgml_parse.specs.There.{Reading}
use Rattle.sgml_parse.specs.There as reading
use Rattle.sgml_parse.specs.Missing.{why_missing, is_unsupplied}
use Rattle.sgml_parse.specs.Locating.{Knows, KnowsThen, IsPositionOf}
use Rattle.sgml_parse.specs.declared.position.Position.{Position}

-- the parser
pub record Parser : Type 0 where
  pub options : Choices
  -- the texts that were given, the document's as number 0
  pub texts : List (ℕ × Text)
  pub records : RecordReader
  -- the document is whole
  pub ended : Bool
  pub reading : Reading
  -- what was wanted last, and wasn't given
  pub wanted : Option Wanted
  -- why the text that was wanted last isn't there
  pub gone : Option Reason
  -- why texts that were supplied aren't there, by the numbers of their entities
  pub missing : List (ℕ × Reason)
  -- what it answered, if that was an error
  pub failed : Option ParseError

-- WHERE READING IS: what is kept of what was read, if that is there
abbrev pub kept_in : Reading → Option Kept
kept_in (reading.Prolog r) = Some r.kept
kept_in (reading.Instance r) = Some r.content.kept
kept_in reading.Lost = None

abbrev pub is_lost : Reading → Bool
is_lost (reading.Prolog r) = false
is_lost (reading.Instance r) = false
is_lost reading.Lost = true

abbrev pub is_in_instance : Reading → Bool
is_in_instance (reading.Instance r) = true
is_in_instance _ = false

abbrev pub place_in : Reading → Place
place_in (reading.Prolog r) = top_place r.kept.stack.places
place_in (reading.Instance r) = top_place r.content.kept.stack.places
place_in reading.Lost = top_place []

abbrev pub doctype_in : Reading → Doctype
doctype_in (reading.Prolog r) = r.kept.doctype
doctype_in (reading.Instance r) = r.content.kept.doctype
doctype_in reading.Lost = nothing implied_syntax

-- at any moment: the readers have the parser's options, and nothing is lost but for want of memory
abbrev pub IsSound : Choices → Reading → Option ParseError → Type 0
IsSound c (reading.Prolog r) failed = r.options ≡ c
IsSound c (reading.Instance r) failed = r.options ≡ c
IsSound c reading.Lost failed = failed ≡ Some error.Memory

-- WHAT WAS READ of an input of which the document goes on with `more`, and what was told
abbrev pub Reads : Reading → List (ℕ × Text) → Bool → Input → Text → History → List Said → Type 0
Reads (reading.Prolog r) texts ended I more h told = prolog.IsReading r texts ended I more h × (events forms h ≡ told)
Reads (reading.Instance r) texts ended I more h told = content.IsReading r texts ended I more h told
Reads reading.Lost texts ended I more h told = ⊥

-- the file of a text that is wanted; of the external subset the reader of the prolog has noted the name
abbrev pub IsInFileOf : Outside → Reading → Wanted → Type 0
IsInFileOf outside (reading.Prolog r) w = IsFileNext outside r.kept w.entity w.name × (w.entity ≡ subset_number → r.asked ≡ Some w.name)
IsInFileOf outside (reading.Instance r) w = file_of outside (sources_of r.content.kept) w.entity ≡ Some w.name
IsInFileOf outside reading.Lost w = ⊥

-- A TEXT IS WAITED FOR that isn't being read, with all told that was read: were its file not there, or too
-- large, reading would stop here for that
pub record Awaits (there : Reading) (texts : List (ℕ × Text)) (I : Input) (h : History) (told : List Said) (w : Wanted) : Type 0 where
  pub unread : IfSome (kept_in there) (λ k. is_on w.entity k.stack.places ≡ false)
  pub not_given : text_of texts w.entity ≡ None
  pub file : IsInFileOf I.outside there w
  pub all : events forms h ≡ told
  pub stops : (why : Reason) → missing_fetched (I.outside.fetched w.name) ≡ Some why → Stops forms I h why

-- it isn't there: reading stops here for that, with all told
abbrev pub IsGone : Input → History → List Said → Reason → Type 0
IsGone I h told why = Stops forms I h why × (events forms h ≡ told)

-- what was supplied of a declared entity is that its file isn't there, or is too large
pub record IsMissing (d : Doctype) (outside : Outside) (number : ℕ) (why : Reason) : Type 0 where
  pub declared : 1 < number
  pub so : (file : Name) → file_of_entity outside (entity d number) ≡ Some file → missing_fetched (outside.fetched file) ≡ Some why

-- before the instance reading stops at the first such text, so there none is known
pub record AreMissing (there : Reading) (outside : Outside) (missing : List (ℕ × Reason)) : Type 0 where
  pub none_before : is_in_instance there ≡ false → missing ≡ []
  pub each : (number : ℕ) (why : Reason) → why_missing missing number ≡ Some why → IsMissing (doctype_in there) outside number why

-- WHAT A PARSER STANDS FOR: what was read of an input of which the document goes on with `more`, and what was told
pub record IsParsing (p : Parser) (I : Input) (more : Text) (h : History) (told : List Said) : Type 0 where
  pub well : p.failed ≡ None
  pub of_options : IsOutsideOf p.options I.outside
  pub document : I.document ≡ or_empty (text_of p.texts 0) ++ more
  pub reads : Reads p.reading p.texts p.ended I more h told
  pub begun : IsSome (text_of p.texts 0)
  pub awaits : IfSome p.wanted (Awaits p.reading p.texts I h told)
  pub gone : IfSome p.gone (IsGone I h told)
  pub missing : p.gone ≡ None → AreMissing p.reading I.outside p.missing

-- A DECLARED ENTITY whose text is in a file of its own, of this name in each run with these options, wasn't supplied and isn't
-- being read
pub record IsUnsuppliedIn (c : Choices) (k : Kept) (texts : List (ℕ × Text)) (missing : List (ℕ × Reason)) (w : Wanted) : Type 0 where
  pub declared : 1 < w.entity
  pub unsupplied : is_unsupplied k texts missing w.entity ≡ true
  pub named : InEach c (λ outside. file_of outside (sources_of k) w.entity) (Some w.name)

-- once the prolog was told
abbrev pub IsUnsuppliedThere : Choices → Reading → List (ℕ × Text) → List (ℕ × Reason) → Wanted → Type 0
IsUnsuppliedThere c (reading.Instance r) texts missing w = IsUnsuppliedIn c r.content.kept texts missing w
IsUnsuppliedThere c _ texts missing w = ⊥

abbrev pub IsUnsupplied : Parser → Wanted → Type 0
IsUnsupplied p w = IsUnsuppliedThere p.options p.reading p.texts p.missing w

-- WHAT MAY BE SUPPLIED: what was wanted last, or once the prolog was told any that wasn't supplied
abbrev pub IsAwaited : Parser → Wanted → Type 0
IsAwaited p w = (p.wanted ≡ Some w) ⊎ IsUnsupplied p w

-- WHAT IS ANSWERED

-- what an event says, by the tables of the document type
abbrev pub said_in : Reading → Event → List Said
said_in there e = said (doctype_in there) e

-- the prolog was read up to the first border, where the document type declaration ends (7.1, 11.1), and nothing
-- after it
pub record IsAfterProlog (h : History) : Type 0 where
  pub in_prolog : is_in_prolog h ≡ true
  pub first : is_first_border h ≡ true

-- of each input that may be being read and of which the file isn't there, or is too large there, reading stops
-- here for that
abbrev pub IsNeeded : Reading → List (ℕ × Text) → Bool → History → Wanted → Type 0
IsNeeded there texts ended h w =
    (J : Input) (more : Text) (told : List Said) → Reads there texts ended J more h told
    → (why : Reason) → missing_fetched (J.outside.fetched w.name) ≡ Some why → Stops forms J h why

abbrev pub IsUndecided : Reading → List (ℕ × Text) → Input → History → Type 0
IsUndecided there texts I h = IfSome (kept_in there) (λ k. decided I.outside (state h) (given k texts) ≡ false)

-- after what was read, where `Stands` tells by what was told what it stands for
abbrev pub Leads : Reading → List (ℕ × Text) → Bool → Input → History → List Said → (List Said → Type 0) → Result ParseStep ParseError → Type 0
Leads there texts ended I h told Stands (Ok (step.Event e)) = Stands (told ++ said_in there e)
Leads there texts ended I h told Stands (Ok step.Prolog) = Stands told × (events forms h ≡ told) × IsAfterProlog h
Leads there texts ended I h told Stands (Ok (step.Want number file)) =
    Stands told × Awaits there texts I h told (record { entity = number; name = file }) × IsNeeded there texts ended h (record { entity = number; name = file })
Leads there texts ended I h told Stands (Ok step.More) = Stands told × (events forms h ≡ told) × (ended ≡ false) × IsUndecided there texts I h
Leads there texts ended I h told Stands (Ok step.Finished) = Stands told × (events forms h ≡ told) × (ends_in_finish h ≡ true)
Leads there texts ended I h told Stands (Err (error.Refused x)) = Stops forms I h x.reason × (x.place ≡ stop_place h) × (events forms h ≡ told)
Leads there texts ended I h told Stands (Err error.Memory) = Unit {0}

-- WHAT IS KNOWN of an input after what was read
abbrev pub KnowsTexts : Parser → Input → Text → History → Type 0
KnowsTexts p I more h = Knows p.options p.reading p.texts I more h

-- THE TABLES are those of what was read, and a start has its place; more is never asked for at the end
abbrev pub AreThoseRead : Reading → History → List Said → Result ParseStep ParseError → Type 0
AreThoseRead there h told (Ok (step.Event e)) = (doctype_in there ≡ types h) × IsPlaced h told e
AreThoseRead there h told (Ok step.More) = (doctype_in there ≡ types h) × (ends_in_finish h ≡ false)
AreThoseRead there h told (Ok s) = doctype_in there ≡ types h
AreThoseRead there h told (Err (error.Refused x)) = doctype_in there ≡ types h
AreThoseRead there h told (Err error.Memory) = Unit {0}

-- after some moves
pub record Answers (new : Parser) (I : Input) (more : Text) (h : History) (told : List Said) (result : Result ParseStep ParseError) : Type 0 where
  pub moves : List Move
  pub read : ReadOn forms I h moves
  pub leads : Leads new.reading new.texts new.ended I (after_moves h moves) told (IsParsing new I more (after_moves h moves)) result
  pub tables : AreThoseRead new.reading (after_moves h moves) told result
  pub knows : KnowsThen result (KnowsTexts new I more (after_moves h moves))

-- THE ANSWER, for every input that may be being read, all that was read of it and all that was told
abbrev pub NextIsParsing : Parser → Parser → Result ParseStep ParseError → Type 0
NextIsParsing old new result =
    (I : Input) (more : Text) (h : History) (told : List Said) → IsParsing old I more h told → Answers new I more h told result

-- THE PROLOG IS TOLD ONCE, where reading goes over to the instance, which it doesn't leave
abbrev pub GoesOver : Reading → Reading → Result ParseStep ParseError → Type 0
GoesOver old new (Ok step.Prolog) = (is_in_instance old ≡ false) × (is_in_instance new ≡ true)
GoesOver old new _ = is_in_instance new ≡ is_in_instance old

-- IN THE INSTANCE the document type stays as it is
abbrev pub KeepsDoctype : Reading → Reading → Type 0
KeepsDoctype (reading.Instance r) new = doctype_in new ≡ r.content.kept.doctype
KeepsDoctype _ new = Unit {0}

-- BEFORE THE PROLOG IS TOLD nothing is told but instructions (8)
abbrev pub is_instruction : Event → Bool
is_instruction (event.Pi text entity place) = true
is_instruction _ = false

abbrev pub TellsInstructions : Reading → Result ParseStep ParseError → Type 0
TellsInstructions there (Ok (step.Event e)) = is_in_instance there ≡ false → is_instruction e ≡ true
TellsInstructions there result = Unit {0}

-- a text that isn't there is refused
abbrev pub IsRefusedIfGone : Parser → Result ParseStep ParseError → Type 0
IsRefusedIfGone p result =
    IfSome p.gone (λ why. p.failed ≡ None → result ≡ Err (error.Refused (record { place = place_in p.reading; reason = why })))

abbrev pub error_in : Result ParseStep ParseError → Option ParseError
error_in (Ok x) = None
error_in (Err e) = Some e

abbrev pub is_out_of_memory : Option ParseError → Bool
is_out_of_memory (Some error.Memory) = true
is_out_of_memory _ = false

abbrev pub wanted_of : ParseStep → Option Wanted
wanted_of (step.Want number file) = Some (record { entity = number; name = file })
wanted_of _ = None

abbrev pub wanted_in : Result ParseStep ParseError → Option Wanted
wanted_in (Ok s) = wanted_of s
wanted_in (Err e) = None

-- after an answer that was an error, what was wanted isn't
abbrev pub IsWantedBy : Result ParseStep ParseError → Option Wanted → Type 0
IsWantedBy (Ok s) wanted = wanted ≡ wanted_in (Ok s)
IsWantedBy (Err e) wanted = Unit {0}

-- what is wanted wasn't supplied
abbrev pub WantsUnsupplied : List (ℕ × Reason) → Result ParseStep ParseError → Type 0
WantsUnsupplied missing (Ok (step.Want number file)) = why_missing missing number ≡ None
WantsUnsupplied missing result = Unit {0}

-- the options, and what was given
pub record HasTheSame (old new : Parser) : Type 0 where
  pub options : new.options ≡ old.options
  pub texts : new.texts ≡ old.texts
  pub records : new.records ≡ old.records
  pub ended : new.ended ≡ old.ended
  pub gone : new.gone ≡ old.gone
  pub missing : new.missing ≡ old.missing

-- a parser by its parts
abbrev pub parser : Choices → List (ℕ × Text) → RecordReader → Bool → Reading → Option Wanted → Option Reason → List (ℕ × Reason) → Option ParseError → Parser
parser c texts made ended there wanted lack missing failed =
    record { options = c; texts = texts; records = made; ended = ended; reading = there; wanted = wanted; gone = lack; missing = missing; failed = failed }

-- a place is there in each input of which that is known
abbrev pub IsPositionBy : Parser → Place → Position → Type 0
IsPositionBy p place x = (I : Input) (more : Text) (h : History) → KnowsTexts p I more h → IsPositionOf I h place x
