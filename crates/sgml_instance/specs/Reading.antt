-- What the reader of the instance answers, by what reads of the input.
use Rattle.std.specs.Prelude.{◌≡◌, ℕ, Bool, true, false, ◌++◌, [], List, Option, Some, None, Result, Ok, Err, reverse}
use Rattle.sgml_text.specs.declared.reason.Reason.{Reason}
use Rattle.sgml_entity.specs.Stack.{is_on}
use Rattle.sgml_entity.specs.Texts.{text_of}
use Rattle.sgml_events.specs.declared.event.Event.{Event}
use Rattle.sgml_content_tags.specs.said.Told.{said, all_said}
use Rattle.sgml_declared.specs.theory_reading.Names.{Name, Text}
use Rattle.sgml_declared.specs.theory_reading.Pieces.{History}
use Rattle.sgml_declared.specs.theory_reading.Unread.{Input, file_of, sources}
use Rattle.sgml_declared.specs.theory_reading.State.{state}
use Rattle.sgml_declared.specs.theory_reading.Reads.{Move, ReadOn, after_moves, Stops, stop_place, ends_in_finish}
use Rattle.sgml_declared.specs.theory_reading.Events.{events}
use Rattle.sgml_declared.specs.theory_reading.Events as reading
use Rattle.sgml_declared.specs.theory_spelling.Decided.{decided}
use Rattle.sgml_declared.specs.theory_spelling.References.{missing_fetched}
use Rattle.sgml_declared.specs.theory_spelling.Spelled.{forms}
use Rattle.sgml_declared.specs.theory_standing.Supplied.{MayFollow, AreSuppliedSoFar}
use Rattle.sgml_declared.specs.theory_standing.Kept.{Kept, Stands, given, sources_of}
use Rattle.sgml_declared.specs.theory_standing.Prologs.{is_in_prolog, is_over}
use Rattle.sgml_declared.specs.theory_standing.Held.{Held, Parses}
use Rattle.sgml_declared.specs.Files.{Choices, IsOutsideOf}
use Rattle.sgml_content_tags.specs.sgml_content_steps.Content.{Content, Holds, IsContent}
use Rattle.sgml_content_tags.specs.sgml_content_steps.Places.{ArePlaced, IsPlaced}
use Rattle.sgml_instance.specs.declared.answer.InstanceStep.{InstanceStep}
use Rattle.sgml_instance.specs.declared.answer.InstanceStep.TheVariants as step
use Rattle.sgml_instance.specs.declared.answer.InstanceError.{InstanceError}
use Rattle.sgml_instance.specs.declared.answer.InstanceError.TheVariants as error
use Rattle.std.specs.Global.{Vec}

-- the reader
pub record Reader : Type 0 where
  pub options : Choices
  pub content : Content
  -- events that were read and aren't told yet, in their order
  pub waiting : List Event
  -- the document has ended
  pub over : Bool
  -- what it answered, if that was an error
  pub failed : Option InstanceError

-- at any moment
pub record IsSound (c : Choices) (x : Content) : Type 0 where
  pub content : IsContent x
  -- the limit of what may be opened is that of the options
  pub expand : x.kept.stack.expand ≡ c.expand

-- THE SOURCES that are kept are those of what was read, and the texts that were given are theirs
pub record KeepsSources (k : Kept) (texts : List (ℕ × Text)) (I : Input) (h : History) : Type 0 where
  pub sources_are : sources_of k ≡ sources h
  pub supplied : AreSuppliedSoFar I.outside (sources_of k) texts

-- WHAT IS KEPT stands for what was read, or the document has ended (7.1)
abbrev pub KeepsUp : Bool → Content → List (ℕ × Text) → Input → Text → History → Type 0
KeepsUp true x texts I more h = (ends_in_finish h ≡ true) × KeepsSources x.kept texts I h
KeepsUp false x texts I more h = (held : Held) × Holds x held × Parses held texts I more h

-- WHAT IT STANDS FOR: what was read of the input, of which so much was told
pub record IsReading (r : Reader) (texts : List (ℕ × Text)) (ended : Bool) (I : Input) (more : Text) (h : History) (told : List reading.Event) : Type 0 where
  pub well : r.failed ≡ None
  pub of_options : IsOutsideOf r.options I.outside
  pub keeps : KeepsUp r.over r.content texts I more h
  pub follows : MayFollow ended I more
  -- what was told and what waits are the events of what was read
  pub all : events forms h ≡ told ++ all_said r.content.kept.doctype r.waiting
  pub placed : ArePlaced h told r.waiting

-- nothing waits to be told
pub record HasToldAll (r : Reader) (texts : List (ℕ × Text)) (ended : Bool) (I : Input) (more : Text) (h : History) (told : List reading.Event) : Type 0 where
  pub reading : IsReading r texts ended I more h told
  pub none : r.waiting ≡ []

-- The text in this file is to be given, which isn't being read: for each input that it may be reading of which
-- the file isn't there, or is too large there, reading stops here for that.
pub record IsWanted (r : Reader) (texts : List (ℕ × Text)) (ended : Bool) (I : Input) (h : History) (number : ℕ) (file : Name) : Type 0 where
  pub unread : is_on number r.content.kept.stack.places ≡ false
  pub not_given : text_of texts number ≡ None
  pub named : file_of I.outside (sources_of r.content.kept) number ≡ Some file
  pub stops : (J : Input) (more : Text) (told : List reading.Event) → IsReading r texts ended J more h told
      → (why : Reason) → missing_fetched (J.outside.fetched file) ≡ Some why → Stops forms J h why

abbrev pub Leads : Reader → List (ℕ × Text) → Bool → Input → Text → History → List reading.Event → Result InstanceStep InstanceError → Type 0
Leads new texts ended I more h told (Ok (step.Event e)) = IsReading new texts ended I more h (told ++ said new.content.kept.doctype e) × IsPlaced h told e
Leads new texts ended I more h told (Ok (step.Want number file)) = HasToldAll new texts ended I more h told × IsWanted new texts ended I h number file
Leads new texts ended I more h told (Ok step.More) =
    HasToldAll new texts ended I more h told × (ended ≡ false) × (decided I.outside (state h) (given new.content.kept texts) ≡ false) × (ends_in_finish h ≡ false)
Leads new texts ended I more h told (Ok step.Finished) = HasToldAll new texts ended I more h told × (ends_in_finish h ≡ true)
Leads new texts ended I more h told (Err (error.Refused x)) =
    Stops forms I h x.reason × (x.place ≡ stop_place h) × (events forms h ≡ told) × KeepsSources new.content.kept texts I h
Leads new texts ended I more h told (Err error.Memory) = Unit {0}

-- after some moves
pub record Answers (new : Reader) (texts : List (ℕ × Text)) (ended : Bool) (I : Input) (more : Text) (h : History) (told : List reading.Event) (result : Result InstanceStep InstanceError) : Type 0 where
  pub moves : List Move
  pub read : ReadOn forms I h moves
  pub leads : Leads new texts ended I more (after_moves h moves) told result

-- THE ANSWER, for every input that it may be reading, all that was read of it and all that was told
abbrev pub NextIsReading : Reader → Reader → List (ℕ × Text) → Bool → Result InstanceStep InstanceError → Type 0
NextIsReading old new texts ended result =
    (I : Input) (more : Text) (h : History) (told : List reading.Event)
    → IsReading old texts ended I more h told → Answers new texts ended I more h told result

-- the error that is answered
abbrev pub error_in : Result InstanceStep InstanceError → Option InstanceError
error_in (Ok x) = None
error_in (Err e) = Some e

-- the same of its parts, while it reads
abbrev pub reader : Choices → Content → List Event → Bool → Reader
reader c x waiting over = record { options = c; content = x; waiting = waiting; over = over; failed = None }

-- IT BEGINS where the prolog has been read, with the events of the prolog told
abbrev pub BeginsAfterProlog : Kept → Reader → Type 0
BeginsAfterProlog k r =
    (texts : List (ℕ × Text)) (ended : Bool) (I : Input) (more : Text) (h : History)
    → IsOutsideOf r.options I.outside → MayFollow ended I more
    → Stands k texts I more h → is_in_prolog h ≡ true → is_over k ≡ true
    → IsReading r texts ended I more h (events forms h)

-- with the events that wait, the last of them first
abbrev pub reader_with : Choices → Content → Vec Event → Bool → Reader
reader_with options content waiting over = reader options content (reverse waiting.items) over

abbrev pub ReadsNext : Choices → List (ℕ × Text) → Bool → Content → Vec Event → Bool → Content → Vec Event → Bool → Result InstanceStep InstanceError → Type 0
ReadsNext c texts ended old waiting was new waits over result =
    NextIsReading (reader_with c old waiting was) (reader_with c new waits over) texts ended result
