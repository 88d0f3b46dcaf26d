-- What a reference to a general entity comes to in content (9.4.4, 10.5).
use Rattle.std.specs.Prelude.{◌≡◌, ℕ, Bool, List, drop, take, length, nat_lt, if◌then◌else◌, Option, Some, None, Result, Ok, Err}
use Rattle.sgml_text.specs.declared.reason.Reason.{Reason}
use Rattle.sgml_text.specs.declared.reason.Reason.TheVariants as reason
use Rattle.sgml_entity.specs.declared.kinds.Body.{Body}
use Rattle.sgml_entity.specs.declared.kinds.Body.TheVariants as body
use Rattle.sgml_entity.specs.declared.kinds.Space.TheVariants as space
use Rattle.sgml_entity.specs.Stack.{Stack}
use Rattle.sgml_scan.specs.declared.state.ScanState.{ScanState}
use Rattle.sgml_scan.specs.declared.state.Token.{Token}
use Rattle.sgml_dtd.specs.Doctypes.{Doctype}
use Rattle.sgml_events.specs.declared.event.Event.{Event}
use Rattle.sgml_theory_reading.specs.Names.{Text}
use Rattle.sgml_theory_reading.specs.Types.{body_of, entity_number}
use Rattle.sgml_theory_reading.specs.Pieces.{Kind, Data, DataRef, Ref, Pi}
use Rattle.sgml_theory_reading.specs.Unread.{Outside, Sources}
use Rattle.sgml_declared.specs.theory_spelling.Stacked.{Stacked}
use Rattle.sgml_declared.specs.theory_spelling.Sized.{sized}
use Rattle.sgml_declared.specs.theory_spelling.References.{unless, unless_rcdata}
use Rattle.sgml_declared.specs.theory_spelling.Content.{referred_name}
use Rattle.sgml_declared.specs.theory_standing.Kept.{Kept, sources_of}
use Rattle.sgml_declared.specs.theory_standing.Held.{Held, IsSpelledIn}
use Rattle.sgml_declared.specs.Files.{Choices}
use Rattle.sgml_declared.specs.Opening.{unopened_of, Opens, IsPushed}
use Rattle.sgml_declared.specs.declared.opening.OpenError.{OpenError}
use Rattle.sgml_declared.specs.declared.opening.OpenError.TheVariants as opening
use Rattle.sgml_prolog_steps.specs.Found.{moved_on, rest_in}
use Rattle.sgml_prolog_steps.specs.declared.stepping.Stop.{Stop}
use Rattle.sgml_prolog_steps.specs.declared.stepping.Stop.TheVariants as stop
use Rattle.sgml_content_steps.specs.Standing.{IsHeld}
use Rattle.sgml_content_steps.specs.Found.{IsTokenThere}
use Rattle.sgml_content_steps.specs.Content.{Content}
use Rattle.sgml_content_steps.specs.Steps.{TellsAt}
use Rattle.sgml_content_references.specs.declared.entity.Said.{Said}
use Rattle.sgml_content_references.specs.declared.entity.Said.TheVariants as said
use Rattle.sgml_content_references.specs.declared.reference.Referred.{Referred}
use Rattle.sgml_content_references.specs.declared.reference.Referred.TheVariants as referred
use Rattle.sgml_entity.specs.sgml_names.Naming.{entity_name}
use Rattle.sgml_scan.specs.markup.References.{run_of}
use Rattle.sgml_text.specs.NameCharacters.{is_name_character}
use Rattle.sgml_prolog_steps.specs.References.{entity_referred}

-- the number of the general entity that a reference of so many bytes names
abbrev pub referred_in : Kept → List (ℕ × Text) → ℕ → Option ℕ
referred_in k texts n = entity_referred space.General k texts n

-- what an entity is
abbrev pub said_in : Doctype → Option Body → Said
said_in d None = said.Nothing
said_in d (Some (body.Sgml text)) = said.Reads
said_in d (Some (body.External external)) = said.Reads
said_in d (Some (body.Cdata text)) = said.IsData
said_in d (Some (body.Sdata text)) = said.IsData
said_in d (Some (body.Pi text)) = if nat_lt d.syntax.quantities.pilen (length text) then said.TooLong else said.Instructs text
said_in d (Some (body.ExternalData kind external notation)) = said.IsExternal

abbrev pub said_of_number : Doctype → ℕ → Said
said_of_number d number = said_in d (body_of d number)

-- the piece that a reference to it is; in replaceable character data to no instruction and to no external data (9.1)
abbrev pub kind_said : Outside → Sources → Stacked → Bool → ℕ → Said → Result Kind Reason
kind_said outside k t rcdata number said.Nothing = Err reason.Undeclared
kind_said outside k t rcdata number said.Reads = unless (unopened_of outside k t number) (Ref number)
kind_said outside k t rcdata number said.IsData = Ok (Data number)
kind_said outside k t rcdata number said.IsExternal = unless_rcdata rcdata (DataRef number)
kind_said outside k t rcdata number (said.Instructs text) = unless_rcdata rcdata (Pi text (Some number))
kind_said outside k t rcdata number said.TooLong = Err reason.PiLength

-- THE TEXT IS OPENED after a reference of so many bytes
pub record IsTextOpened (c : Choices) (texts : List (ℕ × Text)) (n number : ℕ) (old new : Kept) : Type 0 where
  pub opens : Opens c (sources_of old) texts (moved_on n old).stack new.stack number (Ok tt)
  pub pushed : IsPushed old.doctype.entities texts (moved_on n old).stack new.stack number
  pub kept : new ≡ record old { stack = new.stack }

-- it isn't, for this reason
abbrev pub stop_for : ℕ → OpenError → Stop
stop_for number (opening.Refused r) = stop.Refused r
stop_for number (opening.Wanted file) = stop.Wanted number file
stop_for number opening.Memory = stop.Memory

pub record IsTextShut (c : Choices) (texts : List (ℕ × Text)) (n number : ℕ) (old : Kept) (s : Stop) : Type 0 where
  pub error : OpenError
  pub told : s ≡ stop_for number error
  pub stack : Stack
  pub opens : Opens c (sources_of old) texts (moved_on n old).stack stack number (Err error)

-- DATA STANDS NEXT, of the entity of this number
pub record IsDataNext (st : ScanState) (texts : List (ℕ × Text)) (t : Token) (old : Content) (number : ℕ) (is : Said) (kind : Kind) : Type 0 where
  pub said : said_of_number old.kept.doctype number ≡ is
  pub next : (ended : Bool) → IsTokenThere old.kept st texts ended t → (outside : Outside) (x : Held) → IsHeld old.kept st x
      → IsSpelledIn outside x texts ended (Ok (sized t.length kind))

-- WHAT IS ANSWERED OF A REFERENCE, where a run has these options: it is taken, or it is data and nothing is
abbrev pub TellsReference : Choices → ScanState → List (ℕ × Text) → Token → Content → Content → List Event → List Event → Result Referred Stop → Type 0
TellsReference c st texts t old new before after (Ok referred.Taken) = TellsAt c st texts t old new before after (Ok tt)
TellsReference c st texts t old new before after (Ok (referred.Data number)) =
    (new ≡ old) × (after ≡ before) × IsDataNext st texts t old number said.IsData (Data number)
TellsReference c st texts t old new before after (Ok (referred.External number)) =
    (new ≡ old) × (after ≡ before) × IsDataNext st texts t old number said.IsExternal (DataRef number)
TellsReference c st texts t old new before after (Err s) = TellsAt c st texts t old new before after (Err s)

-- an instruction is what it says, unless it is longer than PILEN
abbrev pub instructed_in : Doctype → Text → Said
instructed_in d text = if nat_lt d.syntax.quantities.pilen (length text) then said.TooLong else said.Instructs text
