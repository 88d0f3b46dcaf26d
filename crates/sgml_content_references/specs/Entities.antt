-- Data entities where they are referenced: what is told of them, and what the steps come to (9.4.4, 10.5).
use Rattle.std.specs.Prelude.{◌≡◌, ◌⊎◌, ℕ, Bool, Option, Some, None, List, [], ◌∷◌, ◌++◌, Result}
use Rattle.sgml_text.specs.declared.unit.Unit.{Unit as AnyUnit}
use Rattle.sgml_text.specs.declared.unit.Unit.TheVariants as unit
use Rattle.sgml_text.specs.Units.{characters}
use Rattle.sgml_theory_reading.specs.records.Items.{Data as DataItem}
use Rattle.sgml_entity.specs.declared.kinds.Body.{Body}
use Rattle.sgml_entity.specs.declared.kinds.Body.TheVariants as body
use Rattle.sgml_scan.specs.declared.state.ScanState.{ScanState}
use Rattle.sgml_scan.specs.declared.state.Token.{Token}
use Rattle.sgml_dtd.specs.Doctypes.{Doctype}
use Rattle.sgml_events.specs.declared.event.Event.{Event}
use Rattle.sgml_events.specs.declared.event.Event.TheVariants as event
use Rattle.sgml_theory_reading.specs.Names.{Text}
use Rattle.sgml_theory_reading.specs.Types.{body_of}
use Rattle.sgml_theory_reading.specs.Pieces.{Kind, Data, DataRef, Meaning, ToData, ToExternalData, ShortRef}
use Rattle.sgml_declared.specs.Files.{Choices}
use Rattle.sgml_prolog_steps.specs.declared.stepping.Stop.{Stop}
use Rattle.sgml_content_steps.specs.Content.{Content}
use Rattle.sgml_content_steps.specs.Steps.{TakesAt, TellsBy}
use Rattle.sgml_content_references.specs.declared.entity.Said.{Said}
use Rattle.sgml_content_references.specs.declared.entity.Said.TheVariants as said
use Rattle.sgml_content_references.specs.Referring.{IsDataNext}
use Rattle.sgml_content_data.specs.Taking.{put_out, IsTaken}
use Rattle.sgml_content_references.specs.declared.event.Entity.{Entity}
use Rattle.sgml_content_references.specs.declared.event.Entity.TheVariants as entity

-- WHAT IS TOLD OF ONE: one event or none
abbrev pub events_in : Option Event → List Event
events_in None = []
events_in (Some e) = e ∷ []

-- data, where there is any
abbrev pub chars_told : List AnyUnit → List Event
chars_told [] = []
chars_told (u ∷ us) = event.Chars (u ∷ us) ∷ []

-- the text of an SDATA entity is one unit (10.5.3)
abbrev pub units_of_sdata : ℕ → List AnyUnit
units_of_sdata number = unit.Sdata number ∷ []

abbrev pub events_by : ℕ → Option Body → List Event
events_by number (Some (body.Cdata text)) = chars_told (characters text)
events_by number (Some (body.Sdata text)) = chars_told (units_of_sdata number)
events_by number _ = []

abbrev pub told_for : Doctype → Entity → List Event
told_for d (entity.Internal number) = events_by number (body_of d number)
told_for d (entity.External number) = event.DataRef number ∷ []

-- the piece that a reference to it is
abbrev pub kind_of : Entity → Kind
kind_of (entity.Internal number) = Data number
kind_of (entity.External number) = DataRef number

-- what a string that is mapped to it stands for (9.4.6)
abbrev pub meaning_of : Entity → Meaning
meaning_of (entity.Internal number) = ToData number
meaning_of (entity.External number) = ToExternalData number

abbrev pub string_of : Text → Entity → Kind
string_of string e = ShortRef string (meaning_of e)

-- the pieces that stand for it
abbrev pub IsOf : Entity → Kind → Type 0
IsOf e y = (y ≡ kind_of e) ⊎ ((string : Text) × (y ≡ string_of string e))

-- IT WAS TAKEN after the run that was judged: this is told of it, behind a record end that it puts out (7.6.1)
pub record IsEntityTaken (judged new : Content) (n : ℕ) (events before after : List Event) : Type 0 where
  pub run_told : List Event
  pub released : Bool
  pub taken : IsTaken judged new n DataItem before run_told released
  pub told : after ≡ run_told ++ (put_out released ++ events)

-- THE STEP, scanned in each state in which a reference to such an entity stands next
abbrev pub TellsEntity : Said → Kind → List (ℕ × Text) → Token → ℕ → Content → Content → List Event → List Event → Result (Unit {0}) Stop → Type 0
TellsEntity is kind texts t number old new before after result =
    TellsBy (λ told. (c : Choices) (st : ScanState) → IsDataNext st texts t old number is kind → TakesAt c st texts t old new told result) old.kept before after

abbrev pub TellsData : List (ℕ × Text) → Token → ℕ → Content → Content → List Event → List Event → Result (Unit {0}) Stop → Type 0
TellsData texts t number old new before after result = TellsEntity said.IsData (Data number) texts t number old new before after result

abbrev pub TellsExternal : List (ℕ × Text) → Token → ℕ → Content → Content → List Event → List Event → Result (Unit {0}) Stop → Type 0
TellsExternal texts t number old new before after result = TellsEntity said.IsExternal (DataRef number) texts t number old new before after result
