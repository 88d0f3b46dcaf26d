-- What one step in content comes to: moves that stand next, with what they tell, or why none does.
use Rattle.std.specs.Prelude.{◌≡◌, ℕ, ◌+◌, ◌<◌, ◌≤◌, length, vec_capacity, Bool, true, false, List, [], ◌∷◌, ◌++◌, flat_map, All, Option, None, Some, Result, Ok, Err, OnOk, OnErr}
use Rattle.std.specs.Global.{Vec}
use Rattle.sgml_text.specs.declared.reason.Reason.{Reason}
use Rattle.sgml_entity.specs.Stack.{is_on}
use Rattle.sgml_entity.specs.Texts.{text_of}
use Rattle.sgml_scan.specs.declared.state.ScanState.{ScanState}
use Rattle.sgml_scan.specs.declared.state.Token.{Token}
use Rattle.sgml_text.specs.declared.place.Place.{Place}
use Rattle.sgml_events.specs.declared.event.Event.{Event}
use Rattle.sgml_events.specs.declared.event.Event.TheVariants as event
use Rattle.sgml_said.specs.Told.{all_said}
use Rattle.sgml_theory_starts.specs.theory_reading.Names.{Name, Text}
use Rattle.sgml_theory_starts.specs.theory_reading.Unread.{Outside, file_of}
use Rattle.sgml_theory_starts.specs.theory_reading.Pieces.{Piece, Kind, Pi, ShortRef, ToInstruction}
use Rattle.sgml_theory_starts.specs.theory_reading.Reads.{Move, pieces, top_place}
use Rattle.sgml_theory_starts.specs.theory_spelling.Decided.{decided}
use Rattle.sgml_theory_starts.specs.theory_spelling.References.{missing_fetched}
use Rattle.sgml_theory_starts.specs.theory_standing.Supplied.{AreSuppliedSoFar}
use Rattle.sgml_theory_starts.specs.theory_standing.Kept.{Kept, given, sources_of}
use Rattle.sgml_theory_starts.specs.theory_standing.Next.{left_to_read}
use Rattle.sgml_theory_starts.specs.theory_standing.Held.{Held, state_of}
use Rattle.sgml_theory_starts.specs.theory_standing.Moves.{AreNextMoves, IsRefusedNext, told_by_moves}
use Rattle.sgml_theory_starts.specs.declaring.Files.{Choices, IsOutsideOf}
use Rattle.sgml_prolog_steps.specs.declared.stepping.Stop.{Stop}
use Rattle.sgml_prolog_steps.specs.declared.stepping.Stop.TheVariants as stop
use Rattle.sgml_content_steps.specs.Standing.{IsHeld}
use Rattle.sgml_content_steps.specs.Found.{IsTokenThere, IsEndThere}
use Rattle.sgml_content_steps.specs.Content.{Content, Holds, IsContent}
use Rattle.sgml_content_steps.specs.Places.{placed_first}

-- by which entity each instruction came (8, 10.5.4), of pieces and of what is told
abbrev pub entity_of_kind : Kind → List (Option ℕ)
entity_of_kind (Pi text entity) = entity ∷ []
entity_of_kind (ShortRef string (ToInstruction entity text)) = Some entity ∷ []
entity_of_kind _ = []

abbrev pub entities_of : List Piece → List (Option ℕ)
entities_of ps = flat_map (λ (p : Piece). entity_of_kind p.kind) ps

abbrev pub entity_told : Event → List (Option ℕ)
entity_told (event.Pi text entity place) = entity ∷ []
entity_told _ = []

abbrev pub entities_told : List Event → List (Option ℕ)
entities_told es = flat_map entity_told es

-- so many events more have room
abbrev pub HasRoomFor : ℕ → Vec Event → Type 0
HasRoomFor count told = length told.items + count ≤ vec_capacity told

-- these moves stand next, one after another, and this is what they tell
pub record Goes (outside : Outside) (texts : List (ℕ × Text)) (ended : Bool) (x : Held) (new : Content) (told : List Event) : Type 0 where
  pub moves : List Move
  pub now : Held
  pub next : AreNextMoves outside x texts ended moves now
  pub holds : Holds new now
  pub said : all_said new.kept.doctype told ≡ told_by_moves x moves
  pub entities : entities_told told ≡ entities_of (pieces moves)
  pub starts : placed_first moves ≡ true

-- the text in the file of this entity is to be given, which isn't being read: without the file reading stops here
pub record IsWanting (outside : Outside) (texts : List (ℕ × Text)) (ended : Bool) (x : Held) (number : ℕ) (file : Name) : Type 0 where
  pub not_given : text_of texts number ≡ None
  pub unread : is_on number x.kept.stack.places ≡ false
  pub named : file_of outside (sources_of x.kept) number ≡ Some file
  pub refused : (r : Reason) → missing_fetched (outside.fetched file) ≡ Some r → IsRefusedNext outside x texts ended r

abbrev pub StepsBy : Outside → List (ℕ × Text) → Bool → Held → Content → List Event → Result (Unit {0}) Stop → Type 0
StepsBy outside texts ended x new told (Ok done) = Goes outside texts ended x new told
StepsBy outside texts ended x new told (Err (stop.Refused r)) = IsRefusedNext outside x texts ended r
StepsBy outside texts ended x new told (Err (stop.Wanted number file)) = IsWanting outside texts ended x number file
StepsBy outside texts ended x new told (Err stop.More) = (ended ≡ false) × (decided outside (state_of x) (given x.kept texts) ≡ false)
StepsBy outside texts ended x new told (Err stop.Memory) = Unit {0}

-- each outside that a run with these options may have, by the texts that were given
pub record IsOutside (c : Choices) (outside : Outside) (k : Kept) (texts : List (ℕ × Text)) : Type 0 where
  pub of_options : IsOutsideOf c outside
  pub supplied : AreSuppliedSoFar outside (sources_of k) texts
  pub expand : k.stack.expand ≡ outside.expand

-- WHAT IS HELD is held still, and the tables and the texts are as they were; nothing was told
pub record LeavesAsItWas (old new : Content) (told : List Event) : Type 0 where
  pub holds : (x : Held) → Holds old x → Holds new x
  pub kept : new.kept ≡ old.kept
  pub silent : told ≡ []

-- A STEP where content is scanned in this state: in each of them, for all that may be held
pub record IsStep (c : Choices) (st : ScanState) (texts : List (ℕ × Text)) (ended : Bool) (old new : Content) (told : List Event) (result : Result (Unit {0}) Stop) : Type 0 where
  pub steps : (outside : Outside) (x : Held) → IsOutside c outside old.kept texts → Holds old x → IsHeld old.kept st x
      → StepsBy outside texts ended x new told result
  -- less is left to read
  pub falls : OnOk result (left_to_read new.kept texts < left_to_read old.kept texts)
  -- an error leaves it as it was
  pub left : OnErr result (LeavesAsItWas old new told)
  pub content : IsContent new
  -- the tables stay, and so does the limit of what may be opened
  pub doctype : new.kept.doctype ≡ old.kept.doctype
  pub expand : new.kept.stack.expand ≡ old.kept.stack.expand

-- OF THIS TOKEN, scanned in this state, where a run has these options
abbrev pub TakesAt : Choices → ScanState → List (ℕ × Text) → Token → Content → Content → List Event → Result (Unit {0}) Stop → Type 0
TakesAt c st texts t old new told result = (ended : Bool) → IsTokenThere old.kept st texts ended t → IsStep c st texts ended old new told result

-- in whatever state
abbrev pub TakesIn : Choices → List (ℕ × Text) → Token → Content → Content → List Event → Result (Unit {0}) Stop → Type 0
TakesIn c texts t old new told result = (st : ScanState) → TakesAt c st texts t old new told result

-- whatever the options are
abbrev pub Takes : List (ℕ × Text) → Token → Content → Content → List Event → Result (Unit {0}) Stop → Type 0
Takes texts t old new told result = (c : Choices) → TakesIn c texts t old new told result

-- OF THE END of a text
abbrev pub TakesEnd : List (ℕ × Text) → Content → Content → List Event → Result (Unit {0}) Stop → Type 0
TakesEnd texts old new told result =
    (c : Choices) (st : ScanState) (ended : Bool) → IsEndThere old.kept st texts ended → IsStep c st texts ended old new told result

-- with its place, where it has one
abbrev pub IsAt : Place → Event → Type 0
IsAt place (event.Start element at values) = at ≡ place
IsAt place (event.Pi text entity at) = at ≡ place
IsAt place _ = Unit {0}

abbrev pub ToldAt : Kept → List Event → Type 0
ToldAt k told = All (IsAt (top_place k.stack.places)) told

-- WHAT A STEP TELLS comes after what was told before
abbrev pub TellsBy : (List Event → Type 0) → Kept → List Event → List Event → Type 0
TellsBy takes k before after = (told : List Event) × (after ≡ before ++ told) × ToldAt k told × takes told

abbrev pub TellsAt : Choices → ScanState → List (ℕ × Text) → Token → Content → Content → List Event → List Event → Result (Unit {0}) Stop → Type 0
TellsAt c st texts t old new before after result = TellsBy (λ told. TakesAt c st texts t old new told result) old.kept before after

abbrev pub TellsIn : Choices → List (ℕ × Text) → Token → Content → Content → List Event → List Event → Result (Unit {0}) Stop → Type 0
TellsIn c texts t old new before after result = TellsBy (λ told. TakesIn c texts t old new told result) old.kept before after

abbrev pub Tells : List (ℕ × Text) → Token → Content → Content → List Event → List Event → Result (Unit {0}) Stop → Type 0
Tells texts t old new before after result = TellsBy (λ told. Takes texts t old new told result) old.kept before after
