-- What one step of the reader comes to: pieces that stand next, or why none does.
use Rattle.std.specs.Prelude.{◌≡◌, ℕ, ◌<◌, Bool, true, false, not, ◌⊎◌, List, [], ◌∷◌, ◌++◌, Option, Some, None, Result, Ok, Err, OnOk, OnErr, map}
use Rattle.std.specs.List.{list_all}
use Rattle.sgml_text.specs.declared.reason.Reason.{Reason}
use Rattle.sgml_text.specs.declared.reason.Reason.TheVariants as reason
use Rattle.sgml_entity.specs.Texts.{text_of}
use Rattle.sgml_declared.specs.decl_forms.declared.doctype.DoctypeHead.{DoctypeHead}
use Rattle.sgml_declared.specs.theory_reading.Names.{Name, Text}
use Rattle.sgml_declared.specs.theory_reading.Pieces.{Piece, Kind, Pi}
use Rattle.sgml_declared.specs.theory_reading.Facets.{Stage, InSubset, AfterSubset, subset_number, stage_begun}
use Rattle.sgml_declared.specs.theory_reading.Unread.{Outside, Found, base_in, file_of}
use Rattle.sgml_declared.specs.theory_spelling.Decided.{decided}
use Rattle.sgml_declared.specs.theory_spelling.References.{missing_fetched}
use Rattle.sgml_declared.specs.theory_spelling.Prolog.{sources_after}
use Rattle.sgml_declared.specs.theory_standing.Supplied.{AreSuppliedSoFar}
use Rattle.sgml_declared.specs.theory_standing.Kept.{Kept, given, sources_of}
use Rattle.sgml_declared.specs.theory_standing.Prologs.{state_in_prolog}
use Rattle.sgml_declared.specs.theory_standing.Next.{after, IsNext, AreNext, IsRefused, left_to_read}
use Rattle.sgml_scan.specs.declared.state.Token.{Token}
use Rattle.sgml_declared.specs.Files.{Choices, IsOutsideOf}
use Rattle.sgml_prolog_steps.specs.Standing.{IsKept}
use Rattle.sgml_prolog_steps.specs.Found.{moved_on, IsTokenThere, IsFound}
use Rattle.sgml_prolog_steps.specs.declared.found.Found.TheVariants as found
use Rattle.sgml_marked.specs.Opened.{without_last}
use Rattle.sgml_marked.specs.declared.status.Status.{Status}
use Rattle.sgml_entity.specs.Stack.{is_on, lower}
use Rattle.sgml_declared.specs.declared.error.TakeError.{TakeError}
use Rattle.sgml_declared.specs.declared.error.TakeError.TheVariants as take_error
use Rattle.sgml_prolog_steps.specs.declared.stepping.Turn.{Turn}
use Rattle.sgml_prolog_steps.specs.declared.stepping.Turn.TheVariants as turn
use Rattle.sgml_prolog_steps.specs.declared.stepping.Stop.{Stop}
use Rattle.sgml_prolog_steps.specs.declared.stepping.Stop.TheVariants as stop

abbrev pub is_instruction : Kind → Bool
is_instruction (Pi text entity) = true
is_instruction _ = false

-- nothing is told of these
abbrev pub are_silent : List Piece → Bool
are_silent ps = list_all (λ (p : Piece). not (is_instruction p.kind)) ps

-- the name of the file of an entity; or of the external subset, which a head names first that stands next
abbrev pub base_of : Outside → Kept → Name
base_of outside k = base_in outside (sources_of k) (map (λ p. p.entity) k.stack.places)

abbrev pub IsFileNext : Outside → Kept → ℕ → Name → Type 0
IsFileNext outside k number file =
    (file_of outside (sources_of k) number ≡ Some file)
    ⊎ ((number ≡ subset_number) × (k.subset ≡ None) × (head : DoctypeHead) × (file_of outside (sources_after (sources_of k) (base_of outside k) head) number ≡ Some file))

-- these pieces stand next, each silent
abbrev pub AreSilentNext : Outside → List (ℕ × Text) → Bool → Kept → Kept → Type 0
AreSilentNext outside texts ended old new = (ps : List Piece) × AreNext outside old texts ended ps new × (are_silent ps ≡ true)

-- an instruction stands next
abbrev pub IsInstructionNext : Outside → List (ℕ × Text) → Bool → Kept → Kept → Text → Option ℕ → Type 0
IsInstructionNext outside texts ended old new text entity =
    (p : Piece) × IsNext outside old texts ended p × (p.kind ≡ Pi text entity) × (new ≡ after outside p old)

-- the text in the file of this entity is to be given, which isn't being read: without the file reading stops here
pub record IsWanting (outside : Outside) (texts : List (ℕ × Text)) (ended : Bool) (k : Kept) (number : ℕ) (file : Name) : Type 0 where
  pub unread : is_on number k.stack.places ≡ false
  pub not_given : text_of texts number ≡ None
  pub named : IsFileNext outside k number file
  pub refused : (r : Reason) → missing_fetched (outside.fetched file) ≡ Some r → IsRefused outside k texts ended r

abbrev pub StepsBy : Outside → List (ℕ × Text) → Bool → Kept → Kept → Result Turn Stop → Type 0
StepsBy outside texts ended old new (Ok turn.Silent) = AreSilentNext outside texts ended old new
StepsBy outside texts ended old new (Ok (turn.Instruction text entity)) = IsInstructionNext outside texts ended old new text entity
StepsBy outside texts ended old new (Err (stop.Refused r)) = IsRefused outside old texts ended r
StepsBy outside texts ended old new (Err (stop.Wanted number file)) = (new ≡ old) × IsWanting outside texts ended old number file
StepsBy outside texts ended old new (Err stop.More) = (new ≡ old) × (ended ≡ false) × (decided outside (state_in_prolog old) (given old texts) ≡ false)
StepsBy outside texts ended old new (Err stop.Memory) = Unit {0}

-- The text of the external subset may be given before its head is read, which names its file. Then it is
-- the text in the file that was asked for under that number.
abbrev pub IsAskedFor : Outside → Kept → List (ℕ × Text) → Option Name → Type 0
IsAskedFor outside k texts asked =
    (text : Text) → k.subset ≡ None → text_of texts subset_number ≡ Some text
    → (file : Name) × (asked ≡ Some file) × (outside.fetched file ≡ Found text)

-- each outside that a run with these options may have, by the texts that were given
pub record IsOutside (c : Choices) (outside : Outside) (k : Kept) (texts : List (ℕ × Text)) (asked : Option Name) : Type 0 where
  pub of_options : IsOutsideOf c outside
  pub supplied : AreSuppliedSoFar outside (sources_of k) texts
  pub asked_for : IsAskedFor outside k texts asked
  pub expand : k.stack.expand ≡ outside.expand

-- WHAT A STEP COMES TO, in each of them
abbrev pub Steps : Choices → List (ℕ × Text) → Bool → Option Name → Kept → Kept → Result Turn Stop → Type 0
Steps c texts ended asked old new result =
    (outside : Outside) → IsOutside c outside old texts asked → StepsBy outside texts ended old new result

-- with each silent step less is left to read
abbrev pub Falls : List (ℕ × Text) → Kept → Kept → Result Turn Stop → Type 0
Falls texts old new (Ok turn.Silent) = left_to_read new texts < left_to_read old texts
Falls texts old new _ = Unit {0}

-- what is kept goes on to be what a reader keeps
abbrev pub GoesOn : Kept → Result Turn Stop → Type 0
GoesOn new (Ok x) = IsKept new
GoesOn new (Err e) = Unit {0}

-- A STEP; what it leaves where it takes nothing is what was kept
pub record IsStep (c : Choices) (texts : List (ℕ × Text)) (ended : Bool) (asked : Option Name) (old new : Kept) (result : Result Turn Stop) : Type 0 where
  pub steps : Steps c texts ended asked old new result
  pub falls : Falls texts old new result
  pub kept : GoesOn new result
  -- the limit of what may be opened stays
  pub expand : OnOk result (new.stack.expand ≡ old.stack.expand)
  pub left : OnErr result (new ≡ old)

-- of this token
abbrev pub TakesIn : Choices → List (ℕ × Text) → Token → Kept → Kept → Result Turn Stop → Type 0
TakesIn c texts x old new result = (ended : Bool) (asked : Option Name) → IsTokenThere old texts ended x → IsStep c texts ended asked old new result

-- whatever the options are
abbrev pub Takes : List (ℕ × Text) → Token → Kept → Kept → Result Turn Stop → Type 0
Takes texts x old new result = (c : Choices) → TakesIn c texts x old new result

-- nothing was passed; or what was passed is of a step, whatever the options are
abbrev pub IsPassed : List (ℕ × Text) → Kept → Kept → Type 0
IsPassed texts old new =
    (new ≡ old) ⊎ ((c : Choices) (ended : Bool) (asked : Option Name) → IsStep c texts ended asked old new (Ok turn.Silent))

-- the first of what was read that isn't a separator
abbrev pub begun_on : ℕ → Kept → Kept
begun_on n k = record (moved_on n k) { stage = stage_begun k.stage }

-- the last section of this level has ended
abbrev pub section_ended : ℕ → Kept → Kept
section_ended level k = record k { sections = without_last level k.sections }

-- the text at the top has ended
abbrev pub text_ended : Kept → Kept
text_ended k = record k { stack = record k.stack { places = lower k.stack.places }; stage = stage_begun k.stage }

-- before the document type has been read
abbrev pub document_reason : Stage → Reason
document_reason InSubset = reason.Unclosed
document_reason AfterSubset = reason.Unclosed
document_reason _ = reason.NoDoctype

-- where nothing is left of the text at the top
abbrev pub EndsText : Kept → Kept → Result Turn Stop → Type 0
EndsText old new result =
    (texts : List (ℕ × Text)) (c : Choices) (ended : Bool) (asked : Option Name) → IsFound old texts ended found.End → IsStep c texts ended asked old new result

-- a section of this status began where so many texts are being read (10.4)
abbrev pub with_section : Status → ℕ → Kept → Kept
with_section status level k = record k { sections = k.sections ++ record { status = status; level = level } ∷ [] }

-- whatever the options are, and whatever file was asked for
abbrev pub IsStepOf : List (ℕ × Text) → Bool → Kept → Kept → Result Turn Stop → Type 0
IsStepOf texts ended old new result = (c : Choices) (asked : Option Name) → IsStep c texts ended asked old new result

-- why a construct that was read isn't taken
abbrev pub stop_of : TakeError → Stop
stop_of (take_error.Refused r) = stop.Refused r
stop_of (take_error.Wanted number file) = stop.Wanted number file
stop_of take_error.Memory = stop.Memory
