-- What the steps for characters come to.
use Rattle.std.specs.Prelude.{◌≡◌, ℕ, Bool, true, false, List, [], ◌∷◌, Result, Ok, Err, if◌then◌else◌, take}
use Rattle.sgml_delim.specs.declared.delim.Mode.{Mode}
use Rattle.sgml_scan.specs.declared.state.ScanState.{ScanState}
use Rattle.sgml_scan.specs.declared.state.Token.{Token}
use Rattle.sgml_delim.specs.declared.delim.Mode.TheVariants as mode
use Rattle.sgml_events.specs.declared.event.Event.{Event}
use Rattle.sgml_infer.specs.theory_reading.Names.{Text}
use Rattle.sgml_infer.specs.theory_reading.Pieces.{Kind, Re}
use Rattle.sgml_infer.specs.theory_reading.Unread.{Outside}
use Rattle.sgml_prolog_steps.specs.theory_spelling.Sized.{sized}
use Rattle.sgml_prolog_steps.specs.theory_spelling.Content.{character_kind}
use Rattle.sgml_prolog_steps.specs.theory_standing.Kept.{Kept}
use Rattle.sgml_prolog_steps.specs.theory_standing.Held.{Held, IsSpelledIn}
use Rattle.sgml_prolog_steps.specs.declaring.Files.{Choices}
use Rattle.sgml_prolog_steps.specs.Found.{moved_on, rest_in}
use Rattle.sgml_prolog_steps.specs.declared.stepping.Stop.{Stop}
use Rattle.sgml_content_steps.specs.Standing.{IsHeld, IsSpelledNext}
use Rattle.sgml_content_steps.specs.Content.{Content, Holds}
use Rattle.sgml_content_steps.specs.Steps.{IsStep, TakesAt, TellsBy}
use Rattle.std.specs.Global.{Vec}
use Rattle.sgml_inside.specs.records.Facts.{takes_end}
use Rattle.sgml_inside.specs.Inside.{facts_of}

-- SOMETHING WAS TAKEN, or this is why nothing was
abbrev pub taken : Bool → Stop → Result (Unit {0}) Stop
taken went stop = if went then Ok tt else Err stop

-- A TOKEN scanned in this state, whatever the options are, with what it tells
abbrev pub TellsScanned : ScanState → List (ℕ × Text) → Token → Content → Content → List Event → List Event → Result (Unit {0}) Stop → Type 0
TellsScanned st texts t old new before after result = TellsBy (λ told. (c : Choices) → TakesAt c st texts t old new told result) old.kept before after

-- in whatever state in which characters aren't passed over (10.4.2)
abbrev pub is_ign : Mode → Bool
is_ign mode.Ign = true
is_ign _ = false

abbrev pub TellsRead : List (ℕ × Text) → Token → Content → Content → List Event → List Event → Result (Unit {0}) Stop → Type 0
TellsRead texts t old new before after result =
    TellsBy (λ told. (c : Choices) (st : ScanState) → is_ign st.mode ≡ false → TakesAt c st texts t old new told result) old.kept before after

-- A PIECE of so many bytes is spelled there, whatever is held
abbrev pub IsPieceThere : Content → ScanState → List (ℕ × Text) → Bool → ℕ → Kind → Type 0
IsPieceThere c st texts ended n y =
    (outside : Outside) (x : Held) → Holds c x → IsHeld c.kept st x → IsSpelledIn outside x texts ended (Ok (sized n y))

abbrev pub TellsPiece : List (ℕ × Text) → ℕ → Kind → Content → Content → List Event → List Event → Result (Unit {0}) Stop → Type 0
TellsPiece texts n y old new before after result =
    TellsBy (λ told. (c : Choices) (st : ScanState) (ended : Bool) → IsPieceThere old st texts ended n y → IsStep c st texts ended old new told result) old.kept before after

-- THESE CHARACTERS stand there, one after another, as long as content is scanned in this state
abbrev pub AreThere : Kept → ScanState → List (ℕ × Text) → Bool → Text → Type 0
AreThere k st texts ended [] = Unit {0}
AreThere k st texts ended (b ∷ bs) =
    IsSpelledNext k st texts ended (λ outside s. Ok (sized 1 (character_kind s st.mode b))) × AreThere (moved_on 1 k) st texts ended bs

abbrev pub TellsStretch : List (ℕ × Text) → Text → Content → Content → List Event → List Event → Result (Unit {0}) Stop → Type 0
TellsStretch texts bytes old new before after result =
    TellsBy (λ told. (c : Choices) (st : ScanState) (ended : Bool) → is_ign st.mode ≡ false → AreThere old.kept st texts ended bytes
    → IsStep c st texts ended old new told result) old.kept before after

-- THE SAME of a step that answers whether something was taken, and else why not
abbrev pub TakesPiece : List (ℕ × Text) → ℕ → Kind → Content → Content → Vec Event → Vec Event → Bool → Stop → Type 0
TakesPiece texts n y old new told_old told_new went stop = TellsPiece texts n y old new told_old.items told_new.items (taken went stop)

-- of so many characters
abbrev pub TakesStretch : List (ℕ × Text) → ℕ → Content → Content → Vec Event → Vec Event → Bool → Stop → Type 0
TakesStretch texts n old new told_old told_new went stop =
    TellsStretch texts (take n (rest_in old.kept texts)) old new told_old.items told_new.items (taken went stop)

-- a record end in the innermost element (7.6.1)
abbrev pub record_end_in : Content → Kind
record_end_in c = Re (takes_end (facts_of c.inside.elements))
