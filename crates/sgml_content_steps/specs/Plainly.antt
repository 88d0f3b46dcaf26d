-- Content that is scanned without NET and maps, and steps in it.
use Rattle.std.specs.Prelude.{◌≡◌, ℕ, zero, suc, Bool, false, List, [], Ok}
use Rattle.sgml_delim.specs.declared.delim.Mode.TheVariants as mode
use Rattle.sgml_scan.specs.declared.state.ScanState.{ScanState}
use Rattle.sgml_events.specs.declared.event.Event.{Event}
use Rattle.sgml_theory_starts.specs.theory_reading.Names.{Text}
use Rattle.sgml_theory_starts.specs.theory_standing.Held.{Held}
use Rattle.sgml_theory_starts.specs.declaring.Files.{Choices}
use Rattle.sgml_content_steps.specs.Standing.{IsHeld}
use Rattle.sgml_content_steps.specs.Content.{Content, Holds}
use Rattle.sgml_content_steps.specs.Steps.{IsStep, LeavesAsItWas, TellsBy}

-- CONTENT IS SCANNED in this state, whatever is held
abbrev pub IsScannedIn : ScanState → Content → Type 0
IsScannedIn st c = (x : Held) → Holds c x → IsHeld c.kept st x

-- in content without NET and maps
abbrev pub plain_state : ScanState
plain_state = record { mode = mode.Con; net = false; maps = false }

-- A STEP where it is scanned so, whatever the options are, with what it tells
abbrev pub TellsThere : ScanState → List (ℕ × Text) → Content → Content → List Event → List Event → Type 0
TellsThere st texts old new before after =
    TellsBy (λ told. (c : Choices) (ended : Bool) → IsStep c st texts ended old new told (Ok tt)) old.kept before after

abbrev pub TellsPlainly : List (ℕ × Text) → Content → Content → List Event → List Event → Type 0
TellsPlainly texts old new before after = TellsThere plain_state texts old new before after

-- nothing was taken, and nothing told
abbrev pub LeavesAll : Content → Content → List Event → List Event → Type 0
LeavesAll old new before after = LeavesAsItWas old new [] × (after ≡ before)

-- SOMETHING IS TAKEN, by how many bytes that is, or nothing
abbrev pub TakesSome : Type 0 → Content → Content → List Event → List Event → ℕ → Type 0
TakesSome takes old new before after zero = LeavesAll old new before after
TakesSome takes old new before after (suc n) = takes
