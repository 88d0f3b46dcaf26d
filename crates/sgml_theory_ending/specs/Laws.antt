-- That reading comes to an end.
use Rattle.std.specs.Prelude.{◌≡◌, ◌⊎◌, ◌<◌, ◌≤◌, ◌+◌, ◌*◌, ℕ, true, List, [], ◌∷◌, length, slice_get, Option, Some}
use Rattle.sgml_io.specs.text.declared.place.Place.{Place}
use Rattle.sgml_io.specs.text.declared.reason.Reason.{Reason}
use Rattle.sgml_io.specs.text.declared.reason.Reason.TheVariants.{Absent}
use Rattle.sgml_io.specs.text.declared.place.Refusal.{Refusal}
use Rattle.sgml_io.specs.Records.{records}
use Rattle.sgml_theory_spelling.specs.entity.Stack.{place_at}
use Rattle.sgml_theory_spelling.specs.theory_reading.Names.{Text}
use Rattle.sgml_theory_spelling.specs.theory_reading.Pieces.{History}
use Rattle.sgml_theory_spelling.specs.theory_reading.Unread.{Input, unread, standing, opening}
use Rattle.sgml_theory_spelling.specs.theory_reading.State.{state}
use Rattle.sgml_theory_spelling.specs.theory_reading.Reads.{Move, Reads, ReadOn, ReadsFromStart, IsOver, moved_on, after_moves, read_by, ends_in_finish, stop_place, start_places}
use Rattle.sgml_theory_spelling.specs.theory_reading.Events.{events}
use Rattle.sgml_theory_spelling.specs.theory_reading.Identifiers.{id_fault}
use Rattle.sgml_theory_spelling.specs.theory_reading.Outcome.{outcome, is_ended}
use Rattle.sgml_theory_spelling.specs.Spelled.{forms}
use Rattle.sgml_theory_ending.specs.Left.{left_to_read}
use Rattle.sgml_theory_ending.specs.Places.{IsThere}
use Rattle.sgml_theory_ending.specs.Outcomes.{IsOutcome}

-- with each move less is left to read, unless it reads the document's end
abbrev pub LessIsLeft : Type 0
LessIsLeft =
    (I : Input) (h : History) (m : Move) → Reads forms I h m
    → (ends_in_finish (moved_on h m) ≡ true) ⊎ (left_to_read I (moved_on h m) < left_to_read I h)

-- FROM WHATEVER WAS READ so much reads on, up to where nothing more does: the document's end was read, or reading stops
abbrev pub ReadingEnds : Type 0
ReadingEnds =
    (I : Input) (h : History)
    → (ms : List Move) × ReadOn forms I h ms × IsOver forms I (after_moves h ms) × (length ms ≤ left_to_read I h + 1)

-- and no more than that reads
abbrev pub NoMoreReads : Type 0
NoMoreReads = (I : Input) (h : History) (ms : List Move) → ReadOn forms I h ms → length ms ≤ left_to_read I h + 1

-- EACH INPUT IS READ to its end or to where reading stops
abbrev pub EachInputIsRead : Type 0
EachInputIsRead =
    (I : Input)
    → (ms : List Move) × ReadsFromStart forms I ms × IsOver forms I (read_by I ms)
    × (length ms ≤ 2 * (length I.document + I.outside.expand) + 2)

-- where identifiers don't agree, the start at fault has a place
abbrev pub FaultsHavePlaces : Type 0
FaultsHavePlaces =
    (h : History) (n : ℕ) (r : Reason) → id_fault (events forms h) ≡ Some (n, r) → (p : Place) × (slice_get (start_places h) n ≡ Some p)

-- AFTER WHAT READS each place on the stack, the one where reading stands, and that of each start that was read is in a text
-- that has a name
abbrev pub AreThere : Input → History → List Place → Type 0
AreThere I h ps = (n : ℕ) (p : Place) → slice_get ps n ≡ Some p → IsThere I h p

abbrev pub PlacesAreThere : Type 0
PlacesAreThere =
    (I : Input) (ms : List Move) → ReadsFromStart forms I ms
    → let h = read_by I ms in AreThere I h (unread h) × IsThere I h (stop_place h) × AreThere I h (start_places h)

-- EACH INPUT HAS AN OUTCOME
abbrev pub EachInputHasAnOutcome : Type 0
EachInputHasAnOutcome = (I : Input) → (ms : List Move) × ReadsFromStart forms I ms × ((o : Option Refusal) × IsOutcome I (read_by I ms) o)

-- and no other
abbrev pub NoOtherOutcome : Type 0
NoOtherOutcome =
    (I : Input) (ms ns : List Move) (o q : Option Refusal) → ReadsFromStart forms I ms → IsOutcome I (read_by I ms) o
    → ReadsFromStart forms I ns → IsOutcome I (read_by I ns) q → (ms ≡ ns) × (o ≡ q)

-- IN RECORDS a text that has a byte begins with RS (10), where no reference stands (7.6.1, profile)
abbrev pub BeginsRecord : Text → Type 0
BeginsRecord [] = Unit {0}
BeginsRecord (b ∷ bytes) = b ≡ 10

abbrev pub RecordsBegin : Type 0
RecordsBegin = (bytes : List ℕ) → BeginsRecord (records bytes)

-- so that no refusal at the first byte is for a text that is absent
abbrev pub NoneIsAbsentAtFirst : Type 0
NoneIsAbsentAtFirst =
    (I : Input) (ms : List Move) (r : Refusal) → BeginsRecord I.document → ReadsFromStart forms I ms → IsOutcome I (read_by I ms) (Some r)
    → r.place ≡ place_at 0 0 → r.reason ≡ Absent → ⊥

-- WHAT IS COMPUTED piece by piece has come to an end after so many moves
abbrev pub OutcomesCome : Type 0
OutcomesCome =
    (I : Input) (n : ℕ) → 2 * (length I.document + I.outside.expand) + 2 < n
    → is_ended (outcome n forms I.was_cut I.outside (state (opening I.outside)) (standing I (opening I.outside))).ending ≡ true
