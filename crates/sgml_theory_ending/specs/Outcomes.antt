-- What reading an input comes to.
use Rattle.std.specs.Prelude.{◌≡◌, ◌⊎◌, ℕ, true, slice_get, Option, Some, None}
use Rattle.sgml_io.specs.text.declared.place.Refusal.{Refusal}
use Rattle.sgml_theory_spelling.specs.theory_reading.Pieces.{History}
use Rattle.sgml_theory_spelling.specs.theory_reading.Unread.{Input}
use Rattle.sgml_theory_spelling.specs.theory_reading.Reads.{Stops, ends_in_finish, stop_place, start_places}
use Rattle.sgml_theory_spelling.specs.theory_reading.Events.{events}
use Rattle.sgml_theory_spelling.specs.theory_reading.Identifiers.{id_fault}
use Rattle.sgml_theory_spelling.specs.Spelled.{forms}
use Rattle.sgml_theory_ending.specs.Places.{IsThere}

-- reading stops there, for this reason
pub record StopsThere (I : Input) (h : History) (r : Refusal) : Type 0 where
  pub reason : Stops forms I h r.reason
  pub place : r.place ≡ stop_place h

-- the document was read to its end, and this is the first fault of its identifiers, at the place of a start (7.9.4)
pub record FaultsThere (h : History) (r : Refusal) : Type 0 where
  pub over : ends_in_finish h ≡ true
  pub number : ℕ
  pub fault : id_fault (events forms h) ≡ Some (number, r.reason)
  pub place : slice_get (start_places h) number ≡ Some r.place

-- with no refusal the document was read to its end, and its identifiers agree; and a refusal is at a place in a text
abbrev pub IsOutcome : Input → History → Option Refusal → Type 0
IsOutcome I h None = (ends_in_finish h ≡ true) × (id_fault (events forms h) ≡ None)
IsOutcome I h (Some r) = (StopsThere I h r ⊎ FaultsThere h r) × IsThere I h r.place
