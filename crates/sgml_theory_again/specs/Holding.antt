-- WHAT WAS READ in the instance satisfies what is asked of it so that its events may be written again.
use Rattle.std.specs.Prelude.{◌≡◌, Bool, true, false, List, IsFalse}
use Rattle.sgml_theory_full.specs.syntax.declared.syntax.Syntax.{Syntax}
use Rattle.sgml_theory_full.specs.theory_reading.Names.{Text}
use Rattle.sgml_theory_full.specs.theory_reading.Types.{body_of}
use Rattle.sgml_theory_full.specs.theory_reading.Pieces.{Piece, ToData, Kind, Start, Data, ShortRef, Rs, EntityEnd}
use Rattle.sgml_theory_full.specs.theory_reading.Unread.{Input}
use Rattle.sgml_theory_full.specs.theory_reading.State.{State, state}
use Rattle.sgml_theory_full.specs.theory_reading.Reads.{Move, ReadOn, ReadsFromStart, ends_in_finish, after_moves, read_by, pieces}
use Rattle.sgml_theory_full.specs.theory_reading.Events.{body_events}
use Rattle.sgml_theory_full.specs.theory_spelling.Spelled.{forms}
use Rattle.sgml_theory_full.specs.Points.{HasReferences}
use Rattle.sgml_theory_full.specs.Following.{waits, has_events, AllHold}
use Rattle.sgml_theory_full.specs.ReadRaw.{EachInCdata, AllReadRaw}
use Rattle.sgml_theory_full.specs.Instances.{all_but_last}
use Rattle.sgml_theory_again.specs.Moves.{Along, OfEach, StaysLive}
use Rattle.sgml_theory_again.specs.Strings.{StringEndsStay}
use Rattle.sgml_theory_full.specs.Conforming.{mode_in}
use Rattle.sgml_theory_again.specs.Content.{HasCome}

-- an included start follows no record end that waits; an internal CDATA entity that is referred to has a text
abbrev pub MayBeAgain : State → Kind → Type 0
MayBeAgain s (Start n ss how proper at_once) = proper ≡ false → waits s ≡ false
MayBeAgain s (Data e) = has_events (body_events e (body_of s.context.doctype e)) ≡ true
MayBeAgain s (ShortRef string (ToData e)) = has_events (body_events e (body_of s.context.doctype e)) ≡ true
MayBeAgain s kind = Unit {0}

-- LAW: what is read from a place in the instance on, short of the end of the document: where no element with CDATA
-- content is open at its beginning, and each record end that is live where it comes is live, too, in the element in which
-- it then stands, also one at the head of a string that stands for itself
abbrev pub ReadHolds : Type 0
ReadHolds =
    (I : Input) (ms ns : List Move) → ReadsFromStart forms I ms →
    let h = read_by I ms in
    HasCome I h → ReadOn forms I h ns → IsFalse (ends_in_finish (after_moves h ns)) → OfEach StaysLive h ns
    → StringEndsStay h ns → Along MayBeAgain (state h) (pieces ns) → HasReferences (mode_in (state h))
    → AllHold (state h) (pieces ns)

-- LAW: so is what is read up to the end of the document, which is the last of its pieces
abbrev pub ReadToEndHolds : Type 0
ReadToEndHolds =
    (I : Input) (ms ns : List Move) → ReadsFromStart forms I ms →
    let h = read_by I ms in
    HasCome I h → ReadOn forms I h ns → OfEach StaysLive h ns → StringEndsStay h ns
    → Along MayBeAgain (state h) (pieces ns) → HasReferences (mode_in (state h))
    → AllHold (state h) (all_but_last (pieces ns))

-- WHILE AN ELEMENT WITH CDATA CONTENT is the innermost one (11.2.3): no entity ends, and no record start stands but
-- directly after a record end
abbrev pub StaysInCdata : Syntax → Bool → Text → Kind → Type 0
StaysInCdata s after_end text EntityEnd = ⊥
StaysInCdata s after_end text Rs = after_end ≡ true
StaysInCdata s after_end text kind = Unit {0}

abbrev pub CdataStays : State → List Piece → Type 0
CdataStays s ps = EachInCdata StaysInCdata false s ps

-- LAW: what is read there was read as data, up to the end of the element
abbrev pub ReadIsRaw : Type 0
ReadIsRaw =
    (I : Input) (ms ns : List Move) → ReadsFromStart forms I ms →
    let h = read_by I ms in
    HasCome I h → ReadOn forms I h ns → HasReferences (mode_in (state h))
    → CdataStays (state h) (pieces ns) → AllReadRaw (state h) (pieces ns)

-- LAW: so are the pieces before the last
abbrev pub ReadToEndIsRaw : Type 0
ReadToEndIsRaw =
    (I : Input) (ms ns : List Move) → ReadsFromStart forms I ms →
    let h = read_by I ms in
    HasCome I h → ReadOn forms I h ns → HasReferences (mode_in (state h))
    → CdataStays (state h) (pieces ns) → AllReadRaw (state h) (all_but_last (pieces ns))
