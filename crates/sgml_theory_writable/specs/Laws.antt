-- The laws of what was read, and can be written.
use Rattle.std.specs.Prelude.{◌≡◌, true, false, List, Ok, None}
use Rattle.sgml_theory_again.specs.theory_reading.Pieces.{Piece}
use Rattle.sgml_theory_again.specs.theory_reading.Nest.{types}
use Rattle.sgml_theory_again.specs.theory_reading.Unread.{Outside, Input, Standing}
use Rattle.sgml_theory_again.specs.theory_reading.State.{State, state}
use Rattle.sgml_theory_again.specs.theory_reading.Currents.{currents}
use Rattle.sgml_theory_again.specs.theory_reading.Reads.{Move, Reads, ReadOn, ReadsFromStart, read_by, pieces}
use Rattle.sgml_theory_again.specs.theory_reading.Events.{Event as Said, Instruction, events_of_run}
use Rattle.sgml_theory_again.specs.theory_spelling.Attributes.{valued}
use Rattle.sgml_theory_again.specs.theory_spelling.Spelled.{forms, spelled}
use Rattle.sgml_theory_again.specs.full.Spelled.{is_paired}
use Rattle.sgml_theory_again.specs.sgml_theory_full.Named.{AllAre, AttributeIsWritten, IsWritten}
use Rattle.sgml_theory_again.specs.Moves.{IsPieceOf, state_at}
use Rattle.sgml_theory_again.specs.Content.{HasCome}
use Rattle.sgml_theory_writable.specs.Spelled.{IsSpelledSo, ValuesRefer}

-- EACH PIECE that is spelled: its references are of entities that are found by their names
abbrev pub SpelledRefers : Type 0
SpelledRefers =
    (outside : Outside) (s : State) (t : Standing) (p : Piece) → spelled outside s t ≡ Ok p
    → IsSpelledSo s.context.doctype p.kind

-- so those of defaults and of current values are, after whatever was read
abbrev pub ReadValuesRefer : Type 0
ReadValuesRefer =
    (I : Input) (ms : List Move) → ReadsFromStart forms I ms → let h = read_by I ms in
    ValuesRefer (types h) (currents h)

-- EACH ATTRIBUTE of a start that is read can be written, where it stands
abbrev pub ReadAttributesAreWritten : Type 0
ReadAttributesAreWritten =
    (I : Input) (ms : List Move) (m : Move) (before : List Piece) (p : Piece) → ReadsFromStart forms I ms
    → Reads forms I (read_by I ms) m → IsPieceOf m before p → let s = state_at (read_by I ms) before in
    AllAre (AttributeIsWritten s.context.doctype) (valued s p.kind)

-- AN INSTRUCTION of its own that is told can be spelled (8)
abbrev pub MayBeSpelled : Said → Type 0
MayBeSpelled (Instruction text None) = is_paired false text ≡ true
MayBeSpelled event = Unit {0}

-- LAW: what is told of the instance can be written, if each instruction of its own can be spelled
abbrev pub ReadIsWritten : Type 0
ReadIsWritten =
    (I : Input) (ms ns : List Move) → ReadsFromStart forms I ms → let h = read_by I ms in
    HasCome I h → ReadOn forms I h ns → let told = events_of_run forms (state h) (pieces ns) in
    AllAre MayBeSpelled told → AllAre (IsWritten (state h).context.doctype) told
