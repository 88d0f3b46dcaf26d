-- WHERE DOCUMENTS ARE READ, what these laws need holds.
use Rattle.std.specs.Prelude.{◌≡◌, ℕ, Bool, Some, None, List, [], ◌∷◌, ◌++◌, slice_get}
use Rattle.sgml_full.specs.attr.declared.definition.Definition.{Definition}
use Rattle.sgml_full.specs.dtd_attlists.declared.list.AttributeList.{AttributeList}
use Rattle.sgml_full.specs.dtd.Doctypes.{Doctype}
use Rattle.sgml_theory_starts.specs.theory_reading.Names.{Name}
use Rattle.sgml_theory_starts.specs.theory_reading.Pieces.{Specification, How, Kind, Start, Piece}
use Rattle.sgml_theory_starts.specs.theory_reading.Nest.{types}
use Rattle.sgml_theory_starts.specs.theory_reading.Runs.{after_run}
use Rattle.sgml_theory_starts.specs.theory_reading.Unread.{Input}
use Rattle.sgml_theory_starts.specs.theory_reading.State.{State, state}
use Rattle.sgml_theory_starts.specs.theory_reading.Currents.{currents}
use Rattle.sgml_theory_starts.specs.theory_reading.Reads.{Move, Reads, ReadsFromStart, read_by}
use Rattle.sgml_theory_starts.specs.theory_spelling.Attributes.{unvalued, valued}
use Rattle.sgml_theory_starts.specs.theory_spelling.Spelled.{forms}
use Rattle.sgml_theory_values.specs.Starts.{specifications, HasDefault, DefinitionsHold, CurrentsHold}
use Rattle.sgml_theory_values.specs.Full.{value_read}
use Rattle.sgml_theory_values.specs.Laws.{HasValues}

-- the defaults of all lists are of literals
abbrev pub HaveDefaults : Doctype → Type 0
HaveDefaults d =
    (i j : ℕ) (l : AttributeList) (x : Definition) → slice_get d.lists i ≡ Some l → slice_get l.definitions j ≡ Some x → HasDefault d.syntax x

-- after all that was read, its definitions and current values are so
abbrev pub WhatIsReadHolds : Type 0
WhatIsReadHolds =
    (I : Input) (ms : List Move) → ReadsFromStart forms I ms → let h = read_by I ms in
    DefinitionsHold (types h) × CurrentsHold (types h) (currents h)

-- each piece of the move that reads next has values where it stands
abbrev pub ReadStartsHaveValues : Type 0
ReadStartsHaveValues =
    (I : Input) (ms : List Move) (m : Move) → ReadsFromStart forms I ms → Reads forms I (read_by I ms) m
    → (before after : List Piece) (p : Piece) → m.omitted ++ (m.visible ∷ []) ≡ before ++ (p ∷ after)
    → HasValues (state (after_run (read_by I ms) before)) p.kind

-- written as a full document writes it, with the values that it has
abbrev pub written_again : State → Name → Kind → How → Bool → Bool → Kind
written_again s n first = Start n (specifications (value_read s.context.doctype) (valued s first))

-- so each start that is read has its values again where it is written in a full document
abbrev pub ReadStartsAreReadBack : Type 0
ReadStartsAreReadBack =
    (I : Input) (ms : List Move) (m : Move) → ReadsFromStart forms I ms → Reads forms I (read_by I ms) m
    → (before after : List Piece) (p : Piece) → m.omitted ++ (m.visible ∷ []) ≡ before ++ (p ∷ after)
    → (n : Name) (ss : List Specification) (how how' : How) (proper proper' at_once at_once' : Bool) → p.kind ≡ Start n ss how proper at_once →
    let s = state (after_run (read_by I ms) before) in
    (t : State) → t.context.doctype ≡ s.context.doctype →
    let again = written_again s n p.kind how' proper' at_once' in
    (unvalued t again ≡ None) × (valued t again ≡ valued s p.kind)
