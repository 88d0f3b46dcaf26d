-- The values of starts that were left out, one after another (7.3.1.1, 7.9).
use Rattle.std.specs.Prelude.{◌≡◌, ℕ, List, [], ◌∷◌, ◌++◌, Some, None}
use Rattle.sgml_text.specs.declared.reason.Reason.{Reason}
use Rattle.sgml_attr.specs.declared.value.AttrValue.{AttrValue}
use Rattle.sgml_infer.specs.sgml_dtd.Doctypes.{Doctype}
use Rattle.sgml_theory_starts.specs.theory_reading.Pieces.{Piece}
use Rattle.sgml_theory_starts.specs.theory_reading.Omission.{omitted_start}
use Rattle.sgml_theory_starts.specs.theory_reading.Currents.{AreCurrents}
use Rattle.sgml_theory_starts.specs.theory_reading.State.{State, after_piece}
use Rattle.sgml_theory_starts.specs.theory_spelling.Attributes.{unvalued, valued}
use Rattle.sgml_theory_starts.specs.Starts.{Table}
use Rattle.sgml_theory_starts.specs.theory_standing.Moves.{run_unvalued}
use Rattle.sgml_theory_starts.specs.Apart.{HasListsApart}
use Rattle.sgml_said.specs.Told.{attributes_with, definitions_at}
use Rattle.sgml_infer.specs.Tables.{name_at}
use Rattle.sgml_infer.specs.Seen.{started}
use Rattle.sgml_prolog_steps.specs.declared.stepping.Stop.{Stop}
use Rattle.sgml_prolog_steps.specs.declared.stepping.Stop.TheVariants as stop

-- the start of an element of the type of this number
abbrev pub start_at : Doctype → ℕ → Piece
start_at d n = omitted_start (name_at d n)

-- ITS VALUES, in the state where it stands
pub record IsStartValued (d : Doctype) (s : State) (n : ℕ) (values : List AttrValue) : Type 0 where
  pub no_reason : unvalued s (start_at d n).kind ≡ None
  pub said : attributes_with (definitions_at d n) values ≡ valued s (start_at d n).kind

-- those of each
abbrev pub AreStartsValued : Doctype → State → List ℕ → List (List AttrValue) → Type 0
AreStartsValued d s [] [] = Unit {0}
AreStartsValued d s (n ∷ ns) (v ∷ vs) = IsStartValued d s n v × AreStartsValued d (after_piece (start_at d n) s) ns vs
AreStartsValued d s _ _ = ⊥

-- A STATE of this document type, whose declarations hold, with these current values
pub record IsBy (d : Doctype) (table : Table) (s : State) : Type 0 where
  pub doctype : s.context.doctype ≡ d
  pub currents : AreCurrents d table s.currents
  pub apart : HasListsApart d

-- these starts have values, and the rest goes on from a state of this document type with these current values
pub record GoesOn (d : Doctype) (all : List ℕ) (table : Table) (values : List (List AttrValue)) (rest : List ℕ) (s : State) : Type 0 where
  pub here : State
  pub by : IsBy d table here
  pub valued : (vs : List (List AttrValue)) → AreStartsValued d here rest vs → AreStartsValued d s all (values ++ vs)
  pub unvalued : (r : Reason) → run_unvalued here (started d rest) ≡ Some r → run_unvalued s (started d all) ≡ Some r

-- a refusal for such a reason, or want of memory
abbrev pub IsStopFor : (Reason → Type 0) → Stop → Type 0
IsStopFor P (stop.Refused r) = P r
IsStopFor P (stop.Wanted entity file) = ⊥
IsStopFor P stop.More = ⊥
IsStopFor P stop.Memory = Unit {0}
