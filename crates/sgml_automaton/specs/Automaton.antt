-- The term that an automaton is of, and that a state stands for.
use Rattle.std.specs.Prelude.{◌≡◌, ℕ, ◌≤◌, Bool, length}
use Rattle.sgml_model.specs.Term.{Term}
use Rattle.sgml_model.specs.Model.{model_of}
pub use Rattle.sgml_automaton.specs.Last.{term_at_last, IsPlaced}
use Rattle.sgml_automaton.specs.declared.state.ModelState.{ModelState}
use Rattle.sgml_automaton.specs.declared.automaton.Automaton.{Automaton}

-- the model
abbrev pub whole_of : Automaton → Term
whole_of a = model_of a.model

-- the number of AND members
abbrev pub room_of : Automaton → ℕ
room_of a = a.room

-- it answers from tables
abbrev pub has_tables : Automaton → Bool
has_tables a = a.index.counts

-- for how many AND members a state has bits
abbrev pub bits_in : ModelState → ℕ
bits_in s = length s.bits.items

-- the term that is left
abbrev pub term_of : Automaton → ModelState → Term
term_of a s = term_at_last (whole_of a) s.last s.bits.items

-- the state is one of this automaton
pub record IsStateOf (a : Automaton) (s : ModelState) : Type 0 where
  pub fits : room_of a ≤ bits_in s
  pub placed : IsPlaced (whole_of a) s.last

-- a state that stands for the same in each automaton, with the same room
pub record IsCopy (new old : ModelState) : Type 0 where
  pub last : new.last ≡ old.last
  pub bits : new.bits.items ≡ old.bits.items
