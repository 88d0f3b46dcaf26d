-- What a token changes of the bits.
use Rattle.std.specs.Prelude.{ℕ, Bool, List, Option, Some, None}
use Rattle.sgml_model.specs.Term.{Term}
use Rattle.sgml_automaton.specs.Moves.{enter_l, go_l}

-- the bits after the token j of the name l
abbrev pub moved_l : Term → Option ℕ → ℕ → Option (List ℕ) → List Bool → List Bool
moved_l x None j l bits = enter_l x 0 j bits
moved_l x (Some k) j l bits = go_l x 0 k j l bits
