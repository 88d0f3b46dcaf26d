-- The term at a last token, or at the start.
use Rattle.std.specs.Prelude.{◌≡◌, ℕ, Bool, true, List, Option, Some, None}
use Rattle.sgml_model.specs.Term.{Term}
use Rattle.sgml_automaton.specs.Position.{at, bits_of, has}

-- the model at the start, and else the term at the last token
abbrev pub term_at_last : Term → Option ℕ → List Bool → Term
term_at_last x None bits = x
term_at_last x (Some k) bits = at x 0 k (bits_of bits)

-- the last token is one of the model
abbrev pub IsPlaced : Term → Option ℕ → Type 0
IsPlaced x None = Unit {0}
IsPlaced x (Some k) = has x k ≡ true
