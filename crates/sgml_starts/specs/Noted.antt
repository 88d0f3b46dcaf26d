-- Whether each of some attributes is specified.
use Rattle.std.specs.Prelude.{ℕ, Bool, List, take, nat_lt, if◌then◌else◌}

pub record Noted : Type 0 where
  pub items : List Bool

-- few stand at the front of a row
abbrev pub noted : ℕ → List Bool → List Bool → Noted
noted many few more = record { items = if nat_lt 16 many then more else take many few }
