-- Bytes that stand for themselves. (profile: the line format of `nsgmls`)
use Rattle.std.specs.Prelude.{ℕ, ◌==◌, ◌&&◌, not, Bool, nat_le}

-- from 32 up, other than the backslash (92)
abbrev pub is_plain : ℕ → Bool
is_plain b = nat_le 32 b && not (b == 92)
