-- Pieces of so many bytes.
use Rattle.std.specs.Prelude.{ℕ, Option, Some, None, Result, Ok, Err}
use Rattle.sgml_scan.specs.text.declared.reason.Reason.{Reason}
use Rattle.sgml_theory_reading.specs.Pieces.{Piece, Kind}

-- with the sum of the lengths of the texts that were opened inside it
abbrev pub sized_spent : ℕ → ℕ → Kind → Piece
sized_spent n spent k = record { kind = k; size = n; spent = spent }

-- inside it nothing was opened
abbrev pub sized : ℕ → Kind → Piece
sized n k = sized_spent n 0 k

abbrev pub spent_ok : ℕ → ℕ → Result Kind Reason → Result Piece Reason
spent_ok n spent (Ok k) = Ok (sized_spent n spent k)
spent_ok n spent (Err r) = Err r

abbrev pub sized_ok : ℕ → Result Kind Reason → Result Piece Reason
sized_ok n k = spent_ok n 0 k

abbrev pub unless_reason : Option Reason → Piece → Result Piece Reason
unless_reason (Some r) p = Err r
unless_reason None p = Ok p
