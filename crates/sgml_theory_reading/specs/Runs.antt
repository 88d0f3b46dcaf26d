-- The run of omitted tags that stand for a visible piece (7.3.1).
use Rattle.std.specs.Prelude.{◌+◌, ◌-◌, ℕ, Bool, ◌&&◌, is_some, List, [], ◌∷◌, if◌then◌else◌}
use Rattle.sgml_theory_reading.specs.Pieces.{Piece, Kind, History}
use Rattle.sgml_theory_reading.specs.Facets.{token}
use Rattle.sgml_theory_reading.specs.Context.{Context, context, context_after}
use Rattle.sgml_theory_reading.specs.Omission.{MayStand, NoneMayStand, depth}

-- os, the oldest first, is the longest run of omitted pieces each of which may stand there before
-- the visible piece x
abbrev pub LongestRun : History → Kind → List Piece → Type 0
LongestRun h x [] = NoneMayStand (context h) x
LongestRun h x (o ∷ os) = MayStand (context h) o x × LongestRun (o ∷ h) x os

abbrev pub after_run : History → List Piece → History
after_run h [] = h
after_run h (o ∷ os) = after_run (o ∷ h) os

-- HOW LONG A RUN CAN BE: ends up to the outermost element, and then starts up to TAGLVL.

unfoldable pub bound_of : Bool → Bool → ℕ → ℕ → ℕ
bound_of content inferred taglvl depth = if content && inferred then taglvl - depth else depth + taglvl + 1

abbrev pub run_bound : Context → Kind → ℕ
run_bound s x = bound_of (is_some (token x)) s.inferred s.doctype.syntax.quantities.taglvl (depth s)

-- THE SAME FROM A CONTEXT, with no history
abbrev pub LongestRunFrom : Context → Kind → List Piece → Type 0
LongestRunFrom c x [] = NoneMayStand c x
LongestRunFrom c x (o ∷ os) = MayStand c o x × LongestRunFrom (context_after o c) x os

abbrev pub context_after_run : Context → List Piece → Context
context_after_run c [] = c
context_after_run c (o ∷ os) = context_after_run (context_after o c) os
