-- A tag whose type isn't declared may not stand, whatever tags are left out before it.
use Rattle.std.specs.Prelude.{◌≡◌, ℕ, zero, suc, ◌≤◌, ◌⊎◌, List, [], ◌∷◌, Option, Some}
use Rattle.std.specs.Option.{option_or}
use Rattle.std.proofs.Common.{ap, arith, inl, inr}
use Rattle.sgml_text.specs.declared.reason.Reason.{Reason}
use Rattle.sgml_text.specs.declared.reason.Reason.TheVariants as reason
use Rattle.sgml_theory_spelling.specs.theory_reading.Pieces.{Piece, Kind}
use Rattle.sgml_theory_spelling.specs.theory_reading.Context.{Context, context_after}
use Rattle.sgml_theory_spelling.specs.theory_reading.Omission.{MayStand, NoneMayStand}
use Rattle.sgml_theory_spelling.specs.theory_reading.Runs.{LongestRunFrom, run_bound}
use Rattle.sgml_theory_spelling.specs.theory_reading.State.{State}
use Rattle.sgml_theory_spelling.specs.theory_reading.Reads.{undefined}
use Rattle.sgml_theory_spelling.proofs.theory_reading.Runs.{some-may-stand, after-bound}
use Rattle.sgml_declared.specs.theory_standing.Moves.{IsAgainst}

-- THERE IS A LONGEST RUN before each piece
abbrev SomeRun : Context → Kind → Type 0
SomeRun s x = (os : List Piece) × LongestRunFrom s x os

run-end : (s : Context) (x : Kind) → run_bound s x ≤ 0 → ((o : Piece) × MayStand s o x) ⊎ NoneMayStand s x → SomeRun s x
run-end s x b (inl m) = absurd (let c = after-bound s m.0 x m.1 in omega (arith, b, c))
run-end s x b (inr h) = ([], h)

run-on : (n : ℕ) (s : Context) (x : Kind) → run_bound s x ≤ suc n → ((t : Context) → run_bound t x ≤ n → SomeRun t x)
    → ((o : Piece) × MayStand s o x) ⊎ NoneMayStand s x → SomeRun s x
run-on n s x b rest (inl m) =
    let c = after-bound s m.0 x m.1 in
    let r = rest (context_after m.0 s) (omega (arith, b, c)) in
    (m.0 ∷ r.0, (m.1, r.1))
run-on n s x b rest (inr h) = ([], h)

run-within : (n : ℕ) (s : Context) (x : Kind) → run_bound s x ≤ n → SomeRun s x
run-within zero s x b = run-end s x b (some-may-stand s x)
run-within (suc n) s x b = run-on n s x b (λ t c. run-within n t x c) (some-may-stand s x)

pub some-run : (s : Context) (x : Kind) → SomeRun s x
some-run s x = run-within (run_bound s x) s x (omega arith)

first-reason : (o rest : Option Reason) (r : Reason) → o ≡ Some r → option_or o rest ≡ Some r
first-reason o rest r e = ap (λ (z : Option Reason). option_or z rest) e

pub undefined-against : (s : State) (p : Piece) → undefined s.context p.kind ≡ Some reason.Undefined → IsAgainst s p reason.Undefined
undefined-against s p e =
    let r = some-run s.context p.kind in
    (r.0, r.1, first-reason (undefined s.context p.kind) _ reason.Undefined e)
