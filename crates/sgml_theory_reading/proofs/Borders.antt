-- What was read up to the first border stays the prolog, whatever is read after it.
use Rattle.std.specs.Prelude.{◌≡◌, Bool, true, false, not, ◌||◌, List, [], ◌∷◌, if◌then◌else◌}
use Rattle.std.proofs.Common.{refl, ap, ◌∙◌}
use Rattle.std.proofs.lemmas.Bool.{and_parts, and_from}
use Rattle.sgml_theory_reading.specs.Pieces.{Piece, History}
use Rattle.sgml_theory_reading.specs.Runs.{after_run}
use Rattle.sgml_theory_reading.specs.State.{state, stage}
use Rattle.sgml_theory_reading.specs.Reads.{Move, moved_on, after_moves, is_border, has_border, had_border, is_first_border, prolog_of}

never : {A : Type 0} → false ≡ true → A
never e = absurd (cc)

is-not : (b : Bool) → not b ≡ true → b ≡ false
is-not true e = never e
is-not false e = refl

or-true : (b : Bool) → (b || true) ≡ true
or-true true = refl
or-true false = refl

-- THE FIRST BORDER is a border, and none was before it
pub first-is-border : (h : History) → is_first_border h ≡ true → is_border h ≡ true
first-is-border h e = (and_parts (is_border h) (not (had_border h)) e).0

pub first-has-none-before : (h : History) → is_first_border h ≡ true → had_border h ≡ false
first-has-none-before h e = is-not (had_border h) (and_parts (is_border h) (not (had_border h)) e).1

pub border-is-first : (h : History) → is_border h ≡ true → had_border h ≡ false → is_first_border h ≡ true
border-is-first h at none = and_from (is_border h) (not (had_border h)) at (ap not none)

-- none was before a piece that is read where none is
pub none-before-next : (p : Piece) (h : History) → had_border h ≡ false → is_border h ≡ false → had_border (p ∷ h) ≡ false
none-before-next p [] none here = refl
none-before-next p (q ∷ h) none here = λ i. here i || none i

-- AT THE FIRST BORDER all that was read is the prolog
has-first : (h : History) → is_first_border h ≡ true → has_border h ≡ true
unfolding state stage
has-first [] e = never e
has-first (p ∷ h) e = ap (λ b. b || has_border h) (first-is-border (p ∷ h) e)

prolog-at-first : (h : History) → is_first_border h ≡ true → prolog_of h ≡ h
prolog-at-first [] e = refl
prolog-at-first (p ∷ h) e =
    ap (λ b. if b then prolog_of h else (if is_border (p ∷ h) then (p ∷ h) else [])) (first-has-none-before (p ∷ h) e)
    ∙ ap (λ b. if b then (p ∷ h) else []) (first-is-border (p ∷ h) e)

-- BEHIND A BORDER a piece changes neither that there was one nor what the prolog is
border-stays : (p : Piece) (h : History) → has_border h ≡ true → has_border (p ∷ h) ≡ true
border-stays p h e = ap (λ b. is_border (p ∷ h) || b) e ∙ or-true (is_border (p ∷ h))

piece-behind : (p : Piece) (h : History) → has_border h ≡ true → prolog_of (p ∷ h) ≡ prolog_of h
piece-behind p h e = ap (λ b. if b then prolog_of h else (if is_border (p ∷ h) then (p ∷ h) else [])) e

run-behind : (h : History) (os : List Piece) → has_border h ≡ true → (has_border (after_run h os) ≡ true) × (prolog_of (after_run h os) ≡ prolog_of h)
run-behind h [] e = (e, refl)
run-behind h (o ∷ os) e = let rest = run-behind (o ∷ h) os (border-stays o h e) in (rest.0, rest.1 ∙ piece-behind o h e)

moves-behind : (h : History) (ms : List Move) → has_border h ≡ true → prolog_of (after_moves h ms) ≡ prolog_of h
moves-behind h [] e = refl
moves-behind h (m ∷ ms) e =
    let run = run-behind h m.omitted e in
    let before = after_run h m.omitted in
    moves-behind (moved_on h m) ms (border-stays m.visible before run.0) ∙ (piece-behind m.visible before run.0 ∙ run.1)

pub prolog-stays : (h : History) (ms : List Move) → is_first_border h ≡ true → prolog_of (after_moves h ms) ≡ h
prolog-stays h ms e = moves-behind h ms (has-first h e) ∙ prolog-at-first h e
