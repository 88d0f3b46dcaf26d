-- What is told of a piece depends on the state alone.
use Rattle.std.specs.Prelude.{◌≡◌, Bool, ◌&&◌, cond, Option, Some, None, List, [], ◌∷◌, ◌++◌, map}
use Rattle.std.proofs.Common.{refl, sym, ap, ◌∙◌, append_assoc}
use Rattle.sgml_records.specs.Items.{Item, RecordEnd, RecordStart, Data, Subelement, Markup}
use Rattle.sgml_records.specs.Facts.{facts, releases, one_waits}
use Rattle.sgml_records.proofs.Steps.{facts-noted}
use Rattle.sgml_theory_reading.specs.Pieces.{Piece, History}
use Rattle.sgml_theory_reading.specs.Nest.{Open, nest}
use Rattle.sgml_theory_reading.specs.Runs.{after_run}
use Rattle.sgml_theory_reading.specs.State.{State, state, after_piece, record_ends, facts_of_open}
use Rattle.sgml_theory_reading.specs.Characters.{facts_in}
use Rattle.sgml_theory_reading.specs.Reads.{Forms, Move, moved_on, after_moves, pieces}
use Rattle.sgml_theory_reading.specs.Events.{Byte, Shown, shown, told_item, with_item, told, items_in, events, releases_by, told_item_by, noted_option, told_by, events_at, events_of_run}
use Rattle.sgml_theory_reading.proofs.Steps.{state-step}

pub released : (earlier : List Item) (i : Item) → (releases i earlier && one_waits earlier) ≡ releases_by (facts earlier) i
unfolding facts
released earlier RecordEnd = refl
released earlier RecordStart = refl
released earlier Data = refl
released earlier Subelement = refl
released earlier Markup = refl

item-told : (earlier : List Item) (o : Option Item) → told_item earlier o ≡ told_item_by (facts earlier) o
item-told earlier None = refl
item-told earlier (Some i) = ap (λ (b : Bool). cond b (Byte 13 ∷ []) []) (released earlier i)

item-noted : (earlier : List Item) (o : Option Item) → facts (with_item o earlier) ≡ noted_option (facts earlier) o
item-noted earlier None = refl
item-noted earlier (Some i) = facts-noted earlier i

told-by : (earlier : List Item) (ss : List Shown) → told earlier ss ≡ told_by (facts earlier) ss
told-by earlier [] = refl
told-by earlier (s ∷ ss) =
    λ i. (item-told earlier s.item i ++ s.events) ++ (told-by (with_item s.item earlier) ss ∙ ap (λ f. told_by f ss) (item-noted earlier s.item)) i

facts-first : (os : List Open) → facts (items_in os) ≡ facts_in (map facts_of_open os)
unfolding facts
facts-first [] = refl
facts-first (o ∷ os) = refl

pub events-step : (forms : Forms) (p : Piece) (h : History) → events forms (p ∷ h) ≡ events forms h ++ events_at forms (state h) p
unfolding events state record_ends
events-step forms p h =
    ap (λ es. events forms h ++ es)
    (told-by (items_in (nest h)) (shown forms (state h) p.kind) ∙ ap (λ f. told_by f (shown forms (state h) p.kind)) (facts-first (nest h)))

pub append-nil : {A : Type 0} (xs : List A) → xs ++ [] ≡ xs
append-nil [] = refl
append-nil (x ∷ xs) = ap (λ ys. x ∷ ys) (append-nil xs)

run-told : (forms : Forms) (h : History) (ps : List Piece) (s : State) → state h ≡ s → events forms (after_run h ps) ≡ events forms h ++ events_of_run forms s ps
run-told forms h [] s e = sym (append-nil (events forms h))
run-told forms h (p ∷ ps) s e =
    run-told forms (p ∷ h) ps (after_piece p s) (state-step p h ∙ ap (after_piece p) e)
    ∙ (ap (λ es. es ++ events_of_run forms (after_piece p s) ps) (events-step forms p h ∙ ap (λ t. events forms h ++ events_at forms t p) e)
    ∙ append_assoc (events forms h) (events_at forms s p) (events_of_run forms (after_piece p s) ps))

pub run-append : (h : History) (ps qs : List Piece) → after_run h (ps ++ qs) ≡ after_run (after_run h ps) qs
run-append h [] qs = refl
run-append h (p ∷ ps) qs = run-append (p ∷ h) ps qs

pub moves-are-pieces : (h : History) (ms : List Move) → after_moves h ms ≡ after_run h (pieces ms)
moves-are-pieces h [] = refl
moves-are-pieces h (m ∷ ms) = moves-are-pieces (moved_on h m) ms ∙ sym (run-append h m.omitted (m.visible ∷ pieces ms))

-- what was told stays, and what moves add is told by the state before them
pub moves-told : (forms : Forms) (h : History) (ms : List Move) → events forms (after_moves h ms) ≡ events forms h ++ events_of_run forms (state h) (pieces ms)
moves-told forms h ms = ap (events forms) (moves-are-pieces h ms) ∙ run-told forms h (pieces ms) (state h) refl
