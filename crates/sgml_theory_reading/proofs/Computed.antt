-- What is computed from the state is what reads.
use Rattle.std.specs.Prelude.{◌≡◌, ℕ, zero, suc, ◌+◌, Bool, true, false, Option, Some, None, Result, Ok, Err, List, [], ◌∷◌, ◌++◌}
use Rattle.std.specs.Option.{option_or}
use Rattle.std.proofs.Common.{refl, sym, ap, ◌∙◌, arith, inl, inr, subst}
use Rattle.sgml_dtd.specs.text.declared.reason.Reason.{Reason}
use Rattle.sgml_theory_reading.specs.Pieces.{Piece, Kind, History}
use Rattle.sgml_theory_reading.specs.Names.{Name}
use Rattle.sgml_theory_reading.specs.Facets.{is_finish, turn}
use Rattle.sgml_theory_reading.specs.Nest.{types}
use Rattle.sgml_theory_reading.specs.Context.{Context, context}
use Rattle.sgml_theory_reading.specs.Omission.{MayStand, omitted_end, omitted_start}
use Rattle.sgml_theory_reading.specs.Runs.{LongestRun, after_run}
use Rattle.sgml_theory_reading.specs.Reasons.{reason}
use Rattle.sgml_theory_reading.specs.Walk.{longest_run}
use Rattle.sgml_theory_reading.proofs.Walking.{found-longest}
use Rattle.sgml_theory_reading.specs.State.{State, state, after_piece}
use Rattle.sgml_theory_reading.specs.Unread.{Outside, Input, Standing, standing, spent}
use Rattle.sgml_theory_reading.specs.Reads.{Forms, Move, moved_on, judged_piece, spelled_next, undefined, refusal, run_reason, MovesTo, Reads, ReadOn, StopsAt, after_moves, ends_in_finish, pieces}
use Rattle.sgml_theory_reading.specs.Events.{events, events_of_run}
use Rattle.sgml_theory_reading.specs.Lines.{Line, lines, lines_by}
use Rattle.sgml_theory_reading.specs.Outcome.{standing_after, state_after, run_reason_by, refusal_by, Ending, AtFinish, AtStop, NotYet, Outcome, move_by, unless_finish, unless_refused, go_on_after, of_answer, outcome, at_finish, is_ended, outcome_lines, EndsSo, Gives}
use Rattle.sgml_theory_reading.proofs.Steps.{state-step}
use Rattle.sgml_theory_reading.proofs.Reading.{standing-step}
use Rattle.sgml_theory_reading.proofs.Cutting.{run-stays}
use Rattle.sgml_theory_reading.proofs.Told.{moves-told, moves-are-pieces}

state-run : (h : History) (os : List Piece) → state (after_run h os) ≡ state_after (state h) os
state-run h [] = refl
state-run h (o ∷ os) = state-run (o ∷ h) os ∙ ap (λ (s : State). state_after s os) (state-step o h)

context-of : (h : History) → context h ≡ (state h).context
unfolding state
context-of h = refl

context-run : (h : History) (os : List Piece) → context (after_run h os) ≡ (state_after (state h) os).context
context-run h os = context-of (after_run h os) ∙ ap (λ (s : State). s.context) (state-run h os)

reason-run : (forms : Forms) (h : History) (os : List Piece) (s : State) → state h ≡ s → run_reason forms h os ≡ run_reason_by forms s os
reason-run forms h [] s e = refl
reason-run forms h (o ∷ os) s e =
    λ i. option_or (forms.unvalued (e i) o.kind) (reason-run forms (o ∷ h) os (after_piece o s) (state-step o h ∙ ap (after_piece o) e) i)

refusal-is : (forms : Forms) (h : History) (os : List Piece) (p : Piece) → refusal forms h os p ≡ refusal_by forms (state h) os p
unfolding refusal
refusal-is forms h os p =
    let a = context-of h in
    let b = context-run h os in
    let c = reason-run forms h os (state h) refl in
    let d = state-run h os in
    λ i. option_or (undefined (a i) p.kind) (option_or (reason (b i) p.kind) (option_or (c i) (forms.unvalued (d i) p.kind)))

-- the run of omitted pieces leaves the sum
add-zero : (n : ℕ) → n + 0 ≡ n
add-zero n = omega arith

omitted-end-spends : (outside : Outside) (n : Name) (h : History) → spent outside (omitted_end n ∷ h) ≡ spent outside h
unfolding spent turn
omitted-end-spends outside n h = add-zero (spent outside h)

omitted-start-spends : (outside : Outside) (n : Name) (h : History) → spent outside (omitted_start n ∷ h) ≡ spent outside h
unfolding spent turn
omitted-start-spends outside n h = add-zero (spent outside h)

may-spend : (outside : Outside) (c : Context) (o : Piece) (x : Kind) (h : History) → MayStand c o x → spent outside (o ∷ h) ≡ spent outside h
may-spend outside c o x h (inl m) = ap (λ (p : Piece). spent outside (p ∷ h)) m.1 ∙ omitted-end-spends outside m.0 h
may-spend outside c o x h (inr m) = ap (λ (p : Piece). spent outside (p ∷ h)) m.1 ∙ omitted-start-spends outside m.0 h

run-spends : (outside : Outside) (h : History) (x : Kind) (os : List Piece) → LongestRun h x os → spent outside (after_run h os) ≡ spent outside h
run-spends outside h x [] r = refl
run-spends outside h x (o ∷ os) r = run-spends outside (o ∷ h) x os r.1 ∙ may-spend outside (context h) o x h r.0

standing-run : (I : Input) (h : History) (x : Kind) (os : List Piece) → LongestRun h x os → standing I (after_run h os) ≡ standing I h
standing-run I h x os r =
    let a = run-stays I h x os r in
    let b = run-spends I.outside h x os r in
    λ i. record { rests = a i; spent = b i }

abbrev Comes : Forms → Input → History → Outcome → Type 0
Comes forms I h o = ReadOn forms I h o.moves × EndsSo forms I (after_moves h o.moves) o.ending

abbrev Back : ℕ → Forms → Input → Type 0
Back n forms I = (k : History) → ends_in_finish k ≡ false → Comes forms I k (outcome n forms I.was_cut I.outside (state k) (standing I k))

abbrev GoOn : ℕ → Forms → Input → State → Standing → Outcome
GoOn n forms I s t = outcome n forms I.was_cut I.outside s t

moves-by : (forms : Forms) (I : Input) (h : History) (p : Piece) (os : List Piece) → spelled_next forms I h ≡ Ok p → LongestRun h p.kind os → refusal_by forms (state h) os p ≡ None → ends_in_finish h ≡ false → Reads forms I h (move_by (state h) os p)
moves-by forms I h p os e run none f = record {
  goes_on = f;
  moves = subst (λ (r : Result Piece Reason). MovesTo forms h r (move_by (state h) os p)) (sym e) (record {
    longest = run;
    visible = ap (λ (c : Context). judged_piece c p) (sym (context-run h os));
    no_reason = refusal-is forms h os p ∙ none;
  });
}

finish-comes : (n : ℕ) (forms : Forms) (I : Input) (h : History) (p : Piece) (os : List Piece) → Back n forms I → LongestRun h p.kind os → Reads forms I h (move_by (state h) os p) → (b : Bool) → is_finish (move_by (state h) os p).visible.kind ≡ b →
    Comes forms I h (unless_finish b (move_by (state h) os p) (go_on_after I.outside (state_after (state h) os) (standing I h) (GoOn n forms I)))
finish-comes n forms I h p os back run reads true e = ((reads, tt), e)
finish-comes n forms I h p os back run reads false e =
    let m = move_by (state h) os p in
    let k = moved_on h m in
    let a : state k ≡ after_piece m.visible (state_after (state h) os) = state-step m.visible (after_run h os) ∙ ap (after_piece m.visible) (state-run h os) in
    let b : standing I k ≡ standing_after I.outside (after_piece m.visible (state_after (state h) os)) m.visible (standing I h) =
    standing-step I m.visible (after_run h os)
    ∙ (λ i. standing_after I.outside (after_piece m.visible (state-run h os i)) m.visible (standing-run I h p.kind os run i)) in
    let o : outcome n forms I.was_cut I.outside (state k) (standing I k) ≡ outcome n forms I.was_cut I.outside (after_piece m.visible (state_after (state h) os)) (standing_after I.outside (after_piece m.visible (state_after (state h) os)) m.visible (standing I h)) =
    (λ i. outcome n forms I.was_cut I.outside (a i) (b i)) in
    let rest = subst (λ (x : Outcome). Comes forms I k x) o (back k e) in
    ((reads, rest.0), rest.1)

refused-comes : (n : ℕ) (forms : Forms) (I : Input) (h : History) (p : Piece) (os : List Piece) → Back n forms I → spelled_next forms I h ≡ Ok p → LongestRun h p.kind os → ends_in_finish h ≡ false → (r : Option Reason) → refusal_by forms (state h) os p ≡ r →
    Comes forms I h (unless_refused r (move_by (state h) os p) (go_on_after I.outside (state_after (state h) os) (standing I h) (GoOn n forms I)))
refused-comes n forms I h p os back e run f (Some r) q =
    (tt, record { goes_on = f; why = subst (λ (x : Result Piece Reason). StopsAt forms h x r) (sym e) (os, run, refusal-is forms h os p ∙ q) })
refused-comes n forms I h p os back e run f None q =
    finish-comes n forms I h p os back run (moves-by forms I h p os e run q f) (is_finish (move_by (state h) os p).visible.kind) refl

answer-comes : (n : ℕ) (forms : Forms) (I : Input) (h : History) → Back n forms I → ends_in_finish h ≡ false → (r : Result Piece Reason) → spelled_next forms I h ≡ r →
    Comes forms I h (of_answer forms I.outside (state h) (standing I h) (GoOn n forms I) r)
answer-comes n forms I h back f (Err r) e =
    (tt, record { goes_on = f; why = subst (λ (x : Result Piece Reason). StopsAt forms h x r) (sym e) refl })
answer-comes n forms I h back f (Ok p) e =
    let os = longest_run (state h).context p.kind in
    let run : LongestRun h p.kind os = subst (λ (c : Context). LongestRun h p.kind (longest_run c p.kind)) (context-of h) (found-longest h p.kind) in
    refused-comes n forms I h p os back e run f (refusal_by forms (state h) os p) refl

pub outcome-comes : (n : ℕ) (forms : Forms) (I : Input) (h : History) → ends_in_finish h ≡ false → Comes forms I h (outcome n forms I.was_cut I.outside (state h) (standing I h))
outcome-comes zero forms I h f = (tt, tt)
outcome-comes (suc n) forms I h f =
    answer-comes n forms I h (λ k g. outcome-comes n forms I k g) f (spelled_next forms I h) refl

over-as : (forms : Forms) (I : Input) (h : History) (e : Ending) → is_ended e ≡ true → EndsSo forms I h e → ends_in_finish h ≡ at_finish e
over-as forms I h AtFinish q w = w
over-as forms I h (AtStop r) q w = w.goes_on
over-as forms I h NotYet q w = absurd (cc)

types-of : (h : History) → types h ≡ (state h).context.doctype
unfolding state context
types-of h = refl

state-moves : (h : History) (ms : List Move) → state (after_moves h ms) ≡ state_after (state h) (pieces ms)
state-moves h ms = ap state (moves-are-pieces h ms) ∙ state-run h (pieces ms)

pub lines-computed : (forms : Forms) (I : Input) (h : History) (o : Outcome) → events forms h ≡ [] → is_ended o.ending ≡ true → EndsSo forms I (after_moves h o.moves) o.ending →
    lines forms (after_moves h o.moves) ≡ outcome_lines forms (state h) o
unfolding lines
lines-computed forms I h o none ended ends =
    let k = after_moves h o.moves in
    let a : types k ≡ (state_after (state h) (pieces o.moves)).context.doctype = types-of k ∙ ap (λ (s : State). s.context.doctype) (state-moves h o.moves) in
    let b : events forms k ≡ events_of_run forms (state h) (pieces o.moves) =
    moves-told forms h o.moves ∙ ap (λ es. es ++ events_of_run forms (state h) (pieces o.moves)) none in
    let c : ends_in_finish k ≡ at_finish o.ending = over-as forms I k o.ending ended ends in
    λ i. lines_by (a i) (b i) (c i)

-- what is computed is what is given
pub gives-computed : (n : ℕ) (forms : Forms) (I : Input) (h : History) (o : Outcome) (ls : List Line) → outcome n forms I.was_cut I.outside (state h) (standing I h) ≡ o → ends_in_finish h ≡ false → events forms h ≡ [] → is_ended o.ending ≡ true → outcome_lines forms (state h) o ≡ ls → Gives forms I h ls o.ending
gives-computed n forms I h o ls is f none ended e =
    let comes = subst (λ (x : Outcome). Comes forms I h x) is (outcome-comes n forms I h f) in
    record { moves = o.moves; reads = comes.0; ends = comes.1; lines_are = lines-computed forms I h o none ended comes.1 ∙ e }
