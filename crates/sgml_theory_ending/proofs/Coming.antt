-- What is computed comes to an end: where it hasn't, all moves were made that were asked for.
use Rattle.std.proofs.Common.{◌≡◌, ℕ, zero, suc, Bool, true, false, ◌⊎◌, inl, inr, ◌+◌, ◌<◌, ◌≤◌, List, [], ◌∷◌, Option, None, Some, Result, Ok, Err, length, refl, sym, ◌∙◌, subst, arith}
use Rattle.sgml_io.specs.text.declared.reason.Reason.{Reason}
use Rattle.sgml_theory_spelling.specs.theory_reading.Pieces.{Piece, History}
use Rattle.sgml_theory_spelling.specs.theory_reading.Facets.{is_finish}
use Rattle.sgml_theory_spelling.specs.theory_reading.Walk.{longest_run}
use Rattle.sgml_theory_spelling.specs.theory_reading.Unread.{Outside, Input, Standing, standing, opening}
use Rattle.sgml_theory_spelling.specs.theory_reading.State.{State, state}
use Rattle.sgml_theory_spelling.specs.theory_reading.Reads.{Move, ReadOn, moved_on, ends_in_finish, next_answer}
use Rattle.sgml_theory_spelling.specs.theory_reading.Outcome.{Outcome, stopped, move_by, unless_finish, unless_refused, go_on_after, of_answer, outcome, is_ended, refusal_by, state_after}
use Rattle.sgml_theory_spelling.proofs.theory_reading.Computed.{outcome-comes}
use Rattle.sgml_theory_spelling.specs.Spelled.{forms}
use Rattle.sgml_theory_ending.specs.Left.{left_to_read}
use Rattle.sgml_theory_ending.specs.Laws.{NoMoreReads, OutcomesCome}
use Rattle.sgml_theory_ending.proofs.Falling.{less-is-left}
use Rattle.sgml_theory_ending.proofs.Ending.{left-at-start}

-- NO MORE READS

none-behind : (I : Input) (h : History) (ms : List Move) → ends_in_finish h ≡ true → ReadOn forms I h ms → length ms ≡ 0
none-behind I h [] f r = refl
none-behind I h (m ∷ ms) f r = absurd (let e : ends_in_finish h ≡ false = r.0.goes_on in let x : true ≡ false = sym f ∙ e in cc)

one-more : (I : Input) (h : History) (m : Move) (ms : List Move) → (length ms ≤ left_to_read I (moved_on h m) + 1) → ReadOn forms I (moved_on h m) ms
    → (ends_in_finish (moved_on h m) ≡ true) ⊎ (left_to_read I (moved_on h m) < left_to_read I h) → length (m ∷ ms) ≤ left_to_read I h + 1
one-more I h m ms few r (inl f) = let e = none-behind I (moved_on h m) ms f r in omega (arith, e)
one-more I h m ms few r (inr l) = omega (arith, few, l)

pub no-more-reads : NoMoreReads
no-more-reads I h [] r = omega arith
no-more-reads I h (m ∷ ms) r = one-more I h m ms (no-more-reads I (moved_on h m) ms r.1) r.1 (less-is-left I h m r.0)

-- WHERE IT HASN'T ENDED

abbrev Long : ℕ → Outcome → Type 0
Long n o = is_ended o.ending ≡ false → length o.moves ≡ n

stopped-long : (n : ℕ) (r : Reason) → Long n (stopped r)
stopped-long n r e = absurd (cc)

finish-long : (n : ℕ) (b : Bool) (m : Move) (go_on : Piece → Outcome) → ((p : Piece) → Long n (go_on p)) → Long (suc n) (unless_finish b m go_on)
finish-long n true m go_on f e = absurd (cc)
finish-long n false m go_on f e = let x = f m.visible e in omega (arith, x)

refused-long : (n : ℕ) (o : Option Reason) (m : Move) (go_on : Piece → Outcome) → ((p : Piece) → Long n (go_on p)) → Long (suc n) (unless_refused o m go_on)
refused-long n (Some r) m go_on f = stopped-long (suc n) r
refused-long n None m go_on f = finish-long n (is_finish m.visible.kind) m go_on f

answer-long : (n : ℕ) (outside : Outside) (s : State) (t : Standing) (go_on : State → Standing → Outcome) (x : Result Piece Reason) → ((z : State) (u : Standing) → Long n (go_on z u))
    → Long (suc n) (of_answer forms outside s t go_on x)
answer-long n outside s t go_on (Err r) f = stopped-long (suc n) r
answer-long n outside s t go_on (Ok p) f =
    let os = longest_run s.context p.kind in
    refused-long n (refusal_by forms s os p) (move_by s os p) (go_on_after outside (state_after s os) t go_on) (λ v. f _ _)

long : (n : ℕ) (was_cut : Bool) (outside : Outside) (s : State) (t : Standing) → Long n (outcome n forms was_cut outside s t)
long zero was_cut outside s t = λ e. refl
long (suc n) was_cut outside s t =
    answer-long n outside s t (λ z u. outcome n forms was_cut outside z u) (next_answer forms was_cut outside s t) (λ z u. long n was_cut outside z u)

-- IT COMES

ended-or : (b : Bool) (m n k : ℕ) → (b ≡ false → m ≡ n) → m ≤ k → k < n → b ≡ true
ended-or true m n k f l few = refl
ended-or false m n k f l few = absurd (let e = f refl in omega (arith, e, l, few))

none-read : (outside : Outside) → ends_in_finish (opening outside) ≡ false
unfolding is_finish
none-read outside = refl

pub outcomes-come : OutcomesCome
outcomes-come I n few =
    let h = opening I.outside in
    let o = outcome n forms I.was_cut I.outside (state h) (standing I h) in
    let comes = outcome-comes n forms I h (none-read I.outside) in
    ended-or (is_ended o.ending) (length o.moves) n (left_to_read I h + 1) (long n I.was_cut I.outside (state h) (standing I h)) (no-more-reads I h o.moves comes.0)
    (subst (λ k. k < n) (sym (left-at-start I)) few)
