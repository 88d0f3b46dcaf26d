-- Each input has one outcome.
use Rattle.std.proofs.Common.{◌≡◌, ◌+◌, ℕ, true, false, ◌⊎◌, inl, inr, List, [], ◌∷◌, ◌++◌, slice_get, Option, None, Some, unwrap_or, length, refl, sym, ap, ◌∙◌, subst, append-nil, length-append, arith}
use Rattle.sgml_io.specs.text.declared.place.Place.{Place}
use Rattle.sgml_io.specs.text.declared.place.Refusal.{Refusal}
use Rattle.sgml_io.specs.text.declared.reason.Reason.{Reason}
use Rattle.sgml_theory_spelling.specs.theory_reading.Pieces.{History}
use Rattle.sgml_theory_spelling.specs.theory_reading.Unread.{Input}
use Rattle.sgml_theory_spelling.specs.theory_reading.Reads.{Move, ReadsFromStart, IsOver, IsPrefix, read_by, ends_in_finish, stop_place, start_places}
use Rattle.sgml_theory_spelling.specs.theory_reading.Events.{events}
use Rattle.sgml_theory_spelling.specs.theory_reading.Identifiers.{id_fault}
use Rattle.sgml_theory_spelling.proofs.theory_reading.Reading.{one-stop}
use Rattle.sgml_theory_spelling.proofs.theory_reading.Sessions.{over-is-longest}
use Rattle.sgml_theory_spelling.specs.Spelled.{forms}
use Rattle.sgml_theory_ending.specs.Outcomes.{StopsThere, FaultsThere, IsOutcome}
use Rattle.sgml_theory_ending.specs.Laws.{EachInputHasAnOutcome, NoOtherOutcome}
use Rattle.sgml_theory_ending.proofs.Ending.{each-input-is-read}
use Rattle.sgml_theory_ending.proofs.Faulting.{faults-have-places}
use Rattle.sgml_theory_ending.proofs.There.{places-are-there}

-- at the document's end
finished : (I : Input) (ms : List Move) → ReadsFromStart forms I ms → ends_in_finish (read_by I ms) ≡ true → (o : Option (ℕ × Reason)) → id_fault (events forms (read_by I ms)) ≡ o
    → (x : Option Refusal) × IsOutcome I (read_by I ms) x
finished I ms r f None e = (None, (f, e))
finished I ms r f (Some x) e =
    let p = faults-have-places (read_by I ms) x.0 x.1 e in
    (Some (record { place = p.0; reason = x.1 }), (inr (record { over = f; number = x.0; fault = e; place = p.1 }), (places-are-there I ms r).2 x.0 p.0 p.1))

over : (I : Input) (ms : List Move) → ReadsFromStart forms I ms → IsOver forms I (read_by I ms) → (x : Option Refusal) × IsOutcome I (read_by I ms) x
over I ms r (inl f) = finished I ms r f (id_fault (events forms (read_by I ms))) refl
over I ms r (inr s) =
    (Some (record { place = stop_place (read_by I ms); reason = s.0 }), (inl (record { reason = s.1; place = refl }), (places-are-there I ms r).1))

pub each-input-has-an-outcome : EachInputHasAnOutcome
each-input-has-an-outcome I = let x = each-input-is-read I in (x.0, x.1, over I x.0 x.1 x.2)

-- AND NO OTHER

-- of two lists each is a front of the other
none-left : (zs : List Move) → length zs ≡ 0 → zs ≡ []
none-left [] e = refl
none-left (z ∷ zs) e = cc

same-moves : (ms ns : List Move) → IsPrefix ns ms → IsPrefix ms ns → ms ≡ ns
same-moves ms ns (zs, e) (ws, f) =
    let a : length ms ≡ length ns + length zs = ap length e ∙ length-append ns zs in
    let b : length ns ≡ length ms + length ws = ap length f ∙ length-append ms ws in
    let none : length zs ≡ 0 = omega (arith, a, b) in
    e ∙ ap (λ (v : List Move). ns ++ v) (none-left zs none) ∙ append-nil ns

is-over : (I : Input) (h : History) (o : Option Refusal) → IsOutcome I h o → IsOver forms I h
is-over I h None x = inl x.0
is-over I h (Some r) (inl s, t) = inr (r.reason, s.reason)
is-over I h (Some r) (inr f, t) = inl f.over

never : {A : Type 0} → true ≡ false → A
never e = cc

refusal-is : (r q : Refusal) → r.place ≡ q.place → r.reason ≡ q.reason → r ≡ q
refusal-is r q p e = λ i. record { place = p i; reason = e i }

same-fault : (h : History) (r q : Refusal) → FaultsThere h r → FaultsThere h q → r ≡ q
same-fault h r q f g =
    let both : Some (f.number, r.reason) ≡ Some (g.number, q.reason) = sym f.fault ∙ g.fault in
    let pairs : (f.number, r.reason) ≡ (g.number, q.reason) = ap (λ (o : Option (ℕ × Reason)). unwrap_or o (f.number, r.reason)) both in
    let numbers : f.number ≡ g.number = ap (λ (x : ℕ × Reason). x.0) pairs in
    let places : Some r.place ≡ Some q.place = sym f.place ∙ ap (slice_get (start_places h)) numbers ∙ g.place in
    refusal-is r q (ap (λ (o : Option Place). unwrap_or o r.place) places) (ap (λ (x : ℕ × Reason). x.1) pairs)

same-refusal : (I : Input) (h : History) (r q : Refusal) → (StopsThere I h r ⊎ FaultsThere h r) → (StopsThere I h q ⊎ FaultsThere h q) → r ≡ q
same-refusal I h r q (inl s) (inl t) = refusal-is r q (s.place ∙ sym t.place) (one-stop forms I h r.reason q.reason s.reason t.reason)
same-refusal I h r q (inl s) (inr g) = never (sym g.over ∙ s.reason.goes_on)
same-refusal I h r q (inr f) (inl t) = never (sym f.over ∙ t.reason.goes_on)
same-refusal I h r q (inr f) (inr g) = same-fault h r q f g

none-some : {A B : Type 0} (a : A) → None ≡ Some a → B
none-some a e = cc

not-refused : {A : Type 0} (I : Input) (h : History) (r : Refusal) → ends_in_finish h ≡ true → id_fault (events forms h) ≡ None → (StopsThere I h r ⊎ FaultsThere h r) → A
not-refused I h r e n (inl s) = never (sym e ∙ s.reason.goes_on)
not-refused I h r e n (inr f) = none-some (f.number, r.reason) (sym n ∙ f.fault)

same-outcome : (I : Input) (h : History) (o q : Option Refusal) → IsOutcome I h o → IsOutcome I h q → o ≡ q
same-outcome I h None None x y = refl
same-outcome I h None (Some r) x y = not-refused I h r x.0 x.1 y.0
same-outcome I h (Some r) None x y = not-refused I h r y.0 y.1 x.0
same-outcome I h (Some r) (Some q) x y = ap (λ (z : Refusal). Some z) (same-refusal I h r q x.0 y.0)

pub no-other-outcome : NoOtherOutcome
no-other-outcome I ms ns o q a x b y =
    let moves : ms ≡ ns =
    same-moves ms ns (over-is-longest forms I ms ns a (is-over I (read_by I ms) o x) b) (over-is-longest forms I ns ms b (is-over I (read_by I ns) q y) a) in
    (moves, same-outcome I (read_by I ns) o q (subst (λ (zs : List Move). IsOutcome I (read_by I zs) o) moves x) y)
