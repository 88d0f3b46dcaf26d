-- One answer of an input.
use Rattle.std.proofs.Common.{◌≡◌, ◌+◌, ℕ, true, false, List, [], ◌∷◌, ◌++◌, slice_get, Option, Some, None, length, refl, sym, ap, ◌∙◌, subst, inl, inr, ◌⊎◌, take, unwrap_or, append-nil, length-append, arith}
use Rattle.sgml_text.specs.Places.{line_column_of}
use Rattle.sgml_text.specs.declared.place.Place.{Place}
use Rattle.sgml_text.specs.declared.place.Refusal.{Refusal}
use Rattle.sgml_text.specs.declared.reason.Reason.{Reason}
use Rattle.sgml_said.specs.theory_reading.Pieces.{History}
use Rattle.sgml_said.specs.theory_reading.Unread.{Input, opening}
use Rattle.sgml_said.specs.theory_reading.Reads.{Move, IsOver, IsPrefix, start_places, after_moves, ends_in_finish}
use Rattle.sgml_said.specs.theory_reading.Events.{events}
use Rattle.sgml_said.specs.theory_reading.Identifiers.{id_fault}
use Rattle.sgml_said.proofs.theory_reading.Reading.{one-stop}
use Rattle.sgml_said.proofs.theory_reading.Sessions.{over-is-longest}
use Rattle.sgml_theory_ending.specs.theory_spelling.Spelled.{forms}
use Rattle.sgml_source.specs.parse.declared.position.Position.{Position}
use Rattle.sgml_source.specs.parse.Locating.{IsPositionOf, name_in, text_in}
use Rattle.sgml_source.specs.Stopping.{IsStop}
use Rattle.sgml_conversion.specs.declared.answer.Outcome.{Outcome}
use Rattle.sgml_conversion.specs.declared.answer.Outcome.TheVariants as outcome
use Rattle.sgml_conversion.specs.Lines.{bytes_of}
use Rattle.sgml_conversion.specs.Converting.{IsIdFault, IsEnd}
use Rattle.sgml_conversion.specs.Laws.{OneAnswer}

-- OF TWO LISTS each is a front of the other
none-left : (zs : List Move) → length zs ≡ 0 → zs ≡ []
none-left [] e = refl
none-left (z ∷ zs) e = cc

pub same-moves : (ms ns : List Move) → IsPrefix ns ms → IsPrefix ms ns → ms ≡ ns
same-moves ms ns (zs, e) (ws, f) =
    let a : length ms ≡ length ns + length zs = ap length e ∙ length-append ns zs in
    let b : length ns ≡ length ms + length ws = ap length f ∙ length-append ms ws in
    let none : length zs ≡ 0 = omega (arith, a, b) in
    e ∙ ap (λ (v : List Move). ns ++ v) (none-left zs none) ∙ append-nil ns

-- THE END
pub over : (a : Outcome) (I : Input) (h : History) → IsEnd a I h → IsOver forms I h
over outcome.Conforming I h e = inl e.0
over (outcome.Refused r x) I h (inl s, p) = inr (r.reason, s.reason)
over (outcome.Refused r x) I h (inr f, p) = inl f.over
over outcome.Absent I h e = absurd e

never : {A : Type 0} → true ≡ false → A
never e = cc

pub none-some : {A B : Type 0} (a : A) → None ≡ Some a → B
none-some a e = cc

pub refusal-is : (r q : Refusal) → r.place ≡ q.place → r.reason ≡ q.reason → r ≡ q
refusal-is r q p e = λ i. record { place = p i; reason = e i }

same-fault : (h : History) (r q : Refusal) → IsIdFault h r → IsIdFault h q → r ≡ q
same-fault h r q f g =
    let both : Some (f.number, r.reason) ≡ Some (g.number, q.reason) = sym f.fault ∙ g.fault in
    let pairs : (f.number, r.reason) ≡ (g.number, q.reason) = ap (λ (o : Option (ℕ × Reason)). unwrap_or o (f.number, r.reason)) both in
    let numbers : f.number ≡ g.number = ap (λ (x : ℕ × Reason). x.0) pairs in
    let places : Some r.place ≡ Some q.place = sym f.place ∙ ap (slice_get (start_places h)) numbers ∙ g.place in
    refusal-is r q (ap (λ (o : Option Place). unwrap_or o r.place) places) (ap (λ (x : ℕ × Reason). x.1) pairs)

-- a place has one position
same-position : (I : Input) (h : History) (r q : Refusal) (x y : Position) → r ≡ q → IsPositionOf I h r.place x → IsPositionOf I h q.place y → x ≡ y
same-position I h r q x y e p o =
    let name : x.name ≡ y.name = p.name ∙ (ap (λ (z : Refusal). name_in I h z.place.entity) e ∙ sym o.name) in
    let at : (x.line, x.column) ≡ (y.line, y.column) = p.at ∙ (ap (λ (z : Refusal). line_column_of (take z.place.at (text_in I h z.place.entity))) e ∙ sym o.at) in
    λ i. record { name = name i; line = (at i).0; column = (at i).1 }

pub same-refused : (I : Input) (h : History) (r q : Refusal) (x y : Position) → r ≡ q → IsPositionOf I h r.place x → IsPositionOf I h q.place y → outcome.Refused r x ≡ outcome.Refused q y
same-refused I h r q x y e p o =
    let same = same-position I h r q x y e p o in
    λ i. outcome.Refused (e i) (same i)

same-refusal : (I : Input) (h : History) (r q : Refusal) → (IsStop I h r ⊎ IsIdFault h r) → (IsStop I h q ⊎ IsIdFault h q) → r ≡ q
same-refusal I h r q (inl s) (inl t) = refusal-is r q (s.place ∙ sym t.place) (one-stop forms I h r.reason q.reason s.reason t.reason)
same-refusal I h r q (inl s) (inr g) = never (sym g.over ∙ s.reason.goes_on)
same-refusal I h r q (inr f) (inl t) = never (sym f.over ∙ t.reason.goes_on)
same-refusal I h r q (inr f) (inr g) = same-fault h r q f g

pub not-refused : {A : Type 0} (I : Input) (h : History) (r : Refusal) → ends_in_finish h ≡ true → id_fault (events forms h) ≡ None → (IsStop I h r ⊎ IsIdFault h r) → A
not-refused I h r e n (inl s) = never (sym e ∙ s.reason.goes_on)
not-refused I h r e n (inr f) = none-some (f.number, r.reason) (sym n ∙ f.fault)

pub same-end : (a b : Outcome) (I : Input) (h : History) → IsEnd a I h → IsEnd b I h → a ≡ b
same-end outcome.Conforming outcome.Conforming I h x y = refl
same-end outcome.Conforming (outcome.Refused r p) I h x y = not-refused I h r x.0 x.1 y.0
same-end (outcome.Refused r p) outcome.Conforming I h x y = not-refused I h r y.0 y.1 x.0
same-end (outcome.Refused r p) (outcome.Refused q o) I h x y = same-refused I h r q p o (same-refusal I h r q x.0 y.0) x.1 y.1
same-end outcome.Absent b I h x y = absurd x
same-end outcome.Conforming outcome.Absent I h x y = absurd y
same-end (outcome.Refused r p) outcome.Absent I h x y = absurd y

pub one-answer : OneAnswer
one-answer I a b before first second x y =
    let start = opening I.outside in
    let moves : x.moves ≡ y.moves =
    same-moves x.moves y.moves (over-is-longest forms I x.moves y.moves x.read (over a I (after_moves start x.moves) x.end) y.read)
    (over-is-longest forms I y.moves x.moves y.read (over b I (after_moves start y.moves) y.end) x.read) in
    let same : after_moves start x.moves ≡ after_moves start y.moves = ap (after_moves start) moves in (
      same-end a b I (after_moves start y.moves) (subst (IsEnd a I) same x.end) y.end,
      x.lines ∙ ap (λ h. before ++ bytes_of h) same ∙ sym y.lines,
    )
