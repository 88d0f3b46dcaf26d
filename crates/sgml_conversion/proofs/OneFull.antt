-- One answer of an input that is written with all its tags.
use Rattle.std.proofs.Common.{◌≡◌, ◌<◌, ◌≤◌, ℕ, zero, suc, List, [], ◌∷◌, ◌++◌, slice_get, Option, Some, None, length, refl, sym, ap, ◌∙◌, subst, inl, inr, ◌⊎◌, take, unwrap_or, arith}
use Rattle.sgml_text.specs.declared.place.Place.{Place}
use Rattle.sgml_text.specs.declared.place.Refusal.{Refusal}
use Rattle.sgml_io.specs.Records.{records}
use Rattle.sgml_storage.specs.Storage.{IsStorageOf}
use Rattle.sgml_full.specs.Full.{full_document}
use Rattle.sgml_said.specs.theory_reading.Pieces.{History}
use Rattle.sgml_said.specs.theory_reading.Nest.{types}
use Rattle.sgml_said.specs.theory_reading.Unread.{Input}
use Rattle.sgml_said.specs.theory_reading.Reads.{Move, IsOver, read_by, instruction_places}
use Rattle.sgml_said.proofs.theory_reading.Sessions.{over-is-longest}
use Rattle.sgml_theory_ending.specs.theory_spelling.Spelled.{forms}
use Rattle.sgml_source.specs.parse.declared.position.Position.{Position}
use Rattle.sgml_conversion.specs.declared.answer.Outcome.{Outcome}
use Rattle.sgml_conversion.specs.declared.answer.Outcome.TheVariants as outcome
use Rattle.sgml_conversion.specs.Converting.{IsEnd}
use Rattle.sgml_conversion.specs.Full.{instance_events, prolog_end, unspelled, IsFullDocument, IsUnspelled, IsFullEnd, FullGains, EndsFull}
use Rattle.sgml_conversion.specs.Laws.{OneFullAnswer}
use Rattle.sgml_conversion.proofs.Answered.{same-moves, over, none-some, refusal-is, same-refused, not-refused, same-end}

-- THE STORAGE of a front of a text is one
pub split : (m n : ℕ) → (m < n) ⊎ (n ≤ m)
split zero zero = inr (omega arith)
split zero (suc n) = inl (omega arith)
split (suc m) zero = inr (omega arith)
split (suc m) (suc n) = further (split m n)
  where
    further : (m < n) ⊎ (n ≤ m) → (suc m < suc n) ⊎ (suc n ≤ suc m)
    further (inl l) = inl (omega (arith, l))
    further (inr l) = inr (omega (arith, l))

take-front : (xs ys : List ℕ) → take (length xs) (xs ++ ys) ≡ xs
take-front [] ys = refl
take-front (x ∷ xs) ys = ap (λ (zs : List ℕ). x ∷ zs) (take-front xs ys)

front-is : (bytes f : List ℕ) (n : ℕ) → (x : IsStorageOf bytes n f) → take (length f) bytes ≡ f
front-is bytes f n x = ap (take (length f)) x.all ∙ take-front f x.rest

not-shorter : (bytes f g : List ℕ) (n : ℕ) → IsStorageOf bytes n f → IsStorageOf bytes n g → length g ≤ length f
not-shorter bytes f g n x y = by (split (length f) (length g))
  where
    by : (length f < length g) ⊎ (length g ≤ length f) → length g ≤ length f
    by (inr l) = l
    by (inl l) =
        let short : length (records f) < n = subst (λ (z : List ℕ). length (records z) < n) (front-is bytes f n x) (y.shortest (length f) l) in
        let reaches = x.reaches in
        absurd (omega (arith, short, reaches))

one-storage : (bytes f g : List ℕ) (n : ℕ) → IsStorageOf bytes n f → IsStorageOf bytes n g → f ≡ g
one-storage bytes f g n x y =
    let a = not-shorter bytes f g n x y in
    let b = not-shorter bytes g f n y x in
    let same : length f ≡ length g = omega (arith, a, b) in
    sym (front-is bytes f n x) ∙ (ap (λ (m : ℕ). take m bytes) same ∙ front-is bytes g n y)

one-document : (bytes : List ℕ) (h : History) (s t : List ℕ) → IsFullDocument bytes h s → IsFullDocument bytes h t → s ≡ t
one-document bytes h s t x y =
    x.is ∙ (ap (λ (z : List ℕ). full_document z (types h) (instance_events h)) (one-storage bytes x.prolog y.prolog (prolog_end h) x.storage y.storage) ∙ sym y.is)

-- THE END
full-over : (a : Outcome) (I : Input) (h : History) → IsFullEnd a I h → IsOver forms I h
full-over outcome.Conforming I h e = inl e.0.0
full-over (outcome.Refused r x) I h (inl e) = over (outcome.Refused r x) I h e
full-over (outcome.Refused r x) I h (inr e) = inl e.0.over
full-over outcome.Absent I h e = absurd e

same-unspelled : (h : History) (r q : Refusal) → IsUnspelled h r → IsUnspelled h q → r ≡ q
same-unspelled h r q u v =
    let numbers : u.number ≡ v.number = ap (λ (o : Option ℕ). unwrap_or o u.number) (sym u.first ∙ v.first) in
    let places : Some r.place ≡ Some q.place = sym u.place ∙ (ap (slice_get (instruction_places h)) numbers ∙ v.place) in
    refusal-is r q (ap (λ (o : Option Place). unwrap_or o r.place) places) (u.reason ∙ sym v.reason)

same-full-end : (a b : Outcome) (I : Input) (h : History) → IsFullEnd a I h → IsFullEnd b I h → a ≡ b
same-full-end outcome.Conforming outcome.Conforming I h x y = refl
same-full-end outcome.Conforming (outcome.Refused r p) I h x (inl y) = same-end outcome.Conforming (outcome.Refused r p) I h x.0 y
same-full-end outcome.Conforming (outcome.Refused r p) I h x (inr y) = none-some y.0.number (sym x.1 ∙ y.0.first)
same-full-end (outcome.Refused r p) outcome.Conforming I h (inl x) y = same-end (outcome.Refused r p) outcome.Conforming I h x y.0
same-full-end (outcome.Refused r p) outcome.Conforming I h (inr x) y = none-some x.0.number (sym y.1 ∙ x.0.first)
same-full-end (outcome.Refused r p) (outcome.Refused q o) I h (inl x) (inl y) = same-end (outcome.Refused r p) (outcome.Refused q o) I h x y
same-full-end (outcome.Refused r p) (outcome.Refused q o) I h (inl x) (inr y) = not-refused I h r y.0.over y.0.agree x.0
same-full-end (outcome.Refused r p) (outcome.Refused q o) I h (inr x) (inl y) = not-refused I h q x.0.over x.0.agree y.0
same-full-end (outcome.Refused r p) (outcome.Refused q o) I h (inr x) (inr y) = same-refused I h r q p o (same-unspelled h r q x.0 y.0) x.1 y.1
same-full-end outcome.Absent b I h x y = absurd x
same-full-end outcome.Conforming outcome.Absent I h x y = absurd y
same-full-end (outcome.Refused r p) outcome.Absent I h x y = absurd y

-- AND WHAT IS GAINED
some-is : (x y : List ℕ) → Some x ≡ Some y → x ≡ y
some-is x y e = cc

same-gain : (a : Outcome) (bytes : List ℕ) (h : History) (before first second : List ℕ) → FullGains a bytes h (Some before) (Some first) → FullGains a bytes h (Some before) (Some second) → first ≡ second
same-gain outcome.Conforming bytes h before first second x y = x.2 ∙ (ap (λ (z : List ℕ). before ++ z) (one-document bytes h x.0 y.0 x.1 y.1) ∙ sym y.2)
same-gain (outcome.Refused r p) bytes h before first second x y = some-is first second (x ∙ sym y)
same-gain outcome.Absent bytes h before first second x y = some-is first second (x ∙ sym y)

pub one-full-answer : OneFullAnswer
one-full-answer bytes I a b before first second x y =
    let moves : x.moves ≡ y.moves =
    same-moves x.moves y.moves (over-is-longest forms I x.moves y.moves x.read (full-over a I (read_by I x.moves) x.end) y.read)
    (over-is-longest forms I y.moves x.moves y.read (full-over b I (read_by I y.moves) y.end) x.read) in
    let same : read_by I x.moves ≡ read_by I y.moves = ap (read_by I) moves in
    let answers : a ≡ b = same-full-end a b I (read_by I y.moves) (subst (IsFullEnd a I) same x.end) y.end in (
      answers,
      same-gain b bytes (read_by I y.moves) before first second
          (subst (λ (z : Outcome). FullGains z bytes (read_by I y.moves) (Some before) (Some first)) answers (subst (λ (h : History). FullGains a bytes h (Some before) (Some first)) same x.gained)) y.gained,
    )
