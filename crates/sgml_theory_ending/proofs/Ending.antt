-- Reading comes to an end: what is left to read bounds the moves that read on.
use Rattle.std.proofs.Common.{◌≡◌, ℕ, zero, suc, Bool, true, false, ◌⊎◌, inl, inr, ◌+◌, ◌*◌, ◌<◌, ◌≤◌, List, [], ◌∷◌, length, refl, subst, arith}
use Rattle.sgml_io.specs.text.declared.reason.Reason.{Reason}
use Rattle.sgml_theory_spelling.specs.theory_reading.Pieces.{History}
use Rattle.sgml_theory_spelling.specs.theory_reading.Facets.{turn}
use Rattle.sgml_theory_spelling.specs.theory_reading.Unread.{Input, rests, spent, opening}
use Rattle.sgml_theory_spelling.specs.theory_reading.Reads.{Move, Reads, ReadOn, Stops, IsOver, moved_on, after_moves, ends_in_finish}
use Rattle.sgml_theory_spelling.proofs.theory_reading.Reading.{goes-or-stops}
use Rattle.sgml_theory_spelling.specs.Spelled.{forms}
use Rattle.sgml_theory_ending.specs.Left.{left_to_read}
use Rattle.sgml_theory_ending.specs.Laws.{ReadingEnds, EachInputIsRead}
use Rattle.sgml_theory_ending.proofs.Falling.{less-is-left}

abbrev ReadsUpTo : Input → History → ℕ → Type 0
ReadsUpTo I h n = (ms : List Move) × ReadOn forms I h ms × IsOver forms I (after_moves h ms) × (length ms ≤ n)

over : (I : Input) (h : History) (n : ℕ) → IsOver forms I h → ReadsUpTo I h n
over I h n o = ([], tt, o, omega arith)

with-move : (I : Input) (h : History) (m : Move) (n k : ℕ) → Reads forms I h m → ReadsUpTo I (moved_on h m) n → n < k → ReadsUpTo I h k
with-move I h m n k r x l = let few = x.3 in (m ∷ x.0, (r, x.1), x.2, omega (arith, few, l))

-- from a history that has moves left
abbrev GoesOn : ℕ → Type 0
GoesOn n = (I : Input) (h : History) → left_to_read I h < n → ReadsUpTo I h (left_to_read I h + 1)

after-move : (n : ℕ) → GoesOn n → (I : Input) (h : History) (m : Move) → left_to_read I h < suc n → Reads forms I h m
    → (ends_in_finish (moved_on h m) ≡ true) ⊎ (left_to_read I (moved_on h m) < left_to_read I h) → ReadsUpTo I h (left_to_read I h + 1)
after-move n go I h m l r (inl f) = with-move I h m 0 (left_to_read I h + 1) r (over I (moved_on h m) 0 (inl f)) (omega arith)
after-move n go I h m l r (inr k) =
    with-move I h m (left_to_read I (moved_on h m) + 1) (left_to_read I h + 1) r (go I (moved_on h m) (omega (arith, l, k))) (omega (arith, k))

or-stops : (n : ℕ) → GoesOn n → (I : Input) (h : History) → left_to_read I h < suc n → ((m : Move) × Reads forms I h m) ⊎ ((r : Reason) × Stops forms I h r)
    → ReadsUpTo I h (left_to_read I h + 1)
or-stops n go I h l (inl x) = after-move n go I h x.0 l x.1 (less-is-left I h x.0 x.1)
or-stops n go I h l (inr x) = over I h (left_to_read I h + 1) (inr x)

or-finished : (n : ℕ) → GoesOn n → (I : Input) (h : History) (b : Bool) → ends_in_finish h ≡ b → left_to_read I h < suc n → ReadsUpTo I h (left_to_read I h + 1)
or-finished n go I h true e l = over I h (left_to_read I h + 1) (inl e)
or-finished n go I h false e l = or-stops n go I h l (goes-or-stops forms I h e)

goes-on : (n : ℕ) → GoesOn n
goes-on zero I h l = absurd (omega (arith, l))
goes-on (suc n) I h l = or-finished n (goes-on n) I h (ends_in_finish h) refl l

pub reading-ends : ReadingEnds
reading-ends I h = goes-on (suc (left_to_read I h)) I h (omega arith)

-- at the start of the input
pub left-at-start : (I : Input) → left_to_read I (opening I.outside) + 1 ≡ 2 * (length I.document + I.outside.expand) + 2
unfolding rests spent turn
left-at-start I = omega arith

pub each-input-is-read : EachInputIsRead
each-input-is-read I =
    let x = reading-ends I (opening I.outside) in
    (x.0, x.1, x.2, subst (λ n. length x.0 ≤ n) (left-at-start I) x.3)
