-- The start whose identifiers are at fault has a place.
use Rattle.std.proofs.Common.{◌≡◌, ℕ, zero, suc, Bool, true, false, ◌+◌, ◌<◌, List, [], ◌∷◌, ◌++◌, Option, None, Some, length, refl, ap, if◌then◌else◌, arith}
use Rattle.std.specs.List.{slice_get}
use Rattle.sgml_io.specs.text.declared.reason.Reason.{Reason}
use Rattle.sgml_io.specs.text.declared.reason.Reason.TheVariants.{Repeated, Dangling}
use Rattle.sgml_io.specs.text.declared.place.Place.{Place}
use Rattle.sgml_theory_spelling.specs.theory_reading.Names.{Name}
use Rattle.sgml_theory_spelling.specs.theory_reading.Reads.{Attribute, start_places}
use Rattle.sgml_theory_spelling.specs.theory_reading.Events.{events}
use Rattle.sgml_theory_spelling.specs.theory_reading.Identifiers.{starts, ids_of, references_of, some_in, some_not_in, all_ids, id_fault_from, id_fault}
use Rattle.sgml_theory_spelling.specs.Spelled.{forms}
use Rattle.sgml_theory_ending.specs.Laws.{FaultsHavePlaces}
use Rattle.sgml_theory_spelling.proofs.theory_reading.Counted.{starts-have-places}

number-or : Option (ℕ × Reason) → ℕ → ℕ
number-or None n = n
number-or (Some x) n = x.0

first-below : (n m k : ℕ) (x y : ℕ × Reason) → x.0 ≡ n → y.0 ≡ k → Some x ≡ Some y → k < n + suc m
unfolding number-or
first-below n m k x y e f g = let same = ap (λ o. number-or o 0) g in omega (arith, same, e, f)

by-tests : (a b : Bool) (n m k : ℕ) (r : Reason) (o : Option (ℕ × Reason)) → (o ≡ Some (k, r) → k < suc n + m)
    → (if a then Some (n, Repeated) else (if b then Some (n, Dangling) else o)) ≡ Some (k, r) → k < n + suc m
by-tests true b n m k r o f e = first-below n m k (n, Repeated) (k, r) refl refl e
by-tests false true n m k r o f e = first-below n m k (n, Dangling) (k, r) refl refl e
by-tests false false n m k r o f e = let l = f e in omega (arith, l)

fault-below : (earlier ids : List Name) (n k : ℕ) (r : Reason) (ss : List (List Attribute)) → id_fault_from earlier ids n ss ≡ Some (k, r) → k < n + length ss
fault-below earlier ids n k r [] e = absurd (cc)
fault-below earlier ids n k r (s ∷ ss) e =
    by-tests (some_in (ids_of s) earlier) (some_not_in (references_of s) ids) n (length ss) k r (id_fault_from (earlier ++ ids_of s) ids (suc n) ss)
    (λ f. fault-below (earlier ++ ids_of s) ids (suc n) k r ss f) e

place-below : (ps : List Place) (k : ℕ) → k < length ps → (p : Place) × (slice_get ps k ≡ Some p)
place-below [] k l = absurd (omega (arith, l))
place-below (p ∷ ps) zero l = (p, refl)
place-below (p ∷ ps) (suc k) l = place-below ps k (omega (arith, l))

pub faults-have-places : FaultsHavePlaces
unfolding id_fault
faults-have-places h k r e =
    let ss = starts (events forms h) in
    let l = fault-below [] (all_ids ss) 0 k r ss e in
    let c = starts-have-places forms h in
    place-below (start_places h) k (omega (arith, l, c))
