-- The storage bytes of a front of a text are found stretch by stretch.
use Rattle.std.proofs.Common.{◌≡◌, ◌+◌, ◌<◌, ◌≤◌, ℕ, List, [], ◌∷◌, ◌++◌, length, take, drop, sym, ap, ◌∙◌, subst, arith, append-nil, take-append-drop, Bool, true, false, nat_lt, ◌-◌, ◌*◌, ◌==◌, if◌then◌else◌, zero, suc, refl}
use Rattle.std.proofs.lemmas.List.{length-take-le, take_all}
use Rattle.std.proofs.Math.Seq.{take-append-add}
use Rattle.std.proofs.lemmas.Bool.{ltb-true, ltb-false}
use Rattle.sgml_io.specs.declared.records.RecordReader.{RecordReader}
use Rattle.sgml_io.specs.Records.{records, records_from, begun}
use Rattle.sgml_io.specs.Pieces.{HasMade, Makes}
use Rattle.sgml_storage.specs.Storage.{IsStorageOf}

-- what was made is the text of what was pushed
pub whole : (reader : RecordReader) (bytes text : List ℕ) → HasMade reader bytes text → text ≡ records bytes
whole reader bytes text made = sym (append-nil text) ∙ made [] ∙ ap records (append-nil bytes)

-- no shorter front has so many
abbrev pub AreShorter : List ℕ → ℕ → ℕ → Type 0
AreShorter bytes n count = (m : ℕ) → m < count → length (records (take m bytes)) < n

pub is-storage : (reader : RecordReader) (bytes text : List ℕ) (n count : ℕ) → count ≤ length bytes → HasMade reader (take count bytes) text → n ≤ length text → AreShorter bytes n count
    → IsStorageOf bytes n (take count bytes)
is-storage reader bytes text n count within made long short = record {
  rest = drop count bytes;
  all = sym (take-append-drop count bytes);
  reaches = subst (λ (z : List ℕ). n ≤ length z) (whole reader (take count bytes) text made) long;
  shortest = λ m l. short m (omega (arith, l, length-take-le count bytes within));
}

length-take-most : (k : ℕ) (xs : List ℕ) → length (take k xs) ≤ k
length-take-most zero xs = omega arith
length-take-most (suc k) [] = omega arith
length-take-most (suc k) (x ∷ xs) = let t : length (take k xs) ≤ k = length-take-most k xs in omega (arith, t)

-- some bytes more
byte-more : (bytes : List ℕ) (count k : ℕ) → count ≤ length bytes → take count bytes ++ take k (drop count bytes) ≡ take (count + k) bytes
byte-more bytes count k within =
    let l : length (take count bytes) ≡ count = length-take-le count bytes within in
    sym (ap (λ (n : ℕ). take (n + k) bytes) (sym l) ∙ ap (λ (z : List ℕ). take (length (take count bytes) + k) z) (sym (take-append-drop count bytes)) ∙ take-append-add (take count bytes) (drop count bytes) k)

rest-of : (count end : ℕ) → count ≤ end → count + (end - count) ≡ end
rest-of count end l = omega (arith, l)

pub made-more : (old new : RecordReader) (bytes text text' : List ℕ) (count end : ℕ) → count ≤ length bytes → count ≤ end → HasMade old (take count bytes) text
    → Makes old new (take (end - count) (drop count bytes)) text text' → HasMade new (take end bytes) text'
made-more old new bytes text text' count end within up made m =
    let k = end - count in
    subst (λ (z : List ℕ). HasMade new z text') (byte-more bytes count k within ∙ ap (λ (n : ℕ). take n bytes) (rest-of count end up))
    (subst (λ (z : List ℕ). HasMade new (take count bytes ++ take k (drop count bytes)) z) (sym m.1) (m.2 (take count bytes) text made))

-- EACH BYTE MAKES TWO BYTES OF TEXT at most
begun-long : (start : Bool) (text : List ℕ) (k : ℕ) → length text ≤ k → length (begun start text) ≤ k + 1
begun-long true text k l = omega (arith, l)
begun-long false text k l = omega (arith, l)

begun-grows : (start : Bool) (old new : List ℕ) (k : ℕ) → length new ≤ length old + k → length (begun start new) ≤ length (begun start old) + k
begun-grows true old new k l = omega (arith, l)
begun-grows false old new k l = l

-- a byte, by what it is: CR, LF after a CR or not, or another one
abbrev pub made-by : (cr lf after start : Bool) (b : ℕ) (x y z : List ℕ) → List ℕ
made-by cr lf after start b x y z = if cr then begun start (13 ∷ x) else if lf then (if after then y else begun start (13 ∷ y)) else begun start (b ∷ z)

by-long : (cr lf after start : Bool) (b : ℕ) (x y z : List ℕ) (k : ℕ) → length x ≤ k → length y ≤ k → length z ≤ k → length (made-by cr lf after start b x y z) ≤ k + 2
by-long true lf after start b x y z k l m n = let t : length (begun start (13 ∷ x)) ≤ (k + 1) + 1 = begun-long start (13 ∷ x) (k + 1) (omega (arith, l)) in omega (arith, t)
by-long false true true start b x y z k l m n = omega (arith, m)
by-long false true false start b x y z k l m n = let t : length (begun start (13 ∷ y)) ≤ (k + 1) + 1 = begun-long start (13 ∷ y) (k + 1) (omega (arith, m)) in omega (arith, t)
by-long false false after start b x y z k l m n = let t : length (begun start (b ∷ z)) ≤ (k + 1) + 1 = begun-long start (b ∷ z) (k + 1) (omega (arith, n)) in omega (arith, t)

by-grows : (cr lf after start : Bool) (b : ℕ) (x y z u v w : List ℕ) (k : ℕ) → length u ≤ length x + k → length v ≤ length y + k → length w ≤ length z + k → length (made-by cr lf after start b u v w) ≤ length (made-by cr lf after start b x y z) + k
by-grows true lf after start b x y z u v w k l m n = begun-grows start (13 ∷ x) (13 ∷ u) k (omega (arith, l))
by-grows false true true start b x y z u v w k l m n = m
by-grows false true false start b x y z u v w k l m n = begun-grows start (13 ∷ y) (13 ∷ v) k (omega (arith, m))
by-grows false false after start b x y z u v w k l m n = begun-grows start (b ∷ z) (b ∷ w) k (omega (arith, n))

long : (start cr : Bool) (bytes : List ℕ) → length (records_from start cr bytes) ≤ 2 * length bytes
long start cr [] = omega arith
long start cr (b ∷ bs) =
    let t : length (made-by (b == 13) (b == 10) cr start b (records_from true true bs) (records_from true false bs) (records_from false false bs)) ≤ 2 * length bs + 2 =
    by-long (b == 13) (b == 10) cr start b (records_from true true bs) (records_from true false bs) (records_from false false bs) (2 * length bs) (long true true bs) (long true false bs) (long false false bs) in
    omega (arith, t)

grows : (start cr : Bool) (bytes more : List ℕ) → length (records_from start cr (bytes ++ more)) ≤ length (records_from start cr bytes) + 2 * length more
grows start cr [] more = let t : length (records_from start cr more) ≤ 2 * length more = long start cr more in omega (arith, t)
grows start cr (b ∷ bs) more =
    by-grows (b == 13) (b == 10) cr start b (records_from true true bs) (records_from true false bs) (records_from false false bs) (records_from true true (bs ++ more)) (records_from true false (bs ++ more)) (records_from false false (bs ++ more)) (2 * length more)
    (grows true true bs more) (grows true false bs more) (grows false false bs more)

pub shorter-more : (reader : RecordReader) (bytes text : List ℕ) (n count end : ℕ) → count ≤ length bytes → end ≤ length bytes → HasMade reader (take count bytes) text → count < end → 2 * (end - count) ≤ (n - length text) + 1 → length text < n → AreShorter bytes n count → AreShorter bytes n end
shorter-more reader bytes text n count end within inside made up needed less short = λ m l. by m l (nat_lt m count) refl
  where
    past : (m : ℕ) → m < end → count ≤ m → length (records (take m bytes)) < n
    past m l c =
        let k = m - count in
        let more = take k (drop count bytes) in
        let cut : take count bytes ++ more ≡ take m bytes = byte-more bytes count k within ∙ ap (λ (i : ℕ). take i bytes) (rest-of count m c) in
        let size : length more ≤ k = length-take-most k (drop count bytes) in
        let text-is : length text ≡ length (records (take count bytes)) = ap length (whole reader (take count bytes) text made) in
        let most : length (records (take count bytes ++ more)) ≤ length (records (take count bytes)) + 2 * length more = grows true false (take count bytes) more in
        subst (λ (z : List ℕ). length (records z) < n) cut (omega (arith, most, size, text-is, needed, less, l, c))

    by : (m : ℕ) → m < end → (b : Bool) → nat_lt m count ≡ b → length (records (take m bytes)) < n
    by m l true e = short m (ltb-true m count e)
    by m l false e = past m l (ltb-false m count e)

pub none-shorter : (bytes : List ℕ) (n : ℕ) → AreShorter bytes n 0
none-shorter bytes n = λ m l. absurd (none m l)
  where
    none : (m : ℕ) → m < 0 → ⊥
    none m l = omega (arith, l)

-- all of them make fewer
pub all-fewer : (reader : RecordReader) (bytes text : List ℕ) (n count : ℕ) → length bytes ≤ count → HasMade reader (take count bytes) text → length text < n → length (records bytes) < n
all-fewer reader bytes text n count all made less =
    subst (λ (z : List ℕ). length (records z) < n) (take_all count bytes all) (subst (λ (z : List ℕ). length z < n) (whole reader (take count bytes) text made) less)
