-- The text of storage bytes within a record, in which a line feed ends a record and begins the next one.
use Rattle.std.proofs.Common.{◌≡◌, ℕ, Bool, true, false, not, ◌&&◌, ◌==◌, List, [], ◌∷◌, ◌++◌, refl, sym, ◌∙◌, ap, append_assoc, if◌then◌else◌}
use Rattle.std.specs.Prelude.{flat_map}
use Rattle.std.specs.List.{list_all}
use Rattle.sgml_theory_values.specs.io.Records.{records_from, is_plain, begun}
use Rattle.sgml_theory_full.proofs.Plain.{true-false, both}

-- a line feed, as records have it
abbrev pub lined_byte : ℕ → List ℕ
lined_byte b = if b == 10 then 13 ∷ 10 ∷ [] else b ∷ []

abbrev pub lined : List ℕ → List ℕ
lined bytes = flat_map lined_byte bytes

-- no carriage return
abbrev pub is_line_byte : ℕ → Bool
is_line_byte b = not (b == 13)

-- THE START of a record is put before what follows
begins-then : (c : ℕ) (cs : List ℕ) → records_from true false (c ∷ cs) ≡ 10 ∷ records_from false false (c ∷ cs)
begins-then c cs = by_test (c == 13) (c == 10) refl refl
  where
    by_test : (r l : Bool) → (c == 13) ≡ r → (c == 10) ≡ l → records_from true false (c ∷ cs) ≡ 10 ∷ records_from false false (c ∷ cs)
    by_test true l p q = rw p refl
    by_test false true p q = rw (p, q) refl
    by_test false false p q = rw (p, q) refl

some-more : (bs : List ℕ) (c : ℕ) (cs : List ℕ) → records_from true false (bs ++ c ∷ cs) ≡ 10 ∷ records_from false false (bs ++ c ∷ cs)
some-more [] c cs = begins-then c cs
some-more (b ∷ bs) c cs = begins-then b (bs ++ c ∷ cs)

byte-lined : (b : ℕ) (bs : List ℕ) (c : ℕ) (cs : List ℕ) (r l : Bool) → (b == 13) ≡ r → (b == 10) ≡ l → r ≡ false
    → records_from false false ((b ∷ bs) ++ c ∷ cs) ≡ lined_byte b ++ records_from false false (bs ++ c ∷ cs)
byte-lined b bs c cs true l p q n = true-false n
byte-lined b bs c cs false true p q n = rw (p, q) (ap (λ t. 13 ∷ t) (some-more bs c cs))
byte-lined b bs c cs false false p q n = rw (p, q) refl

no-return : (b : ℕ) → is_line_byte b ≡ true → (b == 13) ≡ false
no-return b h = go (b == 13) refl h
  where
    go : (t : Bool) → (b == 13) ≡ t → not t ≡ true → (b == 13) ≡ false
    go true e n = true-false (sym n)
    go false e n = e

-- OF BYTES with no carriage return, before others
pub lined-then : (bytes : List ℕ) (c : ℕ) (cs : List ℕ) → list_all is_line_byte bytes ≡ true
    → records_from false false (bytes ++ c ∷ cs) ≡ lined bytes ++ records_from false false (c ∷ cs)
lined-then [] c cs h = refl
lined-then (b ∷ bs) c cs h =
    let k = both (is_line_byte b) (list_all is_line_byte bs) h in
    byte-lined b bs c cs (b == 13) (b == 10) refl refl (no-return b k.0)
    ∙ ap (λ t. lined_byte b ++ t) (lined-then bs c cs k.1)
    ∙ sym (append_assoc (lined_byte b) (lined bs) (records_from false false (c ∷ cs)))

-- BEHIND A BYTE that ends no record the text goes on within one
plain-parts : (r l : Bool) → (not r && not l) ≡ true → (r ≡ false) × (l ≡ false)
plain-parts true l h = true-false (sym h)
plain-parts false true h = true-false (sym h)
plain-parts false false h = (refl, refl)

pub plain-tests : (b : ℕ) → is_plain b ≡ true → ((b == 13) ≡ false) × ((b == 10) ≡ false)
plain-tests b h = plain-parts (b == 13) (b == 10) h

last-within : (start cr : Bool) (last : ℕ) (more : List ℕ) → is_plain last ≡ true
    → records_from start cr (last ∷ more) ≡ records_from start cr (last ∷ []) ++ records_from false false more
last-within true cr last more h = let p = plain-tests last h in rw (p.0, p.1) refl
last-within false cr last more h = let p = plain-tests last h in rw (p.0, p.1) refl

-- one byte more before what goes on so
begun-append : (start : Bool) (xs ys : List ℕ) → begun start (xs ++ ys) ≡ begun start xs ++ ys
begun-append true xs ys = refl
begun-append false xs ys = refl

abbrev GoesOn : List ℕ → ℕ → List ℕ → Type 0
GoesOn front last more =
    (start cr : Bool) → records_from start cr (front ++ last ∷ more) ≡ records_from start cr (front ++ last ∷ []) ++ records_from false false more

byte-then : (b : ℕ) (front : List ℕ) (last : ℕ) (more : List ℕ) → GoesOn front last more → (start c r l : Bool) → (b == 13) ≡ r → (b == 10) ≡ l
    → records_from start c (b ∷ (front ++ last ∷ more)) ≡ records_from start c (b ∷ (front ++ last ∷ [])) ++ records_from false false more
byte-then b front last more goes start c r l p q = by_test r l c p q
  where
    one : (start' cr' : Bool) (x : ℕ) → begun start (x ∷ records_from start' cr' (front ++ last ∷ more)) ≡ begun start (x ∷ records_from start' cr' (front ++ last ∷ [])) ++ records_from false false more
    one start' cr' x = ap (λ t. begun start (x ∷ t)) (goes start' cr') ∙ begun-append start (x ∷ records_from start' cr' (front ++ last ∷ [])) (records_from false false more)

    by_test : (r l c : Bool) → (b == 13) ≡ r → (b == 10) ≡ l
        → records_from start c (b ∷ (front ++ last ∷ more)) ≡ records_from start c (b ∷ (front ++ last ∷ [])) ++ records_from false false more
    by_test true l c p q = rw p (one true true 13)
    by_test false true true p q = rw (p, q) (goes true false)
    by_test false true false p q = rw (p, q) (one true false 13)
    by_test false false c p q = rw (p, q) (one false false b)

pub records-then : (front : List ℕ) (last : ℕ) (more : List ℕ) → is_plain last ≡ true → GoesOn front last more
records-then [] last more h = λ start cr. last-within start cr last more h
records-then (b ∷ front) last more h =
    λ start cr. byte-then b front last more (records-then front last more h) start cr (b == 13) (b == 10) refl refl
