-- The storage of a front that ends within a record makes exactly this front.
use Rattle.std.proofs.Common.{◌≡◌, ◌+◌, ◌<◌, ◌≤◌, ◌⊎◌, inl, inr, ℕ, Bool, true, false, ◌==◌, List, [], ◌∷◌, ◌++◌, length, take, get_or, if◌then◌else◌, refl, sym, ap, ◌∙◌, subst, append_assoc, length-append, arith, eqb-true}
use Rattle.std.proofs.lemmas.Bool.{eqb-false}
use Rattle.std.proofs.Math.Seq.{take-append_seam, get_or-append_seam}
use Rattle.sgml_io.specs.Records.{records, records_from, begun, is_plain}
use Rattle.sgml_storage.specs.Storage.{IsStorageOf}
use Rattle.sgml_storage.specs.Fronts.{IsStored, FrontsAreStored}
use Rattle.sgml_storage.proofs.Fronts.{made-by}

-- WHAT IS NOTED of bytes: whether a record begins after them, and whether they end in a CR
abbrev starts : Bool → Bool → List ℕ → Bool
starts start cr [] = start
starts start cr (b ∷ bs) = if b == 13 then starts true true bs else (if b == 10 then starts true false bs else starts false false bs)

abbrev in-cr : Bool → Bool → List ℕ → Bool
in-cr start cr [] = cr
in-cr start cr (b ∷ bs) = if b == 13 then in-cr true true bs else (if b == 10 then in-cr true false bs else in-cr false false bs)

begun-append : (start : Bool) (x y : List ℕ) → begun start (x ++ y) ≡ begun start x ++ y
begun-append true x y = refl
begun-append false x y = refl

-- by what its first byte is
abbrev IsJoined : Bool → Bool → List ℕ → List ℕ → Type 0
IsJoined start cr xs ys = records_from start cr (xs ++ ys) ≡ records_from start cr xs ++ records_from (starts start cr xs) (in-cr start cr xs) ys

append-by : (c l after start : Bool) (b : ℕ) (bs ys : List ℕ) → IsJoined true true bs ys → IsJoined true false bs ys → IsJoined false false bs ys
    → made-by c l after start b (records_from true true (bs ++ ys)) (records_from true false (bs ++ ys)) (records_from false false (bs ++ ys))
    ≡ made-by c l after start b (records_from true true bs) (records_from true false bs) (records_from false false bs)
    ++ records_from (if c then starts true true bs else (if l then starts true false bs else starts false false bs))
    (if c then in-cr true true bs else (if l then in-cr true false bs else in-cr false false bs)) ys
append-by true l after start b bs ys x y z =
    ap (λ (t : List ℕ). begun start (13 ∷ t)) x ∙ begun-append start (13 ∷ records_from true true bs) (records_from (starts true true bs) (in-cr true true bs) ys)
append-by false true true start b bs ys x y z = y
append-by false true false start b bs ys x y z =
    ap (λ (t : List ℕ). begun start (13 ∷ t)) y ∙ begun-append start (13 ∷ records_from true false bs) (records_from (starts true false bs) (in-cr true false bs) ys)
append-by false false after start b bs ys x y z =
    ap (λ (t : List ℕ). begun start (b ∷ t)) z ∙ begun-append start (b ∷ records_from false false bs) (records_from (starts false false bs) (in-cr false false bs) ys)

-- the text of bytes is that of the first of them, and that of the rest
made-append : (start cr : Bool) (xs ys : List ℕ) → records_from start cr (xs ++ ys) ≡ records_from start cr xs ++ records_from (starts start cr xs) (in-cr start cr xs) ys
made-append start cr [] ys = refl
made-append start cr (b ∷ bs) ys =
    append-by (b == 13) (b == 10) cr start b bs ys (made-append true true bs ys) (made-append true false bs ys) (made-append false false bs ys)

-- A BYTE makes nothing, or one character, before which a record may begin: in a record that is the byte itself
abbrev Made : ℕ → List ℕ → Type 0
Made x made = (made ≡ []) ⊎ ((begins : Bool) × (c : ℕ) × (made ≡ begun begins (c ∷ [])) × (is_plain c ≡ true → c ≡ x))

never : {A : Type 0} → false ≡ true → A
never e = absurd (cc)

one : (start cr : Bool) (x : ℕ) → Made x (records_from start cr (x ∷ []))
one start cr x = by (x == 13) (x == 10) cr
  where
    by : (c l after : Bool) → Made x (made-by c l after start x [] [] [])
    by true l after = inr (start, 13, refl, λ e. never e)
    by false true true = inl refl
    by false true false = inr (start, 13, refl, λ e. never e)
    by false false after = inr (start, x, refl, λ e. refl)

-- a list is empty or has a last element
unsnoc : (xs : List ℕ) → (xs ≡ []) ⊎ ((front : List ℕ) × (x : ℕ) × (xs ≡ front ++ x ∷ []))
unsnoc [] = inl refl
unsnoc (x ∷ xs) = by (unsnoc xs)
  where
    by : (xs ≡ []) ⊎ ((front : List ℕ) × (y : ℕ) × (xs ≡ front ++ y ∷ [])) → (x ∷ xs ≡ []) ⊎ ((front : List ℕ) × (y : ℕ) × (x ∷ xs ≡ front ++ y ∷ []))
    by (inl e) = inr ([], x, ap (λ (z : List ℕ). x ∷ z) e)
    by (inr f) = inr (x ∷ f.0, f.1, ap (λ (z : List ℕ). x ∷ z) f.2)

-- two ways to part a list at one place are the same
same-front : (xs ys p q : List ℕ) (c b : ℕ) → length xs ≡ length ys → xs ++ c ∷ p ≡ ys ++ b ∷ q → xs ≡ ys
same-front xs ys p q c b l e =
    sym (take-append_seam xs (c ∷ p)) ∙ ap (take (length xs)) e ∙ ap (λ (n : ℕ). take n (ys ++ b ∷ q)) l ∙ take-append_seam ys (b ∷ q)

same-next : (xs ys p q : List ℕ) (c b : ℕ) → length xs ≡ length ys → xs ++ c ∷ p ≡ ys ++ b ∷ q → c ≡ b
same-next xs ys p q c b l e =
    sym (get_or-append_seam xs c p 0) ∙ ap (λ (z : List ℕ). get_or z (length xs) 0) e ∙ ap (λ (n : ℕ). get_or (ys ++ b ∷ q) n 0) l ∙ get_or-append_seam ys b q 0

-- THE STORAGE of a front: its last byte makes the last character
record Reached (text made front : List ℕ) : Type 0 where
  short : length text < length front + 1
  long : length front + 1 ≤ length text + length made

plain-ten : {A : Type 0} (b : ℕ) → is_plain b ≡ true → 10 ≡ b → A
plain-ten b p e = never (ap is_plain e ∙ p)

stored-by : (text made more front rest : List ℕ) (x b : ℕ) → Reached text made front → (text ++ made) ++ more ≡ front ++ b ∷ rest → is_plain b ≡ true
    → Made x made → (text ++ made ≡ front ++ b ∷ []) × (x ≡ b)
stored-by text made more front rest x b r e p (inl none) =
    let l : length made ≡ 0 = ap length none in
    absurd (omega (arith, r.short, r.long, l))
stored-by text made more front rest x b r e p (inr (false, c, is, plain)) =
    let one-long : length made ≡ 1 = ap length is in
    let same : length text ≡ length front = omega (arith, r.short, r.long, one-long) in
    let all : text ++ c ∷ more ≡ front ++ b ∷ rest = sym (ap (λ (z : List ℕ). (text ++ z) ++ more) is ∙ append_assoc text (c ∷ []) more) ∙ e in
    let its : c ≡ b = same-next text front more rest c b same all in
    (ap (λ (z : List ℕ). text ++ z) is ∙ ap (λ (z : List ℕ). z ++ c ∷ []) (same-front text front more rest c b same all) ∙ ap (λ (z : ℕ). front ++ z ∷ []) its, sym (plain (ap is_plain its ∙ p)) ∙ its)
stored-by text made more front rest x b r e p (inr (true, c, is, plain)) =
    let two-long : length made ≡ 2 = ap length is in
    let all : text ++ 10 ∷ c ∷ more ≡ front ++ b ∷ rest = sym (ap (λ (z : List ℕ). (text ++ z) ++ more) is ∙ append_assoc text (10 ∷ c ∷ []) more) ∙ e in
    by (length text == length front) refl two-long all
  where
    on : length text + 1 ≡ length front → text ++ 10 ∷ c ∷ more ≡ front ++ b ∷ rest → (text ++ made ≡ front ++ b ∷ []) × (x ≡ b)
    on l all =
        let longer : length (text ++ 10 ∷ []) ≡ length front = length-append text (10 ∷ []) ∙ l in
        let here : (text ++ 10 ∷ []) ++ c ∷ more ≡ front ++ b ∷ rest = append_assoc text (10 ∷ []) (c ∷ more) ∙ all in
        let its : c ≡ b = same-next (text ++ 10 ∷ []) front more rest c b longer here in
        (ap (λ (z : List ℕ). text ++ z) is ∙ sym (append_assoc text (10 ∷ []) (c ∷ [])) ∙ ap (λ (z : List ℕ). z ++ c ∷ []) (same-front (text ++ 10 ∷ []) front more rest c b longer here) ∙ ap (λ (z : ℕ). front ++ z ∷ []) its, sym (plain (ap is_plain its ∙ p)) ∙ its)

    by : (t : Bool) → (length text == length front) ≡ t → length made ≡ 2 → text ++ 10 ∷ c ∷ more ≡ front ++ b ∷ rest → (text ++ made ≡ front ++ b ∷ []) × (x ≡ b)
    by true t two all = plain-ten b p (same-next text front (c ∷ more) rest 10 b (eqb-true (length text) (length front) t) all)
    by false t two all =
        let n = eqb-false (length text) (length front) t in
        on (omega (arith, r.short, r.long, two, n)) all

-- the text of bytes begins with that of a front of them
pub records-append : (xs ys : List ℕ) → (more : List ℕ) × (records (xs ++ ys) ≡ records xs ++ more)
records-append xs ys = (records_from (starts true false xs) (in-cr true false xs) ys, made-append true false xs ys)

-- LAW
by-last : (bytes front rest storage : List ℕ) (b : ℕ) → records bytes ≡ front ++ b ∷ rest → is_plain b ≡ true → (s : IsStorageOf bytes (length front + 1) storage)
    → (storage ≡ []) ⊎ ((before : List ℕ) × (x : ℕ) × (storage ≡ before ++ x ∷ [])) → IsStored front b storage
by-last bytes front rest storage b e p s (inl none) =
    let l : length (records storage) ≡ 0 = ap (λ (z : List ℕ). length (records z)) none in
    let r = s.reaches in
    absurd (omega (arith, l, r))
by-last bytes front rest storage b e p s (inr (before, x, is)) =
    let made = records_from (starts true false before) (in-cr true false before) (x ∷ []) in
    let more = records_from (starts true false storage) (in-cr true false storage) s.rest in
    let its : records storage ≡ records before ++ made = ap records is ∙ made-append true false before (x ∷ []) in
    let all : records bytes ≡ records storage ++ more = ap records s.all ∙ made-append true false storage s.rest in
    let there : take (length before) bytes ≡ before =
    ap (take (length before)) (s.all ∙ ap (λ (z : List ℕ). z ++ s.rest) is ∙ append_assoc before (x ∷ []) s.rest) ∙ take-append_seam before (x ∷ s.rest) in
    let size : length storage ≡ length before + 1 = ap length is ∙ length-append before (x ∷ []) in
    let shorter : length before < length storage = omega (arith, size) in
    let short : length (records before) < length front + 1 = subst (λ (z : List ℕ). length (records z) < length front + 1) there (s.shortest (length before) shorter) in
    let long : length front + 1 ≤ length (records before) + length made =
    subst (λ (n : ℕ). length front + 1 ≤ n) (ap length its ∙ length-append (records before) made) s.reaches in
    let found = stored-by (records before) made more front rest x b (record { short = short; long = long }) (ap (λ (z : List ℕ). z ++ more) (sym its) ∙ sym all ∙ e) p (one (starts true false before) (in-cr true false before) x) in
    record { makes = its ∙ found.0; before = before; last = is ∙ ap (λ (z : ℕ). before ++ z ∷ []) found.1 }

pub fronts-are-stored : FrontsAreStored
fronts-are-stored bytes front rest storage b e p s = by-last bytes front rest storage b e p s (unsnoc storage)
