-- Bytes that come in parts.
use Rattle.std.proofs.Common.{◌≡◌, ◌≢◌, ℕ, ◌+◌, ◌<◌, ◌≤◌, zero, suc, min, List, [], ◌∷◌, ◌++◌, length, take, drop, get_or, Option, None, Some, refl, sym, ap, ◌∙◌, arith, append_assoc, length-take, length-drop, length-append, zero-add, length-take-le, take-append-drop, cond, true}
use Rattle.std.specs.Prelude.{slice_get, slice_set, bytes_eq}
use Rattle.std.specs.Io.KnownBytes.{Appends, Consumes, Keeps}
use Rattle.std.proofs.lemmas.List.{drop-drop, take_at, at_drop_more}
use Rattle.std.proofs.lemmas.Option.{slice_get-get_or}
use Rattle.sgml_io.specs.Files.{file_bytes, file_in, memory_files, IsRest}
use Rattle.sgml_io.specs.declared.memory.MemoryFile.{MemoryFile}

take_none : {A : Type 0} (n : ℕ) → take {A = A} n [] ≡ []
take_none zero = refl
take_none (suc n) = refl

empty : {A : Type 0} (xs : List A) → length xs ≡ 0 → xs ≡ []
empty [] h = refl
empty (x ∷ xs) h = absurd (omega (arith, h))

pub take_parts : {A : Type 0} (n m : ℕ) (xs : List A) → take (n + m) xs ≡ take n xs ++ take m (drop n xs)
take_parts zero m xs = rw zero-add refl
take_parts (suc n) m [] = take_none (suc n + m) ∙ sym (take_none m)
take_parts (suc n) m (x ∷ xs) =
    let e : suc n + m ≡ suc (n + m) = omega arith in
    rw e (ap (λ ys. x ∷ ys) (take_parts n m xs))

pub appends_more : (old mid new : Option (List ℕ)) (bytes : List ℕ) (done n : ℕ) → Appends old mid (take done bytes) → Appends mid new (take n (drop done bytes)) → Appends old new (take (done + n) bytes)
appends_more None mid new bytes done n h k = tt
appends_more (Some xs) None new bytes done n h k = absurd h
appends_more (Some xs) (Some ys) None bytes done n h k = absurd k
appends_more (Some xs) (Some ys) (Some zs) bytes done n h k =
    k ∙ ap (λ v. v ++ take n (drop done bytes)) h ∙ append_assoc xs _ _ ∙ ap (λ v. xs ++ v) (sym (take_parts done n bytes))

pub appends_keep : (old mid new : Option (List ℕ)) (bytes : List ℕ) → Appends old mid bytes → Keeps mid new → Appends old new bytes
appends_keep None mid new bytes h k = tt
appends_keep (Some xs) None new bytes h k = absurd h
appends_keep (Some xs) (Some ys) None bytes h k = absurd k
appends_keep (Some xs) (Some ys) (Some zs) bytes h k = k ∙ h

-- a part was read
pub rest_more : (whole : Option (List ℕ)) (bytes : List ℕ) (old new : Option (List ℕ)) (more : List ℕ) → IsRest whole bytes old → Consumes old new more → IsRest whole (bytes ++ more) new
rest_more None bytes old new more h k = tt
rest_more (Some whole) bytes None new more h k = absurd h
rest_more (Some whole) bytes (Some xs) None more h k = absurd k
rest_more (Some whole) bytes (Some xs) (Some ys) more h k =
    h ∙ ap (λ v. bytes ++ v) k ∙ sym (append_assoc bytes more ys)

pub slice_get-set_same : {A : Type 0} (xs : List A) (i : ℕ) (a : A) → i < length xs → slice_get (slice_set xs i a) i ≡ Some a
slice_get-set_same [] i a h = absurd (omega arith)
slice_get-set_same (x ∷ xs) zero a h = refl
slice_get-set_same (x ∷ xs) (suc i) a h = slice_get-set_same xs i a (omega arith)

pub slice_get-set_other : {A : Type 0} (xs : List A) (i j : ℕ) (a : A) → j ≢ i → slice_get (slice_set xs i a) j ≡ slice_get xs j
slice_get-set_other [] i j a h = refl
slice_get-set_other (x ∷ xs) zero zero a h = absurd (h refl)
slice_get-set_other (x ∷ xs) zero (suc j) a h = refl
slice_get-set_other (x ∷ xs) (suc i) zero a h = refl
slice_get-set_other (x ∷ xs) (suc i) (suc j) a h = slice_get-set_other xs i j a (λ e. h (ap suc e))

-- what a read of n bytes takes from a file, and what it leaves
pub taken_and_left : (bytes buf : List ℕ) (at n : ℕ) → n ≡ min (length (drop at bytes)) (length buf) → (drop at bytes ≡ take n (take n (drop at bytes) ++ drop n buf) ++ drop (at + n) bytes) × (n ≡ 0 → 0 < length (take n (drop at bytes) ++ drop n buf) → drop (at + n) bytes ≡ [])
taken_and_left bytes buf at n h =
    let X : List ℕ = drop at bytes in
    let le : n ≤ length X = omega (arith, h) in
    let front : take n (take n X ++ drop n buf) ≡ take n X = take_at (take n X) (drop n buf) n (length-take-le n X le) in
    let back : drop (at + n) bytes ≡ drop n X = sym (drop-drop n at bytes) in (
      sym (ap (λ v. v ++ drop (at + n) bytes) front ∙ ap (λ v. take n X ++ v) back ∙ take-append-drop n X),
      λ none some. empty (drop (at + n) bytes) (omega (arith, h, none, some, length-append (take n X) (drop n buf), length-take n X, length-drop n buf, length-drop at bytes, length-drop (at + n) bytes)),
    )

-- the file at i is the first of this name
pub found_here : (files : List MemoryFile) (name : List ℕ) (i : ℕ) (f : MemoryFile) → i < length files → f ≡ get_or files i f → bytes_eq f.name.items name ≡ true → file_in (memory_files (drop i files)) name ≡ Some (file_bytes (slice_get files i))
found_here files name i f lt h e =
    at_drop_more (λ fs. file_in (memory_files fs) name) files i f lt
    ∙ ap (λ x. file_in (memory_files (x ∷ drop (i + 1) files)) name) (sym h)
    ∙ ap (λ b. cond b (Some f.bytes.items) (file_in (memory_files (drop (i + 1) files)) name)) e
    ∙ sym (ap (λ o. Some (file_bytes o)) (slice_get-get_or files i f lt ∙ ap Some (sym h)))
