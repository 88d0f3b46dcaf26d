-- Names whose hashes differ are apart.
use Rattle.std.proofs.Common.{◌≡◌, ◌≤◌, ◌<◌, length, ◌||◌, ℕ, Bool, true, false, List, [], ◌∷◌, ◌++◌, map, refl, sym, ap, ◌∙◌, subst, arith, append_assoc}
use Rattle.std.proofs.lemmas.List.{append-nil, map-append}
use Rattle.std.proofs.lemmas.Slice.Eq.{bytes_eq-Decides}
use Rattle.std.specs.Str.{bytes_eq}
use Rattle.sgml_names.specs.Lists.{has, repeats}
use Rattle.sgml_hashes.specs.Hashes.{hash_of, times, AllDiffer}
use Rattle.sgml_hashes.proofs.Differing.{times-append, times_here, times_behind}

has_by : (q x : List ℕ) (xs : List (List ℕ)) → (has xs q ≡ true → 1 ≤ times (hash_of q) (map hash_of xs)) →
    (same : Bool) → bytes_eq q x ≡ same → (same || has xs q) ≡ true → 1 ≤ times (hash_of q) (map hash_of (x ∷ xs))
has_by q x xs rest true e h =
    subst (λ (y : List ℕ). 1 ≤ times (hash_of q) (hash_of y ∷ map hash_of xs)) ((bytes_eq-Decides q x).0 e) (times_here (hash_of q) (map hash_of xs))
has_by q x xs rest false e h = omega (arith, rest h, times_behind (hash_of q) (hash_of x) (map hash_of xs))

-- the hash of a name is one of those of its list
has_hash : (xs : List (List ℕ)) (q : List ℕ) → has xs q ≡ true → 1 ≤ times (hash_of q) (map hash_of xs)
has_hash [] q h = cc
has_hash (x ∷ xs) q h = has_by q x xs (has_hash xs q) (bytes_eq q x) refl h

neither : (x y : Bool) → x ≡ false → y ≡ false → (x || y) ≡ false
neither x y p q = ap (λ (b : Bool). b || y) p ∙ q

not_before : (before : List (List ℕ)) (n : List ℕ) (ns : List (List ℕ)) → AllDiffer (map hash_of (before ++ n ∷ ns)) → (h : Bool) → has before n ≡ h → h ≡ false
not_before before n ns d false e = refl
not_before before n ns d true e =
    let all : AllDiffer (map hash_of before ++ map hash_of (n ∷ ns)) = subst AllDiffer (map-append hash_of before (n ∷ ns)) d in
    absurd (omega (arith, all (hash_of n), times-append (hash_of n) (map hash_of before) (map hash_of (n ∷ ns)), has_hash before n e, times_here (hash_of n) (map hash_of ns)))

apart_behind : (before names : List (List ℕ)) → AllDiffer (map hash_of (before ++ names)) → repeats before names ≡ false
apart_behind before [] d = refl
apart_behind before (n ∷ ns) d =
    neither (has before n) (repeats (before ++ n ∷ []) ns) (not_before before n ns d (has before n) refl)
    (apart_behind (before ++ n ∷ []) ns (subst (λ (l : List (List ℕ)). AllDiffer (map hash_of l)) (sym (append_assoc before (n ∷ []) ns)) d))

pub apart_by_hashes : (names : List (List ℕ)) → AllDiffer (map hash_of names) → repeats [] names ≡ false
apart_by_hashes names d = apart_behind [] names d

-- where nothing is left to note, all was noted
pub noted_all : {X : Type 0} (f : List X → List ℕ) (hashes all : List ℕ) (rest : List X) → length rest < 1 → f [] ≡ [] → hashes ++ f rest ≡ all → hashes ≡ all
noted_all f hashes all [] below e h = sym (append-nil hashes) ∙ ap (λ (r : List ℕ). hashes ++ r) (sym e) ∙ h
noted_all f hashes all (x ∷ rest) below e h = absurd (omega arith)
