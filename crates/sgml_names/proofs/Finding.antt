-- Names that are found by their hashes.
use Rattle.std.proofs.Common.{◌≡◌, ◌≤◌, ◌<◌, ◌+◌, ◌⊎◌, inl, inr, ℕ, zero, suc, Bool, true, false, cond, List, [], ◌∷◌, ◌++◌, Option, Some, None, refl, sym, ap, ◌∙◌, length, take, get_or, arith, add-one}
use Rattle.std.specs.Prelude.{option_map}
use Rattle.std.specs.Str.{bytes_eq}
use Rattle.std.proofs.lemmas.Bool.{cases_eq, cond-true, cond-false, false_from_ne_true}
use Rattle.std.proofs.lemmas.List.{map-append, take-map, take_more, take-append-le, take_at, take-take, length-take, length_push, length-map, get_or_append_left, get_or_at, get_or-take, get_or-map}
use Rattle.sgml_names.specs.declared.hashing.Hashing.{Hashing}
use Rattle.sgml_names.specs.Index.{found}
use Rattle.sgml_names.specs.Hashing.{hash_by}
use Rattle.sgml_names.specs.Hashed.{hashes, IsHashed, IsEachOnce}
use Rattle.sgml_names.specs.Slots.{latest}
use Rattle.sgml_names.proofs.Chains.{latest_hit, latest_miss, latest_at}
use Rattle.sgml_names.proofs.Standing.{same_name}

last_step : (b : Bool) (v n : ℕ) (r s : Option ℕ) → (r ≡ None → s ≡ Some n) → cond b (Some v) r ≡ None → cond b (Some v) s ≡ Some n
last_step true v n r s more is = cc
last_step false v n r s more is = more is

-- a name that wasn't there is found where it is last
found_last : (es : List (List ℕ × ℕ)) (e : List ℕ × ℕ) (q : List ℕ) → found es q ≡ None → bytes_eq q e.0 ≡ true → found (es ++ e ∷ []) q ≡ Some e.1
found_last [] e q none is = cond-true (bytes_eq q e.0) (Some e.1) None is
found_last (x ∷ es) e q none is = last_step (bytes_eq q x.0) x.1 e.1 (found es q) (found (es ++ e ∷ []) q) (λ rest. found_last es e q rest is) none

-- another name at the end changes nothing
pub found_before : (es : List (List ℕ × ℕ)) (e : List ℕ × ℕ) (q : List ℕ) → bytes_eq q e.0 ≡ false → found (es ++ e ∷ []) q ≡ found es q
found_before [] e q differs = cond-false (bytes_eq q e.0) (Some e.1) None differs
found_before (x ∷ es) e q differs = ap (cond (bytes_eq q x.0) (Some x.1)) (found_before es e q differs)

pub hit_at : (es : List (List ℕ × ℕ)) (i : ℕ) (d : List ℕ × ℕ) (q : List ℕ) → IsEachOnce es → i < length es → bytes_eq q (get_or es i d).0 ≡ true → found (take (suc i) es) q ≡ Some (get_or es i d).1
hit_at es i d q once within is =
    let new : found (take i es) q ≡ None = ap (found (take i es)) (same_name q (get_or es i d).0 is) ∙ once i d within in
    ap (λ n. found (take n es) q) (sym (add-one i)) ∙ ap (λ (xs : List (List ℕ × ℕ)). found xs q) (take_more es i d within) ∙ found_last (take i es) (get_or es i d) q new is

pub miss_at : (es : List (List ℕ × ℕ)) (i : ℕ) (d : List ℕ × ℕ) (q : List ℕ) → i < length es → bytes_eq q (get_or es i d).0 ≡ false → found (take (suc i) es) q ≡ found (take i es) q
miss_at es i d q within differs =
    ap (λ n. found (take n es) q) (sym (add-one i)) ∙ ap (λ (xs : List (List ℕ × ℕ)). found xs q) (take_more es i d within) ∙ found_before (take i es) (get_or es i d) q differs

-- so many entries end with the place
abbrev pub up_to : Option ℕ → ℕ
up_to None = 0
up_to (Some place) = suc place

found_latest_step : (hashing : Hashing) (es : List (List ℕ × ℕ)) (q : List ℕ) (d : List ℕ × ℕ) (n : ℕ) → n < length es
    → found (take n es) q ≡ found (take (up_to (latest (hash_by hashing q) (hashes hashing es) n)) es) q
    → (hash_by hashing q ≡ get_or (hashes hashing es) n 0) ⊎ (hash_by hashing q ≡ get_or (hashes hashing es) n 0 → ⊥)
    → found (take (suc n) es) q ≡ found (take (up_to (latest (hash_by hashing q) (hashes hashing es) (suc n))) es) q
found_latest_step hashing es q d n within before (inl e) = sym (ap (λ o. found (take (up_to o) es) q) (latest_hit (hash_by hashing q) (hashes hashing es) n e))
found_latest_step hashing es q d n within before (inr ne) =
    let here : get_or (hashes hashing es) n 0 ≡ hash_by hashing (get_or es n d).0 = get_or-map (λ (e : List ℕ × ℕ). hash_by hashing e.0) es n d 0 within in
    let differs : bytes_eq q (get_or es n d).0 ≡ false = false_from_ne_true (bytes_eq q (get_or es n d).0) (λ is. ne (ap (hash_by hashing) (same_name q (get_or es n d).0 is) ∙ sym here)) in
    miss_at es n d q within differs
    ∙ before
    ∙ sym (ap (λ o. found (take (up_to o) es) q) (latest_miss (hash_by hashing q) (hashes hashing es) n ne))

-- a name is found up to the last place of its hash
pub found_latest : (hashing : Hashing) (es : List (List ℕ × ℕ)) (q : List ℕ) (n : ℕ) → n ≤ length es → found (take n es) q ≡ found (take (up_to (latest (hash_by hashing q) (hashes hashing es) n)) es) q
found_latest hashing es q zero within = refl
found_latest hashing es q (suc n) within = found_latest_step hashing es q ([], 0) n (omega arith) (found_latest hashing es q n (omega arith)) (cases_eq (hash_by hashing q) (get_or (hashes hashing es) n 0))

once_push_at : (es : List (List ℕ × ℕ)) (e d : List ℕ × ℕ) (i : ℕ) → IsEachOnce es → found es e.0 ≡ None → i < length es + 1 → (i ≡ length es) ⊎ (i ≡ length es → ⊥) → found (take i (es ++ e ∷ [])) (get_or (es ++ e ∷ []) i d).0 ≡ None
once_push_at es e d i once new within (inl is) =
    ap (λ (x : List ℕ × ℕ). found (take i (es ++ e ∷ [])) x.0) (get_or_at es e [] d i (sym is)) ∙ ap (λ (xs : List (List ℕ × ℕ)). found xs e.0) (take_at es (e ∷ []) i (sym is)) ∙ new
once_push_at es e d i once new within (inr ne) =
    let inside : i < length es = omega (arith, within, ne) in
    ap (λ (x : List ℕ × ℕ). found (take i (es ++ e ∷ [])) x.0) (get_or_append_left es (e ∷ []) d i inside)
    ∙ ap (λ (xs : List (List ℕ × ℕ)). found xs (get_or es i d).0) (take-append-le i es (e ∷ []) (omega (arith, inside)))
    ∙ once i d inside

pub once_push : (es : List (List ℕ × ℕ)) (e : List ℕ × ℕ) → IsEachOnce es → found es e.0 ≡ None → IsEachOnce (es ++ e ∷ [])
once_push es e once new = λ i d within. once_push_at es e d i once new (omega (arith, length_push es e, within)) (cases_eq i (length es))

pub once_take : (es : List (List ℕ × ℕ)) (n : ℕ) → IsEachOnce es → IsEachOnce (take n es)
once_take es n once = λ i d within.
    let below : i < n = omega (arith, length-take n es, within) in
    let inside : i < length es = omega (arith, length-take n es, within) in
    ap (λ (x : List ℕ × ℕ). found (take i (take n es)) x.0) (get_or-take n es i d below)
    ∙ ap (λ (xs : List (List ℕ × ℕ)). found xs (get_or es i d).0) (take-take i n es (omega (arith, below)))
    ∙ once i d inside

pub hashes_push : (hashing : Hashing) (es : List (List ℕ × ℕ)) (e : List ℕ × ℕ) → hashes hashing (es ++ e ∷ []) ≡ hashes hashing es ++ hash_by hashing e.0 ∷ []
hashes_push hashing es e = map-append (λ (x : List ℕ × ℕ). hash_by hashing x.0) es (e ∷ [])

pub hashed_push : (hashing : Hashing) (known : Option (List ℕ)) (es : List (List ℕ × ℕ)) (e : List ℕ × ℕ) → IsHashed hashing known es → IsHashed hashing (option_map (λ all. all ++ hash_by hashing e.0 ∷ []) known) (es ++ e ∷ [])
hashed_push hashing None es e is = tt
hashed_push hashing (Some all) es e is = ap (λ (hs : List ℕ). hs ++ hash_by hashing e.0 ∷ []) is ∙ sym (hashes_push hashing es e)

pub hashed_take : (hashing : Hashing) (known : Option (List ℕ)) (es : List (List ℕ × ℕ)) (n : ℕ) → IsHashed hashing known es → IsHashed hashing (option_map (take n) known) (take n es)
hashed_take hashing None es n is = tt
hashed_take hashing (Some all) es n is = ap (take n) is ∙ take-map (λ (x : List ℕ × ℕ). hash_by hashing x.0) n es

-- of the names up to the last place of its hash before the n-th, a name is found as of the first n
pub left_at : (hashing : Hashing) (es : List (List ℕ × ℕ)) (q : List ℕ) (hs : List ℕ) (h n : ℕ) (next : Option ℕ) → hs ≡ hashes hashing es → h ≡ hash_by hashing q → n ≤ length es → next ≡ latest h hs n
    → found (take (up_to next) es) q ≡ found (take n es) q
left_at hashing es q hs h n next known is within next_is =
    ap (λ o. found (take (up_to o) es) q) (next_is ∙ ap (λ k. latest k hs n) is ∙ ap (λ (xs : List ℕ). latest (hash_by hashing q) xs n) known) ∙ sym (found_latest hashing es q n within)

pub here_at : (hashing : Hashing) (es : List (List ℕ × ℕ)) (q : List ℕ) (hs : List ℕ) (h n : ℕ) (next : Option ℕ) → hs ≡ hashes hashing es → h ≡ hash_by hashing q → n ≤ length es → next ≡ latest h hs n
    → (p : ℕ) → next ≡ Some p → (p < n) × (get_or (hashes hashing es) p 0 ≡ hash_by hashing q)
here_at hashing es q hs h n next known is within next_is p some =
    latest_at (hash_by hashing q) (hashes hashing es) n p (sym (ap (λ (xs : List ℕ). latest (hash_by hashing q) xs n) known) ∙ sym (ap (λ k. latest k hs n) is) ∙ sym next_is ∙ some)

pub length_hashes : (hashing : Hashing) (es : List (List ℕ × ℕ)) → length (hashes hashing es) ≡ length es
length_hashes hashing es = length-map es (λ (e : List ℕ × ℕ). hash_by hashing e.0)

-- the next place is before this one
pub less_at : (hash : ℕ) (hs : List ℕ) (n : ℕ) (next : Option ℕ) → next ≡ latest hash hs n → up_to next ≤ n
less_at hash hs n None is = omega arith
less_at hash hs n (Some p) is = omega (arith, (latest_at hash hs n p (sym is)).0)
