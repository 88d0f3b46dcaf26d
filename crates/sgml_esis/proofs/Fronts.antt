-- How few bytes, and those at the front that stand for themselves, are held.
use Rattle.std.proofs.Common.{◌≡◌, ℕ, ◌+◌, ◌-◌, ◌≤◌, ◌<◌, zero, suc, List, [], ◌∷◌, ◌++◌, Bool, true, false, ◌&&◌, cond, length, take, drop, get_or, refl, sym, ap, ◌∙◌, arith, append_assoc}
use Rattle.std.specs.List.{list_all, prefix_len}
use Rattle.std.proofs.lemmas.List.{take-take, length-take-le}
use Rattle.std.proofs.lemmas.Slice.{take-put_mid}
use borrow.Rule.Slice.PartMut.{put_mid}
use Rattle.std.proofs.Math.Seq.{take-append-add, take-add}
use Rattle.std.proofs.lemmas.List.Folds.{list_all-append}
use Rattle.sgml_esis.proofs.Tokens.{both}

one_more : (n : ℕ) → suc n ≡ 1 + n
one_more n = omega arith

pub prefix_stops : {X : Type 0} (p : X → Bool) (xs : List X) (n : ℕ) (d : X) → list_all p (take n xs) ≡ true → n < length xs → p (get_or xs n d) ≡ false → n ≡ prefix_len p xs
prefix_stops p [] n d a l s = absurd (omega (arith, l))
prefix_stops p (x ∷ xs) zero d a l s = sym (ap (λ t. cond t (1 + prefix_len p xs) 0) s)
prefix_stops p (x ∷ xs) (suc n) d a l s =
    let h = both (p x) (list_all p (take n xs)) a in
    ap suc (prefix_stops p xs n d h.1 (omega (arith, l)) s) ∙ one_more (prefix_len p xs) ∙ sym (ap (λ t. cond t (1 + prefix_len p xs) 0) h.0)

pub prefix_whole : {X : Type 0} (p : X → Bool) (xs : List X) (n : ℕ) → list_all p (take n xs) ≡ true → length xs ≤ n → n ≤ length xs → n ≡ prefix_len p xs
prefix_whole p [] zero a l m = refl
prefix_whole p [] (suc n) a l m = absurd (omega (arith, m))
prefix_whole p (x ∷ xs) zero a l m = absurd (omega (arith, l))
prefix_whole p (x ∷ xs) (suc n) a l m =
    let h = both (p x) (list_all p (take n xs)) a in
    ap suc (prefix_whole p xs n h.1 (omega (arith, l)) (omega (arith, m))) ∙ one_more (prefix_len p xs) ∙ sym (ap (λ t. cond t (1 + prefix_len p xs) 0) h.0)

-- few bytes behind those that are held: the whole of their room is copied, and what is past them isn't held
pub short_held : (bytes room short : List ℕ) (used n len : ℕ) → used + 24 ≤ length bytes → length room ≡ 24 → len ≡ length short → len ≤ 24 → take (length short) room ≡ short → take (used + len) (put_mid used n bytes room) ≡ take used bytes ++ short
short_held bytes room short used n len fits full is within front =
    let long : length (take used bytes) ≡ used = length-take-le used bytes (omega (arith, fits)) in
    let cut : take (used + 24) (put_mid used n bytes room) ≡ take used bytes ++ room = take-put_mid used n bytes room (used + 24) (ap (λ k. used + k) (sym full)) (omega (arith, fits)) in
    sym (take-take (used + len) (used + 24) (put_mid used n bytes room) (omega (arith, within)))
    ∙ ap (take (used + len)) cut
    ∙ ap (λ k. take (k + len) (take used bytes ++ room)) (sym long)
    ∙ take-append-add (take used bytes) room len
    ∙ ap (λ k. take used bytes ++ take k room) is
    ∙ ap (λ v. take used bytes ++ v) front

-- the bytes at the front are those of a stretch, and those behind it
pub prefix_past : {X : Type 0} (p : X → Bool) (xs : List X) (n : ℕ) → list_all p (take n xs) ≡ true → n ≤ length xs → n + prefix_len p (drop n xs) ≡ prefix_len p xs
prefix_past p xs zero a l = omega arith
prefix_past p [] (suc n) a l = absurd (omega (arith, l))
prefix_past p (x ∷ xs) (suc n) a l =
    let h = both (p x) (list_all p (take n xs)) a in
    one_past n (prefix_len p (drop n xs)) ∙ ap suc (prefix_past p xs n h.1 (omega (arith, l))) ∙ one_more (prefix_len p xs) ∙ sym (ap (λ t. cond t (1 + prefix_len p xs) 0) h.0)
  where
    one_past : (n m : ℕ) → suc n + m ≡ suc (n + m)
    one_past n m = omega arith

-- eight more
pub all_more : {X : Type 0} (p : X → Bool) (xs : List X) (n k : ℕ) → list_all p (take n xs) ≡ true → list_all p (take k (drop n xs)) ≡ true → list_all p (take (n + k) xs) ≡ true
all_more p xs n k a b = ap (list_all p) (take-add n k xs) ∙ list_all-append p (take n xs) (take k (drop n xs)) ∙ ap (λ t. t && list_all p (take k (drop n xs))) a ∙ b

pub held_more : (h : List ℕ × Bool) (xs : List ℕ) (n k : ℕ) (i j : List ℕ × Bool) → i ≡ (h.0 ++ take n xs, h.1) → j ≡ (i.0 ++ take k (drop n xs), i.1) → j ≡ (h.0 ++ take (n + k) xs, h.1)
held_more h xs n k i j e f =
    f ∙ ap (λ (x : List ℕ × Bool). (x.0 ++ take k (drop n xs), x.1)) e
    ∙ ap (λ (v : List ℕ). (v, h.1)) (append_assoc h.0 (take n xs) (take k (drop n xs)) ∙ ap (λ v. h.0 ++ v) (sym (take-add n k xs)))
