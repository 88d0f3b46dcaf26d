-- Lists of names with their numbers.
use Rattle.std.proofs.Common.{◌≡◌, ℕ, suc, Bool, true, false, cond, ◌+◌, ◌||◌, List, [], ◌∷◌, ◌++◌, Option, Some, refl, ap, ◌∙◌, length, is_some, arith, if◌then◌else◌}
use Rattle.std.specs.Str.{bytes_eq}
use Rattle.sgml_names.specs.Index.{found, names_of}
use Rattle.sgml_names.specs.Lists.{has, number_from, numbered}

pub numbered-append : (n : ℕ) (xs ys : List (List ℕ)) → numbered n (xs ++ ys) ≡ numbered n xs ++ numbered (n + length xs) ys
numbered-append n [] ys = ap (λ (k : ℕ). numbered k ys) (omega arith)
numbered-append n (x ∷ xs) ys =
    let more : (n + 1) + length xs ≡ n + length (x ∷ xs) = omega arith in
    ap (λ (es : List (List ℕ × ℕ)). (x, n) ∷ es) (numbered-append (n + 1) xs ys ∙ ap (λ (k : ℕ). numbered (n + 1) xs ++ numbered k ys) more)

pub length-numbered : (n : ℕ) (xs : List (List ℕ)) → length (numbered n xs) ≡ length xs
length-numbered n [] = refl
length-numbered n (x ∷ xs) = ap suc (length-numbered (n + 1) xs)

pub names_of-numbered : (n : ℕ) (xs : List (List ℕ)) → names_of (numbered n xs) ≡ xs
names_of-numbered n [] = refl
names_of-numbered n (x ∷ xs) = ap (λ (ys : List (List ℕ)). x ∷ ys) (names_of-numbered (n + 1) xs)

-- a look-up among the numbered names is the search
pub found-numbered : (n : ℕ) (xs : List (List ℕ)) (name : List ℕ) → found (numbered n xs) name ≡ number_from n xs name
found-numbered n [] name = refl
found-numbered n (x ∷ xs) name = ap (cond (bytes_eq name x) (Some n)) (found-numbered (n + 1) xs name)

has_here : (b : Bool) (n : ℕ) (r : Option ℕ) (c : Bool) → is_some r ≡ c → is_some (if b then Some n else r) ≡ (b || c)
has_here true n r c is = refl
has_here false n r c is = is

-- a name is found among the numbered names where it is one of them
pub found-has : (n : ℕ) (xs : List (List ℕ)) (name : List ℕ) → is_some (found (numbered n xs) name) ≡ has xs name
found-has n [] name = refl
found-has n (x ∷ xs) name = has_here (bytes_eq name x) n (found (numbered (n + 1) xs) name) (has xs name) (found-has (n + 1) xs name)
