-- The search for an open element, from the innermost one out.
use Rattle.std.proofs.Common.{◌≡◌, ℕ, suc, ◌+◌, ◌-◌, ◌<◌, ◌==◌, Bool, true, false, List, [], ◌∷◌, ◌++◌, Option, Some, None, option_map, map, reverse, length, take, refl, sym, ap, ◌∙◌, subst, arith, All}
use Rattle.std.specs.Prelude.{if◌then◌else◌}
use Rattle.std.specs.Str.{bytes_eq}
use Rattle.std.specs.List.{slice_index_or}
use Rattle.std.proofs.lemmas.List.{map-append, reverse-append, take_more, length-reverse}
use Rattle.std.proofs.lemmas.List.Elements.{All-head, All-tail, All-nil, All-push}
use Rattle.std.proofs.lemmas.Bool.Decides.{nat_tests}
use Rattle.sgml_dtd_elements.specs.Types.{types}
use Rattle.sgml_dtd_elements.specs.Laws.{AreDistinct}
use Rattle.sgml_dtd.specs.Doctypes.{Doctype}
use Rattle.sgml_theory_reading.specs.Pieces.{End, Tag, Short, Net}
use Rattle.sgml_theory_reading.specs.Context as reading
use Rattle.sgml_theory_reading.specs.Omission.{counted, inside_of_first, inside_of_ended}
use Rattle.sgml_infer.specs.Tables.{name_in, name_at, IsNumber}
use Rattle.sgml_infer.specs.declared.level.Level.{Level}
use Rattle.sgml_infer.specs.Trees.{level_of, levels_of, IsLevel}
use Rattle.sgml_infer.specs.Seen.{inside_where, context_at}
use Rattle.sgml_infer.proofs.Numbers.{found-at, one-number}

abbrev pub behind : ℕ → Option ℕ → Option ℕ
behind k o = option_map (λ n. n + k) o

behind-counted : (k : ℕ) (o : Option ℕ) → behind k (counted false o) ≡ behind (k + 1) o
behind-counted k None = refl
behind-counted k (Some n) = let e : suc n + k ≡ n + (k + 1) = omega arith in ap Some e

last-of : (xs : List Level) (m : ℕ) (l : Level) (test : Level → Bool) → m < length xs → l ≡ slice_index_or xs m l → inside_where test (reverse (take (m + 1) xs)) ≡ counted (test l) (inside_where test (reverse (take m xs)))
last-of xs m l test h g =
    ap (λ (ys : List Level). inside_where test (reverse ys)) (take_more xs m l h ∙ ap (λ x. take m xs ++ x ∷ []) (sym g))
    ∙ ap (inside_where test) (reverse-append (take m xs) (l ∷ []))

pub search-on : (xs : List Level) (n k : ℕ) (l : Level) (test : Level → Bool) (all : Option ℕ) → n ≡ length xs → k < n → l ≡ slice_index_or xs (n - 1 - k) l → test l ≡ false → all ≡ behind k (inside_where test (reverse (take (n - k) xs))) → all ≡ behind (k + 1) (inside_where test (reverse (take (n - (k + 1)) xs)))
search-on xs n k l test all e h g f a =
    let m : n - k ≡ n - 1 - k + 1 = omega arith in
    let q : n - (k + 1) ≡ n - 1 - k = omega arith in
    let r : n - 1 - k < length xs = omega arith in
    a ∙ (ap (λ i. behind k (inside_where test (reverse (take i xs)))) m
    ∙ (ap (behind k) (last-of xs (n - 1 - k) l test r g ∙ ap (λ b. counted b (inside_where test (reverse (take (n - 1 - k) xs)))) f)
    ∙ (behind-counted k _ ∙ ap (λ i. behind (k + 1) (inside_where test (reverse (take i xs)))) (sym q))))

pub search-found : (xs : List Level) (n k : ℕ) (l : Level) (test : Level → Bool) (all : Option ℕ) → n ≡ length xs → k < n → l ≡ slice_index_or xs (n - 1 - k) l → test l ≡ true → all ≡ behind k (inside_where test (reverse (take (n - k) xs))) → Some k ≡ all
search-found xs n k l test all e h g f a =
    let m : n - k ≡ n - 1 - k + 1 = omega arith in
    let r : n - 1 - k < length xs = omega arith in
    let z : 0 + k ≡ k = omega arith in
    sym (a ∙ (ap (λ i. behind k (inside_where test (reverse (take i xs)))) m
    ∙ (ap (behind k) (last-of xs (n - 1 - k) l test r g ∙ ap (λ b. counted b (inside_where test (reverse (take (n - 1 - k) xs)))) f) ∙ ap Some z)))

-- FROM NUMBERS TO NAMES

first-reversed : {A B : Type 0} (f : A → B) (xs : List A) → reverse (map f xs) ≡ map f (reverse xs)
first-reversed f [] = refl
first-reversed f (x ∷ xs) =
    reverse-append (f x ∷ []) (map f xs)
    ∙ (ap (λ ys. ys ++ f x ∷ []) (first-reversed f xs)
    ∙ (sym (map-append f (reverse xs) (x ∷ [])) ∙ ap (map f) (sym (reverse-append (x ∷ []) xs))))

same-test : (t : Doctype) (i j : ℕ) → AreDistinct t.elements → IsNumber t i → IsNumber t j → bytes_eq (name_at t i) (name_at t j) ≡ (i == j)
same-test t i j d p q =
    let e = found-at (types t.elements) i p in
    let f = found-at (types t.elements) j q in
    (λ k. bytes_eq (name_in (e.1 k)) (name_in (f.1 k))) ∙ one-number t.elements i j e.0 f.0 d e.1 f.1

named-first : (t : Doctype) (i : ℕ) → AreDistinct t.elements → IsNumber t i → (ls : List Level) → All (IsLevel t) ls →
    inside_of_first (λ (l : reading.Level). bytes_eq (name_at t i) l.element) (map (level_of t) ls) ≡ inside_where (λ (l : Level). i == l.element) ls
named-first t i d p [] a = refl
named-first t i d p (l ∷ ls) a =
    λ k. counted (same-test t i l.element d p (All-head (IsLevel t) l ls a).number k) (named-first t i d p ls (All-tail (IsLevel t) l ls a) k)

slash-first : (t : Doctype) (ls : List Level) → inside_of_first (λ (l : reading.Level). l.slash) (map (level_of t) ls) ≡ inside_where (λ (l : Level). l.slash) ls
slash-first t [] = refl
slash-first t (l ∷ ls) = ap (counted l.slash) (slash-first t ls)

pub inside-named : (t : Doctype) (ls : List Level) (b : Bool) (i : ℕ) → AreDistinct t.elements → IsNumber t i → All (IsLevel t) (reverse ls) →
    inside_where (λ (l : Level). i == l.element) (reverse ls) ≡ inside_of_ended (context_at t ls b) (End (name_at t i) Tag)
unfolding inside_of_ended
inside-named t ls b i d p a =
    sym (ap (inside_of_first (λ (l : reading.Level). bytes_eq (name_at t i) l.element)) (first-reversed (level_of t) ls) ∙ named-first t i d p (reverse ls) a)

pub inside-enabling : (t : Doctype) (ls : List Level) (b : Bool) → inside_where (λ (l : Level). l.slash) (reverse ls) ≡ inside_of_ended (context_at t ls b) (End [] Net)
unfolding inside_of_ended
inside-enabling t ls b = sym (ap (inside_of_first (λ (l : reading.Level). l.slash)) (first-reversed (level_of t) ls) ∙ slash-first t (reverse ls))

pub all-reversed : (t : Doctype) (ls : List Level) → All (IsLevel t) ls → All (IsLevel t) (reverse ls)
all-reversed t [] a = All-nil (IsLevel t)
all-reversed t (l ∷ ls) a =
    subst (All (IsLevel t)) (sym (reverse-append (l ∷ []) ls))
    (All-push (IsLevel t) (reverse ls) l (all-reversed t ls (All-tail (IsLevel t) l ls a)) (All-head (IsLevel t) l ls a))

-- the innermost of all
first-of-all : (t : Doctype) (ls : List Level) → inside_of_first (λ (l : reading.Level). true) (map (level_of t) ls) ≡ (if length ls == 0 then None else Some 0)
first-of-all t [] = refl
first-of-all t (l ∷ ls) = ap (λ b. if b then None else Some 0) (sym (not-zero (length ls)))
  where
    not-zero : (n : ℕ) → (suc n == 0) ≡ false
    not-zero n = grind (arith, nat_tests)

innermost-of-all : (t : Doctype) (ls : List Level) → inside_of_first (λ (l : reading.Level). true) (levels_of t ls) ≡ (if length ls == 0 then None else Some 0)
innermost-of-all t ls =
    ap (inside_of_first (λ (l : reading.Level). true)) (first-reversed (level_of t) ls)
    ∙ (first-of-all t (reverse ls) ∙ ap (λ n. if n == 0 then None else Some 0) (length-reverse ls))

pub inside-empty : (t : Doctype) (ls : List Level) (b : Bool) → (length ls == 0) ≡ true → None ≡ inside_of_ended (context_at t ls b) (End [] Short)
unfolding inside_of_ended
inside-empty t ls b h = sym (innermost-of-all t ls ∙ ap (λ c. if c then None else Some 0) h)

pub inside-some : (t : Doctype) (ls : List Level) (b : Bool) → (length ls == 0) ≡ false → Some 0 ≡ inside_of_ended (context_at t ls b) (End [] Short)
unfolding inside_of_ended
inside-some t ls b h = sym (innermost-of-all t ls ∙ ap (λ c. if c then None else Some 0) h)
