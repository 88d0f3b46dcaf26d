-- A name that is folded is a name, and folded once.
use Rattle.std.proofs.Common.{◌≡◌, ℕ, suc, Bool, true, false, ◌+◌, ◌-◌, ◌&&◌, List, [], ◌∷◌, map, cond, length, take, nat_lt, refl, sym, ap, subst, ◌∙◌, arith}
use Rattle.std.specs.List.{list_all, prefix_len}
use Rattle.std.proofs.lemmas.Bool.Decides.{nat_tests}
use Rattle.sgml_theory_full.specs.text.Characters.{is_letter, upper}
use Rattle.sgml_theory_full.specs.text.declared.name_set.NameSet.{NameSet}
use Rattle.sgml_theory_full.specs.text.NameCharacters.{is_name_start, is_name_character, is_name_of}
use Rattle.sgml_theory_full.specs.names.Naming.{cased}

pub true-false : {P : Type 0} → true ≡ false → P
true-false e = absurd (cc)

pub both : (a b : Bool) → (a && b) ≡ true → (a ≡ true) × (b ≡ true)
both true b e = (refl, e)
both false b e = true-false (sym e)

pub and : (a b : Bool) → a ≡ true → b ≡ true → (a && b) ≡ true
and a b e f = rw e f

-- a letter in upper case is a letter, and other bytes stay
lower-letter : (b : ℕ) → nat_lt b 97 ≡ false → nat_lt b 123 ≡ true → is_letter (b - 32) ≡ true
lower-letter b h k = grind (arith, nat_tests)

by-upper : (p : ℕ → Bool) (b : ℕ) (s t : Bool) → nat_lt b 97 ≡ s → nat_lt b 123 ≡ t → ((c : ℕ) → is_letter c ≡ true → p c ≡ true) → p b ≡ true → p (cond s b (cond t (b - 32) b)) ≡ true
by-upper p b true t h k f e = e
by-upper p b false true h k f e = f (b - 32) (lower-letter b h k)
by-upper p b false false h k f e = e

upper-is : (p : ℕ → Bool) (b : ℕ) → ((c : ℕ) → is_letter c ≡ true → p c ≡ true) → p b ≡ true → p (upper b) ≡ true
upper-is p b f e = by-upper p b (nat_lt b 97) (nat_lt b 123) refl refl f e

letter-starts : (names : NameSet) (c : ℕ) → is_letter c ≡ true → is_name_start names c ≡ true
letter-starts names c e = rw e refl

letter-goes : (names : NameSet) (c : ℕ) → is_letter c ≡ true → is_name_character names c ≡ true
letter-goes names c e = rw e refl

upper-characters : (names : NameSet) (bytes : List ℕ) → list_all (is_name_character names) bytes ≡ true → list_all (is_name_character names) (map upper bytes) ≡ true
upper-characters names [] e = refl
upper-characters names (b ∷ bytes) e =
    let p = both (is_name_character names b) (list_all (is_name_character names) bytes) e in
    and (is_name_character names (upper b)) (list_all (is_name_character names) (map upper bytes))
    (upper-is (is_name_character names) b (letter-goes names) p.0) (upper-characters names bytes p.1)

upper-name : (names : NameSet) (name : List ℕ) → is_name_of names name ≡ true → is_name_of names (map upper name) ≡ true
upper-name names [] e = e
upper-name names (b ∷ bytes) e =
    let p = both (is_name_start names b) (list_all (is_name_character names) bytes) e in
    and (is_name_start names (upper b)) (list_all (is_name_character names) (map upper bytes))
    (upper-is (is_name_start names) b (letter-starts names) p.0) (upper-characters names bytes p.1)

pub cased-name : (fold : Bool) (names : NameSet) (name : List ℕ) → is_name_of names name ≡ true → is_name_of names (cased fold name) ≡ true
cased-name true names name e = upper-name names name e
cased-name false names name e = e

-- once
upper-by : (b : ℕ) (s t : Bool) → nat_lt b 97 ≡ s → nat_lt b 123 ≡ t → upper (cond s b (cond t (b - 32) b)) ≡ cond s b (cond t (b - 32) b)
upper-by b true t h k = ap (λ x. cond x b (cond (nat_lt b 123) (b - 32) b)) h
upper-by b false true h k =
    let low : nat_lt (b - 32) 97 ≡ true = grind (arith, nat_tests) in
    ap (λ x. cond x (b - 32) (cond (nat_lt (b - 32) 123) (b - 32 - 32) (b - 32))) low
upper-by b false false h k = ap (λ x. cond x b (cond (nat_lt b 123) (b - 32) b)) h ∙ ap (λ x. cond x (b - 32) b) k

upper-once : (b : ℕ) → upper (upper b) ≡ upper b
upper-once b = upper-by b (nat_lt b 97) (nat_lt b 123) refl refl

all-once : (name : List ℕ) → map upper (map upper name) ≡ map upper name
all-once [] = refl
all-once (b ∷ bytes) = ap (λ c. c ∷ map upper (map upper bytes)) (upper-once b) ∙ ap (λ cs. upper b ∷ cs) (all-once bytes)

pub cased-once : (fold : Bool) (name : List ℕ) → cased fold (cased fold name) ≡ cased fold name
cased-once true name = all-once name
cased-once false name = refl

-- of the same length
all-long : (name : List ℕ) → length (map upper name) ≡ length name
all-long [] = refl
all-long (b ∷ bytes) = ap suc (all-long bytes)

pub cased-long : (fold : Bool) (name : List ℕ) → length (cased fold name) ≡ length name
cased-long true name = all-long name
cased-long false name = refl

-- A NAME that stands at the front of a text
front-by : (p : ℕ → Bool) (b : ℕ) (xs : List ℕ) (t : Bool) → p b ≡ t → list_all p (take (prefix_len p xs) xs) ≡ true → list_all p (take (prefix_len p (b ∷ xs)) (b ∷ xs)) ≡ true
front-by p b xs true is again =
    let same : suc (prefix_len p xs) ≡ 1 + prefix_len p xs = omega arith in
    rw is (subst (λ (n : ℕ). list_all p (take n (b ∷ xs)) ≡ true) same (rw is again))
front-by p b xs false is again = rw is refl

pub all-front : (p : ℕ → Bool) (xs : List ℕ) → list_all p (take (prefix_len p xs) xs) ≡ true
all-front p [] = refl
all-front p (b ∷ xs) = front-by p b xs (p b) refl (all-front p xs)

pub front-name : (names : NameSet) (b : ℕ) (bytes : List ℕ) → is_name_start names b ≡ true → is_name_of names (take (1 + prefix_len (is_name_character names) bytes) (b ∷ bytes)) ≡ true
front-name names b bytes e =
    let n = prefix_len (is_name_character names) bytes in
    let k : 1 + n ≡ suc n = omega arith in
    subst (λ m. is_name_of names (take m (b ∷ bytes)) ≡ true) (sym k)
    (and (is_name_start names b) (list_all (is_name_character names) (take n bytes)) e (all-front (is_name_character names) bytes))
