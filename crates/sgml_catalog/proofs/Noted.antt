-- Entries that are noted one by one are found where the search finds them.
use Rattle.std.proofs.Common.{◌≡◌, ℕ, suc, ◌+◌, ◌<◌, Bool, true, false, cond, ◌&&◌, ◌||◌, List, [], ◌∷◌, ◌++◌, length, take, get_or, find, map, Option, Some, None, refl, sym, ap, ◌∙◌, arith, length-take}
use Rattle.std.proofs.Math.Seq.{take-suc}
use Rattle.std.specs.List.{list_any, position_from}
use Rattle.std.specs.Option.{option_or}
use Rattle.std.specs.Str.{bytes_eq}
use Rattle.std.proofs.lemmas.Slice.Eq.{bytes_eq-Decides}
use Rattle.sgml_text.specs.Characters.{upper}
use Rattle.sgml_catalog.specs.declared.entry.Entry.{Entry}
use Rattle.sgml_catalog.specs.declared.entry.Sort.{Sort}
use Rattle.sgml_catalog.specs.declared.entry.Sort.TheVariants.{System, Public, General, Parameter, Doctype, Notation, Declaration}
use Rattle.sgml_catalog.specs.Keys.{Sought, same_key, same_sort, same_truth, found, first_name, is_folded, folded_names, names_of, is_in_force, holds_for, is_sought, some_if, IsIndexOf, Notes}

sort_is : (a b : Sort) → same_sort a b ≡ true → a ≡ b
sort_is System System is = refl
sort_is System Public is = cc
sort_is System General is = cc
sort_is System Parameter is = cc
sort_is System Doctype is = cc
sort_is System Notation is = cc
sort_is System Declaration is = cc
sort_is Public System is = cc
sort_is Public Public is = refl
sort_is Public General is = cc
sort_is Public Parameter is = cc
sort_is Public Doctype is = cc
sort_is Public Notation is = cc
sort_is Public Declaration is = cc
sort_is General System is = cc
sort_is General Public is = cc
sort_is General General is = refl
sort_is General Parameter is = cc
sort_is General Doctype is = cc
sort_is General Notation is = cc
sort_is General Declaration is = cc
sort_is Parameter System is = cc
sort_is Parameter Public is = cc
sort_is Parameter General is = cc
sort_is Parameter Parameter is = refl
sort_is Parameter Doctype is = cc
sort_is Parameter Notation is = cc
sort_is Parameter Declaration is = cc
sort_is Doctype System is = cc
sort_is Doctype Public is = cc
sort_is Doctype General is = cc
sort_is Doctype Parameter is = cc
sort_is Doctype Doctype is = refl
sort_is Doctype Notation is = cc
sort_is Doctype Declaration is = cc
sort_is Notation System is = cc
sort_is Notation Public is = cc
sort_is Notation General is = cc
sort_is Notation Parameter is = cc
sort_is Notation Doctype is = cc
sort_is Notation Notation is = refl
sort_is Notation Declaration is = cc
sort_is Declaration System is = cc
sort_is Declaration Public is = cc
sort_is Declaration General is = cc
sort_is Declaration Parameter is = cc
sort_is Declaration Doctype is = cc
sort_is Declaration Notation is = cc
sort_is Declaration Declaration is = refl

truth_is : (a b : Bool) → same_truth a b ≡ true → a ≡ b
truth_is true true is = refl
truth_is true false is = cc
truth_is false true is = cc
truth_is false false is = refl

both : (a b : Bool) → (a && b) ≡ true → (a ≡ true) × (b ≡ true)
both true true is = (refl, refl)
both true false is = cc
both false b is = cc

-- equal keys are one
key_is : (a b : Sought) → same_key a b ≡ true → a ≡ b
key_is a b is =
    let s = both (same_sort a.0 b.0) (same_truth a.1 b.1 && bytes_eq a.2 b.2) is in
    let t = both (same_truth a.1 b.1) (bytes_eq a.2 b.2) s.1 in
    let x = sort_is a.0 b.0 s.0 in
    let y = truth_is a.1 b.1 t.0 in
    let z : a.2 ≡ b.2 = (bytes_eq-Decides a.2 b.2).0 t.1 in
    λ i. (x i, y i, z i)

one_if : (b : Bool) (n : ℕ) → cond b (Some n) None ≡ some_if b n
one_if true n = refl
one_if false n = refl

past : (b : Bool) (v : ℕ) (x y : Option ℕ) → cond b (Some v) (option_or x y) ≡ option_or (cond b (Some v) x) y
past true v x y = refl
past false v x y = refl

found_last : (es : List (Sought × ℕ)) (k q : Sought) (n : ℕ) → found (es ++ (k, n) ∷ []) q ≡ option_or (found es q) (some_if (same_key q k) n)
found_last [] k q n = one_if (same_key q k) n
found_last (e ∷ es) k q n = ap (cond (same_key q e.0) (Some e.1)) (found_last es k q n) ∙ past (same_key q e.0) e.1 (found es q) (some_if (same_key q k) n)

-- a key that isn't there goes last
pub added : (old new : List (Sought × ℕ)) (k : Sought) (n : ℕ) → new ≡ old ++ (k, n) ∷ [] → Notes old new (λ q. same_key q k) n
added old new k n is q = ap (λ (es : List (Sought × ℕ)). found es q) is ∙ found_last old k q n

or_none : (x : Option ℕ) → x ≡ option_or x None
or_none None = refl
or_none (Some x) = refl

kept_by : (b : Bool) (x : Option ℕ) (m n : ℕ) → (b ≡ true → x ≡ Some m) → x ≡ option_or x (some_if b n)
kept_by true x m n h = let is = h refl in rw is refl
kept_by false x m n h = or_none x

-- a key that is there stays
pub kept : (old : List (Sought × ℕ)) (k : Sought) (m n : ℕ) → found old k ≡ Some m → Notes old old (λ q. same_key q k) n
kept old k m n there q = kept_by (same_key q k) (found old q) m n (λ same. ap (found old) (key_is q k same) ∙ there)

either : (x : Option ℕ) (a b c : Bool) (n : ℕ) → (a || b) ≡ c → option_or (option_or x (some_if a n)) (some_if b n) ≡ option_or x (some_if c n)
either (Some x) a b c n is = refl
either None true b c n is = rw (← is) refl
either None false b c n is = rw (← is) refl

-- two names of one entry
pub noted_both : (old mid new : List (Sought × ℕ)) (f g h : Sought → Bool) (n : ℕ) → Notes old mid f n → Notes mid new g n → ((q : Sought) → (f q || g q) ≡ h q) → Notes old new h n
noted_both old mid new f g h n first second same q = second q ∙ (ap (λ (x : Option ℕ). option_or x (some_if (g q) n)) (first q) ∙ either (found old q) (f q) (g q) (h q) n (same q))

pub noted_as : (old new : List (Sought × ℕ)) (f h : Sought → Bool) (n : ℕ) → Notes old new f n → ((q : Sought) → f q ≡ h q) → Notes old new h n
noted_as old new f h n first same q = first q ∙ ap (λ (b : Bool). option_or (found old q) (some_if b n)) (same q)

two_truths : (s q e : Bool) → ((s && (same_truth q false && e)) || (s && (same_truth q true && e))) ≡ (s && (is_in_force q true && e))
two_truths true true true = refl
two_truths true true false = refl
two_truths true false true = refl
two_truths true false false = refl
two_truths false q e = refl

one_truth : (s q e : Bool) → (s && (same_truth q false && e)) ≡ (s && (is_in_force q false && e))
one_truth true true e = refl
one_truth true false e = refl
one_truth false q e = refl

-- an entry under OVERRIDE YES has two keys for a name
pub over_yes : (sort : Sort) (name : List ℕ) (q : Sought) → (same_key q (sort, false, name) || same_key q (sort, true, name)) ≡ is_sought sort true name q
over_yes sort name q = two_truths (same_sort q.0 sort) q.1 (bytes_eq q.2 name)

pub over_no : (sort : Sort) (name : List ℕ) (q : Sought) → same_key q (sort, false, name) ≡ is_sought sort false name q
over_no sort name q = one_truth (same_sort q.0 sort) q.1 (bytes_eq q.2 name)

two_names : (s f a b : Bool) → ((s && (f && a)) || (s && (f && b))) ≡ (s && (f && (a || (b || false))))
two_names true true true b = refl
two_names true true false true = refl
two_names true true false false = refl
two_names true false a b = refl
two_names false f a b = refl

one_name : (s f a : Bool) → (s && (f && a)) ≡ (s && (f && (a || false)))
one_name true true true = refl
one_name true true false = refl
one_name true false a = refl
one_name false f a = refl

pub two_names_of : (e : Entry) (first second : List ℕ) → first ≡ first_name e.sort e.name → is_folded e.sort ≡ true → second ≡ map upper e.name → names_of e.sort e.name ≡ first ∷ second ∷ []
two_names_of e first second one folds two =
    ap (λ (n : List ℕ). n ∷ folded_names (is_folded e.sort) e.name) (sym one)
    ∙ (ap (λ (b : Bool). first ∷ folded_names b e.name) folds ∙ ap (λ (n : List ℕ). first ∷ n ∷ []) (sym two))

pub one_name_of : (e : Entry) (first : List ℕ) → first ≡ first_name e.sort e.name → is_folded e.sort ≡ false → names_of e.sort e.name ≡ first ∷ []
one_name_of e first one folds =
    ap (λ (n : List ℕ). n ∷ folded_names (is_folded e.sort) e.name) (sym one) ∙ ap (λ (b : Bool). first ∷ folded_names b e.name) folds

-- an entry that is folded has two names
pub named_twice : (e : Entry) (first second : List ℕ) (q : Sought) → names_of e.sort e.name ≡ first ∷ second ∷ [] → (is_sought e.sort e.over first q || is_sought e.sort e.over second q) ≡ holds_for q e
named_twice e first second q is =
    two_names (same_sort q.0 e.sort) (is_in_force q.1 e.over) (bytes_eq q.2 first) (bytes_eq q.2 second)
    ∙ ap (λ (ns : List (List ℕ)). same_sort q.0 e.sort && (is_in_force q.1 e.over && list_any (bytes_eq q.2) ns)) (sym is)

pub named_once : (e : Entry) (first : List ℕ) (q : Sought) → names_of e.sort e.name ≡ first ∷ [] → is_sought e.sort e.over first q ≡ holds_for q e
named_once e first q is =
    one_name (same_sort q.0 e.sort) (is_in_force q.1 e.over) (bytes_eq q.2 first)
    ∙ ap (λ (ns : List (List ℕ)). same_sort q.0 e.sort && (is_in_force q.1 e.over && list_any (bytes_eq q.2) ns)) (sym is)

position_last : (p : Entry → Bool) (i : ℕ) (xs : List Entry) (y : Entry) → position_from p i (xs ++ y ∷ []) ≡ option_or (position_from p i xs) (some_if (p y) (i + length xs))
position_last p i [] y = one_if (p y) i ∙ ap (some_if (p y)) (omega arith)
position_last p i (x ∷ xs) y =
    ap (cond (p x) (Some i)) (position_last p (i + 1) xs y ∙ ap (λ (n : ℕ). option_or (position_from p (i + 1) xs) (some_if (p y) n)) (omega arith))
    ∙ past (p x) i (position_from p (i + 1) xs) (some_if (p y) (i + length (x ∷ xs)))

-- one entry more
pub one_noted : (old new : List (Sought × ℕ)) (es : List Entry) (n : ℕ) (e d : Entry) → n < length es → e ≡ get_or es n d → IsIndexOf old (take n es) → Notes old new (λ q. holds_for q e) n → IsIndexOf new (take (n + 1) es)
one_noted old new es n e d lt is old_is notes q =
    let count : n ≡ 0 + length (take n es) = omega (arith, length-take n es) in
    let more : take (n + 1) es ≡ take n es ++ e ∷ [] = ap (λ (k : ℕ). take k es) {x = n + 1} {y = suc n} (omega arith) ∙ (take-suc es n d lt ∙ ap (λ (x : Entry). take n es ++ x ∷ []) (sym is)) in
    notes q
    ∙ (ap (λ (x : Option ℕ). option_or x (some_if (holds_for q e) n)) (old_is q)
    ∙ (ap (λ (k : ℕ). option_or (position_from (holds_for q) 0 (take n es)) (some_if (holds_for q e) k)) count
    ∙ (sym (position_last (holds_for q) 0 (take n es) e) ∙ ap (position_from (holds_for q) 0) (sym more))))

-- where the search finds an entry, counted from i
pub record StandsAt (p : Entry → Bool) (i n : ℕ) (es : List Entry) : Type 0 where
  pub place : ℕ
  pub number : n ≡ i + place
  pub within : place < length es
  pub stands : (d : Entry) → Some (get_or es place d) ≡ find p es

some_same : (a b : ℕ) → Some a ≡ Some b → a ≡ b
some_same a b is = cc

next_at : (e : Entry) (es : List Entry) (n : ℕ) (d : Entry) → get_or (e ∷ es) (n + 1) d ≡ get_or es n d
next_at e es n d = let k : n + 1 ≡ suc n = omega arith in ap (λ (m : ℕ). get_or (e ∷ es) m d) k

stands_here : (b : Bool) (p : Entry → Bool) (i n : ℕ) (e : Entry) (es : List Entry) → p e ≡ b → position_from p i (e ∷ es) ≡ Some n → (position_from p (i + 1) es ≡ Some n → StandsAt p (i + 1) n es) → StandsAt p i n (e ∷ es)
stands_here true p i n e es b is again =
    let first : Some i ≡ Some n = rw b at is in
    record { place = 0; number = omega (arith, some_same i n first); within = omega arith; stands = λ d. rw b refl }
stands_here false p i n e es b is again =
    let l = again (rw b at is) in
    record { place = l.place + 1; number = omega (arith, l.number); within = omega (arith, l.within); stands = λ d. ap Some (next_at e es l.place d) ∙ (l.stands d ∙ sym (past_one (p e) b)) }
  where
    past_one : (c : Bool) → c ≡ false → cond c (Some e) (find p es) ≡ find p es
    past_one c no_match = rw no_match refl

pub stands_at : (p : Entry → Bool) (i n : ℕ) (es : List Entry) → position_from p i es ≡ Some n → StandsAt p i n es
stands_at p i n [] is = cc
stands_at p i n (e ∷ es) is = stands_here (p e) p i n e es refl is (λ rest. stands_at p (i + 1) n es rest)

stands_none : (b : Bool) (p : Entry → Bool) (i : ℕ) (e : Entry) (es : List Entry) → p e ≡ b → position_from p i (e ∷ es) ≡ None → (position_from p (i + 1) es ≡ None → None ≡ find p es) → None ≡ find p (e ∷ es)
stands_none true p i e es b is again = let never : Some i ≡ None = rw b at is in cc
stands_none false p i e es b is again = let later : None ≡ find p es = again (rw b at is) in rw b later

pub stands_nowhere : (p : Entry → Bool) (i : ℕ) (es : List Entry) → position_from p i es ≡ None → None ≡ find p es
stands_nowhere p i [] is = refl
stands_nowhere p i (e ∷ es) is = stands_none (p e) p i e es refl is (λ rest. stands_nowhere p (i + 1) es rest)
