-- Names that stand twice, and tables of names.
use Rattle.std.proofs.Common.{◌≡◌, ◌≤◌, ℕ, Bool, true, false, ◌||◌, length, get_or, arith, List, [], ◌∷◌, ◌++◌, Option, Some, None, refl, sym, ap, ◌∙◌, cond, is_some, append_assoc}
use Rattle.std.proofs.lemmas.List.{append-nil, map-append}
use Rattle.std.specs.Prelude.{Result, Ok, Err, IfOk}
use Rattle.std.specs.List.{list_any}
use Rattle.std.specs.Str.{bytes_eq}
use Rattle.sgml_names.specs.Index.{found}
use Rattle.sgml_names.specs.Lists.{has}
use Rattle.sgml_names.specs.Lists.{repeats}
use Rattle.sgml_names.specs.Index.{names_of}

found_here : (b : Bool) (n : ℕ) (r : Option ℕ) (h : Bool) → is_some r ≡ h → is_some (cond b (Some n) r) ≡ (b || h)
found_here true n r h e = refl
found_here false n r h e = e

-- a name is found exactly where it is one of the table's
pub found_has : (table : List (List ℕ × ℕ)) (q : List ℕ) → is_some (found table q) ≡ has (names_of table) q
found_has [] q = refl
found_has (e ∷ es) q = found_here (bytes_eq q e.0) e.1 (found es q) (has (names_of es) q) (found_has es q)

pub names_push : (table : List (List ℕ × ℕ)) (q : List ℕ) (n : ℕ) → names_of (table ++ (q, n) ∷ []) ≡ names_of table ++ q ∷ []
names_push table q n = map-append (λ (e : List ℕ × ℕ). e.0) table ((q, n) ∷ [])

or_assoc : (x y z : Bool) → (x || (y || z)) ≡ ((x || y) || z)
or_assoc true y z = refl
or_assoc false y z = refl

pub has-append : (a b : List (List ℕ)) (q : List ℕ) → has (a ++ b) q ≡ (has a q || has b q)
has-append [] b q = refl
has-append (x ∷ a) b q = ap (λ (r : Bool). bytes_eq q x || r) (has-append a b q) ∙ or_assoc (bytes_eq q x) (has a q) (has b q)

-- first the one names, then the others
pub repeats_append : (before xs ys : List (List ℕ)) → repeats before (xs ++ ys) ≡ (repeats before xs || repeats (before ++ xs) ys)
repeats_append before [] ys = ap (λ (b : List (List ℕ)). repeats b ys) (sym (append-nil before))
repeats_append before (x ∷ xs) ys =
    ap (λ (r : Bool). has before x || r) (repeats_append (before ++ x ∷ []) xs ys)
    ∙ or_assoc (has before x) (repeats (before ++ x ∷ []) xs) (repeats ((before ++ x ∷ []) ++ xs) ys)
    ∙ ap (λ (b : List (List ℕ)). (has before x || repeats (before ++ x ∷ []) xs) || repeats b ys) (append_assoc before (x ∷ []) xs)

crossed : (hb hc any r : Bool) → ((hb || hc) || (any || r)) ≡ ((hb || any) || (hc || r))
crossed true hc any r = refl
crossed false true true r = refl
crossed false true false r = refl
crossed false false any r = refl

-- a name is one of those before, or repeats one of the others
pub repeats-joined : (b c ns : List (List ℕ)) → repeats (b ++ c) ns ≡ (list_any (has b) ns || repeats c ns)
repeats-joined b c [] = refl
repeats-joined b c (n ∷ ns) =
    ap (λ (h : Bool). h || repeats ((b ++ c) ++ n ∷ []) ns) (has-append b c n)
    ∙ ap (λ (a : List (List ℕ)). (has b n || has c n) || repeats a ns) (append_assoc b c (n ∷ []))
    ∙ ap (λ (r : Bool). (has b n || has c n) || r) (repeats-joined b (c ++ n ∷ []) ns)
    ∙ crossed (has b n) (has c n) (list_any (has b) ns) (repeats (c ++ n ∷ []) ns)

pub repeats_alone : (b ns : List (List ℕ)) → repeats b ns ≡ (list_any (has b) ns || repeats [] ns)
repeats_alone b ns = ap (λ (a : List (List ℕ)). repeats a ns) (sym (append-nil b)) ∙ repeats-joined b [] ns

neither : (x y : Bool) → (x || y) ≡ false → (x ≡ false) × (y ≡ false)
neither true y e = cc
neither false y e = (refl, e)

none_found : (r : Option ℕ) → is_some r ≡ false → r ≡ None
none_found None e = refl
none_found (Some n) e = cc

-- where no name repeats one of the table's, the first isn't found, and the others don't repeat it
pub first_new : (table : List (List ℕ × ℕ)) (n : List ℕ) (ns : List (List ℕ)) → repeats (names_of table) (n ∷ ns) ≡ false → found table n ≡ None
first_new table n ns e = none_found (found table n) (found_has table n ∙ (neither (has (names_of table) n) (repeats (names_of table ++ n ∷ []) ns) e).0)

pub rest_new : (table : List (List ℕ × ℕ)) (n : List ℕ) (ns : List (List ℕ)) (k : ℕ) → repeats (names_of table) (n ∷ ns) ≡ false → repeats (names_of (table ++ (n, k) ∷ [])) ns ≡ false
rest_new table n ns k e =
    ap (λ (b : List (List ℕ)). repeats b ns) (names_push table n k) ∙ (neither (has (names_of table) n) (repeats (names_of table ++ n ∷ []) ns) e).1

pub at_first : (table : List (List ℕ × ℕ)) (rest : List (List ℕ)) (n : List ℕ) → repeats (names_of table) rest ≡ false → 1 ≤ length rest → n ≡ get_or rest 0 n → found table n ≡ None
at_first table [] n e long is = absurd (omega arith)
at_first table (m ∷ rest) n e long is = ap (found table) is ∙ first_new table m rest e

-- a table that finds a name has it
pub any_has : (table : List (List ℕ × ℕ)) (names : List (List ℕ)) → list_any (λ name. is_some (found table name)) names ≡ list_any (has (names_of table)) names
any_has table [] = refl
any_has table (n ∷ ns) = ap (λ (b : Bool). b || list_any (λ name. is_some (found table name)) ns) (found_has table n) ∙ ap (λ (b : Bool). has (names_of table) n || b) (any_has table ns)

pub one_before : (b ns : List (List ℕ)) → true ≡ list_any (has b) ns → true ≡ repeats b ns
one_before b ns e = ap (λ (x : Bool). x || repeats [] ns) e ∙ sym (repeats_alone b ns)

pub none_before : (b ns : List (List ℕ)) → false ≡ list_any (has b) ns → repeats [] ns ≡ repeats b ns
none_before b ns e = ap (λ (x : Bool). x || repeats [] ns) e ∙ sym (repeats_alone b ns)

pub if_ok : {E : Type 0} (r : Result Bool E) (a b : Bool) → IfOk r (λ x. x ≡ a) → a ≡ b → IfOk r (λ x. x ≡ b)
if_ok (Ok x) a b h e = h ∙ e
if_ok (Err x) a b h e = tt
