-- The table of names follows the lists.
use Rattle.std.proofs.Common.{◌≡◌, ◌<◌, ◌^◌, ℕ, suc, Bool, true, false, ◌+◌, ◌||◌, List, [], ◌∷◌, ◌++◌, Option, Some, None, refl, sym, ap, ◌∙◌, cond, if◌then◌else◌, append_assoc, length, length-append, arith}
use Rattle.std.proofs.lemmas.List.{append-nil, map-append}
use Rattle.std.specs.Prelude.{IfSome}
use Rattle.std.specs.Str.{bytes_eq}
use Rattle.sgml_names.specs.Index.{found, names_of}
use Rattle.sgml_names.specs.Lists.{has, with_number}
use Rattle.sgml_dtd_attlists.specs.declared.list.AttributeList.{AttributeList}
use Rattle.sgml_dtd_attlists.specs.Tables.{list_from, list_of, listed}
use Rattle.sgml_dtd_attlists.specs.Numbered.{numbered, AreNumbered}

one_of : (b h : Bool) (n : ℕ) (r : Option ℕ) (rest : Option ℕ) → rest ≡ (if h then Some n else r) → cond b (Some n) rest ≡ (if b || h then Some n else r)
one_of true h n r rest e = refl
one_of false h n r rest e = e

found-with : (n : ℕ) (names : List (List ℕ)) (es : List (List ℕ × ℕ)) (q : List ℕ) (r : Option ℕ) → found es q ≡ r → found (with_number n names ++ es) q ≡ (if has names q then Some n else r)
found-with n [] es q r e = e
found-with n (x ∷ xs) es q r e = one_of (bytes_eq q x) (has xs q) n r (found (with_number n xs ++ es) q) (found-with n xs es q r e)

-- a look-up in the table is the search among the lists
pub found-numbered : (n : ℕ) (lists : List AttributeList) (q : List ℕ) → found (numbered n lists) q ≡ list_from n lists q
found-numbered n [] q = refl
found-numbered n (l ∷ ls) q = found-with n l.names (numbered (n + 1) ls) q (list_from (n + 1) ls q) (found-numbered (n + 1) ls q)

names_with : (n : ℕ) (names : List (List ℕ)) → names_of (with_number n names) ≡ names
names_with n [] = refl
names_with n (x ∷ xs) = ap (λ (r : List (List ℕ)). x ∷ r) (names_with n xs)

-- the table's names are the element types that have a list
pub names-numbered : (n : ℕ) (lists : List AttributeList) → names_of (numbered n lists) ≡ listed lists
names-numbered n [] = refl
names-numbered n (l ∷ ls) =
    map-append (λ (e : List ℕ × ℕ). e.0) (with_number n l.names) (numbered (n + 1) ls)
    ∙ ap (λ (r : List (List ℕ)). r ++ names_of (numbered (n + 1) ls)) (names_with n l.names)
    ∙ ap (λ (r : List (List ℕ)). l.names ++ r) (names-numbered (n + 1) ls)

-- one list more
pub numbered-append : (n : ℕ) (ls : List AttributeList) (l : AttributeList) → numbered n (ls ++ l ∷ []) ≡ numbered n ls ++ with_number (n + length ls) l.names
numbered-append n [] l = append-nil (with_number n l.names) ∙ ap (λ (k : ℕ). with_number k l.names) (omega arith)
numbered-append n (x ∷ ls) l =
    let count : (n + 1) + length ls ≡ n + length (x ∷ ls) = omega arith in
    ap (λ (r : List (List ℕ × ℕ)). with_number n x.names ++ r) (numbered-append (n + 1) ls l)
    ∙ sym (append_assoc (with_number n x.names) (numbered (n + 1) ls) (with_number ((n + 1) + length ls) l.names))
    ∙ ap (λ (k : ℕ). (with_number n x.names ++ numbered (n + 1) ls) ++ with_number k l.names) count

pub one_more : (ls : List AttributeList) (ms : List AttributeList) (l : AttributeList) (table more : List (List ℕ × ℕ)) (number : ℕ) → AreNumbered ls table → ms ≡ ls ++ l ∷ [] → number ≡ length ls
    → more ≡ table ++ with_number number l.names → length ls + 1 < 2 ^ 32 → AreNumbered ms more
one_more ls ms l table more number a is n m few =
    let start : length ls ≡ 0 + length ls = omega arith in record {
      are = m ∙ ap (λ (k : ℕ). table ++ with_number k l.names) n
          ∙ ap (λ (t : List (List ℕ × ℕ)). t ++ with_number (length ls) l.names) a.are
          ∙ ap (λ (k : ℕ). numbered 0 ls ++ with_number k l.names) start
          ∙ sym (numbered-append 0 ls l) ∙ ap (numbered 0) (sym is);
      few = omega (arith, length-append ls (l ∷ []), ap length is);
    }

within_here : (b : Bool) (n k m : ℕ) (rest : Option ℕ) → (if b then Some n else rest) ≡ Some k → (rest ≡ Some k → k < (n + 1) + m) → k < n + suc m
within_here true n k m rest e again = same (cc)
  where
    same : n ≡ k → k < n + suc m
    same is = omega arith
within_here false n k m rest e again = let later = again e in omega arith

pub list_within : (n : ℕ) (ls : List AttributeList) (q : List ℕ) (k : ℕ) → list_from n ls q ≡ Some k → k < n + length ls
list_within n [] q k e = cc
list_within n (l ∷ ls) q k e = within_here (has l.names q) n k (length ls) (list_from (n + 1) ls q) e (list_within (n + 1) ls q k)

pub of_list_within : (r : Option ℕ) (ls : List AttributeList) (q : List ℕ) → r ≡ list_of ls q → IfSome r (λ n. n < length ls)
of_list_within None ls q e = tt
of_list_within (Some n) ls q e = let below : n < 0 + length ls = list_within 0 ls q n (sym e) in omega arith
