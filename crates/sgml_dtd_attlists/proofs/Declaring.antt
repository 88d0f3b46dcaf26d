-- The lists of declarations one after another.
use Rattle.std.proofs.Common.{◌≡◌, ◌+◌, ◌⊎◌, inl, inr, ℕ, zero, suc, Bool, true, false, ◌||◌, List, [], ◌∷◌, ◌++◌, Option, Some, None, refl, sym, ap, ◌∙◌, arith, length, is_some, if◌then◌else◌, fold, drop, append_assoc}
use Rattle.std.specs.Prelude.{slice_get}
use Rattle.std.proofs.lemmas.List.{append-nil}
use Rattle.sgml_names.proofs.Standing.{hit, or_left, or_right}
use Rattle.sgml_names.proofs.Repeating.{has-append, repeats_append}
use Rattle.sgml_names.specs.Lists.{has, repeats}
use Rattle.sgml_text.specs.declared.reason.Reason.{Reason}
use Rattle.sgml_syntax.specs.declared.syntax.Syntax.{Syntax}
use Rattle.sgml_decl_forms.specs.declared.attlist.AttlistDeclaration.{AttlistDeclaration}
use Rattle.sgml_dtd_attlists.specs.declared.list.AttributeList.{AttributeList}
use Rattle.sgml_dtd_attlists.specs.Interpreted.{list_in}
use Rattle.sgml_dtd_attlists.specs.Tables.{list_from, list_of, listed}
use Rattle.sgml_text.specs.declared.reason.Reason.TheVariants.{NameLength, LiteralLimit, ListTwice}
use Rattle.sgml_text.specs.Refusals.{first_row}
use Rattle.sgml_dtd_attlists.specs.Rows.{passes_namelen, passes_litlen, lists_twice, rows, reason}
use Rattle.sgml_dtd_attlists.specs.InOrder.{with_list, lists_of, IsListOf, IsDeclared}

listed-push : (lists : List AttributeList) (l : AttributeList) → listed (lists ++ l ∷ []) ≡ listed lists ++ l.names
listed-push [] l = append-nil l.names
listed-push (x ∷ xs) l = ap (λ (r : List (List ℕ)). x.names ++ r) (listed-push xs l) ∙ sym (append_assoc x.names (listed xs) l.names)

neither : (x y : Bool) → x ≡ false → y ≡ false → (x || y) ≡ false
neither x y p q = ap (λ (b : Bool). b || y) p ∙ q

third : (a b c : Bool) (x y z : Reason) (rest : Option Reason) → (if a then Some x else if b then Some y else if c then Some z else rest) ≡ None → c ≡ false
third true b c x y z rest e = cc
third false true c x y z rest e = cc
third false false true x y z rest e = cc
third false false false x y z rest e = refl

-- no element type stands in two lists
apart_more : (lists : List AttributeList) (l : AttributeList) → repeats [] (listed lists) ≡ false → repeats (listed lists) l.names ≡ false → repeats [] (listed (lists ++ l ∷ [])) ≡ false
apart_more lists l p q =
    ap (repeats []) (listed-push lists l) ∙ repeats_append [] (listed lists) l.names
    ∙ neither (repeats [] (listed lists)) (repeats (listed lists) l.names) p q

apart_with : (r : Option Reason) (syntax : Syntax) (lists : List AttributeList) (d : AttlistDeclaration) → reason syntax lists (list_in syntax d) ≡ r → repeats [] (listed lists) ≡ false
    → repeats [] (listed (if is_some r then lists else lists ++ list_in syntax d ∷ [])) ≡ false
apart_with (Some x) syntax lists d is p = p
apart_with None syntax lists d is p = apart_more lists (list_in syntax d) p (third (passes_namelen syntax (list_in syntax d)) (passes_litlen syntax (list_in syntax d)) (lists_twice lists (list_in syntax d)) NameLength LiteralLimit ListTwice (first_row (drop 3 (rows syntax lists (list_in syntax d)))) is)

apart_from : (syntax : Syntax) (lists : List AttributeList) (ds : List AttlistDeclaration) → repeats [] (listed lists) ≡ false → repeats [] (listed (fold (with_list syntax) lists ds)) ≡ false
apart_from syntax lists [] p = p
apart_from syntax lists (d ∷ ds) p = apart_from syntax (with_list syntax lists d) ds (apart_with (reason syntax lists (list_in syntax d)) syntax lists d refl p)

found_here : (b : Bool) (k n : ℕ) (l : AttributeList) (ls : List AttributeList) (name : List ℕ) → has l.names name ≡ b → (if b then Some k else list_from (k + 1) ls name) ≡ Some n
    → (list_from (k + 1) ls name ≡ Some n → (m : ℕ) × (n ≡ (k + 1) + m) × IsListOf ls m name) → (m : ℕ) × (n ≡ k + m) × IsListOf (l ∷ ls) m name
found_here true k n l ls name is e again =
    let same : k ≡ n = cc in
    (zero, omega arith, record { list = l; stands = refl; names_it = is })
found_here false k n l ls name is e again =
    let later = again e in
    let at : n ≡ (k + 1) + later.0 = later.1 in
    (suc later.0, omega arith, record { list = later.2.list; stands = later.2.stands; names_it = later.2.names_it })

found_from : (k n : ℕ) (ls : List AttributeList) (name : List ℕ) → list_from k ls name ≡ Some n → (m : ℕ) × (n ≡ k + m) × IsListOf ls m name
found_from k n [] name e = cc
found_from k n (l ∷ ls) name e = found_here (has l.names name) k n l ls name refl e (λ later. found_from (k + 1) n ls name later)

pub found-is : (ls : List AttributeList) (name : List ℕ) (n : ℕ) → list_of ls name ≡ Some n → IsListOf ls n name
found-is ls name n e =
    let at = found_from 0 n ls name e in
    let is : at.0 ≡ n = let plus : n ≡ 0 + at.0 = at.1 in omega arith in
    record { list = at.2.list; stands = ap (slice_get ls) (sym is) ∙ at.2.stands; names_it = at.2.names_it }

has_listed : (ls : List AttributeList) (n : ℕ) (l : AttributeList) (name : List ℕ) → slice_get ls n ≡ Some l → has l.names name ≡ true → has (listed ls) name ≡ true
has_listed [] n l name e h = cc
has_listed (x ∷ ls) zero l name e h =
    let same : x ≡ l = cc in
    has-append x.names (listed ls) name ∙ or_left (has x.names name) (has (listed ls) name) (ap (λ (y : AttributeList). has y.names name) same ∙ h)
has_listed (x ∷ ls) (suc n) l name e h =
    has-append x.names (listed ls) name ∙ or_right (has x.names name) (has (listed ls) name) (has_listed ls n l name e h)

falls_apart : (x y : Bool) → (x || y) ≡ false → (x ≡ false) × (y ≡ false)
falls_apart true y e = cc
falls_apart false y e = (refl, e)

only_later : (b : Bool) (before : List (List ℕ)) (k n : ℕ) (x : AttributeList) (ls : List AttributeList) (l : AttributeList) (name : List ℕ) → has x.names name ≡ b
    → repeats (before ++ x.names) (listed ls) ≡ false → slice_get ls n ≡ Some l → has l.names name ≡ true
    → list_from (k + 1) ls name ≡ Some ((k + 1) + n) → (if b then Some k else list_from (k + 1) ls name) ≡ Some (k + suc n)
only_later true before k n x ls l name is apart at h later =
    let there : repeats (before ++ x.names) (listed ls) ≡ true =
    hit (before ++ x.names) (listed ls) name (has-append before x.names name ∙ or_right (has before name) (has x.names name) is) (has_listed ls n l name at h) in
    clash there apart
  where
    clash : {b : Bool} {P : Type 0} → b ≡ true → b ≡ false → P
    clash p q = cc
only_later false before k n x ls l name is apart at h later =
    let count : (k + 1) + n ≡ k + suc n = omega arith in
    later ∙ ap (λ (m : ℕ). Some m) count

only_from : (before : List (List ℕ)) (k n : ℕ) (ls : List AttributeList) (l : AttributeList) (name : List ℕ) → repeats before (listed ls) ≡ false → slice_get ls n ≡ Some l → has l.names name ≡ true → list_from k ls name ≡ Some (k + n)
only_from before k n [] l name apart at h = cc
only_from before k zero (x ∷ ls) l name apart at h =
    let same : x ≡ l = cc in
    let here : has x.names name ≡ true = ap (λ (y : AttributeList). has y.names name) same ∙ h in
    let count : k ≡ k + zero = omega arith in
    ap (λ (b : Bool). if b then Some k else list_from (k + 1) ls name) here ∙ ap (λ (m : ℕ). Some m) count
only_from before k (suc n) (x ∷ ls) l name apart at h =
    let rest : repeats (before ++ x.names) (listed ls) ≡ false =
    (falls_apart (repeats before x.names) (repeats (before ++ x.names) (listed ls)) (sym (repeats_append before x.names (listed ls)) ∙ apart)).1 in
    only_later (has x.names name) before k n x ls l name refl rest at h (only_from (before ++ x.names) (k + 1) n ls l name rest at h)

pub only-is : (syntax : Syntax) (ds : List AttlistDeclaration) (name : List ℕ) (n : ℕ) → IsListOf (lists_of syntax ds) n name → list_of (lists_of syntax ds) name ≡ Some n
only-is syntax ds name n i =
    let count : 0 + n ≡ n = omega arith in
    only_from [] 0 n (lists_of syntax ds) i.list name (apart_from syntax [] ds refl) i.stands i.names_it ∙ ap (λ (m : ℕ). Some m) count

get_front : {X : Type 0} (xs ys : List X) (k : ℕ) (x : X) → slice_get xs k ≡ Some x → slice_get (xs ++ ys) k ≡ Some x
get_front [] ys k x e = cc
get_front (z ∷ xs) ys zero x e = e
get_front (z ∷ xs) ys (suc k) x e = get_front xs ys k x e

get_mid : {X : Type 0} (xs ys : List X) (x : X) → slice_get (xs ++ x ∷ ys) (length xs) ≡ Some x
get_mid [] ys x = refl
get_mid (z ∷ xs) ys x = get_mid xs ys x

get_cases : {X : Type 0} (xs : List X) (y : X) (k : ℕ) (x : X) → slice_get (xs ++ y ∷ []) k ≡ Some x → (slice_get xs k ≡ Some x) ⊎ (x ≡ y)
get_cases [] y zero x e = inr (cc)
get_cases [] y (suc k) x e = cc
get_cases (z ∷ xs) y zero x e = inl e
get_cases (z ∷ xs) y (suc k) x e = get_cases xs y k x e

AllDeclared : Syntax → List AttlistDeclaration → List AttributeList → Type 0
AllDeclared syntax ds lists = (n : ℕ) (l : AttributeList) → slice_get lists n ≡ Some l → IsDeclared syntax ds l

more_declared : (syntax : Syntax) (done : List AttlistDeclaration) (d : AttlistDeclaration) (l : AttributeList) → IsDeclared syntax done l → IsDeclared syntax (done ++ d ∷ []) l
more_declared syntax done d l i = record { place = i.place; declaration = i.declaration; stands = get_front done (d ∷ []) i.place i.declaration i.stands; is_its = i.is_its }

declared_with : (r : Option Reason) (syntax : Syntax) (done : List AttlistDeclaration) (lists : List AttributeList) (d : AttlistDeclaration) → ((n : ℕ) (l : AttributeList) → slice_get lists n ≡ Some l → IsDeclared syntax done l)
    → (n : ℕ) (l : AttributeList) → slice_get (if is_some r then lists else lists ++ list_in syntax d ∷ []) n ≡ Some l → IsDeclared syntax (done ++ d ∷ []) l
declared_with (Some x) syntax done lists d all n l e = more_declared syntax done d l (all n l e)
declared_with None syntax done lists d all n l e = split (get_cases lists (list_in syntax d) n l e)
  where
    split : (slice_get lists n ≡ Some l) ⊎ (l ≡ list_in syntax d) → IsDeclared syntax (done ++ d ∷ []) l
    split (inl h) = more_declared syntax done d l (all n l h)
    split (inr h) = record { place = length done; declaration = d; stands = get_mid done [] d; is_its = h }

declared_from : (syntax : Syntax) (done ds : List AttlistDeclaration) (lists : List AttributeList) → ((n : ℕ) (l : AttributeList) → slice_get lists n ≡ Some l → IsDeclared syntax done l)
    → (n : ℕ) (l : AttributeList) → slice_get (fold (with_list syntax) lists ds) n ≡ Some l → IsDeclared syntax (done ++ ds) l
declared_from syntax done [] lists all n l e = let i = all n l e in record { place = i.place; declaration = i.declaration; stands = get_front done [] i.place i.declaration i.stands; is_its = i.is_its }
declared_from syntax done (d ∷ ds) lists all n l e =
    let later = declared_from syntax (done ++ d ∷ []) ds (with_list syntax lists d) (declared_with (reason syntax lists (list_in syntax d)) syntax done lists d all) n l e in
    record { place = later.place; declaration = later.declaration; stands = ap (λ (xs : List AttlistDeclaration). slice_get xs later.place) (sym (append_assoc done (d ∷ []) ds)) ∙ later.stands; is_its = later.is_its }

none_declared : (syntax : Syntax) (n : ℕ) (l : AttributeList) → slice_get [] n ≡ Some l → IsDeclared syntax [] l
none_declared syntax n l e = cc

pub all-declared : (syntax : Syntax) (ds : List AttlistDeclaration) (n : ℕ) (l : AttributeList) → slice_get (lists_of syntax ds) n ≡ Some l → IsDeclared syntax ds l
all-declared syntax ds n l e = declared_from syntax [] ds [] (none_declared syntax) n l e
