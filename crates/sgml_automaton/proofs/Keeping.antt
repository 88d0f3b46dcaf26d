-- What stays as it is while tables grow.
use Rattle.std.proofs.lemmas.Slice.Eq.{bytes_eq-Decides}
use Rattle.std.proofs.lemmas.Bool.Decides.{Decides-eqb, nat_tests}
use Rattle.std.proofs.lemmas.Bool.{ltb-true, ltb-false}
use Rattle.std.proofs.lemmas.Option.{slice_get_within}
use Rattle.std.specs.Prelude.{◌&&◌, nat_lt, bytes_eq, is_none, slice_get, slice_set}
use Rattle.std.specs.Option.{option_or}
use Rattle.std.proofs.Common.{◌≡◌, ℕ, suc, zero, ◌<◌, ◌≤◌, Bool, true, false, cond, nat_eq, ◌⊎◌, inl, inr, List, [], ◌∷◌, ◌++◌, length, length-append, length-set, Option, Some, None, refl, sym, ap, ◌∙◌, subst, arith}
use Rattle.sgml_model.specs.Term.{Terms, first_required}
use Rattle.sgml_model.specs.Choice.{is_name, is_text}
use Rattle.sgml_ambiguity.specs.sgml_names.Index.{found}
use Rattle.sgml_ambiguity.specs.Names.{number_in}
use Rattle.sgml_ambiguity.proofs.Indexing.{found_behind}
use Rattle.sgml_automaton.specs.declared.plan.Scope.{Scope}
use Rattle.sgml_automaton.specs.declared.plan.Exit.{Exit}
use Rattle.sgml_automaton.specs.declared.plan.Place.{Place}
use Rattle.sgml_automaton.specs.Plan.{Tables, tables, added, within, find, find_in, no_tokens, leading, told, told_by, told_in, naming, running, opened}

pub by_cases : {P : Type 0} (h : Bool) → (h ≡ true → P) → (h ≡ false → P) → P
by_cases true f g = f refl
by_cases false f g = g refl

-- elements of lists that grow
pub get_front : {X : Type 0} (xs ys : List X) (i : ℕ) (x : X) → slice_get xs i ≡ Some x → slice_get (xs ++ ys) i ≡ Some x
get_front [] ys i x h = cc
get_front (y ∷ xs) ys zero x h = h
get_front (y ∷ xs) ys (suc i) x h = get_front xs ys i x h

pub get_last : {X : Type 0} (xs : List X) (y : X) → slice_get (xs ++ y ∷ []) (length xs) ≡ Some y
get_last [] y = refl
get_last (x ∷ xs) y = get_last xs y

pub get_set : {X : Type 0} (xs : List X) (i : ℕ) (v : X) → i < length xs → slice_get (slice_set xs i v) i ≡ Some v
get_set [] i v h = absurd (omega arith)
get_set (x ∷ xs) zero v h = refl
get_set (x ∷ xs) (suc i) v h = get_set xs i v (omega arith)

pub get_set_other : {X : Type 0} (xs : List X) (i j : ℕ) (v : X) → (j ≡ i → ⊥) → slice_get (slice_set xs i v) j ≡ slice_get xs j
get_set_other [] i j v h = refl
get_set_other (x ∷ xs) zero zero v h = absurd (h refl)
get_set_other (x ∷ xs) zero (suc j) v h = refl
get_set_other (x ∷ xs) (suc i) zero v h = refl
get_set_other (x ∷ xs) (suc i) (suc j) v h = get_set_other xs i j v (λ e. h (ap suc e))

-- numbers in ranges
pub inside : (a z j : ℕ) → a ≤ j → j < z → within a z (Some j) ≡ Some j
inside a z j h k = grind (arith, nat_tests)

pub outside : (a z j : ℕ) → (j < a) ⊎ (z ≤ j) → within a z (Some j) ≡ None
outside a z j (inl h) = grind (arith, nat_tests)
outside a z j (inr h) = grind (arith, nat_tests)

-- where a number is
pub data Where (a z j : ℕ) : Type 0 where
  here : a ≤ j → j < z → Where a z j
  before : j < a → Where a z j
  behind : z ≤ j → Where a z j

pub where_is : (a z j : ℕ) → Where a z j
where_is a z j = by_cases (nat_lt j a) (λ h. before (ltb-true j a h))
    (λ h. by_cases (nat_lt j z) (λ k. here (ltb-false j a h) (ltb-true j z k)) (λ k. behind (ltb-false j z k)))

pub within_again : (a z b e : ℕ) (o : Option ℕ) → a ≤ b → e ≤ z → within b e (within a z o) ≡ within b e o
within_again a z b e None h k = refl
within_again a z b e (Some j) h k = of_range (where_is a z j)
  where
    of_range : Where a z j → within b e (within a z (Some j)) ≡ within b e (Some j)
    of_range (here p q) = ap (within b e) (inside a z j p q)
    of_range (before p) = ap (within b e) (outside a z j (inl p)) ∙ sym (outside b e j (inl (omega arith)))
    of_range (behind p) = ap (within b e) (outside a z j (inr p)) ∙ sym (outside b e j (inr (omega arith)))

pub within_join : (a c z : ℕ) (o : Option ℕ) → a ≤ c → c ≤ z → within a z o ≡ option_or (within a c o) (within c z o)
within_join a c z None h k = refl
within_join a c z (Some j) h k = of_range (where_is a c j)
  where
    late : c ≤ j → Where c z j → within a z (Some j) ≡ option_or (within a c (Some j)) (within c z (Some j))
    late r (here p q) = inside a z j (omega arith) q ∙ sym (ap (λ o. option_or o (within c z (Some j))) (outside a c j (inr r)) ∙ inside c z j p q)
    late r (before p) = absurd (omega arith)
    late r (behind p) = outside a z j (inr p) ∙ sym (ap (λ o. option_or o (within c z (Some j))) (outside a c j (inr r)) ∙ outside c z j (inr p))

    of_range : Where a c j → within a z (Some j) ≡ option_or (within a c (Some j)) (within c z (Some j))
    of_range (here p q) = inside a z j p (omega arith) ∙ sym (ap (λ o. option_or o (within c z (Some j))) (inside a c j p q))
    of_range (before p) = outside a z j (inl p) ∙ sym (ap (λ o. option_or o (within c z (Some j))) (outside a c j (inl p)) ∙ outside c z j (inl (omega arith)))
    of_range (behind p) = late p (where_is c z j)

-- a token gets into a scope
abbrev pub is_of : Option (List ℕ) → Option (List ℕ) → Bool
is_of None l = is_text l
is_of (Some n) l = is_name n l

eq_swap : (m n : List ℕ) → bytes_eq m n ≡ bytes_eq n m
eq_swap m n = of_equal (bytes_eq m n) refl (bytes_eq n m) refl
  where
    of_equal : (v : Bool) → bytes_eq m n ≡ v → (w : Bool) → bytes_eq n m ≡ w → v ≡ w
    of_equal true e true f = refl
    of_equal false e false f = refl
    of_equal true e false f = let y = (bytes_eq-Decides n m).1 (sym ((bytes_eq-Decides m n).0 e)) in cc
    of_equal false e true f = let y = (bytes_eq-Decides m n).1 (sym ((bytes_eq-Decides n m).0 f)) in cc

-- what a scope gives with a token more
pub record Gives (s s' : Scope) (n : Option (List ℕ)) (k : ℕ) (l : Option (List ℕ)) : Type 0 where
  pub is : number_in s'.names s'.text l ≡ cond (is_of n l) (Some k) (number_in s.names s.text l)
  pub free : is_of n l ≡ true → number_in s.names s.text l ≡ None

pub gives : (s s' : Scope) (n : Option (List ℕ)) (k : ℕ) → added s n k ≡ Some s' → (l : Option (List ℕ)) → Gives s s' n k l
gives s s' None k h l = of_text s.text refl l
  where
    is_new : (o : Option ℕ) → s.text ≡ o → cond (is_none o) (Some (record { names = s.names; text = Some k })) None ≡ Some s' → (o ≡ None) × (s' ≡ record { names = s.names; text = Some k })
    is_new None e g = (refl, cc)
    is_new (Some i) e g = cc

    of_text : (o : Option ℕ) → s.text ≡ o → (l : Option (List ℕ)) → Gives s s' None k l
    of_text o e None = let p = is_new s.text refl h in
        record { is = ap (λ (q : Scope). q.text) p.1; free = λ g. p.0 }
    of_text o e (Some m) = let p = is_new s.text refl h in
        record { is = ap (λ (q : Scope). found q.names m) p.1; free = λ g. cc }
gives s s' (Some n) k h l = of_label l
  where
    is_new : (o : Option ℕ) → cond (is_none o) (Some (record { names = s.names ++ (n, k) ∷ []; text = s.text })) None ≡ Some s' → (o ≡ None) × (s' ≡ record { names = s.names ++ (n, k) ∷ []; text = s.text })
    is_new None g = (refl, cc)
    is_new (Some i) g = cc

    at : (m : List ℕ) (v : Bool) → bytes_eq n m ≡ v → found s.names n ≡ None →
        (option_or (found s.names m) (cond (bytes_eq m n) (Some k) None) ≡ cond v (Some k) (found s.names m)) × (v ≡ true → found s.names m ≡ None)
    at m true e f =
        let is : found s.names m ≡ None = ap (found s.names) (sym ((bytes_eq-Decides n m).0 e)) ∙ f in
        let q : bytes_eq m n ≡ true = eq_swap m n ∙ e in
        (ap (λ o. option_or o (cond (bytes_eq m n) (Some k) None)) is ∙ ap (λ v. cond v (Some k) None) q, λ g. is)
    at m false e f =
        (ap (λ v. option_or (found s.names m) (cond v (Some k) None)) (eq_swap m n ∙ e) ∙ nothing (found s.names m), λ g. cc)
      where
        nothing : (o : Option ℕ) → option_or o None ≡ o
        nothing None = refl
        nothing (Some x) = refl

    of_label : (l : Option (List ℕ)) → Gives s s' (Some n) k l
    of_label None = let p = is_new (found s.names n) h in
        record { is = ap (λ (q : Scope). q.text) p.1; free = λ g. cc }
    of_label (Some m) = let p = is_new (found s.names n) h in
        let r = at m (bytes_eq n m) refl p.0 in
        record { is = ap (λ (q : Scope). found q.names m) p.1 ∙ found_behind s.names n k m ∙ r.0; free = r.1 }

-- the tables grow, and know the tokens from b to e as before
pub record Keeps (t u : Tables) (b e : ℕ) : Type 0 where
  pub exits : (i : ℕ) (x : Exit) → slice_get t.exits i ≡ Some x → slice_get u.exits i ≡ Some x
  pub names : (i : ℕ) (x : List ℕ) → slice_get t.names i ≡ Some x → slice_get u.names i ≡ Some x
  pub more_exits : length t.exits ≤ length u.exits
  pub more_scopes : length t.scopes ≤ length u.scopes
  pub finds : (g : ℕ) (l : Option (List ℕ)) → within b e (find u.scopes g l) ≡ within b e (find t.scopes g l)
  pub places : (k : ℕ) → b ≤ k → k < e → slice_get u.places k ≡ slice_get t.places k

pub keeps_self : (t : Tables) (b e : ℕ) → Keeps t t b e
keeps_self t b e = record {
  exits = λ i x h. h;
  names = λ i x h. h;
  more_exits = omega arith;
  more_scopes = omega arith;
  finds = λ g l. refl;
  places = λ k p q. refl;
}

pub keeps_on : {t u v : Tables} {b e : ℕ} → Keeps t u b e → Keeps u v b e → Keeps t v b e
keeps_on {t} {u} {v} {b} {e} p q = record {
  exits = λ i x h. q.exits i x (p.exits i x h);
  names = λ i x h. q.names i x (p.names i x h);
  more_exits = omega (arith, p.more_exits, q.more_exits);
  more_scopes = omega (arith, p.more_scopes, q.more_scopes);
  finds = λ g l. q.finds g l ∙ p.finds g l;
  places = λ k h i. q.places k h i ∙ p.places k h i;
}

pub keeps_part : {t u : Tables} {a z : ℕ} (b e : ℕ) → a ≤ b → e ≤ z → Keeps t u a z → Keeps t u b e
keeps_part {t} {u} {a} {z} b e h i p = record {
  exits = p.exits;
  names = p.names;
  more_exits = p.more_exits;
  more_scopes = p.more_scopes;
  finds = λ g l. sym (within_again a z b e (find u.scopes g l) h i) ∙ ap (within b e) (p.finds g l) ∙ within_again a z b e (find t.scopes g l) h i;
  places = λ k q r. p.places k (omega arith) (omega arith);
}

pub keeps_lead : (t : Tables) (x : Exit) (b e : ℕ) → Keeps t (leading t x) b e
keeps_lead t x b e = record {
  exits = λ i y h. get_front t.exits (x ∷ []) i y h;
  names = λ i y h. h;
  more_exits = let q = length-append t.exits (x ∷ []) in omega arith;
  more_scopes = omega arith;
  finds = λ g l. refl;
  places = λ k p q. refl;
}

pub keeps_naming : (n : Option (List ℕ)) (t : Tables) (b e : ℕ) → Keeps t (naming n t).1 b e
keeps_naming None t b e = keeps_self t b e
keeps_naming (Some n) t b e = record {
  exits = λ i y h. h;
  names = λ i y h. get_front t.names (n ∷ []) i y h;
  more_exits = omega arith;
  more_scopes = omega arith;
  finds = λ g l. refl;
  places = λ k p q. refl;
}

-- an empty scope has no tokens
find_more : (ss : List Scope) (g : ℕ) (l : Option (List ℕ)) → find (ss ++ no_tokens ∷ []) g l ≡ find ss g l
find_more [] zero None = refl
find_more [] zero (Some n) = refl
find_more [] (suc g) l = refl
find_more (s ∷ ss) zero l = refl
find_more (s ∷ ss) (suc g) l = find_more ss g l

keeps_scope : (t : Tables) (b e : ℕ) → Keeps t (tables (t.scopes ++ no_tokens ∷ []) t.exits t.places t.names) b e
keeps_scope t b e = record {
  exits = λ i y h. h;
  names = λ i y h. h;
  more_exits = omega arith;
  more_scopes = let q = length-append t.scopes (no_tokens ∷ []) in omega arith;
  finds = λ g l. ap (within b e) (find_more t.scopes g l);
  places = λ k p q. refl;
}

pub keeps_running : (ms : Terms) (f : ℕ) (t : Tables) (b e : ℕ) → Keeps t (running ms f t).1 b e
keeps_running ms f t b e = keeps_naming (first_required ms) t b e

pub keeps_opened : (ms : Terms) (t : Tables) (b e : ℕ) → Keeps t (opened ms t).1 b e
keeps_opened ms t b e =
    keeps_on (keeps_scope t b e) (keeps_running ms (length t.scopes) (tables (t.scopes ++ no_tokens ∷ []) t.exits t.places t.names) b e)

-- a token is told
pub record Told (k : ℕ) (l : Option (List ℕ)) (f : ℕ) (p : Place) (t t' : Tables) : Type 0 where
  pub old : Scope
  pub new : Scope
  pub at : slice_get t.scopes f ≡ Some old
  pub adds : added old l k ≡ Some new
  pub fits : k < length t.places
  pub is : t' ≡ tables (slice_set t.scopes f new) t.exits (slice_set t.places k p) t.names

pub is_told : (k : ℕ) (l : Option (List ℕ)) (f : ℕ) (p : Place) (t t' : Tables) → told k l f p t ≡ Some t' → Told k l f p t t'
is_told k l f p t t' h = of_size (nat_lt k (length t.places)) refl h
  where
    last : (s : Scope) (o : Option Scope) → slice_get t.scopes f ≡ Some s → added s l k ≡ o → k < length t.places → told_in o k f p t ≡ Some t' → Told k l f p t t'
    last s None e g i q = cc
    last s (Some n) e g i q = record { old = s; new = n; at = e; adds = g; fits = i; is = cc }

    next : (o : Option Scope) → slice_get t.scopes f ≡ o → k < length t.places → told_by o k l f p t ≡ Some t' → Told k l f p t t'
    next None e i q = cc
    next (Some s) e i q = last s (added s l k) e refl i q

    of_size : (b : Bool) → nat_lt k (length t.places) ≡ b → cond b (told_by (slice_get t.scopes f) k l f p t) None ≡ Some t' → Told k l f p t t'
    of_size true e q = next (slice_get t.scopes f) refl (ltb-true k (length t.places) e) q
    of_size false e q = cc

-- what is found in the scope then, and in others
find_told : (ss : List Scope) (f : ℕ) (s s' : Scope) (n : Option (List ℕ)) (k g : ℕ) (l : Option (List ℕ)) → slice_get ss f ≡ Some s → added s n k ≡ Some s' →
    find (slice_set ss f s') g l ≡ cond (nat_eq g f && is_of n l) (Some k) (find ss g l)
find_told ss f s s' n k g l e h = of_scope (nat_eq g f) refl
  where
    of_scope : (b : Bool) → nat_eq g f ≡ b → find (slice_set ss f s') g l ≡ cond (b && is_of n l) (Some k) (find ss g l)
    of_scope true q =
        let is : g ≡ f = (Decides-eqb g f).0 q in
        ap (λ i. find (slice_set ss f s') i l) is ∙ ap (λ o. find_in o l) (get_set ss f s' (slice_get_within ss f s e)) ∙ (gives s s' n k h l).is
        ∙ ap (λ (o : Option Scope). cond (is_of n l) (Some k) (find_in o l)) (sym e) ∙ ap (λ i. cond (is_of n l) (Some k) (find ss i l)) (sym is)
    of_scope false q = ap (λ o. find_in o l) (get_set_other ss f g s' (λ is. let y = (Decides-eqb g f).1 is in cc))

-- where it is found, nothing was
was_free : (ss : List Scope) (f : ℕ) (s s' : Scope) (n : Option (List ℕ)) (k g : ℕ) (l : Option (List ℕ)) → slice_get ss f ≡ Some s → added s n k ≡ Some s' →
    (nat_eq g f && is_of n l) ≡ true → find ss g l ≡ None
was_free ss f s s' n k g l e h q = of_scope (nat_eq g f) refl q
  where
    of_scope : (b : Bool) → nat_eq g f ≡ b → (b && is_of n l) ≡ true → find ss g l ≡ None
    of_scope true r i = ap (λ j. find ss j l) ((Decides-eqb g f).0 r) ∙ ap (λ o. find_in o l) e ∙ (gives s s' n k h l).free i
    of_scope false r i = cc

outside_told : (k b e : ℕ) (h : Bool) (o : Option ℕ) → (e ≤ k) ⊎ (suc k ≤ b) → (h ≡ true → o ≡ None) → within b e (cond h (Some k) o) ≡ within b e o
outside_told k b e false o a f = refl
outside_told k b e true o a f = outside b e k (side a) ∙ sym (ap (within b e) (f refl))
  where
    side : (e ≤ k) ⊎ (suc k ≤ b) → (k < b) ⊎ (e ≤ k)
    side (inl p) = inr p
    side (inr p) = inl (omega arith)

pub keeps_told : (k : ℕ) (l : Option (List ℕ)) (f : ℕ) (p : Place) (t t' : Tables) → told k l f p t ≡ Some t' → (b e : ℕ) → (e ≤ k) ⊎ (suc k ≤ b) → Keeps t t' b e
keeps_told k l f p t t' h b e a =
    let d = is_told k l f p t t' h in
    subst (λ u. Keeps t u b e) (sym d.is) (of_told d)
  where
    not_k : (i : ℕ) → b ≤ i → i < e → (e ≤ k) ⊎ (suc k ≤ b) → i ≡ k → ⊥
    not_k i x y (inl q) r = omega arith
    not_k i x y (inr q) r = omega arith

    of_told : (d : Told k l f p t t') → Keeps t (tables (slice_set t.scopes f d.new) t.exits (slice_set t.places k p) t.names) b e
    of_told d = record {
      exits = λ i x q. q;
      names = λ i x q. q;
      more_exits = omega arith;
      more_scopes = let q = length-set t.scopes f d.new in omega arith;
      finds = λ g m. ap (within b e) (find_told t.scopes f d.old d.new l k g m d.at d.adds)
          ∙ outside_told k b e (nat_eq g f && is_of l m) (find t.scopes g m) a (was_free t.scopes f d.old d.new l k g m d.at d.adds);
      places = λ i x y. get_set_other t.places k i p (not_k i x y a);
    }

-- what is found of the token itself
pub told_finds : (k : ℕ) (n : Option (List ℕ)) (f : ℕ) (p : Place) (t t' : Tables) → told k n f p t ≡ Some t' →
    (g : ℕ) (l : Option (List ℕ)) → within k (suc k) (find t.scopes g l) ≡ None → within k (suc k) (find t'.scopes g l) ≡ cond (nat_eq g f) (cond (is_of n l) (Some k) None) None
told_finds k n f p t t' h g l clear =
    let d = is_told k n f p t t' h in
    ap (λ (u : Tables). within k (suc k) (find u.scopes g l)) d.is ∙ ap (within k (suc k)) (find_told t.scopes f d.old d.new n k g l d.at d.adds)
    ∙ of_tests (nat_eq g f) (is_of n l)
  where
    of_tests : (x y : Bool) → within k (suc k) (cond (x && y) (Some k) (find t.scopes g l)) ≡ cond x (cond y (Some k) None) None
    of_tests true true = inside k (suc k) k (omega arith) (omega arith)
    of_tests true false = clear
    of_tests false y = clear

pub told_place : (k : ℕ) (n : Option (List ℕ)) (f : ℕ) (p : Place) (t t' : Tables) → told k n f p t ≡ Some t' → slice_get t'.places k ≡ Some p
told_place k n f p t t' h =
    let d = is_told k n f p t t' h in
    ap (λ (u : Tables). slice_get u.places k) d.is ∙ get_set t.places k p d.fits
