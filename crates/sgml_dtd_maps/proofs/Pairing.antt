-- The pairs that are read of a declaration.
use Rattle.std.proofs.Common.{◌≡◌, ◌<◌, ◌⊎◌, inl, inr, ℕ, zero, suc, Bool, true, false, List, [], ◌∷◌, ◌++◌, Option, Some, None, refl, sym, ap, ◌∙◌, arith, length, is_some, if◌then◌else◌, map, append_assoc}
use Rattle.std.specs.Prelude.{slice_get, ◌==◌}
use Rattle.std.proofs.lemmas.Bool.Decides.{Decides-eqb}
use Rattle.sgml_syntax.specs.declared.syntax.Syntax.{Syntax}
use Rattle.sgml_shortref.specs.Maps.{entity_in}
use Rattle.sgml_dtd_maps.specs.Written.{pair_of, with_pair, pairs_in}
use Rattle.sgml_dtd_maps.specs.InOrder.{ArePairs}
use Rattle.sgml_dtd_maps.proofs.Places.{get_cases}

-- the strings of these pairs stand once
pub record Once (pairs : List (ℕ × List ℕ)) : Type 0 where
  pub at : (i j : ℕ) (p q : ℕ × List ℕ) → slice_get pairs i ≡ Some p → slice_get pairs j ≡ Some q → p.0 ≡ q.0 → i ≡ j

-- a string that isn't mapped is none of these pairs'
unmapped_here : (b : Bool) (e : List ℕ) (r : Option (List ℕ)) → is_some (if b then Some e else r) ≡ false → (b ≡ false) × (is_some r ≡ false)
unmapped_here true e r h = cc
unmapped_here false e r h = (refl, h)

unmapped : (pairs : List (ℕ × List ℕ)) (s i : ℕ) (p : ℕ × List ℕ) → is_some (entity_in pairs s) ≡ false → slice_get pairs i ≡ Some p → p.0 ≡ s → ⊥
unmapped [] s i p h at is = cc
unmapped (x ∷ pairs) s zero p h at is =
    let same : x ≡ p = cc in
    let here : (x.0 == s) ≡ true = (Decides-eqb x.0 s).1 (ap (λ (y : ℕ × List ℕ). y.0) same ∙ is) in
    clash here (unmapped_here (x.0 == s) x.1 (entity_in pairs s) h).0
  where
    clash : {b : Bool} → b ≡ true → b ≡ false → ⊥
    clash u v = cc
unmapped (x ∷ pairs) s (suc i) p h at is = unmapped pairs s i p (unmapped_here (x.0 == s) x.1 (entity_in pairs s) h).1 at is

mapped_here : (b : Bool) (e : List ℕ) (r : Option (List ℕ)) → (b ≡ true → ⊥) → is_some r ≡ false → is_some (if b then Some e else r) ≡ false
mapped_here true e r never h = absurd (never refl)
mapped_here false e r never h = h

no_pair : (pairs : List (ℕ × List ℕ)) (s : ℕ) → ((i : ℕ) (p : ℕ × List ℕ) → slice_get pairs i ≡ Some p → p.0 ≡ s → ⊥) → is_some (entity_in pairs s) ≡ false
no_pair [] s none = refl
no_pair (x ∷ pairs) s none =
    mapped_here (x.0 == s) x.1 (entity_in pairs s) (λ e. none zero x refl ((Decides-eqb x.0 s).0 e)) (no_pair pairs s (λ i p at is. none (suc i) p at is))

once_more : (pairs : List (ℕ × List ℕ)) (x : ℕ × List ℕ) → Once pairs → is_some (entity_in pairs x.0) ≡ false → Once (pairs ++ x ∷ [])
once_more pairs x o free = record { at = λ i j p q a b same. split i j p q (get_cases pairs x i p a) (get_cases pairs x j q b) same }
  where
    split : (i j : ℕ) (p q : ℕ × List ℕ) → (slice_get pairs i ≡ Some p) ⊎ ((i ≡ length pairs) × (p ≡ x)) → (slice_get pairs j ≡ Some q) ⊎ ((j ≡ length pairs) × (q ≡ x)) → p.0 ≡ q.0 → i ≡ j
    split i j p q (inl a) (inl b) same = o.at i j p q a b same
    split i j p q (inl a) (inr b) same = absurd (unmapped pairs x.0 i p free a (same ∙ ap (λ (y : ℕ × List ℕ). y.0) b.1))
    split i j p q (inr a) (inl b) same = absurd (unmapped pairs x.0 j q free b (sym same ∙ ap (λ (y : ℕ × List ℕ). y.0) a.1))
    split i j p q (inr a) (inr b) same = a.0 ∙ sym b.0

-- the pairs that are read behind those that are done
record Read (syntax : Syntax) (done : List (ℕ × List ℕ)) (ps : List (List ℕ × List ℕ)) (pairs : List (ℕ × List ℕ)) : Type 0 where
  more : List (ℕ × List ℕ)
  are : pairs ≡ done ++ more
  each : map (pair_of syntax) ps ≡ map (λ p. Some p) more
  once : Once pairs

read_here : (syntax : Syntax) (done : List (ℕ × List ℕ)) (r : Option (ℕ × List ℕ)) (p : List ℕ × List ℕ) (ps : List (List ℕ × List ℕ)) (pairs : List (ℕ × List ℕ)) → pair_of syntax p ≡ r → Once done
    → with_pair done r (λ more. pairs_in syntax more ps) ≡ Some pairs → ((x : ℕ × List ℕ) → Once (done ++ x ∷ []) → pairs_in syntax (done ++ x ∷ []) ps ≡ Some pairs → Read syntax (done ++ x ∷ []) ps pairs) → Read syntax done (p ∷ ps) pairs
read_here syntax done None p ps pairs is o e again = cc
read_here syntax done (Some x) p ps pairs is o e again = by (is_some (entity_in done x.0)) refl e
  where
    joined : Read syntax (done ++ x ∷ []) ps pairs → Read syntax done (p ∷ ps) pairs
    joined r = record {
      more = x ∷ r.more;
      are = r.are ∙ append_assoc done (x ∷ []) r.more;
      each = ap (λ (y : Option (ℕ × List ℕ)). y ∷ map (pair_of syntax) ps) is ∙ ap (λ (ys : List (Option (ℕ × List ℕ))). Some x ∷ ys) r.each;
      once = r.once;
    }

    by : (b : Bool) → is_some (entity_in done x.0) ≡ b → (if b then None else pairs_in syntax (done ++ x ∷ []) ps) ≡ Some pairs → Read syntax done (p ∷ ps) pairs
    by true there h = cc
    by false free h = joined (again x (once_more done x o free) h)

all-read : (syntax : Syntax) (done : List (ℕ × List ℕ)) (ps : List (List ℕ × List ℕ)) (pairs : List (ℕ × List ℕ)) → Once done → pairs_in syntax done ps ≡ Some pairs → Read syntax done ps pairs
all-read syntax done [] pairs o e =
    let same : done ≡ pairs = cc in
    record { more = []; are = sym same ∙ nil done; each = refl; once = kept same }
  where
    nil : (xs : List (ℕ × List ℕ)) → xs ≡ xs ++ []
    nil [] = refl
    nil (x ∷ xs) = ap (λ (ys : List (ℕ × List ℕ)). x ∷ ys) (nil xs)

    kept : done ≡ pairs → Once pairs
    kept same = record { at = λ i j p q a b s. o.at i j p q (ap (λ (xs : List (ℕ × List ℕ)). slice_get xs i) same ∙ a) (ap (λ (xs : List (ℕ × List ℕ)). slice_get xs j) same ∙ b) s }
all-read syntax done (p ∷ ps) pairs o e = read_here syntax done (pair_of syntax p) p ps pairs refl o e (λ x next h. all-read syntax (done ++ x ∷ []) ps pairs next h)

none_once : Once []
none_once = record { at = λ i j p q a b s. never i j p a }
  where
    never : (i j : ℕ) (p : ℕ × List ℕ) → slice_get [] i ≡ Some p → i ≡ j
    never i j p a = cc

pub read-pairs : (syntax : Syntax) (ps : List (List ℕ × List ℕ)) (pairs : List (ℕ × List ℕ)) → pairs_in syntax [] ps ≡ Some pairs → ArePairs syntax ps pairs
read-pairs syntax ps pairs e =
    let r = all-read syntax [] ps pairs none_once e in
    record { each = r.each ∙ ap (λ (xs : List (ℕ × List ℕ)). map (λ p. Some p) xs) (sym r.are); once = r.once.at }

tail_same : {X : Type 0} (a b : X) (xs ys : List X) → a ∷ xs ≡ b ∷ ys → (a ≡ b) × (xs ≡ ys)
tail_same a b xs ys e = (cc, cc)

-- the place of a pair behind others
get_after : {X : Type 0} (xs ys : List X) (x : X) (i : ℕ) (p : X) → slice_get xs i ≡ Some p → (i < length xs) × (slice_get (xs ++ x ∷ ys) i ≡ Some p)
get_after [] ys x i p e = cc
get_after (z ∷ xs) ys x zero p e = (omega arith, e)
get_after (z ∷ xs) ys x (suc i) p e = let later = get_after xs ys x i p e in let l : i < length xs = later.0 in (omega arith, later.1)

get_here : {X : Type 0} (xs ys : List X) (x : X) → slice_get (xs ++ x ∷ ys) (length xs) ≡ Some x
get_here [] ys x = refl
get_here (z ∷ xs) ys x = get_here xs ys x

all-given : (syntax : Syntax) (done : List (ℕ × List ℕ)) (ps : List (List ℕ × List ℕ)) (more : List (ℕ × List ℕ)) → map (pair_of syntax) ps ≡ map (λ p. Some p) more → Once (done ++ more) → pairs_in syntax done ps ≡ Some (done ++ more)
all-given syntax done [] [] e o = ap (λ (xs : List (ℕ × List ℕ)). Some xs) (nil done)
  where
    nil : (xs : List (ℕ × List ℕ)) → xs ≡ xs ++ []
    nil [] = refl
    nil (x ∷ xs) = ap (λ (ys : List (ℕ × List ℕ)). x ∷ ys) (nil xs)
all-given syntax done [] (x ∷ more) e o = cc
all-given syntax done (p ∷ ps) [] e o = cc
all-given syntax done (p ∷ ps) (x ∷ more) e o =
    let parts = tail_same (pair_of syntax p) (Some x) (map (pair_of syntax) ps) (map (λ p. Some p) more) e in
    let order : (done ++ x ∷ []) ++ more ≡ done ++ x ∷ more = append_assoc done (x ∷ []) more in
    let later : Once ((done ++ x ∷ []) ++ more) = record { at = λ i j p q a b s. o.at i j p q (ap (λ (xs : List (ℕ × List ℕ)). slice_get xs i) (sym order) ∙ a) (ap (λ (xs : List (ℕ × List ℕ)). slice_get xs j) (sym order) ∙ b) s } in
    let free : is_some (entity_in done x.0) ≡ false = no_pair done x.0 (λ i q at is. apart i (o.at i (length done) q x (get_after done more x i q at).1 (get_here done more x) is) (get_after done more x i q at).0) in
    ap (λ (r : Option (ℕ × List ℕ)). with_pair done r (λ next. pairs_in syntax next ps)) parts.0
    ∙ ap (λ (b : Bool). if b then None else pairs_in syntax (done ++ x ∷ []) ps) free
    ∙ all-given syntax (done ++ x ∷ []) ps more parts.1 later ∙ ap (λ (xs : List (ℕ × List ℕ)). Some xs) order
  where
    apart : (i : ℕ) → i ≡ length done → i < length done → ⊥
    apart i same below = omega arith

pub pairs-read : (syntax : Syntax) (ps : List (List ℕ × List ℕ)) (pairs : List (ℕ × List ℕ)) → ArePairs syntax ps pairs → pairs_in syntax [] ps ≡ Some pairs
pairs-read syntax ps pairs a = all-given syntax [] ps pairs a.each (record { at = a.once })
