-- The index of names is kept as a token is added.
use Rattle.std.proofs.Common.{◌≡◌, ◌<◌, ◌+◌, zero, suc, arith, add-one, map, take, length, slice_get, ℕ, Bool, true, false, cond, List, [], ◌∷◌, ◌++◌, Option, Some, None, refl, sym, ap, ◌∙◌}
use Rattle.std.specs.Prelude.{is_some, bytes_eq}
use Rattle.std.specs.Option.{option_or}
use Rattle.std.proofs.lemmas.Slice.Eq.{bytes_eq-Decides}
use Rattle.sgml_model.specs.Term.{Token}
use Rattle.sgml_names.specs.Index.{found}
use Rattle.sgml_ambiguity.specs.Names.{number_in}
use Rattle.sgml_ambiguity.specs.Scan.{token, token_view, same_label, first_number}
use Rattle.sgml_ambiguity.specs.declared.token.Token as each

pub label_same : (l m : Option (List ℕ)) → same_label l m ≡ true → l ≡ m
label_same None None h = refl
label_same None (Some m) h = cc
label_same (Some n) None h = cc
label_same (Some n) (Some m) h = ap Some ((bytes_eq-Decides n m).0 h)

pub same_is : (l m : Option (List ℕ)) → l ≡ m → same_label l m ≡ true
same_is None None h = refl
same_is None (Some m) h = cc
same_is (Some n) None h = cc
same_is (Some n) (Some m) h = (bytes_eq-Decides n m).1 cc

or_nothing : {A : Type 0} (o : Option A) → option_or o None ≡ o
or_nothing None = refl
or_nothing (Some x) = refl

first_behind : (bs : List Token) (t : Token) (l : Option (List ℕ)) → first_number (bs ++ t ∷ []) l ≡ option_or (first_number bs l) (first_number (t ∷ []) l)
first_behind [] t l = refl
first_behind (b ∷ bs) t l =
    elim (same_label l b.label) as (λ h. cond h (Some b.number) (first_number (bs ++ t ∷ []) l) ≡ option_or (cond h (Some b.number) (first_number bs l)) (first_number (t ∷ []) l)) [
      | true ↦ refl
      | false ↦ first_behind bs t l
    ]

pub found_behind : (es : List (List ℕ × ℕ)) (n : List ℕ) (k : ℕ) (m : List ℕ) → found (es ++ (n, k) ∷ []) m ≡ option_or (found es m) (found ((n, k) ∷ []) m)
found_behind [] n k m = refl
found_behind (e ∷ es) n k m =
    elim (bytes_eq m e.0) as (λ h. cond h (Some e.1) (found (es ++ (n, k) ∷ []) m) ≡ option_or (cond h (Some e.1) (found es m)) (found ((n, k) ∷ []) m)) [
      | true ↦ refl
      | false ↦ found_behind es n k m
    ]

-- a token whose name is known
pub known_on : (bs : List Token) (t : Token) (l : Option (List ℕ)) → is_some (first_number bs t.label) ≡ true → first_number (bs ++ t ∷ []) l ≡ first_number bs l
known_on bs t l h = first_behind bs t l ∙ of_first (first_number bs l) refl (same_label l t.label) refl
  where
    of_first : (o : Option ℕ) → first_number bs l ≡ o → (v : Bool) → same_label l t.label ≡ v → option_or o (cond v (Some t.number) None) ≡ o
    of_first (Some n) e v q = refl
    of_first None e false q = refl
    of_first None e true q = let f : first_number bs t.label ≡ None = ap (first_number bs) (sym (label_same l t.label q)) ∙ e in cc

module _ (bs : List Token) (names : List (List ℕ × ℕ)) (text : Option ℕ) (indexed : (l : Option (List ℕ)) → number_in names text l ≡ first_number bs l) where
  -- the first #PCDATA
  pub new_text : (k : ℕ) → is_some (first_number bs None) ≡ false → (l : Option (List ℕ)) → number_in names (Some k) l ≡ first_number (bs ++ token k None ∷ []) l
  new_text k h None = sym (first_behind bs (token k None) None ∙ of_none (first_number bs None) h)
    where
      of_none : (o : Option ℕ) → is_some o ≡ false → option_or o (Some k) ≡ Some k
      of_none None e = refl
      of_none (Some n) e = cc
  new_text k h (Some m) = indexed (Some m) ∙ sym (first_behind bs (token k None) (Some m) ∙ or_nothing (first_number bs (Some m)))

  -- a new name
  pub new_name : (n : List ℕ) (k : ℕ) (l : Option (List ℕ)) → number_in (names ++ (n, k) ∷ []) text l ≡ first_number (bs ++ token k (Some n) ∷ []) l
  new_name n k None = indexed None ∙ sym (first_behind bs (token k (Some n)) None ∙ or_nothing (first_number bs None))
  new_name n k (Some m) =
      found_behind names n k m ∙ ap (λ o. option_or o (cond (bytes_eq m n) (Some k) None)) (indexed (Some m)) ∙ sym (first_behind bs (token k (Some n)) (Some m))

-- the tokens up to the next one
front_and : (ts : List each.Token) (k : ℕ) (t : each.Token) → slice_get ts k ≡ Some t → map token_view (take (suc k) ts) ≡ map token_view (take k ts) ++ token_view t ∷ []
front_and [] zero t at = cc
front_and [] (suc k) t at = cc
front_and (u ∷ ts) zero t at =
    let same : u ≡ t = cc in
    ap (λ x. token_view x ∷ []) same
front_and (u ∷ ts) (suc k) t at = ap (◌∷◌ (token_view u)) (front_and ts k t at)

pub front_and_next : (ts : List each.Token) (k : ℕ) (t : each.Token) → slice_get ts k ≡ Some t → map token_view (take (k + 1) ts) ≡ map token_view (take k ts) ++ token_view t ∷ []
front_and_next ts k t at = ap (λ n. map token_view (take n ts)) (add-one k) ∙ front_and ts k t at

pub next_within : (ts : List each.Token) (k : ℕ) (t : each.Token) → slice_get ts k ≡ Some t → k < length ts
next_within [] zero t at = cc
next_within [] (suc k) t at = cc
next_within (u ∷ ts) zero t at = omega arith
next_within (u ∷ ts) (suc k) t at = let later = next_within ts k t at in omega (arith, later)
