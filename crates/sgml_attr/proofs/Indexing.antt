-- The index of the definitions' names, as it is made.
use Rattle.std.proofs.Common.{◌≡◌, ◌≢◌, ◌≤◌, ◌==◌, ◌&&◌, ◌||◌, not, cond, ℕ, Bool, true, false, List, [], ◌∷◌, ◌++◌, Option, Some, None, refl, sym, ap, ◌∙◌, arith, length, drop, if◌then◌else◌, is_some, append_assoc}
use Rattle.std.specs.Prelude.{position}
use Rattle.std.specs.Option.{option_or}
use Rattle.std.specs.Str.{bytes_eq}
use Rattle.std.proofs.lemmas.Grind.{common_steps}
use Rattle.std.proofs.lemmas.List.{append-nil, drop_all}
use Rattle.std.proofs.lemmas.Slice.Eq.{bytes_eq-Decides}
use Rattle.sgml_names.specs.Index.{found, with_new}
use Rattle.sgml_attr.specs.declared.definition.Definition.{Definition}
use Rattle.sgml_attr.specs.declared.index.AttributeIndex.{AttributeIndex}
use Rattle.sgml_attr.specs.Matching.{has_member, only_position}
use Rattle.sgml_attr.specs.Finding.{names_from, members_from, with_another, unless_another, only_number, first_or_only, only_after, IsIndexOf}
use Rattle.sgml_attr.proofs.Numbering.{names-position, members-only, from-zero}

pub found-append : (a b : List (List ℕ × ℕ)) (t : List ℕ) → found (a ++ b) t ≡ option_or (found a t) (found b t)
found-append [] b t = refl
found-append (e ∷ a) b t =
    elim (bytes_eq t e.0) as (λ h. cond h (Some e.1) (found (a ++ b) t) ≡ option_or (cond h (Some e.1) (found a t)) (found b t)) [
      | true ↦ refl
      | false ↦ found-append a b t
    ]

-- another entry of a name that is there changes nothing
pub found-known : (a rest : List (List ℕ × ℕ)) (n : List ℕ) (k : ℕ) (t : List ℕ) → is_some (found a n) ≡ true → found (a ++ rest) t ≡ found (a ++ ((n, k) ∷ rest)) t
found-known a rest n k t h = found-append a rest t ∙ by (found a t) refl (bytes_eq t n) refl ∙ sym (found-append a ((n, k) ∷ rest) t)
  where
    by : (o : Option ℕ) → found a t ≡ o → (v : Bool) → bytes_eq t n ≡ v → option_or o (found rest t) ≡ option_or o (cond v (Some k) (found rest t))
    by (Some m) e v q = refl
    by None e false q = refl
    by None e true q = let f : found a n ≡ None = ap (found a) (sym ((bytes_eq-Decides t n).0 q)) ∙ e in cc

-- a name more, unless it is there
pub new-first : (a rest : List (List ℕ × ℕ)) (n : List ℕ) (k : ℕ) (t : List ℕ) → found (with_new a n k ++ rest) t ≡ found (a ++ ((n, k) ∷ rest)) t
new-first a rest n k t = by (is_some (found a n)) refl
  where
    by : (v : Bool) → is_some (found a n) ≡ v → found ((if v then a else a ++ (n, k) ∷ []) ++ rest) t ≡ found (a ++ ((n, k) ∷ rest)) t
    by true h = found-known a rest n k t h
    by false h = ap (λ (es : List (List ℕ × ℕ)). found es t) (append_assoc a ((n, k) ∷ []) rest)

-- one entry more
pub found-more : (a b : List (List ℕ × ℕ)) (n : List ℕ) (k : ℕ) → ((rest : List (List ℕ × ℕ)) (t : List ℕ) → found (b ++ rest) t ≡ found (a ++ ((n, k) ∷ rest)) t)
    → (t : List ℕ) → found b t ≡ option_or (found a t) (cond (bytes_eq t n) (Some k) None)
found-more a b n k more t = ap (λ (es : List (List ℕ × ℕ)). found es t) (sym (append-nil b)) ∙ more [] t ∙ found-append a ((n, k) ∷ []) t

-- what follows an entry, by whether it has the name
abbrev after : Bool → ℕ → Option ℕ → List (List ℕ × ℕ) → List ℕ → Option ℕ
after v k None rest t = if v then unless_another (Some k) rest t else only_number rest t
after v k (Some f) rest t = if (v && not (k == f)) || with_another f rest t then None else Some f

after-is : (n : List ℕ) (k : ℕ) (o : Option ℕ) (rest : List (List ℕ × ℕ)) (t : List ℕ) → first_or_only o ((n, k) ∷ rest) t ≡ after (bytes_eq t n) k o rest t
after-is n k None rest t = refl
after-is n k (Some f) rest t = refl

kept : (v : Bool) (k : ℕ) (o : Option ℕ) (rest : List (List ℕ × ℕ)) (t : List ℕ) → ((f : ℕ) → v ≡ true → o ≡ Some f → (k == f) ≡ true)
    → first_or_only (option_or o (cond v (Some k) None)) rest t ≡ after v k o rest t
kept true k None rest t h = refl
kept true k (Some f) rest t h = ap (λ (b : Bool). if not b || with_another f rest t then None else Some f) (sym (h f refl refl))
kept false k None rest t h = refl
kept false k (Some f) rest t h = refl

-- a name that is new, or stands with the same number
pub member-kept : (m new s rest : List (List ℕ × ℕ)) (n : List ℕ) (k : ℕ) (t : List ℕ) → ((u : List ℕ) → found new u ≡ option_or (found m u) (cond (bytes_eq u n) (Some k) None))
    → ((f : ℕ) → found m n ≡ Some f → (k == f) ≡ true) → only_after new s rest t ≡ only_after m s ((n, k) ∷ rest) t
member-kept m new s rest n k t more same =
    ap (λ (o : Option ℕ). if is_some (found s t) then None else first_or_only o rest t) (more t)
    ∙ ap (λ (x : Option ℕ). if is_some (found s t) then None else x)
    (kept (bytes_eq t n) k (found m t) rest t (λ f q e. same f (ap (found m) (sym ((bytes_eq-Decides t n).0 q)) ∙ e)) ∙ sym (after-is n k (found m t) rest t))

shared-by : (v : Bool) (o p : Option ℕ) (k f : ℕ) (rest : List (List ℕ × ℕ)) (t : List ℕ) → (v ≡ true → o ≡ Some f) → (k == f) ≡ false
    → (if is_some (option_or p (cond v (Some k) None)) then None else first_or_only (option_or o (cond v (Some k) None)) rest t)
    ≡ (if is_some p then None else after v k o rest t)
shared-by true None (Some x) k f rest t h d = refl
shared-by true (Some g) (Some x) k f rest t h d = refl
shared-by true None None k f rest t h d = absurd (none (h refl))
  where
    none : {g : ℕ} → None ≡ Some g → ⊥
    none e = cc
shared-by true (Some g) None k f rest t h d = ap (λ (b : Bool). if not b || with_another g rest t then None else Some g) (sym (ap (λ (x : ℕ). k == x) (same (h refl)) ∙ d))
  where
    same : Some g ≡ Some f → g ≡ f
    same e = cc
shared-by false None None k f rest t h d = refl
shared-by false (Some g) None k f rest t h d = refl
shared-by false None (Some x) k f rest t h d = refl
shared-by false (Some g) (Some x) k f rest t h d = refl

-- a name that stands with another number
pub member-shared : (m new s with rest : List (List ℕ × ℕ)) (n : List ℕ) (k f : ℕ) (t : List ℕ) → ((u : List ℕ) → found new u ≡ option_or (found m u) (cond (bytes_eq u n) (Some k) None))
    → ((u : List ℕ) → found with u ≡ option_or (found s u) (cond (bytes_eq u n) (Some k) None)) → found m n ≡ Some f → (k == f) ≡ false
    → only_after new with rest t ≡ only_after m s ((n, k) ∷ rest) t
member-shared m new s with rest n k f t more too is d =
    ap (λ (o : Option ℕ). if is_some (found with t) then None else first_or_only o rest t) (more t)
    ∙ ap (λ (p : Option ℕ). if is_some p then None else first_or_only (option_or (found m t) (cond (bytes_eq t n) (Some k) None)) rest t) (too t)
    ∙ shared-by (bytes_eq t n) (found m t) (found s t) k f rest t (λ q. ap (found m) ((bytes_eq-Decides t n).0 q) ∙ is) d
    ∙ ap (λ (x : Option ℕ). if is_some (found s t) then None else x) (sym (after-is n k (found m t) rest t))

pub same-some : (a b : ℕ) → Some a ≡ Some b → a ≡ b
same-some a b e = cc

pub differs : (a b : ℕ) → a ≢ b → (b == a) ≡ false
differs a b d = grind (arith, common_steps)

-- all definitions are in the index
pub index-made : (index : AttributeIndex) (i : ℕ) (ds : List Definition) → length ds ≤ i
    → ((name : List ℕ) → found (index.names ++ names_from i (drop i ds)) name ≡ found (names_from 0 ds) name)
    → ((name : List ℕ) → only_after index.members index.shared (members_from i (drop i ds)) name ≡ only_after [] [] (members_from 0 ds) name)
    → IsIndexOf index ds
index-made index i ds l named only = record {
  named = λ name.
      ap (λ (es : List (List ℕ × ℕ)). found es name) (sym (append-nil index.names) ∙ ap (λ (rest : List Definition). index.names ++ names_from i rest) (sym (drop_all i ds l)))
      ∙ named name ∙ names-position 0 ds name ∙ from-zero (position (λ d. bytes_eq name d.name) ds);
  only = λ name.
      ap (λ (rest : List Definition). only_after index.members index.shared (members_from i rest) name) (sym (drop_all i ds l))
      ∙ only name ∙ members-only 0 ds name ∙ from-zero (only_position (λ d. has_member name d.declared) ds);
}
