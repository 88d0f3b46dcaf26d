-- The entity that is found by a name is the first that is declared.
use Rattle.std.proofs.Common.{◌≡◌, ℕ, zero, suc, Bool, true, false, cond, ◌+◌, ◌-◌, ◌&&◌, List, [], ◌∷◌, ◌++◌, Option, Some, None, refl, sym, ap, ◌∙◌, append_assoc, is_some, if◌then◌else◌, nat_lt, option_and_then, arith}
use Rattle.std.proofs.lemmas.List.{append-nil}
use Rattle.std.proofs.lemmas.Bool.{le-ltb}
use Rattle.std.proofs.lemmas.Slice.Eq.{bytes_eq-Decides}
use Rattle.std.specs.List.{slice_get}
use Rattle.std.specs.Option.{option_or}
use Rattle.std.specs.Str.{bytes_eq}
use Rattle.sgml_entity.specs.declared.kinds.Entity.{Entity}
use Rattle.sgml_entity.specs.declared.kinds.Space.{Space}
use Rattle.sgml_entity.specs.declared.kinds.Space.TheVariants.{General, Parameter}
use Rattle.sgml_entity.specs.Entities.{same_space, is_entity, number_from, number_of, entity_at}
use Rattle.sgml_dtd.specs.Doctypes.{with_entity}
use Rattle.sgml_dtd.specs.Laws.{first_entity_of}
use Rattle.sgml_dtd.proofs.AfterAll.{entities_after}

-- where an entity that has a number stands
pub record FoundAt (n k : ℕ) (es : List Entity) (space : Space) (name : List ℕ) : Type 0 where
  pub at : ℕ
  pub number : k ≡ n + at
  pub entity : Entity
  pub stands : slice_get es at ≡ Some entity
  pub first : first_entity_of es space name ≡ Some entity

found_here : (b : Bool) (n k : ℕ) (e : Entity) (es : List Entity) (space : Space) (name : List ℕ) → is_entity space name e ≡ b → (if b then Some n else number_from (n + 1) es space name) ≡ Some k →
    (number_from (n + 1) es space name ≡ Some k → FoundAt (n + 1) k es space name) → FoundAt n k (e ∷ es) space name
found_here true n k e es space name b is again =
    record { at = zero; number = same n k is; entity = e; stands = refl; first = rw b refl }
  where
    alike : (x y : ℕ) → Some x ≡ Some y → y ≡ x
    alike x y h = cc

    same : (x y : ℕ) → Some x ≡ Some y → y ≡ x + 0
    same x y h = alike x y h ∙ omega arith
found_here false n k e es space name b is again =
    let later = again is in
    record { at = suc later.at; number = omega (arith, later.number); entity = later.entity; stands = later.stands; first = rw b later.first }

pub found_at : (n k : ℕ) (es : List Entity) (space : Space) (name : List ℕ) → number_from n es space name ≡ Some k → FoundAt n k es space name
found_at n k [] space name is = absurd is
  where
    absurd : None ≡ Some k → FoundAt n k [] space name
    absurd never = cc
found_at n k (e ∷ es) space name is = found_here (is_entity space name e) n k e es space name refl is (λ h. found_at (n + 1) k es space name h)

none_here : (b : Bool) (n : ℕ) (e : Entity) (r : Option ℕ) (first : Option Entity) → (if b then Some n else r) ≡ None → (r ≡ None → first ≡ None) → (if b then Some e else first) ≡ None
none_here true n e r first is again = cc
none_here false n e r first is again = again is

pub none_at : (n : ℕ) (es : List Entity) (space : Space) (name : List ℕ) → number_from n es space name ≡ None → first_entity_of es space name ≡ None
none_at n [] space name is = refl
none_at n (e ∷ es) space name is = none_here (is_entity space name e) n e (number_from (n + 1) es space name) (first_entity_of es space name) is (λ h. none_at (n + 1) es space name h)

at_number : (es : List Entity) (k at : ℕ) → k ≡ 2 + at → entity_at es k ≡ slice_get es at
at_number es k at is =
    let enough : nat_lt k 2 ≡ false = le-ltb k 2 (omega (arith, is)) in
    let place : k - 2 ≡ at = omega (arith, is) in
    ap (λ (b : Bool). if b then None else slice_get es (k - 2)) enough ∙ ap (λ (i : ℕ). slice_get es i) place

by_number : (es : List Entity) (space : Space) (name : List ℕ) (r : Option ℕ) → number_of es space name ≡ r → option_and_then (entity_at es) r ≡ first_entity_of es space name
by_number es space name None is = sym (none_at 2 es space name is)
by_number es space name (Some k) is = let f = found_at 2 k es space name is in at_number es k f.at f.number ∙ f.stands ∙ sym f.first

-- what is found by its number is the first
pub found_is_first : (es : List Entity) (space : Space) (name : List ℕ) → option_and_then (entity_at es) (number_of es space name) ≡ first_entity_of es space name
found_is_first es space name = by_number es space name (number_of es space name) refl

or_here : (b : Bool) (e : Entity) (first r : Option Entity) → (if b then Some e else option_or first r) ≡ option_or (if b then Some e else first) r
or_here true e first r = refl
or_here false e first r = refl

pub first-append : (xs ys : List Entity) (space : Space) (name : List ℕ) → first_entity_of (xs ++ ys) space name ≡ option_or (first_entity_of xs space name) (first_entity_of ys space name)
first-append [] ys space name = refl
first-append (x ∷ xs) ys space name =
    ap (λ (r : Option Entity). if is_entity space name x then Some x else r) (first-append xs ys space name)
    ∙ or_here (is_entity space name x) x (first_entity_of xs space name) (first_entity_of ys space name)

one_space : (a b : Space) → same_space a b ≡ true → a ≡ b
one_space General General is = refl
one_space Parameter Parameter is = refl
one_space General Parameter is = cc
one_space Parameter General is = cc

both_left : (a b : Bool) → (a && b) ≡ true → a ≡ true
both_left true b is = refl
both_left false b is = cc

both_right : (a b : Bool) → (a && b) ≡ true → b ≡ true
both_right true b is = is
both_right false b is = cc

-- an entity that has a number is declared
pub some_first : (es : List Entity) (space : Space) (name : List ℕ) (r : Option ℕ) → number_of es space name ≡ r → is_some r ≡ true → (x : Entity) × (first_entity_of es space name ≡ Some x)
some_first es space name None is some = absurd some
  where
    absurd : false ≡ true → (x : Entity) × (first_entity_of es space name ≡ Some x)
    absurd never = cc
some_first es space name (Some k) is some = let f = found_at 2 k es space name is in (f.entity, f.first)

hidden_here : (b : Bool) (e x : Entity) (o first : Option Entity) → (b ≡ true → o ≡ Some x) → option_or o (if b then Some e else first) ≡ option_or o first
hidden_here true e x o first is = ap (λ (p : Option Entity). option_or p (Some e)) (is refl) ∙ sym (ap (λ (p : Option Entity). option_or p first) (is refl))
hidden_here false e x o first is = refl

-- a later declaration of a name is hidden by an earlier one
pub hidden : (es more : List Entity) (e : Entity) (space : Space) (name : List ℕ) → is_some (number_of es e.space e.name) ≡ true → first_entity_of (es ++ e ∷ more) space name ≡ first_entity_of (es ++ more) space name
hidden es more e space name some =
    let x = some_first es e.space e.name (number_of es e.space e.name) refl some in
    first-append es (e ∷ more) space name
    ∙ hidden_here (is_entity space name e) e x.0 (first_entity_of es space name) (first_entity_of more space name)
    (λ h. ap (λ (s : Space). first_entity_of es s name) (one_space space e.space (both_left (same_space space e.space) (bytes_eq name e.name) h))
    ∙ ap (λ (n : List ℕ). first_entity_of es e.space n) ((bytes_eq-Decides name e.name).0 (both_right (same_space space e.space) (bytes_eq name e.name) h))
    ∙ x.1)
    ∙ sym (first-append es more space name)

kept_here : (b : Bool) (es more : List Entity) (e : Entity) (space : Space) (name : List ℕ) → is_some (number_of es e.space e.name) ≡ b →
    ((fs : List Entity) → first_entity_of (entities_after fs more) space name ≡ first_entity_of (fs ++ more) space name) →
    first_entity_of (entities_after (if b then es else es ++ e ∷ []) more) space name ≡ first_entity_of (es ++ e ∷ more) space name
kept_here true es more e space name b again = again es ∙ sym (hidden es more e space name b)
kept_here false es more e space name b again = again (es ++ e ∷ []) ∙ ap (λ (fs : List Entity). first_entity_of fs space name) (append_assoc es (e ∷ []) more)

-- of all that are declared the first is kept
pub first_is_kept : (es more : List Entity) (space : Space) (name : List ℕ) → first_entity_of (entities_after es more) space name ≡ first_entity_of (es ++ more) space name
first_is_kept es [] space name = ap (λ (fs : List Entity). first_entity_of fs space name) (sym (append-nil es))
first_is_kept es (e ∷ more) space name = kept_here (is_some (number_of es e.space e.name)) es more e space name refl (λ fs. first_is_kept fs more space name)
