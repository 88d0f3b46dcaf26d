-- The tables of names follow the lists.
use Rattle.std.proofs.Common.{suc, get_or, ◌≡◌, ℕ, Bool, true, false, cond, ◌+◌, List, [], ◌∷◌, ◌++◌, Option, Some, None, refl, sym, ap, ◌∙◌, length, append_assoc, ◌&&◌, ◌<◌, is_some, length-append, arith, if◌then◌else◌}
use Rattle.std.proofs.lemmas.List.{append-nil}
use Rattle.std.specs.Str.{bytes_eq}
use Rattle.sgml_entity.specs.declared.kinds.Entity.{Entity}
use Rattle.sgml_entity.specs.declared.kinds.Notation.{Notation}
use Rattle.sgml_entity.specs.declared.kinds.Space.{Space}
use Rattle.sgml_names.specs.Index.{found, table_limit}
use Rattle.sgml_entity.specs.Entities.{same_space, number_from, number_of, notation_from, notation_of, external_of}
use Rattle.sgml_entity.specs.declared.kinds.Space.TheVariants.{General, Parameter}
use Rattle.sgml_entity.specs.Numbered.{AreNumbered, one_if, numbered, numbered_notations}

found-one_if : (b : Bool) (name q : List ℕ) (n : ℕ) (es : List (List ℕ × ℕ)) (r : Option ℕ) → found es q ≡ r → found (one_if b (name, n) ++ es) q ≡ (if (b && bytes_eq q name) then Some n else r)
found-one_if true name q n es r h = ap (cond (bytes_eq q name) (Some n)) h
found-one_if false name q n es r h = h

-- a look-up among the numbered names is the search
pub found-numbered : (space : Space) (n : ℕ) (es : List Entity) (name : List ℕ) → found (numbered space n es) name ≡ number_from n es space name
found-numbered space n [] name = refl
found-numbered space n (e ∷ es) name = found-one_if (same_space space e.space) e.name name n (numbered space (n + 1) es) (number_from (n + 1) es space name) (found-numbered space (n + 1) es name)

-- one entity more
pub numbered-append : (space : Space) (n : ℕ) (es : List Entity) (e : Entity) → numbered space n (es ++ e ∷ []) ≡ numbered space n es ++ one_if (same_space space e.space) (e.name, n + length es)
numbered-append space n [] e = append-nil (one_if (same_space space e.space) (e.name, n)) ∙ ap (λ (k : ℕ). one_if (same_space space e.space) (e.name, k)) (omega arith)
numbered-append space n (x ∷ es) e =
    let count : (n + 1) + length es ≡ n + length (x ∷ es) = omega arith in
    let first : List (List ℕ × ℕ) = one_if (same_space space x.space) (x.name, n) in
    ap (λ (r : List (List ℕ × ℕ)). first ++ r) (numbered-append space (n + 1) es e)
    ∙ sym (append_assoc first (numbered space (n + 1) es) (one_if (same_space space e.space) (e.name, (n + 1) + length es)))
    ∙ ap (λ (k : ℕ). (first ++ numbered space (n + 1) es) ++ one_if (same_space space e.space) (e.name, k)) count

pub found-notations : (n : ℕ) (os : List Notation) (name : List ℕ) → found (numbered_notations n os) name ≡ notation_from n os name
found-notations n [] name = refl
found-notations n (o ∷ os) name = ap (cond (bytes_eq name o.name) (Some n)) (found-notations (n + 1) os name)

pub notations-append : (n : ℕ) (os : List Notation) (o : Notation) → numbered_notations n (os ++ o ∷ []) ≡ numbered_notations n os ++ one_if true (o.name, n + length os)
notations-append n [] o = ap (λ (k : ℕ). one_if true (o.name, k)) (omega arith)
notations-append n (x ∷ os) o =
    let count : (n + 1) + length os ≡ n + length (x ∷ os) = omega arith in
    ap (λ (r : List (List ℕ × ℕ)). one_if true (x.name, n) ++ r) (notations-append (n + 1) os o)
    ∙ ap (λ (k : ℕ). one_if true (x.name, n) ++ (numbered_notations (n + 1) os ++ one_if true (o.name, k))) count

-- a name without a number isn't in the table
pub absent : (space : Space) (table : List (List ℕ × ℕ)) (es fs : List Entity) (name q : List ℕ) (r : Option ℕ) → table ≡ numbered space 2 es → es ≡ fs → q ≡ name → r ≡ number_of fs space name → is_some r ≡ false → found table q ≡ None
absent space table es fs name q None t f n is none =
    ap (λ (k : List ℕ). found table k) n ∙ ap (λ (x : List (List ℕ × ℕ)). found x name) t ∙ found-numbered space 2 es name ∙ ap (λ (x : List Entity). number_of x space name) f ∙ sym is
absent space table es fs name q (Some x) t f n is none = cc

one_more : (space : Space) (table : List (List ℕ × ℕ)) (es fs : List Entity) (e : Entity) (b : Bool) → table ≡ numbered space 2 es → fs ≡ es ++ e ∷ [] → same_space space e.space ≡ b → table ++ one_if b (e.name, 2 + length es) ≡ numbered space 2 fs
one_more space table es fs e b t f s =
    ap (λ (x : List (List ℕ × ℕ)). x ++ one_if b (e.name, 2 + length es)) t
    ∙ ap (λ (x : Bool). numbered space 2 es ++ one_if x (e.name, 2 + length es)) (sym s)
    ∙ sym (numbered-append space 2 es e) ∙ ap (numbered space 2) (sym f)

count_after : (es fs : List Entity) (e : Entity) → fs ≡ es ++ e ∷ [] → length es + 1 < table_limit → length fs < table_limit
count_after es fs e f few = omega (arith, length-append es (e ∷ []), ap length f)

-- a general entity more
pub added_general : (es fs : List Entity) (os : List Notation) (g h p n : List (List ℕ × ℕ)) (e : Entity) (q : List ℕ) (k : ℕ) → AreNumbered es os g p n → fs ≡ es ++ e ∷ [] → e.space ≡ General → q ≡ e.name → k ≡ 2 + length es → length es + 1 < table_limit → h ≡ g ++ (q, k) ∷ [] → AreNumbered fs os h p n
added_general es fs os g h p n e q k a f s name number few is = record {
  general_is = is ∙ ap (λ (x : List ℕ). g ++ one_if true (x, k)) name ∙ ap (λ (x : ℕ). g ++ one_if true (e.name, x)) number
      ∙ one_more General g es fs e true a.general_is f (ap (same_space General) s);
  parameter_is = sym (append-nil p) ∙ one_more Parameter p es fs e false a.parameter_is f (ap (same_space Parameter) s);
  notations_are = a.notations_are;
  few_entities = count_after es fs e f few;
  few_notations = a.few_notations;
}

-- a parameter entity more
pub added_parameter : (es fs : List Entity) (os : List Notation) (g p h n : List (List ℕ × ℕ)) (e : Entity) (q : List ℕ) (k : ℕ) → AreNumbered es os g p n → fs ≡ es ++ e ∷ [] → e.space ≡ Parameter → q ≡ e.name → k ≡ 2 + length es → length es + 1 < table_limit → h ≡ p ++ (q, k) ∷ [] → AreNumbered fs os g h n
added_parameter es fs os g p h n e q k a f s name number few is = record {
  general_is = sym (append-nil g) ∙ one_more General g es fs e false a.general_is f (ap (same_space General) s);
  parameter_is = is ∙ ap (λ (x : List ℕ). p ++ one_if true (x, k)) name ∙ ap (λ (x : ℕ). p ++ one_if true (e.name, x)) number
      ∙ one_more Parameter p es fs e true a.parameter_is f (ap (same_space Parameter) s);
  notations_are = a.notations_are;
  few_entities = count_after es fs e f few;
  few_notations = a.few_notations;
}

-- a notation more
pub added_notation : (es : List Entity) (os ps : List Notation) (g p n m : List (List ℕ × ℕ)) (o : Notation) (q : List ℕ) (k : ℕ) → AreNumbered es os g p n → ps ≡ os ++ o ∷ [] → q ≡ o.name → k ≡ length os → length os + 1 < table_limit → m ≡ n ++ (q, k) ∷ [] → AreNumbered es ps g p m
added_notation es os ps g p n m o q k a f name number few is =
    let start : length os ≡ 0 + length os = omega arith in record {
      general_is = a.general_is;
      parameter_is = a.parameter_is;
      notations_are = is ∙ ap (λ (x : List ℕ). n ++ one_if true (x, k)) name ∙ ap (λ (x : ℕ). n ++ one_if true (o.name, x)) number
          ∙ ap (λ (x : List (List ℕ × ℕ)). x ++ one_if true (o.name, length os)) a.notations_are
          ∙ ap (λ (x : ℕ). numbered_notations 0 os ++ one_if true (o.name, x)) start
          ∙ sym (notations-append 0 os o) ∙ ap (numbered_notations 0) (sym f);
      few_entities = a.few_entities;
      few_notations = omega (arith, length-append os (o ∷ []), ap length f);
    }

-- a name without a number isn't in the table of notations
pub absent_notation : (table : List (List ℕ × ℕ)) (os ps : List Notation) (name q : List ℕ) (r : Option ℕ) → table ≡ numbered_notations 0 os → os ≡ ps → q ≡ name → r ≡ notation_of ps name → is_some r ≡ false → found table q ≡ None
absent_notation table os ps name q None t f n is none =
    ap (λ (k : List ℕ). found table k) n ∙ ap (λ (x : List (List ℕ × ℕ)). found x name) t ∙ found-notations 0 os name ∙ ap (λ (x : List Notation). notation_of x name) f ∙ sym is
absent_notation table os ps name q (Some x) t f n is none = cc

-- where the notation of a number stands, from n on
pub record NotationAt (n k : ℕ) (os : List Notation) (name : List ℕ) : Type 0 where
  pub place : ℕ
  pub number : k ≡ n + place
  pub within : place < length os
  pub stands : (d : Notation) → Some (get_or os place d).external ≡ external_of os name

notation_here : (b : Bool) (n k : ℕ) (o : Notation) (os : List Notation) (name : List ℕ) → bytes_eq name o.name ≡ b → notation_from n (o ∷ os) name ≡ Some k → (notation_from (n + 1) os name ≡ Some k → NotationAt (n + 1) k os name) → NotationAt n k (o ∷ os) name
notation_here true n k o os name b is again =
    let first : Some n ≡ Some k = rw b at is in
    record { place = 0; number = same n k (alike n k first); within = omega arith; stands = λ d. rw b refl }
  where
    alike : (x y : ℕ) → Some x ≡ Some y → x ≡ y
    alike x y e = cc

    same : (x y : ℕ) → x ≡ y → y ≡ x + 0
    same x y e = omega (arith, e)
notation_here false n k o os name b is again =
    let later = again (rw b at is) in
    record { place = suc later.place; number = omega (arith, later.number); within = omega (arith, later.within); stands = λ d. rw b (later.stands d) }

pub notation_found : (n k : ℕ) (os : List Notation) (name : List ℕ) → notation_from n os name ≡ Some k → NotationAt n k os name
notation_found n k [] name is = absurd is
  where
    absurd : None ≡ Some k → NotationAt n k [] name
    absurd never = cc
notation_found n k (o ∷ os) name is = notation_here (bytes_eq name o.name) n k o os name refl is (λ later. notation_found (n + 1) k os name later)

none_here : (b : Bool) (n : ℕ) (o : Notation) (os : List Notation) (name : List ℕ) → bytes_eq name o.name ≡ b → notation_from n (o ∷ os) name ≡ None → (notation_from (n + 1) os name ≡ None → external_of os name ≡ None) → external_of (o ∷ os) name ≡ None
none_here true n o os name b is again = absurd (rw b at is)
  where
    absurd : Some n ≡ None → external_of (o ∷ os) name ≡ None
    absurd never = cc
none_here false n o os name b is again = rw b (again (rw b at is))

pub no_notation : (n : ℕ) (os : List Notation) (name : List ℕ) → notation_from n os name ≡ None → external_of os name ≡ None
no_notation n [] name is = refl
no_notation n (o ∷ os) name is = none_here (bytes_eq name o.name) n o os name refl is (λ later. no_notation (n + 1) os name later)
