-- In mixed content and in element content data is free.
use Rattle.std.specs.Prelude.{◌≡◌, ℕ, Bool, true, false, ◌⊎◌, bytes_eq, cond, Option, Some, None, option_map, unwrap_or, [], ◌∷◌}
use Rattle.std.specs.Option.{option_or}
use Rattle.std.proofs.Common.{refl, sym, ap, ◌∙◌, inl, inr, subst}
use Rattle.std.proofs.lemmas.Bool.{and_parts, and_from, or_cases, or_left, or_right}
use Rattle.std.proofs.lemmas.Slice.Eq.{bytes_eq-Decides}
use Rattle.sgml_theory_worked.specs.theory_reading.Names.{Name}
use Rattle.sgml_theory_worked.specs.model.Term.{Term, empty, name, pcdata, seq, or, and, opt, plus, rep, member, round, Terms, none, more, done, some_done}
use Rattle.sgml_theory_worked.specs.model.Group.{one_of, any_times, begin, finish, text, word, by, mark}
use Rattle.sgml_theory_worked.specs.model.Reading.{reading, run}
use Rattle.sgml_theory_worked.specs.model.Choice.{is_name, is_text, begun, keeping, left_by, left_in_order, left_of_some, choice}
use Rattle.sgml_theory_worked.specs.theory_reading.Facets.{Token, Pcdata}
use Rattle.sgml_theory_worked.specs.theory_reading.Context.{token_left}
use Rattle.sgml_theory_written.specs.Free.{DataIsFree, is_token, are_tokens, is_group, is_rest, is_over, is_mixed, is_textless, are_textless, is_free}

free-from : (r s : Term) → token_left r Pcdata ≡ s → ((k : Token) → left_by s k ≡ left_by r k) → done s ≡ done r → DataIsFree r
free-from r s e f g = record {
  same_next = λ k. ap (λ (t : Term). left_by t k) e ∙ f k;
  same_end = ap done e ∙ g;
}

-- where no data can come
no-data : (r : Term) → left_by r Pcdata ≡ None → DataIsFree r
no-data r e = free-from r r (ap (λ (o : Option Term). unwrap_or o r) e) (λ k. refl) refl

-- GROUPS OF TOKENS

-- what is left after data takes data again, and no element, and needs nothing more
record IsText (x : Term) : Type 0 where
  again : left_by x Pcdata ≡ Some x
  no_element : (n : Name) → left_by x (Some n) ≡ None
  over : done x ≡ true

text-itself : (k : ℕ) → IsText (pcdata k)
text-itself k = record { again = refl; no_element = λ n. refl; over = refl }

text-alone : (k : ℕ) → IsText (seq (more (pcdata k) none))
text-alone k = record { again = refl; no_element = λ n. refl; over = refl }

-- the one or the other comes to it
comes-of : {A : Type 0} (o p : Option A) (x : A) (C : Type 0) → option_or o p ≡ Some x → (o ≡ Some x → C) → (p ≡ Some x → C) → C
comes-of None p x C e g h = h e
comes-of (Some y) p x C e g h = g e

record AfterData (m x : Term) : Type 0 where
  text : IsText x
  ended : done m ≡ true

token-text : (m x : Term) → is_token m ≡ true → left_by m Pcdata ≡ Some x → AfterData m x
token-text (name k n) x t e = absurd (cc)
token-text (pcdata k) x t e =
    let f : pcdata k ≡ x = cc in
    record { text = subst IsText f (text-itself k); ended = refl }
token-text m x t e = absurd (let f : false ≡ true = t in cc)

abbrev AnyAfterData : Terms → Term → Type 0
AnyAfterData ms x = IsText x × (some_done ms ≡ true)

group-text : (ms : Terms) (x : Term) → are_tokens ms ≡ true → left_of_some ms Pcdata ≡ Some x → AnyAfterData ms x
group-text none x t e = absurd (cc)
group-text (more m ms) x t e =
    let p = and_parts (is_token m) (are_tokens ms) t in
    comes-of (left_by m Pcdata) (left_of_some ms Pcdata) x (AnyAfterData (more m ms) x) e
    (λ f. let a = token-text m x p.0 f in (a.text, or_left (done m) (some_done ms) a.ended))
    (λ f. let a = group-text ms x p.1 f in (a.0, or_right (done m) (some_done ms) a.1))

alone-text : (m x : Term) → is_token m ≡ true → left_by (seq (more m none)) Pcdata ≡ Some x → AfterData (seq (more m none)) x
alone-text (name k n) x t e = absurd (cc)
alone-text (pcdata k) x t e =
    let f : seq (more (pcdata k) none) ≡ x = cc in
    record { text = subst IsText f (text-alone k); ended = refl }
alone-text m x t e = absurd (let f : false ≡ true = t in cc)

in-group : (m x : Term) → is_group m ≡ true → left_by m Pcdata ≡ Some x → AfterData m x
in-group (or ms) x g e = let a = group-text ms x g e in record { text = a.0; ended = a.1 }
in-group (seq (more m none)) x g e = alone-text m x g e
in-group m x g e = absurd (let f : false ≡ true = g in cc)

-- a round of a repeated group
abbrev round-of : Term → Term → Term
round-of m x = round x m

-- where a new round of the group begins, whatever comes
repeated-free : (r m : Term) → ((k : Token) → left_by r k ≡ option_map (round-of m) (left_by m k)) → ((x : Term) → left_by m Pcdata ≡ Some x → done r ≡ true) → is_group m ≡ true → DataIsFree r
repeated-free r m f d g = go (left_by m Pcdata) refl
  where
    same : (x : Term) → left_by m Pcdata ≡ Some x → IsText x → (t : Token) → left_by (round x m) t ≡ left_by r t
    same x e t None =
        ap (λ (o : Option Term). option_or (option_map (round-of m) o) (cond (done x) (option_map (round-of m) (left_by m Pcdata)) None)) t.again
        ∙ sym (f Pcdata ∙ ap (option_map (round-of m)) e)
    same x e t (Some n) =
        (λ i. option_or (option_map (round-of m) (t.no_element n i)) (cond (t.over i) (option_map (round-of m) (left_by m (Some n))) None))
        ∙ sym (f (Some n))

    go : (o : Option Term) → left_by m Pcdata ≡ o → DataIsFree r
    go None e = no-data r (f Pcdata ∙ ap (option_map (round-of m)) e)
    go (Some x) e =
        let t = (in-group m x g e).text in
        free-from r (round x m) (ap (λ (o : Option Term). unwrap_or o r) (f Pcdata ∙ ap (option_map (round-of m)) e)) (same x e t) (t.over ∙ sym (d x e))

alone-free : (q m : Term) → is_rest q ≡ true → is_group m ≡ true → DataIsFree (round (seq (more q none)) m)
alone-free empty m o g = repeated-free (round (seq (more empty none)) m) m (λ k. refl) (λ x e. refl) g
alone-free (pcdata k) m o g =
    free-from (round (seq (more (pcdata k) none)) m) (round (seq (more (pcdata k) none)) m) refl (λ t. refl) refl
alone-free q m o g = absurd (let f : false ≡ true = o in cc)

round-free : (q m : Term) → is_over q ≡ true → is_group m ≡ true → DataIsFree (round q m)
round-free empty m o g = repeated-free (round empty m) m (λ k. refl) (λ x e. refl) g
round-free (pcdata k) m o g = free-from (round (pcdata k) m) (round (pcdata k) m) refl (λ t. refl) refl
round-free (seq (more q none)) m o g = alone-free q m o g
round-free q m o g = absurd (let f : false ≡ true = o in cc)

mixed-free : (r : Term) → is_mixed r ≡ true → DataIsFree r
mixed-free empty g = no-data empty refl
mixed-free (pcdata k) g = free-from (pcdata k) (pcdata k) refl (λ t. refl) refl
mixed-free (seq (more (pcdata k) none)) g =
    free-from (seq (more (pcdata k) none)) (seq (more (pcdata k) none)) refl (λ t. refl) refl
mixed-free (plus m) g = repeated-free (plus m) m (λ k. refl) (λ x e. (in-group m x g e).ended) g
mixed-free (rep m) g = repeated-free (rep m) m (λ k. refl) (λ x e. refl) g
mixed-free (round q m) g = let p = and_parts (is_over q) (is_group m) g in round-free q m p.0 p.1
mixed-free r g = absurd (let f : false ≡ true = g in cc)

-- WHAT IS LEFT OF MIXED CONTENT
record FromMap {A : Type 0} (f : A → Term) (o : Option A) (y : Term) : Type 0 where
  from : A
  there : o ≡ Some from
  is : f from ≡ y

from-map : {A : Type 0} (f : A → Term) (o : Option A) (y : Term) → option_map f o ≡ Some y → FromMap f o y
from-map f None y e = absurd (cc)
from-map f (Some x) y e = record { from = x; there = refl; is = (let g : f x ≡ y = cc in g) }

chosen : (b : Bool) (a x : Term) → cond b (Some a) None ≡ Some x → a ≡ x
chosen true a x e = (let f : a ≡ x = cc in f)
chosen false a x e = absurd (cc)

token-rest : (m : Term) (k : Token) (x : Term) → is_token m ≡ true → left_by m k ≡ Some x → is_rest x ≡ true
token-rest (name j n) k x t e = ap is_rest (sym (chosen (is_name n k) empty x e))
token-rest (pcdata j) k x t e = ap is_rest (sym (chosen (is_text k) (pcdata j) x e))
token-rest m k x t e = absurd (let f : false ≡ true = t in cc)

rest-over : (x : Term) → is_rest x ≡ true → is_over x ≡ true
rest-over empty e = refl
rest-over (pcdata k) e = refl
rest-over x e = absurd (let f : false ≡ true = e in cc)

tokens-over : (ms : Terms) (k : Token) (x : Term) → are_tokens ms ≡ true → left_of_some ms k ≡ Some x → is_over x ≡ true
tokens-over none k x t e = absurd (cc)
tokens-over (more m ms) k x t e =
    let p = and_parts (is_token m) (are_tokens ms) t in
    comes-of (left_by m k) (left_of_some ms k) x (is_over x ≡ true) e (λ f. rest-over x (token-rest m k x p.0 f)) (tokens-over ms k x p.1)

never : (b : Bool) (x : Term) (C : Type 0) → cond b None None ≡ Some x → C
never true x C e = absurd (cc)
never false x C e = absurd (cc)

alone-over : (m : Term) (k : Token) (x : Term) → is_token m ≡ true → left_by (seq (more m none)) k ≡ Some x → is_over x ≡ true
alone-over m k x t e =
    comes-of (option_map (λ m'. seq (more m' none)) (left_by m k)) (cond (done m) None None) x (is_over x ≡ true) e
    (λ f. let y = from-map (λ m'. seq (more m' none)) (left_by m k) x f in ap is_over (sym y.is) ∙ token-rest m k y.from t y.there)
    (never (done m) x (is_over x ≡ true))

group-over : (m : Term) (k : Token) (x : Term) → is_group m ≡ true → left_by m k ≡ Some x → is_over x ≡ true
group-over (or ms) k x g e = tokens-over ms k x g e
group-over (seq (more m none)) k x g e = alone-over m k x g e
group-over m k x g e = absurd (let f : false ≡ true = g in cc)

begins-round : (m : Term) (k : Token) (y : Term) → is_group m ≡ true → option_map (round-of m) (left_by m k) ≡ Some y → is_mixed y ≡ true
begins-round m k y g e =
    let t = from-map (round-of m) (left_by m k) y e in
    ap is_mixed (sym t.is) ∙ and_from (is_over t.from) (is_group m) (group-over m k t.from g t.there) g

left-of-one : (q m : Term) (k : Token) (y : Term) → is_rest q ≡ true → is_group m ≡ true → left_by (round (seq (more q none)) m) k ≡ Some y → is_mixed y ≡ true
left-of-one empty m k y o g e = begins-round m k y g e
left-of-one (pcdata j) m None y o g e = let f : round (seq (more (pcdata j) none)) m ≡ y = cc in ap is_mixed (sym f) ∙ g
left-of-one (pcdata j) m (Some n) y o g e = begins-round m (Some n) y g e
left-of-one q m k y o g e = absurd (let f : false ≡ true = o in cc)

left-of-round : (q m : Term) (k : Token) (y : Term) → is_over q ≡ true → is_group m ≡ true → left_by (round q m) k ≡ Some y → is_mixed y ≡ true
left-of-round empty m k y o g e = begins-round m k y g e
left-of-round (pcdata j) m None y o g e = let f : round (pcdata j) m ≡ y = cc in ap is_mixed (sym f) ∙ g
left-of-round (pcdata j) m (Some n) y o g e = begins-round m (Some n) y g e
left-of-round (seq (more q none)) m k y o g e = left-of-one q m k y o g e
left-of-round q m k y o g e = absurd (let f : false ≡ true = o in cc)

left-of-text : (j : ℕ) (k : Token) (y : Term) → left_by (pcdata j) k ≡ Some y → is_mixed y ≡ true
left-of-text j None y e = let f : pcdata j ≡ y = cc in ap is_mixed (sym f)
left-of-text j (Some n) y e = absurd (cc)

left-of-alone : (j : ℕ) (k : Token) (y : Term) → left_by (seq (more (pcdata j) none)) k ≡ Some y → is_mixed y ≡ true
left-of-alone j None y e = let f : seq (more (pcdata j) none) ≡ y = cc in ap is_mixed (sym f)
left-of-alone j (Some n) y e = absurd (cc)

left-of-mixed : (r : Term) (k : Token) (y : Term) → is_mixed r ≡ true → left_by r k ≡ Some y → is_mixed y ≡ true
left-of-mixed empty k y g e = absurd (cc)
left-of-mixed (pcdata j) k y g e = left-of-text j k y e
left-of-mixed (seq (more (pcdata j) none)) k y g e = left-of-alone j k y e
left-of-mixed (plus m) k y g e = begins-round m k y g e
left-of-mixed (rep m) k y g e = begins-round m k y g e
left-of-mixed (round q m) k y g e = let p = and_parts (is_over q) (is_group m) g in left-of-round q m k y p.0 p.1 e
left-of-mixed r k y g e = absurd (let f : false ≡ true = g in cc)

-- ELEMENT CONTENT takes no data
neither : {A : Type 0} (b : Bool) (o p : Option A) → o ≡ None → p ≡ None → option_or o (cond b p None) ≡ None
neither true o p e f = λ i. option_or (e i) (f i)
neither false o p e f = ap (λ x. option_or x None) e

none-mapped : {A B : Type 0} (f : A → B) (o : Option A) → o ≡ None → option_map f o ≡ None
none-mapped f o e = ap (option_map f) e

mutual
  takes-none : (r : Term) → is_textless r ≡ true → left_by r Pcdata ≡ None
  takes-none empty t = refl
  takes-none (name k n) t = refl
  takes-none (pcdata k) t = absurd (cc)
  takes-none (seq ms) t = order-takes-none ms t
  takes-none (or ms) t = some-takes-none ms t
  takes-none (and ms) t = none-mapped begun (choice ms Pcdata) (choice-takes-none ms t)
  takes-none (opt m) t = takes-none m t
  takes-none (plus m) t = none-mapped (λ m'. round m' m) (left_by m Pcdata) (takes-none m t)
  takes-none (rep m) t = none-mapped (λ m'. round m' m) (left_by m Pcdata) (takes-none m t)
  takes-none (member r ms) t =
      let p = and_parts (is_textless r) (are_textless ms) t in
      neither (done r) (option_map (λ m'. member m' ms) (left_by r Pcdata)) (option_map begun (choice ms Pcdata)) (none-mapped (λ m'. member m' ms) (left_by r Pcdata) (takes-none r p.0)) (none-mapped begun (choice ms Pcdata) (choice-takes-none ms p.1))
  takes-none (round r m) t =
      let p = and_parts (is_textless r) (is_textless m) t in
      neither (done r) (option_map (λ m'. round m' m) (left_by r Pcdata)) (option_map (λ m'. round m' m) (left_by m Pcdata)) (none-mapped (λ m'. round m' m) (left_by r Pcdata) (takes-none r p.0)) (none-mapped (λ m'. round m' m) (left_by m Pcdata) (takes-none m p.1))

  order-takes-none : (ms : Terms) → are_textless ms ≡ true → left_in_order ms Pcdata ≡ None
  order-takes-none none t = refl
  order-takes-none (more m ms) t =
      let p = and_parts (is_textless m) (are_textless ms) t in
      neither (done m) (option_map (λ m'. seq (more m' ms)) (left_by m Pcdata)) (left_in_order ms Pcdata) (none-mapped (λ m'. seq (more m' ms)) (left_by m Pcdata) (takes-none m p.0)) (order-takes-none ms p.1)

  some-takes-none : (ms : Terms) → are_textless ms ≡ true → left_of_some ms Pcdata ≡ None
  some-takes-none none t = refl
  some-takes-none (more m ms) t =
      let p = and_parts (is_textless m) (are_textless ms) t in
      λ i. option_or (takes-none m p.0 i) (some-takes-none ms p.1 i)

  choice-takes-none : (ms : Terms) → are_textless ms ≡ true → choice ms Pcdata ≡ None
  choice-takes-none none t = refl
  choice-takes-none (more m ms) t =
      let p = and_parts (is_textless m) (are_textless ms) t in
      λ i. option_or (none-mapped (λ m'. (m', ms)) (left_by m Pcdata) (takes-none m p.0) i) (none-mapped (keeping m) (choice ms Pcdata) (choice-takes-none ms p.1) i)

-- and so does what is left of it
abbrev Textless : Term → Type 0
Textless x = is_textless x ≡ true

abbrev BothTextless : Term × Terms → Type 0
BothTextless p = Textless p.0 × (are_textless p.1 ≡ true)

of-map : {A : Type 0} (f : A → Term) (P : A → Type 0) (o : Option A) (y : Term) → ((x : A) → P x → Textless (f x)) → ((x : A) → o ≡ Some x → P x) → option_map f o ≡ Some y → Textless y
of-map f P o y g h e =
    let t = from-map f o y e in
    ap is_textless (sym t.is) ∙ g t.from (h t.from t.there)

of-or : {A : Type 0} (P : A → Type 0) (o p : Option A) (y : A) → ((x : A) → o ≡ Some x → P x) → ((x : A) → p ≡ Some x → P x) → option_or o p ≡ Some y → P y
of-or P None p y g h e = h y e
of-or P (Some x) p y g h e = g y e

of-if : {A : Type 0} (P : A → Type 0) (b : Bool) (p : Option A) → ((x : A) → p ≡ Some x → P x) → (y : A) → cond b p None ≡ Some y → P y
of-if P true p h y e = h y e
of-if P false p h y e = absurd (cc)

pair-map : (f : Term → Term × Terms) (o : Option Term) (y : Term × Terms) → ((x : Term) → o ≡ Some x → BothTextless (f x)) → option_map f o ≡ Some y → BothTextless y
pair-map f None y h e = absurd (cc)
pair-map f (Some x) y h e = let g : f x ≡ y = cc in subst BothTextless g (h x refl)

keeping-map : (m : Term) (o : Option (Term × Terms)) (y : Term × Terms) → Textless m → ((x : Term × Terms) → o ≡ Some x → BothTextless x) → option_map (keeping m) o ≡ Some y → BothTextless y
keeping-map m None y t h e = absurd (cc)
keeping-map m (Some x) y t h e =
    let g : keeping m x ≡ y = cc in
    let p = h x refl in
    subst BothTextless g (p.0, and_from (is_textless m) (are_textless x.1) t p.1)

mutual
  left-textless : (r : Term) (k : Token) (y : Term) → Textless r → left_by r k ≡ Some y → Textless y
  left-textless empty k y t e = absurd (cc)
  left-textless (name j n) k y t e = of-if Textless (is_name n k) (Some empty) (λ x f. (let g : empty ≡ x = cc in ap is_textless (sym g))) y e
  left-textless (pcdata j) k y t e = absurd (cc)
  left-textless (seq ms) k y t e = order-textless ms k y t e
  left-textless (or ms) k y t e = some-textless ms k y t e
  left-textless (and ms) k y t e =
      of-map begun BothTextless (choice ms k) y (λ x p. and_from (is_textless x.0) (are_textless x.1) p.0 p.1) (λ x f. choice-textless ms k x t f) e
  left-textless (opt m) k y t e = left-textless m k y t e
  left-textless (plus m) k y t e =
      of-map (λ m'. round m' m) Textless (left_by m k) y (λ x p. and_from (is_textless x) (is_textless m) p t) (λ x f. left-textless m k x t f) e
  left-textless (rep m) k y t e =
      of-map (λ m'. round m' m) Textless (left_by m k) y (λ x p. and_from (is_textless x) (is_textless m) p t) (λ x f. left-textless m k x t f) e
  left-textless (member r ms) k y t e =
      let p = and_parts (is_textless r) (are_textless ms) t in
      of-or Textless (option_map (λ m'. member m' ms) (left_by r k)) (cond (done r) (option_map begun (choice ms k)) None) y
      (λ x f. of-map (λ m'. member m' ms) Textless (left_by r k) x (λ z q. and_from (is_textless z) (are_textless ms) q p.1) (λ z g. left-textless r k z p.0 g) f)
      (of-if Textless (done r) (option_map begun (choice ms k)) (λ x f. of-map begun BothTextless (choice ms k) x (λ z q. and_from (is_textless z.0) (are_textless z.1) q.0 q.1) (λ z g. choice-textless ms k z p.1 g) f))
      e
  left-textless (round r m) k y t e =
      let p = and_parts (is_textless r) (is_textless m) t in
      of-or Textless (option_map (λ m'. round m' m) (left_by r k)) (cond (done r) (option_map (λ m'. round m' m) (left_by m k)) None) y
      (λ x f. of-map (λ m'. round m' m) Textless (left_by r k) x (λ z q. and_from (is_textless z) (is_textless m) q p.1) (λ z g. left-textless r k z p.0 g) f)
      (of-if Textless (done r) (option_map (λ m'. round m' m) (left_by m k)) (λ x f. of-map (λ m'. round m' m) Textless (left_by m k) x (λ z q. and_from (is_textless z) (is_textless m) q p.1) (λ z g. left-textless m k z p.1 g) f))
      e

  order-textless : (ms : Terms) (k : Token) (y : Term) → are_textless ms ≡ true → left_in_order ms k ≡ Some y → Textless y
  order-textless none k y t e = absurd (cc)
  order-textless (more m ms) k y t e =
      let p = and_parts (is_textless m) (are_textless ms) t in
      of-or Textless (option_map (λ m'. seq (more m' ms)) (left_by m k)) (cond (done m) (left_in_order ms k) None) y
      (λ x f. of-map (λ m'. seq (more m' ms)) Textless (left_by m k) x (λ z q. and_from (is_textless z) (are_textless ms) q p.1) (λ z g. left-textless m k z p.0 g) f)
      (of-if Textless (done m) (left_in_order ms k) (λ x f. order-textless ms k x p.1 f))
      e

  some-textless : (ms : Terms) (k : Token) (y : Term) → are_textless ms ≡ true → left_of_some ms k ≡ Some y → Textless y
  some-textless none k y t e = absurd (cc)
  some-textless (more m ms) k y t e =
      let p = and_parts (is_textless m) (are_textless ms) t in
      of-or Textless (left_by m k) (left_of_some ms k) y (λ x f. left-textless m k x p.0 f) (λ x f. some-textless ms k x p.1 f) e

  choice-textless : (ms : Terms) (k : Token) (y : Term × Terms) → are_textless ms ≡ true → choice ms k ≡ Some y → BothTextless y
  choice-textless none k y t e = absurd (cc)
  choice-textless (more m ms) k y t e =
      let p = and_parts (is_textless m) (are_textless ms) t in
      of-or BothTextless (option_map (λ m'. (m', ms)) (left_by m k)) (option_map (keeping m) (choice ms k)) y
      (λ x f. pair-map (λ m'. (m', ms)) (left_by m k) x (λ z g. (left-textless m k z p.0 g, p.1)) f)
      (λ x f. keeping-map m (choice ms k) x p.0 (λ z g. choice-textless ms k z p.1 g) f)
      e

-- DATA IS FREE
pub free-data : (r : Term) → is_free r ≡ true → DataIsFree r
free-data r f = go (or_cases (is_mixed r) (is_textless r) f)
  where
    go : (is_mixed r ≡ true) ⊎ (is_textless r ≡ true) → DataIsFree r
    go (inl g) = mixed-free r g
    go (inr g) = no-data r (takes-none r g)

-- and stays so
pub free-left : (r : Term) (k : Token) → is_free r ≡ true → is_free (token_left r k) ≡ true
free-left r k f = go (left_by r k) refl (or_cases (is_mixed r) (is_textless r) f)
  where
    go : (o : Option Term) → left_by r k ≡ o → (is_mixed r ≡ true) ⊎ (is_textless r ≡ true) → is_free (token_left r k) ≡ true
    go None e g = ap (λ (o : Option Term). is_free (unwrap_or o r)) e ∙ f
    go (Some y) e (inl g) =
        ap (λ (o : Option Term). is_free (unwrap_or o r)) e ∙ or_left (is_mixed y) (is_textless y) (left-of-mixed r k y g e)
    go (Some y) e (inr g) =
        ap (λ (o : Option Term). is_free (unwrap_or o r)) e ∙ or_right (is_mixed y) (is_textless y) (left-textless r k y g e)

-- ((a | #PCDATA), b)
pub not-all : (n m : Name) → let r = seq (more (or (more (name 0 n) (more (pcdata 1) none))) (more (name 2 m) none)) in bytes_eq m n ≡ false → (left_by (token_left r Pcdata) (Some n) ≡ None) × (left_by r (Some n) ≡ Some (seq (more empty (more (name 2 m) none))))
not-all n m e =
    let f : bytes_eq n n ≡ true = (bytes_eq-Decides n n).1 refl in
    let g : bytes_eq m n ≡ false = e in (
      λ i. option_or (option_map (λ m'. seq (more m' none)) (cond (g i) (Some empty) None)) None,
      λ i. option_or (option_map (λ m'. seq (more m' (more (name 2 m) none))) (option_or (cond (f i) (Some empty) None) None)) (cond true (option_or (option_map (λ m'. seq (more m' none)) (cond (g i) (Some empty) None)) None) None),
    )

-- (#PCDATA), and (#PCDATA | a)*
pub usual-free : (n : Name) → (option_map is_free (reading (begin ∷ text ∷ finish ∷ [])) ≡ Some true) × (option_map is_free (reading (begin ∷ text ∷ by one_of ∷ word n ∷ finish ∷ mark any_times ∷ [])) ≡ Some true)
unfolding run
usual-free n = (refl, refl)
