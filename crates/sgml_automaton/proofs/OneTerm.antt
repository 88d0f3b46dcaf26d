-- Two states of one model stand for one term exactly where this test says so.
use Rattle.std.specs.Prelude.{◌&&◌, ◌||◌, not, option_map}
use Rattle.std.proofs.Common.{◌≡◌, ℕ, suc, ◌+◌, ◌<◌, ◌≤◌, Bool, true, false, cond, Option, Some, None, ◌⊎◌, inl, inr, List, [], ◌∷◌, map, length, drop, get_or, refl, sym, ap, ◌∙◌, subst, arith}
use Rattle.sgml_model.specs.Term.{Term, empty, name, pcdata, seq, or, and, opt, plus, rep, member, round, Terms, none, more}
use Rattle.sgml_ambiguity.specs.Ambiguity.{IsModel, AreModels}
use Rattle.std.proofs.lemmas.List.{length-drop}
use Rattle.sgml_model.specs.declared.term.Term.{Term as Rust}
use Rattle.sgml_model.specs.View.{view, terms}
use Rattle.sgml_model.proofs.Rows.{from_here}
use Rattle.sgml_automaton.specs.Automaton.{term_at_last, IsPlaced}
use Rattle.sgml_automaton.specs.Position.{Bits, bits_of, room, at, at_order, at_some, at_member, left_at, has, has_some}
use Rattle.sgml_automaton.specs.Alike.{same_bool, same_list, equal_shapes, same_left, shared, alike, alike_order, alike_some, alike_member, no_terms, shape, shape_order, shape_some, shape_last, shape_member, bare, bare_some, within, unmoved, same_place}
use Rattle.sgml_ambiguity.proofs.Rests.{models, models_seq, models_or}
use Rattle.sgml_automaton.proofs.Places.{Numbered, AllNumbered, cond_yes, cond_no, span, span_one}
use Rattle.sgml_automaton.proofs.Bits.{cond_both, apart}
use Rattle.sgml_automaton.proofs.Steps.{by_test}
use Rattle.sgml_automaton.proofs.Alike.{Free, AllFree, busy, at_free, some_free, member_free, order_free, left_all_free, shape_is, shape_some_is, shape_member_is, shape_free, shape_some_free, shape_member_free, shaped, shaped_same, all_numbered_free}

same_is : (x y : Bool) → same_bool x y ≡ true → x ≡ y
same_is true true h = refl
same_is true false h = cc
same_is false true h = cc
same_is false false h = refl

is_same : (x y : Bool) → x ≡ y → same_bool x y ≡ true
is_same true true h = refl
is_same true false h = cc
is_same false true h = cc
is_same false false h = refl

and_parts : (x y : Bool) → (x && y) ≡ true → (x ≡ true) × (y ≡ true)
and_parts true y h = (refl, h)
and_parts false y h = cc

and_both : (x y : Bool) → x ≡ true → y ≡ true → (x && y) ≡ true
and_both true y e f = f
and_both false y e f = cc

list_is : (u v : List Bool) → same_list u v ≡ true → u ≡ v
list_is [] [] h = refl
list_is [] (y ∷ v) h = cc
list_is (x ∷ u) [] h = cc
list_is (x ∷ u) (y ∷ v) h = let p = and_parts (same_bool x y) (same_list u v) h in ap (λ z. z ∷ u) (same_is x y p.0) ∙ ap (λ l. y ∷ l) (list_is u v p.1)

list_own : (u : List Bool) → same_list u u ≡ true
list_own [] = refl
list_own (x ∷ u) = and_both (same_bool x x) (same_list u u) (is_same x x refl) (list_own u)

shapes_is : (u v : Option (List Bool)) → equal_shapes u v ≡ true → (w : List Bool) × (u ≡ Some w) × (v ≡ Some w)
shapes_is None v h = cc
shapes_is (Some u) None h = cc
shapes_is (Some u) (Some v) h = (u, refl, ap Some (sym (list_is u v h)))

is_shapes : (u v : Option (List Bool)) (w : List Bool) → u ≡ Some w → v ≡ Some w → equal_shapes u v ≡ true
is_shapes None v w h g = cc
is_shapes (Some u) None w h g = cc
is_shapes (Some u) (Some v) w h g = let e : u ≡ v = cc in subst (λ l. same_list u l ≡ true) e (list_own u)

left_is : (ms : Terms) (o k : ℕ) (b : Bits) (j : ℕ) (e : Bits) → same_left ms o k b j e ≡ true → left_at ms o k b ≡ left_at ms o j e
left_is none o k b j e h = refl
left_is (more m ms) o k b j e h =
    let o' = suc (o + room m) in
    let p = and_parts (same_bool (has m k || b o) (has m j || e o)) (same_left ms o' k b j e) h in
    let rest = left_is ms o' k b j e p.1 in
    cond_both (has m k || b o) (has m j || e o) (left_at ms o' k b) (more m (left_at ms o' k b)) (left_at ms o' j e) (more m (left_at ms o' j e)) (same_is (has m k || b o) (has m j || e o) p.0) rest (ap (more m) rest)

-- a member that is left isn't among those behind it
not_behind : (m : Term) (a c z : ℕ) (ms l : Terms) (o k : ℕ) (b : Bits) → IsModel m → Numbered m a c → AllNumbered ms c z → more m l ≡ left_at ms o k b → ⊥
not_behind m a c z ms l o k b i n v h = busy a c a c m i n (omega arith) (omega arith) (subst (AllFree a c) (sym h) (left_all_free a c c z ms o k b v (inr (omega arith)))).0

more_same : (m : Term) (l l' : Terms) → more m l ≡ more m l' → l ≡ l'
more_same m l l' h = cc

is_left : (ms : Terms) (a z o k : ℕ) (b : Bits) (j : ℕ) (e : Bits) → AreModels ms → AllNumbered ms a z → left_at ms o k b ≡ left_at ms o j e → same_left ms o k b j e ≡ true
is_left none a z o k b j e i n h = refl
is_left (more m ms) a z o k b j e i n h =
    let o' = suc (o + room m) in let L = left_at ms o' k b in let R = left_at ms o' j e in
    let x = has m k || b o in let y = has m j || e o in
    let done = λ (p : x ≡ y) (q : L ≡ R). and_both (same_bool x y) (same_left ms o' k b j e) (is_same x y p) (is_left ms n.0 z o' k b j e i.1 n.2 q) in
    by_test x
    (λ p. let h1 : L ≡ cond y R (more m R) = subst (λ v. cond v L (more m L) ≡ cond y R (more m R)) p h in
    by_test y
    (λ q. done (p ∙ sym q) (subst (λ v. L ≡ cond v R (more m R)) q h1))
    (λ q. absurd (not_behind m a n.0 z ms R o' k b i.0 n.1 n.2 (sym (subst (λ v. L ≡ cond v R (more m R)) q h1)))))
    (λ p. let h1 : more m L ≡ cond y R (more m R) = subst (λ v. cond v L (more m L) ≡ cond y R (more m R)) p h in
    by_test y
    (λ q. absurd (not_behind m a n.0 z ms L o' j e i.0 n.1 n.2 (subst (λ v. more m L ≡ cond v R (more m R)) q h1)))
    (λ q. done (p ∙ sym q) (more_same m L R (subst (λ v. more m L ≡ cond v R (more m R)) q h1))))

or_parts : (x y : Bool) → (x || y) ≡ false → (x ≡ false) × (y ≡ false)
or_parts true y h = cc
or_parts false y h = (refl, h)

or_cases : (x y : Bool) → (x || y) ≡ true → (x ≡ true) ⊎ (y ≡ true)
or_cases true y h = inl refl
or_cases false y h = inr h

shared_has : (ms : Terms) (k j : ℕ) → shared ms k j ≡ true → (has_some ms k ≡ true) × (has_some ms j ≡ true)
shared_has none k j h = cc
shared_has (more m ms) k j h = elim (or_cases (has m k && has m j) (shared ms k j) h) [
  | inl p ↦ let q = and_parts (has m k) (has m j) p in (subst (λ v. (v || has_some ms k) ≡ true) (sym q.0) refl, subst (λ v. (v || has_some ms j) ≡ true) (sym q.1) refl)
  | inr p ↦ let q = shared_has ms k j p in (later (has m k) (has_some ms k) q.0, later (has m j) (has_some ms j) q.1)
]
  where
    later : (x y : Bool) → y ≡ true → (x || y) ≡ true
    later true y e = refl
    later false y e = e

-- where they are shared, the member that has the one has the other
shared_here : (m : Term) (ms : Terms) (a c z k j : ℕ) → Numbered m a c → AllNumbered ms c z → shared (more m ms) k j ≡ true → has m k ≡ has m j
shared_here m ms a c z k j n v h = elim (or_cases (has m k && has m j) (shared ms k j) h) [
  | inl p ↦ let q = and_parts (has m k) (has m j) p in q.0 ∙ sym q.1
  | inr p ↦ let q = shared_has ms k j p in apart m ms a c z k n v q.0 ∙ sym (apart m ms a c z j n v q.1)
]

shared_later : (m : Term) (ms : Terms) (k j : ℕ) → shared (more m ms) k j ≡ true → has m k ≡ false → shared ms k j ≡ true
shared_later m ms k j h e = subst (λ v. ((v && has m j) || shared ms k j) ≡ true) e h

abbrev Iff : Type 0 → Type 0 → Type 0
Iff P Q = (P → Q) × (Q → P)

has_rest : (m : Term) (ms : Terms) (k : ℕ) → has_some (more m ms) k ≡ true → has m k ≡ false → has_some ms k ≡ true
has_rest m ms k h e = subst (λ v. (v || has_some ms k) ≡ true) e h

-- in two members
across_some : (ms : Terms) (a z o k : ℕ) (b : Bits) (j : ℕ) (e : Bits) → AreModels ms → AllNumbered ms a z → has_some ms k ≡ true → has_some ms j ≡ true → shared ms k j ≡ false →
    at_some ms o k b ≡ at_some ms o j e → (w : List Bool) × (shape_some ms o k b ≡ Some w) × (shape_some ms o j e ≡ Some w)
across_some none a z o k b j e i n hk hj s h = cc
across_some (more m ms) a z o k b j e i n hk hj s h =
    let o' = o + room m in let c = n.0 in
    let sp = or_parts (has m k && has m j) (shared ms k j) s in
    let AK = λ (v : Bool). cond v (at m o k b) (at_some ms o' k b) in let AJ = λ (v : Bool). cond v (at m o j e) (at_some ms o' j e) in
    let pair = λ (r t : Term) (u v : List Bool) (hr : r ≡ shaped u) (ht : t ≡ shaped v) (q : r ≡ t). shaped_same u v (sym hr ∙ q ∙ ht) in
    by_test (has m k)
    (λ p. by_test (has m j)
    (λ q. absurd (let x = subst (λ v. (v && has m j) ≡ false) p sp.0 in let y = subst (λ v. v ≡ false) q x in let z : true ≡ false = y in cc))
    (λ q.
    let g : at m o k b ≡ at_some ms o' j e = subst (λ v. AK v ≡ at_some ms o' j e) p (subst (λ v. AK (has m k) ≡ AJ v) q h) in
    let s1 = shape_free a c a c m o k b i.0 n.1 (omega arith) (omega arith) p (subst (Free a c) (sym g) (some_free a c c z ms o' j e n.2 (inr (omega arith)))) in
    let s2 = shape_some_free c z c z ms o' j e i.1 n.2 (omega arith) (omega arith) (has_rest m ms j hj q) (subst (Free c z) g (at_free c z a c m o k b n.1 (inl (omega arith)))) in
    let w = pair (at m o k b) (at_some ms o' j e) s1.0 s2.0 (shape_is m o k b s1.0 s1.1) (shape_some_is ms o' j e s2.0 s2.1) g in
    (s1.0, cond_yes (has m k) (shape m o k b) (shape_some ms o' k b) p ∙ s1.1, cond_no (has m j) (shape m o j e) (shape_some ms o' j e) q ∙ s2.1 ∙ ap Some (sym w))))
    (λ p. by_test (has m j)
    (λ q.
    let g : at_some ms o' k b ≡ at m o j e = subst (λ v. AK v ≡ at m o j e) p (subst (λ v. AK (has m k) ≡ AJ v) q h) in
    let s1 = shape_some_free c z c z ms o' k b i.1 n.2 (omega arith) (omega arith) (has_rest m ms k hk p) (subst (Free c z) (sym g) (at_free c z a c m o j e n.1 (inl (omega arith)))) in
    let s2 = shape_free a c a c m o j e i.0 n.1 (omega arith) (omega arith) q (subst (Free a c) g (some_free a c c z ms o' k b n.2 (inr (omega arith)))) in
    let w = pair (at_some ms o' k b) (at m o j e) s1.0 s2.0 (shape_some_is ms o' k b s1.0 s1.1) (shape_is m o j e s2.0 s2.1) g in
    (s1.0, cond_no (has m k) (shape m o k b) (shape_some ms o' k b) p ∙ s1.1, cond_yes (has m j) (shape m o j e) (shape_some ms o' j e) q ∙ s2.1 ∙ ap Some (sym w)))
    (λ q.
    let g : at_some ms o' k b ≡ at_some ms o' j e = subst (λ v. AK v ≡ at_some ms o' j e) p (subst (λ v. AK (has m k) ≡ AJ v) q h) in
    let r = across_some ms c z o' k b j e i.1 n.2 (has_rest m ms k hk p) (has_rest m ms j hj q) sp.1 g in
    (r.0, cond_no (has m k) (shape m o k b) (shape_some ms o' k b) p ∙ r.1, cond_no (has m j) (shape m o j e) (shape_some ms o' j e) q ∙ r.2)))

-- the same in an AND group
across_member : (ms : Terms) (a z o k : ℕ) (b : Bits) (j : ℕ) (e : Bits) → AreModels ms → AllNumbered ms a z → has_some ms k ≡ true → has_some ms j ≡ true → shared ms k j ≡ false →
    at_member ms o k b ≡ at_member ms o j e → (w : List Bool) × (shape_member ms o k b ≡ Some w) × (shape_member ms o j e ≡ Some w)
across_member none a z o k b j e i n hk hj s h = cc
across_member (more m ms) a z o k b j e i n hk hj s h =
    let o' = suc (o + room m) in let c = n.0 in
    let sp = or_parts (has m k && has m j) (shared ms k j) s in
    let AK = λ (v : Bool). cond v (at m (suc o) k b) (at_member ms o' k b) in let AJ = λ (v : Bool). cond v (at m (suc o) j e) (at_member ms o' j e) in
    let pair = λ (r t : Term) (u v : List Bool) (hr : r ≡ shaped u) (ht : t ≡ shaped v) (q : r ≡ t). shaped_same u v (sym hr ∙ q ∙ ht) in
    by_test (has m k)
    (λ p. by_test (has m j)
    (λ q. absurd (let x = subst (λ v. (v && has m j) ≡ false) p sp.0 in let y = subst (λ v. v ≡ false) q x in let z : true ≡ false = y in cc))
    (λ q.
    let g : at m (suc o) k b ≡ at_member ms o' j e = subst (λ v. AK v ≡ at_member ms o' j e) p (subst (λ v. AK (has m k) ≡ AJ v) q h) in
    let s1 = shape_free a c a c m (suc o) k b i.0 n.1 (omega arith) (omega arith) p (subst (Free a c) (sym g) (member_free a c c z ms o' j e n.2 (inr (omega arith)))) in
    let s2 = shape_member_free c z c z ms o' j e i.1 n.2 (omega arith) (omega arith) (has_rest m ms j hj q) (subst (Free c z) g (at_free c z a c m (suc o) k b n.1 (inl (omega arith)))) in
    let w = pair (at m (suc o) k b) (at_member ms o' j e) s1.0 s2.0 (shape_is m (suc o) k b s1.0 s1.1) (shape_member_is ms o' j e s2.0 s2.1) g in
    (s1.0, cond_yes (has m k) (shape m (suc o) k b) (shape_member ms o' k b) p ∙ s1.1, cond_no (has m j) (shape m (suc o) j e) (shape_member ms o' j e) q ∙ s2.1 ∙ ap Some (sym w))))
    (λ p. by_test (has m j)
    (λ q.
    let g : at_member ms o' k b ≡ at m (suc o) j e = subst (λ v. AK v ≡ at m (suc o) j e) p (subst (λ v. AK (has m k) ≡ AJ v) q h) in
    let s1 = shape_member_free c z c z ms o' k b i.1 n.2 (omega arith) (omega arith) (has_rest m ms k hk p) (subst (Free c z) (sym g) (at_free c z a c m (suc o) j e n.1 (inl (omega arith)))) in
    let s2 = shape_free a c a c m (suc o) j e i.0 n.1 (omega arith) (omega arith) q (subst (Free a c) g (member_free a c c z ms o' k b n.2 (inr (omega arith)))) in
    let w = pair (at_member ms o' k b) (at m (suc o) j e) s1.0 s2.0 (shape_member_is ms o' k b s1.0 s1.1) (shape_is m (suc o) j e s2.0 s2.1) g in
    (s1.0, cond_no (has m k) (shape m (suc o) k b) (shape_member ms o' k b) p ∙ s1.1, cond_yes (has m j) (shape m (suc o) j e) (shape_member ms o' j e) q ∙ s2.1 ∙ ap Some (sym w)))
    (λ q.
    let g : at_member ms o' k b ≡ at_member ms o' j e = subst (λ v. AK v ≡ at_member ms o' j e) p (subst (λ v. AK (has m k) ≡ AJ v) q h) in
    let r = across_member ms c z o' k b j e i.1 n.2 (has_rest m ms k hk p) (has_rest m ms j hj q) sp.1 g in
    (r.0, cond_no (has m k) (shape m (suc o) k b) (shape_member ms o' k b) p ∙ r.1, cond_no (has m j) (shape m (suc o) j e) (shape_member ms o' j e) q ∙ r.2)))

seq_parts : (r s : Term) (l l' : Terms) → seq (more r l) ≡ seq (more s l') → (r ≡ s) × (l ≡ l')
seq_parts r s l l' h = (cc, cc)

member_parts : (r s : Term) (l l' : Terms) → member r l ≡ member s l' → (r ≡ s) × (l ≡ l')
member_parts r s l l' h = (cc, cc)

round_part : (r s m : Term) → round r m ≡ round s m → r ≡ s
round_part r s m h = cc

-- the term in the members behind isn't one that begins before them
order_not : (q : Term) (ms : Terms) (c z o j : ℕ) (e : Bits) → AreModels ms → AllNumbered ms c z → has_some ms j ≡ true → seq (more q ms) ≡ at_order ms o j e → ⊥
order_not q none c z o j e i n h g = cc
order_not q (more m ms) c z o j e i n h g =
    let o' = o + room m in let d = n.0 in let u : c ≤ d = span_one m c d n.1 in let v : d ≤ z = span ms d z n.2 in
    let A = λ (x : Bool). cond x (seq (more (at m o j e) ms)) (at_order ms o' j e) in
    -- the first member m stands in the rest on the left, and not on the right
    let free : AllFree c d (more m ms) → ⊥ = λ f. busy c d c d m i.0 n.1 (omega arith) (omega arith) f.0 in
    by_test (has m j)
    (λ p. let g' = seq_parts q (at m o j e) (more m ms) ms (subst (λ x. seq (more q (more m ms)) ≡ A x) p g) in
    free (subst (AllFree c d) (sym g'.1) (all_numbered_free c d d z ms n.2 (inr (omega arith)))))
    (λ p. let g' : seq (more q (more m ms)) ≡ at_order ms o' j e = subst (λ x. seq (more q (more m ms)) ≡ A x) p g in
    free (subst (Free c d) (sym g') (order_free c d d z ms o' j e n.2 (inr (omega arith)))).1)

-- the law: the test is true exactly where the terms are one
mutual
  pub alike_is : (x : Term) (a z o k : ℕ) (b : Bits) (j : ℕ) (e : Bits) → IsModel x → Numbered x a z → has x k ≡ true → has x j ≡ true → Iff (alike x o k b j e ≡ true) (at x o k b ≡ at x o j e)
  alike_is empty a z o k b j e i n hk hj = absurd i
  alike_is (name y l) a z o k b j e i n hk hj = (λ h. refl, λ h. refl)
  alike_is (pcdata y) a z o k b j e i n hk hj = (λ h. refl, λ h. refl)
  alike_is (seq ms) a z o k b j e i n hk hj = alike_order_is ms a z o k b j e (models_seq ms i) n hk hj
  alike_is (or ms) a z o k b j e i n hk hj =
      let one = alike_some ms o k b j e in let two = equal_shapes (shape_some ms o k b) (shape_some ms o j e) in
      by_test (shared ms k j)
      (λ s. let ih = alike_some_is ms a z o k b j e (models_or ms i) n s in
      (λ h. ih.0 (subst (λ v. cond v one two ≡ true) s h), λ h. cond_yes (shared ms k j) one two s ∙ ih.1 h))
      (λ s. (
        λ h. let w = shapes_is (shape_some ms o k b) (shape_some ms o j e) (subst (λ v. cond v one two ≡ true) s h) in
            shape_some_is ms o k b w.0 w.1 ∙ sym (shape_some_is ms o j e w.0 w.2),
        λ h. let w = across_some ms a z o k b j e (models_or ms i) n hk hj s h in
            cond_no (shared ms k j) one two s ∙ is_shapes (shape_some ms o k b) (shape_some ms o j e) w.0 w.1 w.2,
      ))
  alike_is (and ms) a z o k b j e i n hk hj =
      let one = alike_member ms o k b j e in let two = equal_shapes (shape_member ms o k b) (shape_member ms o j e) in
      let S = same_left ms o k b j e in
      let whole = λ (q : at_member ms o k b ≡ at_member ms o j e) (r : left_at ms o k b ≡ left_at ms o j e). ap (λ t. member t (left_at ms o k b)) q ∙ ap (member (at_member ms o j e)) r in
      by_test (shared ms k j)
      (λ s. let ih = alike_member_is ms a z o k b j e (models ms i) n s in (
        λ h. let p = and_parts S (cond (shared ms k j) one two) h in
            whole (ih.0 (subst (λ v. cond v one two ≡ true) s p.1)) (left_is ms o k b j e p.0),
        λ h. let p = member_parts (at_member ms o k b) (at_member ms o j e) (left_at ms o k b) (left_at ms o j e) h in
            and_both S (cond (shared ms k j) one two) (is_left ms a z o k b j e (models ms i) n p.1) (cond_yes (shared ms k j) one two s ∙ ih.1 p.0),
      ))
      (λ s. (
        λ h. let p = and_parts S (cond (shared ms k j) one two) h in
            let w = shapes_is (shape_member ms o k b) (shape_member ms o j e) (subst (λ v. cond v one two ≡ true) s p.1) in
            whole (shape_member_is ms o k b w.0 w.1 ∙ sym (shape_member_is ms o j e w.0 w.2)) (left_is ms o k b j e p.0),
        λ h. let p = member_parts (at_member ms o k b) (at_member ms o j e) (left_at ms o k b) (left_at ms o j e) h in
            let w = across_member ms a z o k b j e (models ms i) n hk hj s p.0 in
            and_both S (cond (shared ms k j) one two) (is_left ms a z o k b j e (models ms i) n p.1) (cond_no (shared ms k j) one two s ∙ is_shapes (shape_member ms o k b) (shape_member ms o j e) w.0 w.1 w.2),
      ))
  alike_is (opt m) a z o k b j e i n hk hj = alike_is m a z o k b j e i n hk hj
  alike_is (plus m) a z o k b j e i n hk hj = let ih = alike_is m a z o k b j e i n hk hj in (λ h. ap (λ q. round q m) (ih.0 h), λ h. ih.1 (round_part (at m o k b) (at m o j e) m h))
  alike_is (rep m) a z o k b j e i n hk hj = let ih = alike_is m a z o k b j e i n hk hj in (λ h. ap (λ q. round q m) (ih.0 h), λ h. ih.1 (round_part (at m o k b) (at m o j e) m h))
  alike_is (member r left) a z o k b j e i n hk hj = absurd i
  alike_is (round r m) a z o k b j e i n hk hj = absurd i

  alike_order_is : (ms : Terms) (a z o k : ℕ) (b : Bits) (j : ℕ) (e : Bits) → AreModels ms → AllNumbered ms a z → has_some ms k ≡ true → has_some ms j ≡ true → Iff (alike_order ms o k b j e ≡ true) (at_order ms o k b ≡ at_order ms o j e)
  alike_order_is none a z o k b j e i n hk hj = absurd (let q : false ≡ true = hk in cc)
  alike_order_is (more m ms) a z o k b j e i n hk hj =
      let o' = o + room m in
      let T = λ (v w : Bool). cond v (cond w (alike m o k b j e) false) (cond w false (alike_order ms o' k b j e)) in
      let K = λ (v : Bool). cond v (seq (more (at m o k b) ms)) (at_order ms o' k b) in let J = λ (v : Bool). cond v (seq (more (at m o j e) ms)) (at_order ms o' j e) in
      let goal = λ (v w : Bool). Iff (T v w ≡ true) (K v ≡ J w) in
      let own = alike_is m a n.0 o k b j e i.0 n.1 in let later = alike_order_is ms n.0 z o' k b j e i.1 n.2 in
      by_test (has m k)
      (λ p. subst (λ v. goal v (has m j)) (sym p) (by_test (has m j)
      (λ q. subst (λ w. goal true w) (sym q) (let ih = own p q in
      (λ h. ap (λ r. seq (more r ms)) (ih.0 h), λ h. ih.1 (seq_parts (at m o k b) (at m o j e) ms ms h).0)))
      (λ q. subst (λ w. goal true w) (sym q)
      (λ h. cc, λ h. absurd (order_not (at m o k b) ms n.0 z o' j e i.1 n.2 (has_rest m ms j hj q) h)))))
      (λ p. subst (λ v. goal v (has m j)) (sym p) (by_test (has m j)
      (λ q. subst (λ w. goal false w) (sym q)
      (λ h. cc, λ h. absurd (order_not (at m o j e) ms n.0 z o' k b i.1 n.2 (has_rest m ms k hk p) (sym h))))
      (λ q. subst (λ w. goal false w) (sym q) (later (has_rest m ms k hk p) (has_rest m ms j hj q)))))

  alike_some_is : (ms : Terms) (a z o k : ℕ) (b : Bits) (j : ℕ) (e : Bits) → AreModels ms → AllNumbered ms a z → shared ms k j ≡ true → Iff (alike_some ms o k b j e ≡ true) (at_some ms o k b ≡ at_some ms o j e)
  alike_some_is none a z o k b j e i n s = absurd (let q : false ≡ true = s in cc)
  alike_some_is (more m ms) a z o k b j e i n s =
      let o' = o + room m in
      let goal = λ (v w : Bool). Iff (cond v (alike m o k b j e) (alike_some ms o' k b j e) ≡ true) (cond v (at m o k b) (at_some ms o' k b) ≡ cond w (at m o j e) (at_some ms o' j e)) in
      let both = shared_here m ms a n.0 z k j n.1 n.2 s in
      let own = alike_is m a n.0 o k b j e i.0 n.1 in let later = alike_some_is ms n.0 z o' k b j e i.1 n.2 in
      by_test (has m k)
      (λ p. subst (λ v. goal v (has m j)) (sym p) (subst (λ w. goal true w) (sym (sym both ∙ p)) (own p (sym both ∙ p))))
      (λ p. subst (λ v. goal v (has m j)) (sym p) (subst (λ w. goal false w) (sym (sym both ∙ p)) (later (shared_later m ms k j s p))))

  alike_member_is : (ms : Terms) (a z o k : ℕ) (b : Bits) (j : ℕ) (e : Bits) → AreModels ms → AllNumbered ms a z → shared ms k j ≡ true → Iff (alike_member ms o k b j e ≡ true) (at_member ms o k b ≡ at_member ms o j e)
  alike_member_is none a z o k b j e i n s = absurd (let q : false ≡ true = s in cc)
  alike_member_is (more m ms) a z o k b j e i n s =
      let o' = suc (o + room m) in
      let goal = λ (v w : Bool). Iff (cond v (alike m (suc o) k b j e) (alike_member ms o' k b j e) ≡ true) (cond v (at m (suc o) k b) (at_member ms o' k b) ≡ cond w (at m (suc o) j e) (at_member ms o' j e)) in
      let both = shared_here m ms a n.0 z k j n.1 n.2 s in
      let own = alike_is m a n.0 (suc o) k b j e i.0 n.1 in let later = alike_member_is ms n.0 z o' k b j e i.1 n.2 in
      by_test (has m k)
      (λ p. subst (λ v. goal v (has m j)) (sym p) (subst (λ w. goal true w) (sym (sym both ∙ p)) (own p (sym both ∙ p))))
      (λ p. subst (λ v. goal v (has m j)) (sym p) (subst (λ w. goal false w) (sym (sym both ∙ p)) (later (shared_later m ms k j s p))))

-- a term that has begun
abbrev IsBegun : Term → Type 0
IsBegun (name j n) = ⊥
IsBegun (or ms) = ⊥
IsBegun (and ms) = ⊥
IsBegun (opt m) = ⊥
IsBegun (plus m) = ⊥
IsBegun (rep m) = ⊥
IsBegun _ = Unit {0}

begun_cond : (v : Bool) (r s : Term) → IsBegun r → IsBegun s → IsBegun (cond v r s)
begun_cond true r s f g = f
begun_cond false r s f g = g

mutual
  at_begun : (x : Term) (o k : ℕ) (b : Bits) → IsBegun (at x o k b)
  at_begun empty o k b = tt
  at_begun (name j n) o k b = tt
  at_begun (pcdata j) o k b = tt
  at_begun (seq ms) o k b = order_begun ms o k b
  at_begun (or ms) o k b = some_begun ms o k b
  at_begun (and ms) o k b = tt
  at_begun (opt m) o k b = at_begun m o k b
  at_begun (plus m) o k b = tt
  at_begun (rep m) o k b = tt
  at_begun (member r left) o k b = tt
  at_begun (round r m) o k b = tt

  order_begun : (ms : Terms) (o k : ℕ) (b : Bits) → IsBegun (at_order ms o k b)
  order_begun none o k b = tt
  order_begun (more m ms) o k b = begun_cond (has m k) (seq (more (at m o k b) ms)) (at_order ms (o + room m) k b) tt (order_begun ms (o + room m) k b)

  some_begun : (ms : Terms) (o k : ℕ) (b : Bits) → IsBegun (at_some ms o k b)
  some_begun none o k b = tt
  some_begun (more m ms) o k b = begun_cond (has m k) (at m o k b) (at_some ms (o + room m) k b) (at_begun m o k b) (some_begun ms (o + room m) k b)

never_begun : (x y : Term) → IsBegun y → (IsBegun x → ⊥) → y ≡ x → ⊥
never_begun x y f g h = g (subst IsBegun h f)

-- the law at the start
mutual
  unmoved_is : (x : Term) (a z o k : ℕ) (b : Bits) → IsModel x → Numbered x a z → has x k ≡ true → Iff (unmoved x k ≡ true) (at x o k b ≡ x)
  unmoved_is empty a z o k b i n h = absurd i
  unmoved_is (name j l) a z o k b i n h = (λ e. cc, λ e. cc)
  unmoved_is (pcdata j) a z o k b i n h = (λ e. refl, λ e. refl)
  unmoved_is (seq none) a z o k b i n h = absurd i
  unmoved_is (seq (more m ms)) a z o k b i n h =
      let o' = o + room m in
      let goal = λ (v : Bool). Iff ((v && unmoved m k) ≡ true) (cond v (seq (more (at m o k b) ms)) (at_order ms o' k b) ≡ seq (more m ms)) in
      by_test (has m k)
      (λ p. subst goal (sym p) (let ih = unmoved_is m a n.0 o k b i.0 n.1 p in
      (λ e. ap (λ r. seq (more r ms)) (ih.0 e), λ e. ih.1 (seq_parts (at m o k b) m ms ms e).0)))
      (λ p. subst goal (sym p) (λ e. cc, λ e. absurd (order_not m ms n.0 z o' k b i.1 n.2 (has_rest m ms k h p) (sym e))))
  unmoved_is (or ms) a z o k b i n h = (λ e. cc, λ e. absurd (never_begun (or ms) (at_some ms o k b) (some_begun ms o k b) (λ f. f) e))
  unmoved_is (and ms) a z o k b i n h = (λ e. cc, λ e. cc)
  unmoved_is (opt m) a z o k b i n h = (λ e. cc, λ e. absurd (never_begun (opt m) (at m o k b) (at_begun m o k b) (λ f. f) e))
  unmoved_is (plus m) a z o k b i n h = (λ e. cc, λ e. cc)
  unmoved_is (rep m) a z o k b i n h = (λ e. cc, λ e. cc)
  unmoved_is (member r left) a z o k b i n h = absurd i
  unmoved_is (round r m) a z o k b i n h = absurd i

pub same_place_is : (x : Term) (z : ℕ) (last : Option ℕ) (b : List Bool) (next : Option ℕ) (e : List Bool) → IsModel x → Numbered x 0 z → IsPlaced x last → IsPlaced x next →
    Iff (same_place x last b next e ≡ true) (term_at_last x last b ≡ term_at_last x next e)
same_place_is x z None b None e i n h k = (λ q. refl, λ q. refl)
same_place_is x z None b (Some j) e i n h k = let u = unmoved_is x 0 z 0 j (bits_of e) i n k in (λ q. sym (u.0 q), λ q. u.1 (sym q))
same_place_is x z (Some l) b None e i n h k = unmoved_is x 0 z 0 l (bits_of b) i n h
same_place_is x z (Some l) b (Some j) e i n h k = alike_is x 0 z 0 l (bits_of b) j (bits_of e) i n h k

-- one layer less on both sides
pub equal_within : (w : Bool) (s t : Option (List Bool)) → equal_shapes (option_map (λ u. w ∷ u) s) t ≡ equal_shapes s (within w t)
equal_within w None t = refl
equal_within w (Some u) None = refl
equal_within w (Some u) (Some []) = refl
equal_within true (Some u) (Some (true ∷ v)) = refl
equal_within true (Some u) (Some (false ∷ v)) = refl
equal_within false (Some u) (Some (true ∷ v)) = refl
equal_within false (Some u) (Some (false ∷ v)) = refl

pub within_map : (w v : Bool) (s : Option (List Bool)) → within w (option_map (λ u. v ∷ u) s) ≡ cond (same_bool v w) s None
within_map true true None = refl
within_map true true (Some u) = refl
within_map true false None = refl
within_map true false (Some u) = refl
within_map false true None = refl
within_map false true (Some u) = refl
within_map false false None = refl
within_map false false (Some u) = refl

-- a sequence is its last member with one layer more
order_last : (ms : Terms) (o k : ℕ) (b : Bits) → shape_order ms o k b ≡ option_map (λ u. true ∷ u) (shape_last ms o k b)
order_last none o k b = refl
order_last (more m ms) o k b = go (has m k) (no_terms ms) (order_last ms (o + room m) k b)
  where
    go : (h n : Bool) → shape_order ms (o + room m) k b ≡ option_map (λ u. true ∷ u) (shape_last ms (o + room m) k b) →
        cond h (cond n (option_map (λ u. true ∷ u) (shape m o k b)) None) (shape_order ms (o + room m) k b)
        ≡ option_map (λ u. true ∷ u) (cond h (cond n (shape m o k b) None) (shape_last ms (o + room m) k b))
    go true true e = refl
    go true false e = refl
    go false n e = e

pub within_order : (w : Bool) (ms : Terms) (o k : ℕ) (b : Bits) → within w (shape_order ms o k b) ≡ cond (same_bool true w) (shape_last ms o k b) None
within_order w ms o k b = ap (within w) (order_last ms o k b) ∙ within_map w true (shape_last ms o k b)

pub equal_order : (ms : Terms) (o k : ℕ) (b : Bits) (t : Option (List Bool)) → equal_shapes (shape_order ms o k b) t ≡ equal_shapes (shape_last ms o k b) (within true t)
equal_order ms o k b t = ap (λ s. equal_shapes s t) (order_last ms o k b) ∙ equal_within true (shape_last ms o k b) t

pub equal_none : (s : Option (List Bool)) → equal_shapes s None ≡ false
equal_none None = refl
equal_none (Some u) = refl

-- a member of an AND group, with none left, is its part with one layer more
pub within_and : (w n : Bool) (s : Option (List Bool)) → within w (cond n (option_map (λ u. false ∷ u) s) None) ≡ cond (not w && n) s None
within_and w true s = within_map w false s ∙ go w
  where
    go : (w : Bool) → cond (same_bool false w) s None ≡ cond (not w && true) s None
    go true = refl
    go false = refl
within_and true false s = refl
within_and false false s = refl

pub equal_and : (n : Bool) (s t : Option (List Bool)) → equal_shapes (cond n (option_map (λ u. false ∷ u) s) None) t ≡ n && equal_shapes s (within false t)
equal_and true s t = equal_within false s t
equal_and false s t = refl

not_bare : (w : Bool) (s : Option (List Bool)) → equal_shapes (Some []) (option_map (λ u. w ∷ u) s) ≡ false
not_bare w None = refl
not_bare w (Some u) = refl

bare_cond : (h p q : Bool) (s t : Option (List Bool)) → p ≡ equal_shapes (Some []) s → q ≡ equal_shapes (Some []) t → cond h p q ≡ equal_shapes (Some []) (cond h s t)
bare_cond true p q s t e f = e
bare_cond false p q s t e f = f

mutual
  pub bare_is : (x : Term) (o k : ℕ) (b : Bits) → bare x k ≡ equal_shapes (Some []) (shape x o k b)
  bare_is empty o k b = refl
  bare_is (name j n) o k b = refl
  bare_is (pcdata j) o k b = refl
  bare_is (seq ms) o k b = sym (ap (equal_shapes (Some [])) (order_last ms o k b) ∙ not_bare true (shape_last ms o k b))
  bare_is (or ms) o k b = bare_some_is ms o k b
  bare_is (and ms) o k b = sym (go (no_terms (left_at ms o k b)))
    where
      go : (n : Bool) → equal_shapes (Some []) (cond n (option_map (λ u. false ∷ u) (shape_member ms o k b)) None) ≡ false
      go true = not_bare false (shape_member ms o k b)
      go false = refl
  bare_is (opt m) o k b = bare_is m o k b
  bare_is (plus m) o k b = refl
  bare_is (rep m) o k b = refl
  bare_is (member r left) o k b = refl
  bare_is (round r m) o k b = refl

  bare_some_is : (ms : Terms) (o k : ℕ) (b : Bits) → bare_some ms k ≡ equal_shapes (Some []) (shape_some ms o k b)
  bare_some_is none o k b = refl
  bare_some_is (more m ms) o k b = bare_cond (has m k) (bare m k) (bare_some ms k) (shape m o k b) (shape_some ms (o + room m) k b) (bare_is m o k b) (bare_some_is ms (o + room m) k b)

-- members of the program
pub some_rest : (xs : List Rust) → 0 < length xs → no_terms (terms (map view xs)) ≡ false
some_rest [] h = absurd (omega (arith, h))
some_rest (m ∷ xs) h = refl

cond_two : {A : Type 0} (h n : Bool) (x y : Option A) → h ≡ true → n ≡ false → cond h (cond n x None) y ≡ None
cond_two true true x y p q = cc
cond_two true false x y p q = refl
cond_two false n x y p q = cc

-- a sequence that has members behind the token has no shape
pub last_none : (ms : List Rust) (i : ℕ) (m : Rust) (o k : ℕ) (b : Bits) → i < length ms → m ≡ get_or ms i m → has (view m) k ≡ true → i + 1 < length ms →
    shape_last (terms (map view (drop i ms))) o k b ≡ None
last_none ms i m o k b below is h more_left =
    let rest = drop (i + 1) ms in
    let long : 0 < length rest = subst (λ n. 0 < n) (sym (length-drop (i + 1) ms)) (omega (arith, more_left)) in
    ap (λ t. shape_last t o k b) (from_here ms i m below is)
    ∙ cond_two (has (view m) k) (no_terms (terms (map view rest))) (shape (view m) o k b) (shape_last (terms (map view rest)) (o + room (view m)) k b) h (some_rest rest long)

pub peel_seq : (w : Bool) (x : Term) (ms : Terms) (o k : ℕ) (b : Bits) → x ≡ seq ms → within w (shape x o k b) ≡ cond (same_bool true w) (shape_last ms o k b) None
peel_seq w x ms o k b e = ap (λ y. within w (shape y o k b)) e ∙ within_order w ms o k b

pub equal_seq : (x : Term) (ms : Terms) (o k : ℕ) (b : Bits) (s t : Option (List Bool)) → x ≡ seq ms → within true s ≡ t → equal_shapes (shape x o k b) s ≡ equal_shapes (shape_last ms o k b) t
equal_seq x ms o k b s t e w = ap (λ y. equal_shapes (shape y o k b) s) e ∙ equal_order ms o k b s ∙ ap (equal_shapes (shape_last ms o k b)) w

pub equal_and_term : (x : Term) (ms : Terms) (o k : ℕ) (b : Bits) (s t : Option (List Bool)) → x ≡ and ms → within false s ≡ t →
    equal_shapes (shape x o k b) s ≡ no_terms (left_at ms o k b) && equal_shapes (shape_member ms o k b) t
equal_and_term x ms o k b s t e w =
    ap (λ y. equal_shapes (shape y o k b) s) e ∙ equal_and (no_terms (left_at ms o k b)) (shape_member ms o k b) s
    ∙ ap (λ v. no_terms (left_at ms o k b) && equal_shapes (shape_member ms o k b) v) w
