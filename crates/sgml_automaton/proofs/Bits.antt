-- One bit for each AND member: the term that a last token and the bits stand for, and what a token changes.
use Rattle.std.specs.Prelude.{◌||◌, if◌then◌else◌}
use Rattle.std.proofs.lemmas.Bool.Decides.{Decides-eqb}
use Rattle.std.proofs.lemmas.Bool.{cases_lt}
use Rattle.std.proofs.Common.{◌≡◌, ℕ, suc, ◌+◌, ◌<◌, ◌≤◌, Bool, true, false, cond, nat_eq, ◌⊎◌, inl, inr, refl, sym, ap, ◌∙◌, subst, arith}
use Rattle.sgml_model.specs.Term.{Term, empty, name, pcdata, seq, or, and, opt, plus, rep, member, round, Terms, none, more, Token, Takes, TakesInOrder, SomeTakes, MemberTakes}
use Rattle.sgml_ambiguity.specs.Ambiguity.{IsModel, AreModels}
use Rattle.sgml_ambiguity.proofs.Sets.{Can, CanInOrder, CanSome, can, can_in_order, can_some, can_member}
use Rattle.sgml_ambiguity.proofs.Rests.{models, models_seq, models_or}
pub use Rattle.sgml_automaton.specs.Position.{Bits, room, rooms, and_rooms, left_at, at, at_order, at_some, at_member, has, has_some}
use Rattle.sgml_automaton.proofs.Places.{Numbered, AllNumbered, has_not, has_none, cond_yes, cond_no, or_yes, or_later}

abbrev pub set : ℕ → Bool → Bits → Bits
set i v b j = if nat_eq j i then v else b j

-- no member is over
abbrev pub clear : Terms → ℕ → Bits → Bits
clear none o b = b
clear (more m ms) o b = clear ms (suc (o + room m)) (set o false b)

-- the member round k is over
abbrev pub mark : Terms → ℕ → ℕ → Bits → Bits
mark none o k b = b
mark (more m ms) o k b = if has m k then set o true b else mark ms (suc (o + room m)) k b

-- the bits where a model is begun with the token k: those of the AND groups round k are cleared
abbrev mutual
  pub enter : Term → ℕ → ℕ → Bits → Bits
  enter empty o k b = b
  enter (name j n) o k b = b
  enter (pcdata j) o k b = b
  enter (seq ms) o k b = enter_in ms o k b
  enter (or ms) o k b = enter_in ms o k b
  enter (and ms) o k b = inside ms o k (clear ms o b)
  enter (opt m) o k b = enter m o k b
  enter (plus m) o k b = enter m o k b
  enter (rep m) o k b = enter m o k b
  enter (member r left) o k b = b
  enter (round r m) o k b = b

  pub enter_in : Terms → ℕ → ℕ → Bits → Bits
  enter_in none o k b = b
  enter_in (more m ms) o k b = if has m k then enter m o k b else enter_in ms (o + room m) k b

  pub inside : Terms → ℕ → ℕ → Bits → Bits
  inside none o k b = b
  inside (more m ms) o k b = if has m k then enter m (suc o) k b else inside ms (suc (o + room m)) k b

pub cond_both : {A : Type 0} (h g : Bool) (x y x' y' : A) → h ≡ g → x ≡ x' → y ≡ y' → cond h x y ≡ cond g x' y'
cond_both h g x y x' y' e f d = ap (λ v. cond v x y) e ∙ ap (λ v. cond g v y) f ∙ ap (λ v. cond g x' v) d

pub cond_at : (h : Bool) (f g : Bits) (i : ℕ) (v : Bool) → f i ≡ v → g i ≡ v → cond h f g i ≡ v
cond_at true f g i v e d = e
cond_at false f g i v e d = d

differs : (j k : ℕ) → (j ≡ k → ⊥) → nat_eq j k ≡ false
differs j k h = go (nat_eq j k) refl
  where
    go : (b : Bool) → nat_eq j k ≡ b → nat_eq j k ≡ false
    go true e = absurd (h ((Decides-eqb j k).0 e))
    go false e = e

pub set_same : (i : ℕ) (v : Bool) (b : Bits) → set i v b i ≡ v
set_same i v b = cond_yes (nat_eq i i) v (b i) ((Decides-eqb i i).1 refl)

pub set_other : (i j : ℕ) (v : Bool) (b : Bits) → (j ≡ i → ⊥) → set i v b j ≡ b j
set_other i j v b h = cond_no (nat_eq j i) v (b j) (differs j i h)

abbrev pub Agree : ℕ → ℕ → Bits → Bits → Type 0
Agree o z b c = (i : ℕ) → o ≤ i → i < z → b i ≡ c i

-- the members left depend on the group's bits alone
pub left_step : (m : Term) (ms : Terms) (o k : ℕ) (b c : Bits) → b o ≡ c o → left_at ms (suc (o + room m)) k b ≡ left_at ms (suc (o + room m)) k c →
    left_at (more m ms) o k b ≡ left_at (more m ms) o k c
left_step m ms o k b c e f = cond_both (has m k || b o) (has m k || c o) _ _ _ _ (ap (λ v. has m k || v) e) f (ap (more m) f)

pub left_agree : (ms : Terms) (o k : ℕ) (b c : Bits) → Agree o (o + and_rooms ms) b c → left_at ms o k b ≡ left_at ms o k c
left_agree none o k b c h = refl
left_agree (more m ms) o k b c h = left_step m ms o k b c (h o (omega arith) (omega arith)) (left_agree ms (suc (o + room m)) k b c (λ i p q. h i (omega arith) (omega arith)))

-- a model's term depends on its own bits alone
mutual
  pub at_agree : (x : Term) (o k : ℕ) (b c : Bits) → Agree o (o + room x) b c → at x o k b ≡ at x o k c
  at_agree empty o k b c h = refl
  at_agree (name j n) o k b c h = refl
  at_agree (pcdata j) o k b c h = refl
  at_agree (seq ms) o k b c h = order_agree ms o k b c h
  at_agree (or ms) o k b c h = some_agree ms o k b c h
  at_agree (and ms) o k b c h = ap (λ q. member q (left_at ms o k b)) (member_agree ms o k b c h) ∙ ap (member (at_member ms o k c)) (left_agree ms o k b c h)
  at_agree (opt m) o k b c h = at_agree m o k b c h
  at_agree (plus m) o k b c h = ap (λ q. round q m) (at_agree m o k b c h)
  at_agree (rep m) o k b c h = ap (λ q. round q m) (at_agree m o k b c h)
  at_agree (member r left) o k b c h = refl
  at_agree (round r m) o k b c h = refl

  pub order_agree : (ms : Terms) (o k : ℕ) (b c : Bits) → Agree o (o + rooms ms) b c → at_order ms o k b ≡ at_order ms o k c
  order_agree none o k b c h = refl
  order_agree (more m ms) o k b c h = cond_both (has m k) (has m k) _ _ _ _ refl
      (ap (λ q. seq (more q ms)) (at_agree m o k b c (λ i p q. h i p (omega arith)))) (order_agree ms (o + room m) k b c (λ i p q. h i (omega arith) (omega arith)))

  pub some_agree : (ms : Terms) (o k : ℕ) (b c : Bits) → Agree o (o + rooms ms) b c → at_some ms o k b ≡ at_some ms o k c
  some_agree none o k b c h = refl
  some_agree (more m ms) o k b c h = cond_both (has m k) (has m k) _ _ _ _ refl
      (at_agree m o k b c (λ i p q. h i p (omega arith))) (some_agree ms (o + room m) k b c (λ i p q. h i (omega arith) (omega arith)))

  pub member_agree : (ms : Terms) (o k : ℕ) (b c : Bits) → Agree o (o + and_rooms ms) b c → at_member ms o k b ≡ at_member ms o k c
  member_agree none o k b c h = refl
  member_agree (more m ms) o k b c h = cond_both (has m k) (has m k) _ _ _ _ refl
      (at_agree m (suc o) k b c (λ i p q. h i (omega arith) (omega arith))) (member_agree ms (suc (o + room m)) k b c (λ i p q. h i (omega arith) (omega arith)))

abbrev pub Outside : ℕ → ℕ → ℕ → Type 0
Outside o z i = (i < o) ⊎ (z ≤ i)

pub clear_outside : (ms : Terms) (o : ℕ) (b : Bits) (i : ℕ) → Outside o (o + and_rooms ms) i → clear ms o b i ≡ b i
clear_outside none o b i h = refl
clear_outside (more m ms) o b i h =
    let ne : i ≡ o → ⊥ = λ e. elim h [ inl p ↦ omega arith | inr p ↦ omega arith ] in
    let out : Outside (suc (o + room m)) (suc (o + room m) + and_rooms ms) i = elim h [ inl p ↦ inl (omega arith) | inr p ↦ inr (omega arith) ] in
    clear_outside ms (suc (o + room m)) (set o false b) i out ∙ set_other o i false b ne

pub mark_outside : (ms : Terms) (o k : ℕ) (b : Bits) (i : ℕ) → Outside o (o + and_rooms ms) i → mark ms o k b i ≡ b i
mark_outside none o k b i h = refl
mark_outside (more m ms) o k b i h =
    let ne : i ≡ o → ⊥ = λ e. elim h [ inl p ↦ omega arith | inr p ↦ omega arith ] in
    let out : Outside (suc (o + room m)) (suc (o + room m) + and_rooms ms) i = elim h [ inl p ↦ inl (omega arith) | inr p ↦ inr (omega arith) ] in
    cond_at (has m k) (set o true b) (mark ms (suc (o + room m)) k b) i (b i) (set_other o i true b ne) (mark_outside ms (suc (o + room m)) k b i out)

-- other bits stay
mutual
  pub enter_outside : (x : Term) (o k : ℕ) (b : Bits) (i : ℕ) → Outside o (o + room x) i → enter x o k b i ≡ b i
  enter_outside empty o k b i h = refl
  enter_outside (name j n) o k b i h = refl
  enter_outside (pcdata j) o k b i h = refl
  enter_outside (seq ms) o k b i h = in_outside ms o k b i h
  enter_outside (or ms) o k b i h = in_outside ms o k b i h
  enter_outside (and ms) o k b i h = inside_outside ms o k (clear ms o b) i h ∙ clear_outside ms o b i h
  enter_outside (opt m) o k b i h = enter_outside m o k b i h
  enter_outside (plus m) o k b i h = enter_outside m o k b i h
  enter_outside (rep m) o k b i h = enter_outside m o k b i h
  enter_outside (member r left) o k b i h = refl
  enter_outside (round r m) o k b i h = refl

  pub in_outside : (ms : Terms) (o k : ℕ) (b : Bits) (i : ℕ) → Outside o (o + rooms ms) i → enter_in ms o k b i ≡ b i
  in_outside none o k b i h = refl
  in_outside (more m ms) o k b i h =
      let one : Outside o (o + room m) i = elim h [ inl p ↦ inl p | inr p ↦ inr (omega arith) ] in
      let two : Outside (o + room m) (o + room m + rooms ms) i = elim h [ inl p ↦ inl (omega arith) | inr p ↦ inr (omega arith) ] in
      cond_at (has m k) (enter m o k b) (enter_in ms (o + room m) k b) i (b i) (enter_outside m o k b i one) (in_outside ms (o + room m) k b i two)

  pub inside_outside : (ms : Terms) (o k : ℕ) (b : Bits) (i : ℕ) → Outside o (o + and_rooms ms) i → inside ms o k b i ≡ b i
  inside_outside none o k b i h = refl
  inside_outside (more m ms) o k b i h =
      let one : Outside (suc o) (suc o + room m) i = elim h [ inl p ↦ inl (omega arith) | inr p ↦ inr (omega arith) ] in
      let two : Outside (suc (o + room m)) (suc (o + room m) + and_rooms ms) i = elim h [ inl p ↦ inl (omega arith) | inr p ↦ inr (omega arith) ] in
      cond_at (has m k) (enter m (suc o) k b) (inside ms (suc (o + room m)) k b) i (b i) (enter_outside m (suc o) k b i one) (inside_outside ms (suc (o + room m)) k b i two)

-- going into a member keeps the group's own bits
pub left_inside : (ms : Terms) (o k j : ℕ) (b : Bits) → left_at ms o j (inside ms o k b) ≡ left_at ms o j b
left_inside none o k j b = refl
left_inside (more m ms) o k j b =
    let o' = suc (o + room m) in
    elim (has m k) as (λ h. left_at (more m ms) o j (cond h (enter m (suc o) k b) (inside ms o' k b)) ≡ left_at (more m ms) o j b) [
      | true ↦ left_step m ms o j (enter m (suc o) k b) b (enter_outside m (suc o) k b o (inl (omega arith)))
          (left_agree ms o' j (enter m (suc o) k b) b (λ i p q. enter_outside m (suc o) k b i (inr (omega arith))))
      | false ↦ left_step m ms o j (inside ms o' k b) b (inside_outside ms o' k b o (inl (omega arith))) (left_inside ms o' k j b)
    ]

-- the members apart from that round k
abbrev pub others : Terms → ℕ → Terms
others none k = none
others (more m ms) k = if has m k then others ms k else more m (others ms k)

left_clear : (ms : Terms) (o k : ℕ) (b : Bits) → left_at ms o k (clear ms o b) ≡ others ms k
left_clear none o k b = refl
left_clear (more m ms) o k b =
    let o' = suc (o + room m) in
    let c = clear ms o' (set o false b) in
    let rest = left_clear ms o' k (set o false b) in
    cond_both (has m k || c o) (has m k) _ _ _ _ (ap (λ v. has m k || v) (clear_outside ms o' (set o false b) o (inl (omega arith)) ∙ set_same o false b) ∙ or_false (has m k)) rest (ap (more m) rest)
  where
    or_false : (h : Bool) → (h || false) ≡ h
    or_false true = refl
    or_false false = refl

others_none : (ms : Terms) (k : ℕ) → has_some ms k ≡ false → others ms k ≡ ms
others_none none k h = refl
others_none (more m ms) k h =
    let p = or_parts (has m k) (has_some ms k) h in
    cond_no (has m k) (others ms k) (more m (others ms k)) p.0 ∙ ap (more m) (others_none ms k p.1)
  where
    or_parts : (x y : Bool) → (x || y) ≡ false → (x ≡ false) × (y ≡ false)
    or_parts true y h = cc
    or_parts false y h = (refl, h)

-- a token that can come is one of the model
mutual
  pub can_has : (x : Term) (t : Token) → IsModel x → Can x t → has x t.number ≡ true
  can_has empty t i h = absurd h
  can_has (name k n) t i h = (Decides-eqb k t.number).1 (sym (ap (λ (u : Token). u.number) h))
  can_has (pcdata k) t i h = (Decides-eqb k t.number).1 (sym (ap (λ (u : Token). u.number) h))
  can_has (seq ms) t i h = order_has ms t (models_seq ms i) h
  can_has (or ms) t i h = some_has ms t (models_or ms i) h
  can_has (and ms) t i h = some_has ms t (models ms i) h
  can_has (opt m) t i h = can_has m t i h
  can_has (plus m) t i h = can_has m t i h
  can_has (rep m) t i h = can_has m t i h
  can_has (member r left) t i h = absurd i
  can_has (round r m) t i h = absurd i

  pub order_has : (ms : Terms) (t : Token) → AreModels ms → CanInOrder ms t → has_some ms t.number ≡ true
  order_has none t i h = absurd h
  order_has (more m ms) t i h = elim h [
    | inl a ↦ or_yes (has m t.number) (has_some ms t.number) (can_has m t i.0 a)
    | inr b ↦ or_later (has m t.number) (has_some ms t.number) (order_has ms t i.1 b.1)
  ]

  pub some_has : (ms : Terms) (t : Token) → AreModels ms → CanSome ms t → has_some ms t.number ≡ true
  some_has none t i h = absurd h
  some_has (more m ms) t i h = elim h [
    | inl a ↦ or_yes (has m t.number) (has_some ms t.number) (can_has m t i.0 a)
    | inr b ↦ or_later (has m t.number) (has_some ms t.number) (some_has ms t i.1 b)
  ]

-- a token of the members behind isn't one of the member before
pub apart : (m : Term) (ms : Terms) (a c z k : ℕ) → Numbered m a c → AllNumbered ms c z → has_some ms k ≡ true → has m k ≡ false
apart m ms a c z k n v h = elim (cases_lt k c) [
  | inl p ↦ let e = has_none ms c z k v (inl p) in cc
  | inr p ↦ has_not m a c k n (inr p)
]

pub apart_back : (m : Term) (ms : Terms) (a c z k : ℕ) → Numbered m a c → AllNumbered ms c z → has m k ≡ true → has_some ms k ≡ false
apart_back m ms a c z k n v h = elim (cases_lt k c) [
  | inl p ↦ has_none ms c z k v (inl p)
  | inr p ↦ let e = has_not m a c k n (inr p) in cc
]

pub members_others : (ms : Terms) (t : Token) (m' : Term) (os : Terms) (a z : ℕ) → AreModels ms → AllNumbered ms a z → MemberTakes ms t m' os → os ≡ others ms t.number
members_others none t m' os a z i n h = absurd h
members_others (more m ms) t m' os a z i n h = elim h [
  | inl p ↦
      let e = can_has m t i.0 (can m t m' p.0) in
      p.1 ∙ sym (others_none ms t.number (apart_back m ms a n.0 z t.number n.1 n.2 e)) ∙ sym (cond_yes (has m t.number) (others ms t.number) (more m (others ms t.number)) e)
  | inr p ↦
      let e = apart m ms a n.0 z t.number n.1 n.2 (some_has ms t i.1 (can_member ms t m' p.0 p.1)) in
      p.2 ∙ ap (more m) (members_others ms t m' p.0 n.0 z i.1 n.2 p.1) ∙ sym (cond_no (has m t.number) (others ms t.number) (more m (others ms t.number)) e)
]

-- the term after the first token
mutual
  pub enter_at : (x : Term) (t : Token) (r : Term) (a z : ℕ) → IsModel x → Numbered x a z → Takes x t r → (o : ℕ) (b : Bits) → r ≡ at x o t.number (enter x o t.number b)
  enter_at empty t r a z i n h o b = absurd h
  enter_at (name k l) t r a z i n h o b = h.1
  enter_at (pcdata k) t r a z i n h o b = h.1
  enter_at (seq ms) t r a z i n h o b = enter_order ms t r a z (models_seq ms i) n h o b
  enter_at (or ms) t r a z i n h o b = enter_some ms t r a z (models_or ms i) n h o b
  enter_at (and ms) t r a z i n h o b =
      let k = t.number in
      h.3 ∙ ap (λ q. member q h.1) (enter_member ms t h.0 h.1 a z (models ms i) n h.2 o (clear ms o b))
      ∙ ap (member (at_member ms o k (inside ms o k (clear ms o b)))) (members_others ms t h.0 h.1 a z (models ms i) n h.2 ∙ sym (left_inside ms o k k (clear ms o b) ∙ left_clear ms o k b))
  enter_at (opt m) t r a z i n h o b = enter_at m t r a z i n h o b
  enter_at (plus m) t r a z i n h o b = h.2 ∙ ap (λ q. round q m) (enter_at m t h.0 a z i n h.1 o b)
  enter_at (rep m) t r a z i n h o b = h.2 ∙ ap (λ q. round q m) (enter_at m t h.0 a z i n h.1 o b)
  enter_at (member q left) t r a z i n h o b = absurd i
  enter_at (round q m) t r a z i n h o b = absurd i

  pub enter_order : (ms : Terms) (t : Token) (r : Term) (a z : ℕ) → AreModels ms → AllNumbered ms a z → TakesInOrder ms t r → (o : ℕ) (b : Bits) → r ≡ at_order ms o t.number (enter_in ms o t.number b)
  enter_order none t r a z i n h o b = absurd h
  enter_order (more m ms) t r a z i n h o b =
      let k = t.number in let o' = o + room m in
      let goal = λ (v : Bool). cond v (seq (more (at m o k (cond v (enter m o k b) (enter_in ms o' k b))) ms)) (at_order ms o' k (cond v (enter m o k b) (enter_in ms o' k b))) in
      elim h [
        | inl p ↦ subst (λ v. r ≡ goal v) (sym (can_has m t i.0 (can m t p.0 p.1))) (p.2 ∙ ap (λ q. seq (more q ms)) (enter_at m t p.0 a n.0 i.0 n.1 p.1 o b))
        | inr p ↦ subst (λ v. r ≡ goal v) (sym (apart m ms a n.0 z k n.1 n.2 (order_has ms t i.1 (can_in_order ms t r p.1)))) (enter_order ms t r n.0 z i.1 n.2 p.1 o' b)
      ]

  pub enter_some : (ms : Terms) (t : Token) (r : Term) (a z : ℕ) → AreModels ms → AllNumbered ms a z → SomeTakes ms t r → (o : ℕ) (b : Bits) → r ≡ at_some ms o t.number (enter_in ms o t.number b)
  enter_some none t r a z i n h o b = absurd h
  enter_some (more m ms) t r a z i n h o b =
      let k = t.number in let o' = o + room m in
      let goal = λ (v : Bool). cond v (at m o k (cond v (enter m o k b) (enter_in ms o' k b))) (at_some ms o' k (cond v (enter m o k b) (enter_in ms o' k b))) in
      elim h [
        | inl p ↦ subst (λ v. r ≡ goal v) (sym (can_has m t i.0 (can m t r p))) (enter_at m t r a n.0 i.0 n.1 p o b)
        | inr p ↦ subst (λ v. r ≡ goal v) (sym (apart m ms a n.0 z k n.1 n.2 (some_has ms t i.1 (can_some ms t r p)))) (enter_some ms t r n.0 z i.1 n.2 p o' b)
      ]

  pub enter_member : (ms : Terms) (t : Token) (m' : Term) (os : Terms) (a z : ℕ) → AreModels ms → AllNumbered ms a z → MemberTakes ms t m' os → (o : ℕ) (b : Bits) → m' ≡ at_member ms o t.number (inside ms o t.number b)
  enter_member none t m' os a z i n h o b = absurd h
  enter_member (more m ms) t m' os a z i n h o b =
      let k = t.number in let o' = suc (o + room m) in
      let goal = λ (v : Bool). cond v (at m (suc o) k (cond v (enter m (suc o) k b) (inside ms o' k b))) (at_member ms o' k (cond v (enter m (suc o) k b) (inside ms o' k b))) in
      elim h [
        | inl p ↦ subst (λ v. m' ≡ goal v) (sym (can_has m t i.0 (can m t m' p.0))) (enter_at m t m' a n.0 i.0 n.1 p.0 (suc o) b)
        | inr p ↦ subst (λ v. m' ≡ goal v) (sym (apart m ms a n.0 z k n.1 n.2 (some_has ms t i.1 (can_member ms t m' p.0 p.1)))) (enter_member ms t m' p.0 n.0 z i.1 n.2 p.1 o' b)
      ]
