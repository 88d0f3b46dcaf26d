-- A step on the last token and the bits is a step of the term that they stand for.
use Rattle.std.specs.Prelude.{◌||◌, if◌then◌else◌}
use Rattle.std.proofs.Common.{◌≡◌, ℕ, suc, ◌+◌, Bool, true, false, cond, inl, inr, refl, sym, ap, ◌∙◌, subst, arith}
use Rattle.sgml_model.specs.Term.{Term, empty, name, pcdata, seq, or, and, opt, plus, rep, member, round, Terms, none, more, Token, Takes, MemberTakes}
use Rattle.sgml_ambiguity.specs.Ambiguity.{IsModel, AreModels}
use Rattle.sgml_ambiguity.proofs.Sets.{Can, CanSome, Dec, dec_can, can, can_in_order, can_member, next}
use Rattle.sgml_ambiguity.proofs.Rests.{models, models_seq, models_or}
use Rattle.sgml_automaton.proofs.Places.{Numbered, AllNumbered, has, has_some, cond_yes, cond_no, or_yes, or_later}
pub use Rattle.sgml_automaton.specs.Position.{same_member}
use Rattle.sgml_automaton.proofs.Bits.{Bits, room, rooms, and_rooms, left_at, at, at_order, at_some, at_member, set, mark, enter, enter_in, inside, cond_both, cond_at, set_same, set_other, left_agree, mark_outside, left_inside, apart, apart_back, Outside, enter_outside, in_outside, inside_outside, can_has, order_has, enter_at, enter_order}

abbrev pub yes : {P : Type 0} → Dec P → Bool
yes (inl p) = true
yes (inr n) = false

pub yes_by : {P : Type 0} (d : Dec P) → P → yes d ≡ true
yes_by (inl p) h = refl
yes_by (inr n) h = absurd (n h)

pub no_by : {P : Type 0} (d : Dec P) → (P → ⊥) → yes d ≡ false
no_by (inl p) h = absurd (h p)
no_by (inr n) h = refl

-- the bits after the token t, where k was the last
abbrev mutual
  pub go : Term → ℕ → ℕ → Token → Bits → Bits
  go empty o k t b = b
  go (name j n) o k t b = b
  go (pcdata j) o k t b = b
  go (seq ms) o k t b = go_order ms o k t b
  go (or ms) o k t b = go_some ms o k t b
  -- within the member, or into another, where the first is over
  go (and ms) o k t b = if same_member ms k t.number then go_member ms o k t b else inside ms o t.number (mark ms o k b)
  go (opt m) o k t b = go m o k t b
  -- within the round, or into a new one
  go (plus m) o k t b = if yes (dec_can (at m o k b) t) then go m o k t b else enter m o t.number b
  go (rep m) o k t b = if yes (dec_can (at m o k b) t) then go m o k t b else enter m o t.number b
  go (member r left) o k t b = b
  go (round r m) o k t b = b

  pub go_order : Terms → ℕ → ℕ → Token → Bits → Bits
  go_order none o k t b = b
  go_order (more m ms) o k t b =
      if has m k then (if has m t.number then go m o k t b else enter_in ms (o + room m) t.number b) else go_order ms (o + room m) k t b

  pub go_some : Terms → ℕ → ℕ → Token → Bits → Bits
  go_some none o k t b = b
  go_some (more m ms) o k t b = if has m k then go m o k t b else go_some ms (o + room m) k t b

  pub go_member : Terms → ℕ → ℕ → Token → Bits → Bits
  go_member none o k t b = b
  go_member (more m ms) o k t b = if has m k then go m (suc o) k t b else go_member ms (suc (o + room m)) k t b

cond_bits : (h : Bool) (f g : Bits) (i : ℕ) (v : Bool) → f i ≡ v → g i ≡ v → cond h f g i ≡ v
cond_bits = cond_at

mutual
  go_outside : (x : Term) (o k : ℕ) (t : Token) (b : Bits) (i : ℕ) → Outside o (o + room x) i → go x o k t b i ≡ b i
  go_outside empty o k t b i h = refl
  go_outside (name j n) o k t b i h = refl
  go_outside (pcdata j) o k t b i h = refl
  go_outside (seq ms) o k t b i h = order_outside ms o k t b i h
  go_outside (or ms) o k t b i h = some_outside ms o k t b i h
  go_outside (and ms) o k t b i h = cond_at (same_member ms k t.number) (go_member ms o k t b) (inside ms o t.number (mark ms o k b)) i (b i) (member_outside ms o k t b i h)
      (inside_outside ms o t.number (mark ms o k b) i h ∙ mark_outside ms o k b i h)
  go_outside (opt m) o k t b i h = go_outside m o k t b i h
  go_outside (plus m) o k t b i h = cond_at (yes (dec_can (at m o k b) t)) (go m o k t b) (enter m o t.number b) i (b i) (go_outside m o k t b i h) (enter_outside m o t.number b i h)
  go_outside (rep m) o k t b i h = cond_at (yes (dec_can (at m o k b) t)) (go m o k t b) (enter m o t.number b) i (b i) (go_outside m o k t b i h) (enter_outside m o t.number b i h)
  go_outside (member r left) o k t b i h = refl
  go_outside (round r m) o k t b i h = refl

  order_outside : (ms : Terms) (o k : ℕ) (t : Token) (b : Bits) (i : ℕ) → Outside o (o + rooms ms) i → go_order ms o k t b i ≡ b i
  order_outside none o k t b i h = refl
  order_outside (more m ms) o k t b i h =
      let one : Outside o (o + room m) i = elim h [ inl p ↦ inl p | inr p ↦ inr (omega arith) ] in
      let two : Outside (o + room m) (o + room m + rooms ms) i = elim h [ inl p ↦ inl (omega arith) | inr p ↦ inr (omega arith) ] in
      cond_at (has m k) (cond (has m t.number) (go m o k t b) (enter_in ms (o + room m) t.number b)) (go_order ms (o + room m) k t b) i (b i)
      (cond_at (has m t.number) (go m o k t b) (enter_in ms (o + room m) t.number b) i (b i) (go_outside m o k t b i one) (in_outside ms (o + room m) t.number b i two))
      (order_outside ms (o + room m) k t b i two)

  some_outside : (ms : Terms) (o k : ℕ) (t : Token) (b : Bits) (i : ℕ) → Outside o (o + rooms ms) i → go_some ms o k t b i ≡ b i
  some_outside none o k t b i h = refl
  some_outside (more m ms) o k t b i h =
      let one : Outside o (o + room m) i = elim h [ inl p ↦ inl p | inr p ↦ inr (omega arith) ] in
      let two : Outside (o + room m) (o + room m + rooms ms) i = elim h [ inl p ↦ inl (omega arith) | inr p ↦ inr (omega arith) ] in
      cond_at (has m k) (go m o k t b) (go_some ms (o + room m) k t b) i (b i) (go_outside m o k t b i one) (some_outside ms (o + room m) k t b i two)

  member_outside : (ms : Terms) (o k : ℕ) (t : Token) (b : Bits) (i : ℕ) → Outside o (o + and_rooms ms) i → go_member ms o k t b i ≡ b i
  member_outside none o k t b i h = refl
  member_outside (more m ms) o k t b i h =
      let one : Outside (suc o) (suc o + room m) i = elim h [ inl p ↦ inl (omega arith) | inr p ↦ inr (omega arith) ] in
      let two : Outside (suc (o + room m)) (suc (o + room m) + and_rooms ms) i = elim h [ inl p ↦ inl (omega arith) | inr p ↦ inr (omega arith) ] in
      cond_at (has m k) (go m (suc o) k t b) (go_member ms (suc (o + room m)) k t b) i (b i) (go_outside m (suc o) k t b i one) (member_outside ms (suc (o + room m)) k t b i two)

-- by cases on a test, with its equation
pub by_test : {P : Type 0} (h : Bool) → (h ≡ true → P) → (h ≡ false → P) → P
by_test true f g = f refl
by_test false f g = g refl

or_parts : (x y : Bool) → (x || y) ≡ false → (x ≡ false) × (y ≡ false)
or_parts true y h = cc
or_parts false y h = (refl, h)

-- of the members, the one that has k: another one, if this one doesn't
has_rest : (m : Term) (ms : Terms) (k : ℕ) → has_some (more m ms) k ≡ true → has m k ≡ false → has_some ms k ≡ true
has_rest m ms k h e = subst (λ v. (v || has_some ms k) ≡ true) e h

split_can : {P : Type 0} (h : Bool) (x y : Term) (t : Token) → (Can x t → P) → (Can y t → P) → Can (cond h x y) t → P
split_can true x y t f g c = f c
split_can false x y t f g c = g c

first_has : (m : Term) (ms : Terms) (t : Token) (q : Term) → AreModels (more m ms) → (Can q t → has m t.number ≡ true) → Can (seq (more q ms)) t → has_some (more m ms) t.number ≡ true
first_has m ms t q i f h = elim h [
  | inl p ↦ or_yes (has m t.number) (has_some ms t.number) (f p)
  | inr p ↦ or_later (has m t.number) (has_some ms t.number) (order_has ms t i.1 p.1)
]

split_some : {P : Type 0} (h : Bool) (x y : Terms) (t : Token) → (CanSome x t → P) → (CanSome y t → P) → CanSome (cond h x y) t → P
split_some true x y t f g c = f c
split_some false x y t f g c = g c

left_has : (ms : Terms) (o k : ℕ) (b : Bits) (t : Token) → AreModels ms → CanSome (left_at ms o k b) t → has_some ms t.number ≡ true
left_has none o k b t i h = absurd h
left_has (more m ms) o k b t i h =
    let later = λ (p : CanSome (left_at ms (suc (o + room m)) k b) t). or_later (has m t.number) (has_some ms t.number) (left_has ms (suc (o + room m)) k b t i.1 p) in
    split_some (has m k || b o) (left_at ms (suc (o + room m)) k b) (more m (left_at ms (suc (o + room m)) k b)) t later
    (λ p. elim p [ inl q ↦ or_yes (has m t.number) (has_some ms t.number) (can_has m t i.0 q) | inr q ↦ later q ]) h

-- tokens that can come in the term at a place are the model's
mutual
  pub at_has : (x : Term) (o k : ℕ) (b : Bits) (t : Token) → IsModel x → Can (at x o k b) t → has x t.number ≡ true
  at_has empty o k b t i h = absurd h
  at_has (name j n) o k b t i h = absurd h
  at_has (pcdata j) o k b t i h = can_has (pcdata j) t i h
  at_has (seq ms) o k b t i h = order_at_has ms o k b t (models_seq ms i) h
  at_has (or ms) o k b t i h = some_at_has ms o k b t (models_or ms i) h
  at_has (and ms) o k b t i h = elim h [ inl p ↦ member_at_has ms o k b t (models ms i) p | inr p ↦ left_has ms o k b t (models ms i) p.1 ]
  at_has (opt m) o k b t i h = at_has m o k b t i h
  at_has (plus m) o k b t i h = elim h [ inl p ↦ at_has m o k b t i p | inr p ↦ can_has m t i p.1 ]
  at_has (rep m) o k b t i h = elim h [ inl p ↦ at_has m o k b t i p | inr p ↦ can_has m t i p.1 ]
  at_has (member r left) o k b t i h = absurd i
  at_has (round r m) o k b t i h = absurd i

  order_at_has : (ms : Terms) (o k : ℕ) (b : Bits) (t : Token) → AreModels ms → Can (at_order ms o k b) t → has_some ms t.number ≡ true
  order_at_has none o k b t i h = absurd h
  order_at_has (more m ms) o k b t i h =
      let one = λ (p : Can (seq (more (at m o k b) ms)) t). first_has m ms t (at m o k b) i (at_has m o k b t i.0) p in
      let two = λ (p : Can (at_order ms (o + room m) k b) t). or_later (has m t.number) (has_some ms t.number) (order_at_has ms (o + room m) k b t i.1 p) in
      split_can (has m k) (seq (more (at m o k b) ms)) (at_order ms (o + room m) k b) t one two h

  some_at_has : (ms : Terms) (o k : ℕ) (b : Bits) (t : Token) → AreModels ms → Can (at_some ms o k b) t → has_some ms t.number ≡ true
  some_at_has none o k b t i h = absurd h
  some_at_has (more m ms) o k b t i h =
      split_can (has m k) (at m o k b) (at_some ms (o + room m) k b) t (λ p. or_yes (has m t.number) (has_some ms t.number) (at_has m o k b t i.0 p))
      (λ p. or_later (has m t.number) (has_some ms t.number) (some_at_has ms (o + room m) k b t i.1 p)) h

  member_at_has : (ms : Terms) (o k : ℕ) (b : Bits) (t : Token) → AreModels ms → Can (at_member ms o k b) t → has_some ms t.number ≡ true
  member_at_has none o k b t i h = absurd h
  member_at_has (more m ms) o k b t i h =
      split_can (has m k) (at m (suc o) k b) (at_member ms (suc (o + room m)) k b) t (λ p. or_yes (has m t.number) (has_some ms t.number) (at_has m (suc o) k b t i.0 p))
      (λ p. or_later (has m t.number) (has_some ms t.number) (member_at_has ms (suc (o + room m)) k b t i.1 p)) h

-- members that have neither of two tokens are left alike
left_not : (ms : Terms) (o k j : ℕ) (b : Bits) → has_some ms k ≡ false → has_some ms j ≡ false → left_at ms o k b ≡ left_at ms o j b
left_not none o k j b h g = refl
left_not (more m ms) o k j b h g =
    let p = or_parts (has m k) (has_some ms k) h in let q = or_parts (has m j) (has_some ms j) g in
    let rest = left_not ms (suc (o + room m)) k j b p.1 q.1 in
    cond_both (has m k || b o) (has m j || b o) _ _ _ _ (ap (λ v. v || b o) (p.0 ∙ sym q.0)) rest (ap (more m) rest)

same_none : (ms : Terms) (k j : ℕ) → has_some ms j ≡ false → same_member ms k j ≡ false
same_none none k j h = refl
same_none (more m ms) k j h =
    let p = or_parts (has m j) (has_some ms j) h in
    by_test (has m k) (λ e. cond_yes (has m k) (has m j) (same_member ms k j) e ∙ p.0) (λ e. cond_no (has m k) (has m j) (same_member ms k j) e ∙ same_none ms k j p.1)

-- a marked member is left out
left_mark : (ms : Terms) (o k j : ℕ) (b : Bits) (a z : ℕ) → AllNumbered ms a z → has_some ms j ≡ false → left_at ms o j (mark ms o k b) ≡ left_at ms o k b
left_mark none o k j b a z n h = refl
left_mark (more m ms) o k j b a z n h =
    let o' = suc (o + room m) in
    let p = or_parts (has m j) (has_some ms j) h in
    by_test (has m k)
    (λ e.
    let gone = apart_back m ms a n.0 z k n.1 n.2 e in
    ap (left_at (more m ms) o j) (cond_yes (has m k) (set o true b) (mark ms o' k b) e)
    ∙ cond_yes (has m j || set o true b o) _ _ (or_later (has m j) (set o true b o) (set_same o true b))
    ∙ left_agree ms o' j (set o true b) b (λ i x y. set_other o i true b (λ q. omega arith))
    ∙ left_not ms o' j k b p.1 gone
    ∙ sym (cond_yes (has m k || b o) _ _ (or_yes (has m k) (b o) e)))
    (λ e.
    let rest = left_mark ms o' k j b n.0 z n.2 p.1 in
    ap (left_at (more m ms) o j) (cond_no (has m k) (set o true b) (mark ms o' k b) e)
    ∙ cond_both (has m j || mark ms o' k b o) (has m k || b o) _ _ _ _ (ap (λ v. v || mark ms o' k b o) (p.0 ∙ sym e) ∙ ap (λ v. has m k || v) (mark_outside ms o' k b o (inl (omega arith)))) rest (ap (more m) rest))

split_takes : {P : Type 0} (h : Bool) (x y : Terms) (t : Token) (m' : Term) (os : Terms) → (h ≡ true → MemberTakes x t m' os → P) → (h ≡ false → MemberTakes y t m' os → P) → MemberTakes (cond h x y) t m' os → P
split_takes true x y t m' os f g c = f refl c
split_takes false x y t m' os f g c = g refl c

-- a member that is left is begun: who has the token
taken_has : (ms : Terms) (o k : ℕ) (b : Bits) (t : Token) (m' : Term) (os : Terms) → AreModels ms → MemberTakes (left_at ms o k b) t m' os → has_some ms t.number ≡ true
taken_has ms o k b t m' os i h = left_has ms o k b t i (can_member (left_at ms o k b) t m' os h)

-- where k isn't among the members
take_free : (ms : Terms) (o k : ℕ) (b : Bits) (t : Token) (m' : Term) (os : Terms) (a z : ℕ) → AreModels ms → AllNumbered ms a z → has_some ms k ≡ false → MemberTakes (left_at ms o k b) t m' os → os ≡ left_at ms o t.number b
take_free none o k b t m' os a z i n g h = absurd h
take_free (more m ms) o k b t m' os a z i n g h =
    let o' = suc (o + room m) in let j = t.number in
    let p = or_parts (has m k) (has_some ms k) g in
    split_takes (has m k || b o) (left_at ms o' k b) (more m (left_at ms o' k b)) t m' os
    (λ e c.
    let no = apart m ms a n.0 z j n.1 n.2 (taken_has ms o' k b t m' os i.1 c) in
    take_free ms o' k b t m' os n.0 z i.1 n.2 p.1 c
    ∙ sym (cond_yes (has m j || b o) (left_at ms o' j b) (more m (left_at ms o' j b)) (ap (λ v. v || b o) (no ∙ sym p.0) ∙ e)))
    (λ e c. elim c [
      | inl q ↦
          let is = can_has m t i.0 (can m t m' q.0) in
          q.1 ∙ left_not ms o' k j b p.1 (apart_back m ms a n.0 z j n.1 n.2 is)
          ∙ sym (cond_yes (has m j || b o) (left_at ms o' j b) (more m (left_at ms o' j b)) (or_yes (has m j) (b o) is))
      | inr q ↦
          let no = apart m ms a n.0 z j n.1 n.2 (taken_has ms o' k b t m' q.0 i.1 q.1) in
          q.2 ∙ ap (more m) (take_free ms o' k b t m' q.0 n.0 z i.1 n.2 p.1 q.1)
          ∙ sym (cond_no (has m j || b o) (left_at ms o' j b) (more m (left_at ms o' j b)) (ap (λ v. v || b o) (no ∙ sym p.0) ∙ e))
    ]) h

-- another member is begun: the others, with the first marked
take_left : (ms : Terms) (o k : ℕ) (b : Bits) (t : Token) (m' : Term) (os : Terms) (a z : ℕ) → AreModels ms → AllNumbered ms a z → MemberTakes (left_at ms o k b) t m' os → os ≡ left_at ms o t.number (mark ms o k b)
take_left none o k b t m' os a z i n h = absurd h
take_left (more m ms) o k b t m' os a z i n h =
    let o' = suc (o + room m) in let j = t.number in
    by_test (has m k)
    (λ e.
    let h' : MemberTakes (left_at ms o' k b) t m' os = subst (λ x. MemberTakes x t m' os) (cond_yes (has m k || b o) (left_at ms o' k b) (more m (left_at ms o' k b)) (or_yes (has m k) (b o) e)) h in
    take_free ms o' k b t m' os n.0 z i.1 n.2 (apart_back m ms a n.0 z k n.1 n.2 e) h'
    ∙ sym (
    ap (left_at (more m ms) o j) (cond_yes (has m k) (set o true b) (mark ms o' k b) e)
    ∙ cond_yes (has m j || set o true b o) _ _ (or_later (has m j) (set o true b o) (set_same o true b))
    ∙ left_agree ms o' j (set o true b) b (λ i x y. set_other o i true b (λ q. omega arith))
    ))
    (λ e.
    let c = mark ms o' k b in
    let keeps : c o ≡ b o = mark_outside ms o' k b o (inl (omega arith)) in
    split_takes (has m k || b o) (left_at ms o' k b) (more m (left_at ms o' k b)) t m' os
    (λ f d.
    let no = apart m ms a n.0 z j n.1 n.2 (taken_has ms o' k b t m' os i.1 d) in
    take_left ms o' k b t m' os n.0 z i.1 n.2 d
    ∙ sym (ap (left_at (more m ms) o j) (cond_no (has m k) (set o true b) c e)
    ∙ cond_yes (has m j || c o) (left_at ms o' j c) (more m (left_at ms o' j c)) (ap (λ v. v || c o) (no ∙ sym e) ∙ ap (λ v. has m k || v) keeps ∙ f)))
    (λ f d. elim d [
      | inl q ↦
          let is = can_has m t i.0 (can m t m' q.0) in
          q.1 ∙ sym (left_mark ms o' k j b n.0 z n.2 (apart_back m ms a n.0 z j n.1 n.2 is))
          ∙ sym (ap (left_at (more m ms) o j) (cond_no (has m k) (set o true b) c e)
          ∙ cond_yes (has m j || c o) (left_at ms o' j c) (more m (left_at ms o' j c)) (or_yes (has m j) (c o) is))
      | inr q ↦
          let no = apart m ms a n.0 z j n.1 n.2 (taken_has ms o' k b t m' q.0 i.1 q.1) in
          q.2 ∙ ap (more m) (take_left ms o' k b t m' q.0 n.0 z i.1 n.2 q.1)
          ∙ sym (ap (left_at (more m ms) o j) (cond_no (has m k) (set o true b) c e)
          ∙ cond_no (has m j || c o) (left_at ms o' j c) (more m (left_at ms o' j c)) (ap (λ v. v || c o) (no ∙ sym e) ∙ ap (λ v. has m k || v) keeps ∙ f))
    ]) h)

-- another member is begun: its term
take_member : (ms : Terms) (o k : ℕ) (b c : Bits) (t : Token) (m' : Term) (os : Terms) (a z : ℕ) → AreModels ms → AllNumbered ms a z → MemberTakes (left_at ms o k b) t m' os → m' ≡ at_member ms o t.number (inside ms o t.number c)
take_member none o k b c t m' os a z i n h = absurd h
take_member (more m ms) o k b c t m' os a z i n h =
    let j = t.number in let o' = suc (o + room m) in
    let goal = λ (v : Bool). cond v (at m (suc o) j (cond v (enter m (suc o) j c) (inside ms o' j c))) (at_member ms o' j (cond v (enter m (suc o) j c) (inside ms o' j c))) in
    let later = λ (os : Terms) (d : MemberTakes (left_at ms o' k b) t m' os).
    subst (λ v. m' ≡ goal v) (sym (apart m ms a n.0 z j n.1 n.2 (taken_has ms o' k b t m' os i.1 d))) (take_member ms o' k b c t m' os n.0 z i.1 n.2 d) in
    split_takes (has m k || b o) (left_at ms o' k b) (more m (left_at ms o' k b)) t m' os
    (λ e d. later os d)
    (λ e d. elim d [
      | inl q ↦ subst (λ v. m' ≡ goal v) (sym (can_has m t i.0 (can m t m' q.0))) (enter_at m t m' a n.0 i.0 n.1 q.0 (suc o) c)
      | inr q ↦ later q.0 q.1
    ]) h

-- another member is begun: it isn't the one round k
pub take_other : (ms : Terms) (o k : ℕ) (b : Bits) (t : Token) (m' : Term) (os : Terms) (a z : ℕ) → AreModels ms → AllNumbered ms a z → MemberTakes (left_at ms o k b) t m' os → same_member ms k t.number ≡ false
take_other none o k b t m' os a z i n h = absurd h
take_other (more m ms) o k b t m' os a z i n h =
    let j = t.number in let o' = suc (o + room m) in
    by_test (has m k)
    (λ e.
    let h' : MemberTakes (left_at ms o' k b) t m' os = subst (λ x. MemberTakes x t m' os) (cond_yes (has m k || b o) (left_at ms o' k b) (more m (left_at ms o' k b)) (or_yes (has m k) (b o) e)) h in
    cond_yes (has m k) (has m j) (same_member ms k j) e ∙ apart m ms a n.0 z j n.1 n.2 (taken_has ms o' k b t m' os i.1 h'))
    (λ e. cond_no (has m k) (has m j) (same_member ms k j) e ∙ split_takes (has m k || b o) (left_at ms o' k b) (more m (left_at ms o' k b)) t m' os
    (λ f d. take_other ms o' k b t m' os n.0 z i.1 n.2 d)
    (λ f d. elim d [
      | inl q ↦ same_none ms k j (apart_back m ms a n.0 z j n.1 n.2 (can_has m t i.0 (can m t m' q.0)))
      | inr q ↦ take_other ms o' k b t m' q.0 n.0 z i.1 n.2 q.1
    ]) h)

-- the law: a step of the term is a step of the token and the bits
mutual
  pub go_at : (x : Term) (a z : ℕ) (o k : ℕ) (b : Bits) (t : Token) (s : Term) → IsModel x → Numbered x a z → has x k ≡ true → Takes (at x o k b) t s → s ≡ at x o t.number (go x o k t b)
  go_at empty a z o k b t s i n h c = absurd i
  go_at (name j l) a z o k b t s i n h c = absurd c
  go_at (pcdata j) a z o k b t s i n h c = c.1
  go_at (seq ms) a z o k b t s i n h c = go_order_at ms a z o k b t s (models_seq ms i) n h c
  go_at (or ms) a z o k b t s i n h c = go_some_at ms a z o k b t s (models_or ms i) n h c
  go_at (and ms) a z o k b t s i n h c =
      let j = t.number in
      let goal = λ (v : Bool). at (and ms) o j (cond v (go_member ms o k t b) (inside ms o j (mark ms o k b))) in
      elim c [
        | inl p ↦
            let g = go_member_at ms a z o k b t p.0 (models ms i) n h p.1 in
            subst (λ v. s ≡ goal v) (sym g.0) (p.2 ∙ ap (λ q. member q (left_at ms o k b)) g.1 ∙ ap (member (at_member ms o j (go_member ms o k t b))) g.2)
        | inr p ↦
            let c' = mark ms o k b in
            subst (λ v. s ≡ goal v) (sym (take_other ms o k b t p.1 p.2 a z (models ms i) n p.3))
            (p.4 ∙ ap (λ q. member q p.2) (take_member ms o k b c' t p.1 p.2 a z (models ms i) n p.3)
            ∙ ap (member (at_member ms o j (inside ms o j c'))) (take_left ms o k b t p.1 p.2 a z (models ms i) n p.3 ∙ sym (left_inside ms o j j c')))
      ]
  go_at (opt m) a z o k b t s i n h c = go_at m a z o k b t s i n h c
  go_at (plus m) a z o k b t s i n h c =
      let goal = λ (v : Bool). at (plus m) o t.number (cond v (go m o k t b) (enter m o t.number b)) in
      elim c [
        | inl p ↦ subst (λ v. s ≡ goal v) (sym (yes_by (dec_can (at m o k b) t) (can (at m o k b) t p.0 p.1))) (p.2 ∙ ap (λ q. round q m) (go_at m a z o k b t p.0 i n h p.1))
        | inr p ↦ subst (λ v. s ≡ goal v) (sym (no_by (dec_can (at m o k b) t) (λ y. let w = next (at m o k b) t y in p.1 w.0 w.1))) (p.4 ∙ ap (λ q. round q m) (enter_at m t p.2 a z i n p.3 o b))
      ]
  go_at (rep m) a z o k b t s i n h c =
      let goal = λ (v : Bool). at (rep m) o t.number (cond v (go m o k t b) (enter m o t.number b)) in
      elim c [
        | inl p ↦ subst (λ v. s ≡ goal v) (sym (yes_by (dec_can (at m o k b) t) (can (at m o k b) t p.0 p.1))) (p.2 ∙ ap (λ q. round q m) (go_at m a z o k b t p.0 i n h p.1))
        | inr p ↦ subst (λ v. s ≡ goal v) (sym (no_by (dec_can (at m o k b) t) (λ y. let w = next (at m o k b) t y in p.1 w.0 w.1))) (p.4 ∙ ap (λ q. round q m) (enter_at m t p.2 a z i n p.3 o b))
      ]
  go_at (member r left) a z o k b t s i n h c = absurd i
  go_at (round r m) a z o k b t s i n h c = absurd i

  go_order_at : (ms : Terms) (a z : ℕ) (o k : ℕ) (b : Bits) (t : Token) (s : Term) → AreModels ms → AllNumbered ms a z → has_some ms k ≡ true → Takes (at_order ms o k b) t s → s ≡ at_order ms o t.number (go_order ms o k t b)
  go_order_at none a z o k b t s i n h c = absurd c
  go_order_at (more m ms) a z o k b t s i n h c =
      let j = t.number in let o' = o + room m in
      let goal = λ (v w : Bool). let B = cond v (cond w (go m o k t b) (enter_in ms o' j b)) (go_order ms o' k t b) in cond w (seq (more (at m o j B) ms)) (at_order ms o' j B) in
      let ih = go_order_at ms n.0 z o' k b t s i.1 n.2 in
      let own = λ (q : Term). go_at m a n.0 o k b t q i.0 n.1 in
      by_test (has m k)
      (λ e.
      let c' : Takes (seq (more (at m o k b) ms)) t s = subst (λ x. Takes x t s) (cond_yes (has m k) (seq (more (at m o k b) ms)) (at_order ms o' k b) e) c in
      subst (λ v. s ≡ goal v (has m j)) (sym e) (elim c' [
        | inl p ↦ subst (λ w. s ≡ goal true w) (sym (at_has m o k b t i.0 (can (at m o k b) t p.0 p.1))) (p.2 ∙ ap (λ q. seq (more q ms)) (own p.0 e p.1))
        | inr p ↦ subst (λ w. s ≡ goal true w) (sym (apart m ms a n.0 z j n.1 n.2 (order_has ms t i.1 (can_in_order ms t s p.1)))) (enter_order ms t s n.0 z i.1 n.2 p.1 o' b)
      ]))
      (λ e.
      let c' : Takes (at_order ms o' k b) t s = subst (λ x. Takes x t s) (cond_no (has m k) (seq (more (at m o k b) ms)) (at_order ms o' k b) e) c in
      subst (λ v. s ≡ goal v (has m j)) (sym e)
      (subst (λ w. s ≡ goal false w) (sym (apart m ms a n.0 z j n.1 n.2 (order_at_has ms o' k b t i.1 (can (at_order ms o' k b) t s c')))) (ih (has_rest m ms k h e) c')))

  go_some_at : (ms : Terms) (a z : ℕ) (o k : ℕ) (b : Bits) (t : Token) (s : Term) → AreModels ms → AllNumbered ms a z → has_some ms k ≡ true → Takes (at_some ms o k b) t s → s ≡ at_some ms o t.number (go_some ms o k t b)
  go_some_at none a z o k b t s i n h c = absurd c
  go_some_at (more m ms) a z o k b t s i n h c =
      let j = t.number in let o' = o + room m in
      let goal = λ (v w : Bool). let B = cond v (go m o k t b) (go_some ms o' k t b) in cond w (at m o j B) (at_some ms o' j B) in
      let ih = go_some_at ms n.0 z o' k b t s i.1 n.2 in
      let own = go_at m a n.0 o k b t s i.0 n.1 in
      by_test (has m k)
      (λ e.
      let c' : Takes (at m o k b) t s = subst (λ x. Takes x t s) (cond_yes (has m k) (at m o k b) (at_some ms o' k b) e) c in
      subst (λ v. s ≡ goal v (has m j)) (sym e) (subst (λ w. s ≡ goal true w) (sym (at_has m o k b t i.0 (can (at m o k b) t s c'))) (own e c')))
      (λ e.
      let c' : Takes (at_some ms o' k b) t s = subst (λ x. Takes x t s) (cond_no (has m k) (at m o k b) (at_some ms o' k b) e) c in
      subst (λ v. s ≡ goal v (has m j)) (sym e)
      (subst (λ w. s ≡ goal false w) (sym (apart m ms a n.0 z j n.1 n.2 (some_at_has ms o' k b t i.1 (can (at_some ms o' k b) t s c')))) (ih (has_rest m ms k h e) c')))

  go_member_at : (ms : Terms) (a z : ℕ) (o k : ℕ) (b : Bits) (t : Token) (s : Term) → AreModels ms → AllNumbered ms a z → has_some ms k ≡ true → Takes (at_member ms o k b) t s →
      (same_member ms k t.number ≡ true) × (s ≡ at_member ms o t.number (go_member ms o k t b)) × (left_at ms o k b ≡ left_at ms o t.number (go_member ms o k t b))
  go_member_at none a z o k b t s i n h c = absurd c
  go_member_at (more m ms) a z o k b t s i n h c =
      let j = t.number in let o' = suc (o + room m) in
      let goal = λ (v w : Bool). let B = cond v (go m (suc o) k t b) (go_member ms o' k t b) in cond w (at m (suc o) j B) (at_member ms o' j B) in
      let ih = go_member_at ms n.0 z o' k b t s i.1 n.2 in
      let own = go_at m a n.0 (suc o) k b t s i.0 n.1 in
      by_test (has m k)
      (λ e.
      let c' : Takes (at m (suc o) k b) t s = subst (λ x. Takes x t s) (cond_yes (has m k) (at m (suc o) k b) (at_member ms o' k b) e) c in
      let is = at_has m (suc o) k b t i.0 (can (at m (suc o) k b) t s c') in
      let B = go m (suc o) k t b in (
        cond_yes (has m k) (has m j) (same_member ms k j) e ∙ is,
        subst (λ v. s ≡ goal v (has m j)) (sym e) (subst (λ w. s ≡ goal true w) (sym is) (own e c')),
        cond_yes (has m k || b o) (left_at ms o' k b) (more m (left_at ms o' k b)) (or_yes (has m k) (b o) e)
            ∙ left_not ms o' k j b (apart_back m ms a n.0 z k n.1 n.2 e) (apart_back m ms a n.0 z j n.1 n.2 is)
            ∙ sym (left_agree ms o' j B b (λ i x y. go_outside m (suc o) k t b i (inr (omega arith))))
            ∙ sym (cond_yes (has m j || B o) (left_at ms o' j B) (more m (left_at ms o' j B)) (or_yes (has m j) (B o) is))
            ∙ ap (left_at (more m ms) o j) (sym (cond_yes (has m k) B (go_member ms o' k t b) e)),
      ))
      (λ e.
      let c' : Takes (at_member ms o' k b) t s = subst (λ x. Takes x t s) (cond_no (has m k) (at m (suc o) k b) (at_member ms o' k b) e) c in
      let no = apart m ms a n.0 z j n.1 n.2 (member_at_has ms o' k b t i.1 (can (at_member ms o' k b) t s c')) in
      let g = ih (has_rest m ms k h e) c' in
      let B = go_member ms o' k t b in (
        cond_no (has m k) (has m j) (same_member ms k j) e ∙ g.0,
        subst (λ v. s ≡ goal v (has m j)) (sym e) (subst (λ w. s ≡ goal false w) (sym no) g.1),
        cond_both (has m k || b o) (has m j || B o) (left_at ms o' k b) (more m (left_at ms o' k b)) (left_at ms o' j B) (more m (left_at ms o' j B))
            (ap (λ v. v || b o) (e ∙ sym no) ∙ ap (λ v. has m j || v) (sym (member_outside ms o' k t b o (inl (omega arith))))) g.2 (ap (more m) g.2)
            ∙ ap (left_at (more m ms) o j) (sym (cond_no (has m k) (go m (suc o) k t b) B e)),
      ))
