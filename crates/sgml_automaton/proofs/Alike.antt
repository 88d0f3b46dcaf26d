-- When two last tokens with their bits stand for one term.
use Rattle.std.specs.Prelude.{◌||◌, option_map}
use Rattle.std.proofs.Common.{◌≡◌, ℕ, suc, ◌+◌, ◌<◌, ◌≤◌, Bool, true, false, cond, Option, Some, None, ◌⊎◌, inl, inr, List, [], ◌∷◌, refl, sym, ap, ◌∙◌, subst, arith}
use Rattle.sgml_model.specs.Term.{Term, empty, name, pcdata, seq, or, and, opt, plus, rep, member, round, Terms, none, more}
use Rattle.sgml_ambiguity.specs.Ambiguity.{IsModel, AreModels}
use Rattle.sgml_automaton.specs.Position.{Bits, room, at, at_order, at_some, at_member, left_at, has, has_some}
use Rattle.sgml_automaton.specs.Alike.{no_terms, shape, shape_order, shape_some, shape_member}
use Rattle.sgml_ambiguity.proofs.Rests.{models, models_seq, models_or}
use Rattle.sgml_automaton.proofs.Places.{Numbered, AllNumbered, cond_yes, cond_no, span, span_one}
use Rattle.sgml_automaton.proofs.Steps.{by_test}

-- the term of a shape
abbrev pub shaped : List Bool → Term
shaped [] = empty
shaped (true ∷ w) = seq (more (shaped w) none)
shaped (false ∷ w) = member (shaped w) none

is_none_of : (ms : Terms) → no_terms ms ≡ true → ms ≡ none
is_none_of none h = refl
is_none_of (more m ms) h = cc

when_some : {A : Type 0} (b : Bool) (o : Option A) (x : A) → cond b o None ≡ Some x → (b ≡ true) × (o ≡ Some x)
when_some true o x h = (refl, h)
when_some false o x h = cc

mapped : (v : Bool) (o : Option (List Bool)) (w : List Bool) → option_map (λ u. v ∷ u) o ≡ Some w → (u : List Bool) × (o ≡ Some u) × (w ≡ v ∷ u)
mapped v None w h = cc
mapped v (Some u) w h = (u, refl, cc)

either : {A : Type 0} {P : Type 0} (h : Bool) (x y z : A) → cond h x y ≡ z → (h ≡ true → x ≡ z → P) → (h ≡ false → y ≡ z → P) → P
either true x y z e f g = f refl e
either false x y z e f g = g refl e

-- a term with a shape is the term of it
mutual
  pub shape_is : (x : Term) (o k : ℕ) (b : Bits) (w : List Bool) → shape x o k b ≡ Some w → at x o k b ≡ shaped w
  shape_is empty o k b w h = cc
  shape_is (name j n) o k b w h = let e : w ≡ [] = cc in ap shaped (sym e)
  shape_is (pcdata j) o k b w h = cc
  shape_is (seq ms) o k b w h = shape_order_is ms o k b w h
  shape_is (or ms) o k b w h = shape_some_is ms o k b w h
  shape_is (and ms) o k b w h =
      let p = when_some (no_terms (left_at ms o k b)) (option_map (λ w. false ∷ w) (shape_member ms o k b)) w h in
      let q = mapped false (shape_member ms o k b) w p.1 in
      ap (λ r. member r (left_at ms o k b)) (shape_member_is ms o k b q.0 q.1) ∙ ap (member (shaped q.0)) (is_none_of (left_at ms o k b) p.0) ∙ ap shaped (sym q.2)
  shape_is (opt m) o k b w h = shape_is m o k b w h
  shape_is (plus m) o k b w h = cc
  shape_is (rep m) o k b w h = cc
  shape_is (member r left) o k b w h = cc
  shape_is (round r m) o k b w h = cc

  pub shape_order_is : (ms : Terms) (o k : ℕ) (b : Bits) (w : List Bool) → shape_order ms o k b ≡ Some w → at_order ms o k b ≡ shaped w
  shape_order_is none o k b w h = cc
  shape_order_is (more m ms) o k b w h = either (has m k) (cond (no_terms ms) (option_map (λ w. true ∷ w) (shape m o k b)) None) (shape_order ms (o + room m) k b) (Some w) h
      (λ e f.
      let p = when_some (no_terms ms) (option_map (λ w. true ∷ w) (shape m o k b)) w f in let q = mapped true (shape m o k b) w p.1 in
      cond_yes (has m k) (seq (more (at m o k b) ms)) (at_order ms (o + room m) k b) e
      ∙ ap (λ r. seq (more r ms)) (shape_is m o k b q.0 q.1) ∙ ap (λ l. seq (more (shaped q.0) l)) (is_none_of ms p.0) ∙ ap shaped (sym q.2))
      (λ e f. cond_no (has m k) (seq (more (at m o k b) ms)) (at_order ms (o + room m) k b) e ∙ shape_order_is ms (o + room m) k b w f)

  pub shape_some_is : (ms : Terms) (o k : ℕ) (b : Bits) (w : List Bool) → shape_some ms o k b ≡ Some w → at_some ms o k b ≡ shaped w
  shape_some_is none o k b w h = cc
  shape_some_is (more m ms) o k b w h = either (has m k) (shape m o k b) (shape_some ms (o + room m) k b) (Some w) h
      (λ e f. cond_yes (has m k) (at m o k b) (at_some ms (o + room m) k b) e ∙ shape_is m o k b w f)
      (λ e f. cond_no (has m k) (at m o k b) (at_some ms (o + room m) k b) e ∙ shape_some_is ms (o + room m) k b w f)

  pub shape_member_is : (ms : Terms) (o k : ℕ) (b : Bits) (w : List Bool) → shape_member ms o k b ≡ Some w → at_member ms o k b ≡ shaped w
  shape_member_is none o k b w h = cc
  shape_member_is (more m ms) o k b w h = either (has m k) (shape m (suc o) k b) (shape_member ms (suc (o + room m)) k b) (Some w) h
      (λ e f. cond_yes (has m k) (at m (suc o) k b) (at_member ms (suc (o + room m)) k b) e ∙ shape_is m (suc o) k b w f)
      (λ e f. cond_no (has m k) (at m (suc o) k b) (at_member ms (suc (o + room m)) k b) e ∙ shape_member_is ms (suc (o + room m)) k b w f)

abbrev pub IsSome_of : Terms → Type 0
IsSome_of none = ⊥
IsSome_of (more m ms) = Unit {0}

seq_same : (r s : Term) → seq (more r none) ≡ seq (more s none) → r ≡ s
seq_same r s h = cc

member_same : (r s : Term) → member r none ≡ member s none → r ≡ s
member_same r s h = cc

pub shaped_same : (u v : List Bool) → shaped u ≡ shaped v → u ≡ v
shaped_same [] [] h = refl
shaped_same [] (true ∷ v) h = cc
shaped_same [] (false ∷ v) h = cc
shaped_same (true ∷ u) [] h = cc
shaped_same (false ∷ u) [] h = cc
shaped_same (true ∷ u) (true ∷ v) h = ap (λ w. true ∷ w) (shaped_same u v (seq_same (shaped u) (shaped v) h))
shaped_same (false ∷ u) (false ∷ v) h = ap (λ w. false ∷ w) (shaped_same u v (member_same (shaped u) (shaped v) h))
shaped_same (true ∷ u) (false ∷ v) h = cc
shaped_same (false ∷ u) (true ∷ v) h = cc

-- no token with a number from a up to z
abbrev mutual
  pub Free : ℕ → ℕ → Term → Type 0
  Free a z empty = Unit {0}
  Free a z (name k n) = (k < a) ⊎ (z ≤ k)
  Free a z (pcdata k) = (k < a) ⊎ (z ≤ k)
  Free a z (seq ms) = AllFree a z ms
  Free a z (or ms) = AllFree a z ms
  Free a z (and ms) = AllFree a z ms
  Free a z (opt m) = Free a z m
  Free a z (plus m) = Free a z m
  Free a z (rep m) = Free a z m
  Free a z (member r left) = Free a z r × AllFree a z left
  Free a z (round r m) = Free a z r × Free a z m

  pub AllFree : ℕ → ℕ → Terms → Type 0
  AllFree a z none = Unit {0}
  AllFree a z (more m ms) = Free a z m × AllFree a z ms

-- a model numbered from z on, or up to a, has none
mutual
  pub numbered_free : (a z c d : ℕ) (m : Term) → Numbered m c d → (d ≤ a) ⊎ (z ≤ c) → Free a z m
  numbered_free a z c d empty n o = absurd n
  numbered_free a z c d (name k l) n o = let e = n.0 in let f = n.1 in elim o [ inl p ↦ inl (omega arith) | inr p ↦ inr (omega arith) ]
  numbered_free a z c d (pcdata k) n o = let e = n.0 in let f = n.1 in elim o [ inl p ↦ inl (omega arith) | inr p ↦ inr (omega arith) ]
  numbered_free a z c d (seq ms) n o = all_numbered_free a z c d ms n o
  numbered_free a z c d (or ms) n o = all_numbered_free a z c d ms n o
  numbered_free a z c d (and ms) n o = all_numbered_free a z c d ms n o
  numbered_free a z c d (opt m) n o = numbered_free a z c d m n o
  numbered_free a z c d (plus m) n o = numbered_free a z c d m n o
  numbered_free a z c d (rep m) n o = numbered_free a z c d m n o
  numbered_free a z c d (member r left) n o = absurd n
  numbered_free a z c d (round r m) n o = absurd n

  pub all_numbered_free : (a z c d : ℕ) (ms : Terms) → AllNumbered ms c d → (d ≤ a) ⊎ (z ≤ c) → AllFree a z ms
  all_numbered_free a z c d none n o = tt
  all_numbered_free a z c d (more m ms) n o =
      let u : c ≤ n.0 = span_one m c n.0 n.1 in let v : n.0 ≤ d = span ms n.0 d n.2 in (
        numbered_free a z c n.0 m n.1 (elim o [ inl p ↦ inl (omega arith) | inr p ↦ inr p ]),
        all_numbered_free a z n.0 d ms n.2 (elim o [ inl p ↦ inl p | inr p ↦ inr (omega arith) ]),
      )

-- a model within these numbers has one
mutual
  pub busy : (a z c d : ℕ) (m : Term) → IsModel m → Numbered m c d → a ≤ c → d ≤ z → Free a z m → ⊥
  busy a z c d empty i n p q f = i
  busy a z c d (name k l) i n p q f = let e = n.0 in let g = n.1 in elim f [ inl x ↦ omega arith | inr x ↦ omega arith ]
  busy a z c d (pcdata k) i n p q f = let e = n.0 in let g = n.1 in elim f [ inl x ↦ omega arith | inr x ↦ omega arith ]
  busy a z c d (seq none) i n p q f = i
  busy a z c d (seq (more m ms)) i n p q f = all_busy a z c d (more m ms) i n p q tt f
  busy a z c d (or none) i n p q f = i
  busy a z c d (or (more m ms)) i n p q f = all_busy a z c d (more m ms) i n p q tt f
  busy a z c d (and none) i n p q f = i
  busy a z c d (and (more m none)) i n p q f = i
  busy a z c d (and (more m (more n' ms))) i n p q f = all_busy a z c d (more m (more n' ms)) (i.0, (i.1, i.2)) n p q tt f
  busy a z c d (opt m) i n p q f = busy a z c d m i n p q f
  busy a z c d (plus m) i n p q f = busy a z c d m i n p q f
  busy a z c d (rep m) i n p q f = busy a z c d m i n p q f
  busy a z c d (member r left) i n p q f = i
  busy a z c d (round r m) i n p q f = i

  pub all_busy : (a z c d : ℕ) (ms : Terms) → AreModels ms → AllNumbered ms c d → a ≤ c → d ≤ z → IsSome_of ms → AllFree a z ms → ⊥
  all_busy a z c d none i n p q s f = s
  all_busy a z c d (more m ms) i n p q s f = let v : n.0 ≤ d = span ms n.0 d n.2 in busy a z c n.0 m i.0 n.1 p (omega arith) f.0

pub none_free : (a z c d : ℕ) (ms : Terms) → AreModels ms → AllNumbered ms c d → a ≤ c → d ≤ z → AllFree a z ms → no_terms ms ≡ true
none_free a z c d none i n p q f = refl
none_free a z c d (more m ms) i n p q f = absurd (all_busy a z c d (more m ms) i n p q tt f)

pub left_free : (a z c d : ℕ) (ms : Terms) (o k : ℕ) (b : Bits) → AreModels ms → AllNumbered ms c d → a ≤ c → d ≤ z → AllFree a z (left_at ms o k b) → no_terms (left_at ms o k b) ≡ true
left_free a z c d none o k b i n p q f = refl
left_free a z c d (more m ms) o k b i n p q f =
    let o' = suc (o + room m) in let u : c ≤ n.0 = span_one m c n.0 n.1 in let v : n.0 ≤ d = span ms n.0 d n.2 in
    by_test (has m k || b o)
    (λ e. subst (λ h. no_terms (cond h (left_at ms o' k b) (more m (left_at ms o' k b))) ≡ true) (sym e)
    (left_free a z n.0 d ms o' k b i.1 n.2 (omega arith) q (subst (λ h. AllFree a z (cond h (left_at ms o' k b) (more m (left_at ms o' k b)))) e f)))
    (λ e. absurd (busy a z c n.0 m i.0 n.1 p (omega arith) (subst (λ h. AllFree a z (cond h (left_at ms o' k b) (more m (left_at ms o' k b)))) e f).0))

pub free_cond : (a z : ℕ) (h : Bool) (x y : Term) → Free a z x → Free a z y → Free a z (cond h x y)
free_cond a z true x y f g = f
free_cond a z false x y f g = g

all_free_cond : (a z : ℕ) (h : Bool) (x y : Terms) → AllFree a z x → AllFree a z y → AllFree a z (cond h x y)
all_free_cond a z true x y f g = f
all_free_cond a z false x y f g = g

pub halves : (a z c d : ℕ) (m : Term) (ms : Terms) (n : AllNumbered (more m ms) c d) → (d ≤ a) ⊎ (z ≤ c) → ((n.0 ≤ a) ⊎ (z ≤ c)) × ((d ≤ a) ⊎ (z ≤ n.0))
halves a z c d m ms n h =
    let u : c ≤ n.0 = span_one m c n.0 n.1 in let v : n.0 ≤ d = span ms n.0 d n.2 in
    (elim h [ inl p ↦ inl (omega arith) | inr p ↦ inr p ], elim h [ inl p ↦ inl p | inr p ↦ inr (omega arith) ])

pub left_all_free : (a z c d : ℕ) (ms : Terms) (o k : ℕ) (b : Bits) → AllNumbered ms c d → (d ≤ a) ⊎ (z ≤ c) → AllFree a z (left_at ms o k b)
left_all_free a z c d none o k b n h = tt
left_all_free a z c d (more m ms) o k b n h =
    let w = halves a z c d m ms n h in let rest = left_all_free a z n.0 d ms (suc (o + room m)) k b n.2 w.1 in
    all_free_cond a z (has m k || b o) (left_at ms (suc (o + room m)) k b) (more m (left_at ms (suc (o + room m)) k b)) rest (numbered_free a z c n.0 m n.1 w.0, rest)

-- the term at a place is free of what the model is free of
mutual
  pub at_free : (a z c d : ℕ) (x : Term) (o k : ℕ) (b : Bits) → Numbered x c d → (d ≤ a) ⊎ (z ≤ c) → Free a z (at x o k b)
  at_free a z c d empty o k b n h = tt
  at_free a z c d (name j l) o k b n h = tt
  at_free a z c d (pcdata j) o k b n h = numbered_free a z c d (pcdata j) n h
  at_free a z c d (seq ms) o k b n h = order_free a z c d ms o k b n h
  at_free a z c d (or ms) o k b n h = some_free a z c d ms o k b n h
  at_free a z c d (and ms) o k b n h = (member_free a z c d ms o k b n h, left_all_free a z c d ms o k b n h)
  at_free a z c d (opt m) o k b n h = at_free a z c d m o k b n h
  at_free a z c d (plus m) o k b n h = (at_free a z c d m o k b n h, numbered_free a z c d m n h)
  at_free a z c d (rep m) o k b n h = (at_free a z c d m o k b n h, numbered_free a z c d m n h)
  at_free a z c d (member r left) o k b n h = tt
  at_free a z c d (round r m) o k b n h = tt

  pub order_free : (a z c d : ℕ) (ms : Terms) (o k : ℕ) (b : Bits) → AllNumbered ms c d → (d ≤ a) ⊎ (z ≤ c) → Free a z (at_order ms o k b)
  order_free a z c d none o k b n h = tt
  order_free a z c d (more m ms) o k b n h =
      let w = halves a z c d m ms n h in
      free_cond a z (has m k) (seq (more (at m o k b) ms)) (at_order ms (o + room m) k b) (at_free a z c n.0 m o k b n.1 w.0, all_numbered_free a z n.0 d ms n.2 w.1) (order_free a z n.0 d ms (o + room m) k b n.2 w.1)

  pub some_free : (a z c d : ℕ) (ms : Terms) (o k : ℕ) (b : Bits) → AllNumbered ms c d → (d ≤ a) ⊎ (z ≤ c) → Free a z (at_some ms o k b)
  some_free a z c d none o k b n h = tt
  some_free a z c d (more m ms) o k b n h =
      let w = halves a z c d m ms n h in
      free_cond a z (has m k) (at m o k b) (at_some ms (o + room m) k b) (at_free a z c n.0 m o k b n.1 w.0) (some_free a z n.0 d ms (o + room m) k b n.2 w.1)

  pub member_free : (a z c d : ℕ) (ms : Terms) (o k : ℕ) (b : Bits) → AllNumbered ms c d → (d ≤ a) ⊎ (z ≤ c) → Free a z (at_member ms o k b)
  member_free a z c d none o k b n h = tt
  member_free a z c d (more m ms) o k b n h =
      let w = halves a z c d m ms n h in
      free_cond a z (has m k) (at m (suc o) k b) (at_member ms (suc (o + room m)) k b) (at_free a z c n.0 m (suc o) k b n.1 w.0) (member_free a z n.0 d ms (suc (o + room m)) k b n.2 w.1)

-- a term at a place that is free of its own numbers has a shape
mutual
  pub shape_free : (a z c d : ℕ) (x : Term) (o k : ℕ) (b : Bits) → IsModel x → Numbered x c d → a ≤ c → d ≤ z → has x k ≡ true → Free a z (at x o k b) → (w : List Bool) × (shape x o k b ≡ Some w)
  shape_free a z c d empty o k b i n p q h f = absurd i
  shape_free a z c d (name j l) o k b i n p q h f = ([], refl)
  shape_free a z c d (pcdata j) o k b i n p q h f = absurd (busy a z c d (pcdata j) tt n p q f)
  shape_free a z c d (seq ms) o k b i n p q h f = shape_order_free a z c d ms o k b (models_seq ms i) n p q h f
  shape_free a z c d (or ms) o k b i n p q h f = shape_some_free a z c d ms o k b (models_or ms i) n p q h f
  shape_free a z c d (and ms) o k b i n p q h f =
      let s = shape_member_free a z c d ms o k b (models ms i) n p q h f.0 in
      (false ∷ s.0, cond_yes (no_terms (left_at ms o k b)) (option_map (λ w. false ∷ w) (shape_member ms o k b)) None (left_free a z c d ms o k b (models ms i) n p q f.1) ∙ ap (option_map (λ w. false ∷ w)) s.1)
  shape_free a z c d (opt m) o k b i n p q h f = shape_free a z c d m o k b i n p q h f
  shape_free a z c d (plus m) o k b i n p q h f = absurd (busy a z c d m i n p q f.1)
  shape_free a z c d (rep m) o k b i n p q h f = absurd (busy a z c d m i n p q f.1)
  shape_free a z c d (member r left) o k b i n p q h f = absurd i
  shape_free a z c d (round r m) o k b i n p q h f = absurd i

  pub shape_order_free : (a z c d : ℕ) (ms : Terms) (o k : ℕ) (b : Bits) → AreModels ms → AllNumbered ms c d → a ≤ c → d ≤ z → has_some ms k ≡ true → Free a z (at_order ms o k b) → (w : List Bool) × (shape_order ms o k b ≡ Some w)
  shape_order_free a z c d none o k b i n p q h f = cc
  shape_order_free a z c d (more m ms) o k b i n p q h f =
      let u : c ≤ n.0 = span_one m c n.0 n.1 in let v : n.0 ≤ d = span ms n.0 d n.2 in
      let one = cond (no_terms ms) (option_map (λ w. true ∷ w) (shape m o k b)) None in let two = shape_order ms (o + room m) k b in
      by_test (has m k)
      (λ e.
      let g = subst (λ h. Free a z (cond h (seq (more (at m o k b) ms)) (at_order ms (o + room m) k b))) e f in
      let s = shape_free a z c n.0 m o k b i.0 n.1 p (omega arith) e g.0 in
      (true ∷ s.0, cond_yes (has m k) one two e ∙ cond_yes (no_terms ms) (option_map (λ w. true ∷ w) (shape m o k b)) None (none_free a z n.0 d ms i.1 n.2 (omega arith) q g.1) ∙ ap (option_map (λ w. true ∷ w)) s.1))
      (λ e.
      let g = subst (λ h. Free a z (cond h (seq (more (at m o k b) ms)) (at_order ms (o + room m) k b))) e f in
      let s = shape_order_free a z n.0 d ms (o + room m) k b i.1 n.2 (omega arith) q (subst (λ h. (h || has_some ms k) ≡ true) e h) g in
      (s.0, cond_no (has m k) one two e ∙ s.1))

  pub shape_some_free : (a z c d : ℕ) (ms : Terms) (o k : ℕ) (b : Bits) → AreModels ms → AllNumbered ms c d → a ≤ c → d ≤ z → has_some ms k ≡ true → Free a z (at_some ms o k b) → (w : List Bool) × (shape_some ms o k b ≡ Some w)
  shape_some_free a z c d none o k b i n p q h f = cc
  shape_some_free a z c d (more m ms) o k b i n p q h f =
      let u : c ≤ n.0 = span_one m c n.0 n.1 in let v : n.0 ≤ d = span ms n.0 d n.2 in
      by_test (has m k)
      (λ e.
      let s = shape_free a z c n.0 m o k b i.0 n.1 p (omega arith) e (subst (λ h. Free a z (cond h (at m o k b) (at_some ms (o + room m) k b))) e f) in
      (s.0, cond_yes (has m k) (shape m o k b) (shape_some ms (o + room m) k b) e ∙ s.1))
      (λ e.
      let s = shape_some_free a z n.0 d ms (o + room m) k b i.1 n.2 (omega arith) q (subst (λ h. (h || has_some ms k) ≡ true) e h) (subst (λ h. Free a z (cond h (at m o k b) (at_some ms (o + room m) k b))) e f) in
      (s.0, cond_no (has m k) (shape m o k b) (shape_some ms (o + room m) k b) e ∙ s.1))

  pub shape_member_free : (a z c d : ℕ) (ms : Terms) (o k : ℕ) (b : Bits) → AreModels ms → AllNumbered ms c d → a ≤ c → d ≤ z → has_some ms k ≡ true → Free a z (at_member ms o k b) → (w : List Bool) × (shape_member ms o k b ≡ Some w)
  shape_member_free a z c d none o k b i n p q h f = cc
  shape_member_free a z c d (more m ms) o k b i n p q h f =
      let u : c ≤ n.0 = span_one m c n.0 n.1 in let v : n.0 ≤ d = span ms n.0 d n.2 in
      by_test (has m k)
      (λ e.
      let s = shape_free a z c n.0 m (suc o) k b i.0 n.1 p (omega arith) e (subst (λ h. Free a z (cond h (at m (suc o) k b) (at_member ms (suc (o + room m)) k b))) e f) in
      (s.0, cond_yes (has m k) (shape m (suc o) k b) (shape_member ms (suc (o + room m)) k b) e ∙ s.1))
      (λ e.
      let s = shape_member_free a z n.0 d ms (suc (o + room m)) k b i.1 n.2 (omega arith) q (subst (λ h. (h || has_some ms k) ≡ true) e h) (subst (λ h. Free a z (cond h (at m (suc o) k b) (at_member ms (suc (o + room m)) k b))) e f) in
      (s.0, cond_no (has m k) (shape m (suc o) k b) (shape_member ms (suc (o + room m)) k b) e ∙ s.1))

-- the law across members: terms at places in two models with no common number are one exactly where they have one shape
pub across : (x y : Term) (a c d z : ℕ) (o k p j : ℕ) (b e : Bits) → IsModel x → IsModel y → Numbered x a c → Numbered y d z → c ≤ d → has x k ≡ true → has y j ≡ true →
    at x o k b ≡ at y p j e → (w : List Bool) × (shape x o k b ≡ Some w) × (shape y p j e ≡ Some w)
across x y a c d z o k p j b e ix iy nx ny l hx hy q =
    let fx : Free a c (at x o k b) = subst (Free a c) (sym q) (at_free a c d z y p j e ny (inr l)) in
    let fy : Free d z (at y p j e) = subst (Free d z) q (at_free d z a c x o k b nx (inl l)) in
    let sx = shape_free a c a c x o k b ix nx (omega arith) (omega arith) hx fx in
    let sy = shape_free d z d z y p j e iy ny (omega arith) (omega arith) hy fy in
    let same : sx.0 ≡ sy.0 = shaped_same sx.0 sy.0 (sym (shape_is x o k b sx.0 sx.1) ∙ q ∙ shape_is y p j e sy.0 sy.1) in
    (sx.0, sx.1, sy.1 ∙ ap Some (sym same))

pub across_back : (x y : Term) (o k p j : ℕ) (b e : Bits) (w : List Bool) → shape x o k b ≡ Some w → shape y p j e ≡ Some w → at x o k b ≡ at y p j e
across_back x y o k p j b e w h g = shape_is x o k b w h ∙ sym (shape_is y p j e w g)
