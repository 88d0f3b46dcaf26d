-- The last token, and for each AND group round it the members left, determine the term.
use Rattle.std.proofs.lemmas.Bool.Decides.{Decides-eqb}
use Rattle.std.specs.Prelude.{◌||◌, if◌then◌else◌}
use Rattle.std.proofs.Common.{◌≡◌, ℕ, ◌<◌, ◌≤◌, Bool, true, false, cond, nat_eq, ◌⊎◌, inl, inr, List, [], ◌∷◌, ◌++◌, refl, sym, ap, ◌∙◌, subst, arith}
use Rattle.sgml_model.specs.Term.{Term, empty, name, pcdata, seq, or, and, opt, plus, rep, member, round, Terms, none, more, Token, Takes, TakesInOrder, SomeTakes, MemberTakes}
pub use Rattle.sgml_automaton.specs.Position.{has, has_some}
pub use Rattle.sgml_model.specs.Group.{Numbered, AllNumbered}
use Rattle.sgml_ambiguity.specs.Ambiguity.{IsModel, AreModels, After}
use Rattle.sgml_ambiguity.proofs.Rests.{Some_of, no_more, with, without, all_of, models, models_seq, models_or}

-- r is what is left of x after the last token k, with these members left in the AND groups round k, the outermost first
mutual
  pub data Place : Term → ℕ → List Terms → Term → Type 0 where
    at_name : {k : ℕ} {n : List ℕ} → Place (name k n) k [] empty
    at_pcdata : {k : ℕ} → Place (pcdata k) k [] (pcdata k)
    at_seq : {ms : Terms} {k : ℕ} {ls : List Terms} {r : Term} → PlaceInOrder ms k ls r → Place (seq ms) k ls r
    at_or : {ms : Terms} {k : ℕ} {ls : List Terms} {r : Term} → PlaceOfSome ms k ls r → Place (or ms) k ls r
    at_and : {ms : Terms} {k : ℕ} {ls : List Terms} {m' : Term} {left : Terms} → PlaceMember ms k ls m' left → Place (and ms) k (left ∷ ls) (member m' left)
    at_opt : {m r : Term} {k : ℕ} {ls : List Terms} → Place m k ls r → Place (opt m) k ls r
    at_plus : {m m' : Term} {k : ℕ} {ls : List Terms} → Place m k ls m' → Place (plus m) k ls (round m' m)
    at_rep : {m m' : Term} {k : ℕ} {ls : List Terms} → Place m k ls m' → Place (rep m) k ls (round m' m)

  pub data PlaceInOrder : Terms → ℕ → List Terms → Term → Type 0 where
    in_first : {m m' : Term} {ms : Terms} {k : ℕ} {ls : List Terms} → Place m k ls m' → PlaceInOrder (more m ms) k ls (seq (more m' ms))
    in_later : {m r : Term} {ms : Terms} {k : ℕ} {ls : List Terms} → PlaceInOrder ms k ls r → PlaceInOrder (more m ms) k ls r

  pub data PlaceOfSome : Terms → ℕ → List Terms → Term → Type 0 where
    in_this : {m r : Term} {ms : Terms} {k : ℕ} {ls : List Terms} → Place m k ls r → PlaceOfSome (more m ms) k ls r
    in_other : {m r : Term} {ms : Terms} {k : ℕ} {ls : List Terms} → PlaceOfSome ms k ls r → PlaceOfSome (more m ms) k ls r

  pub data PlaceMember : Terms → ℕ → List Terms → Term → Terms → Type 0 where
    in_begun : {m m' : Term} {left ms : Terms} {k : ℕ} {ls : List Terms} → Place m k ls m' → Some_of left ms → PlaceMember (more m ms) k ls m' left
    in_kept : {m m' : Term} {left ms : Terms} {k : ℕ} {ls : List Terms} → PlaceMember ms k ls m' left → PlaceMember (more m ms) k ls m' (more m left)
    in_gone : {m m' : Term} {left ms : Terms} {k : ℕ} {ls : List Terms} → PlaceMember ms k ls m' left → PlaceMember (more m ms) k ls m' left

others_at : {ms : Terms} {k : ℕ} {ls : List Terms} {m' : Term} {left : Terms} → PlaceMember ms k ls m' left → Some_of left ms
others_at (in_begun p s) = without s
others_at (in_kept p) = with (others_at p)
others_at (in_gone p) = without (others_at p)

-- the first token has a place
mutual
  place_first : (x : Term) (t : Token) (r : Term) → IsModel x → Takes x t r → (ls : List Terms) × Place x t.number ls r
  place_first empty t r i h = absurd i
  place_first (name k n) t r i h = ([], subst (λ j. Place (name k n) j [] r) (sym (ap (λ (u : Token). u.number) h.0)) (subst (λ z. Place (name k n) k [] z) (sym h.1) at_name))
  place_first (pcdata k) t r i h = ([], subst (λ j. Place (pcdata k) j [] r) (sym (ap (λ (u : Token). u.number) h.0)) (subst (λ z. Place (pcdata k) k [] z) (sym h.1) at_pcdata))
  place_first (seq none) t r i h = absurd i
  place_first (seq (more m ms)) t r i h = let p = place_first_in_order (more m ms) t r i h in (p.0, at_seq p.1)
  place_first (or none) t r i h = absurd i
  place_first (or (more m ms)) t r i h = let p = place_first_some (more m ms) t r i h in (p.0, at_or p.1)
  place_first (and none) t r i h = absurd i
  place_first (and (more m none)) t r i h = absurd i
  place_first (and (more m (more n ms))) t r i h =
      let p = place_first_member (more m (more n ms)) t h.0 h.1 (i.0, (i.1, i.2)) h.2 in
      (h.1 ∷ p.0, subst (λ z. Place (and (more m (more n ms))) t.number (h.1 ∷ p.0) z) (sym h.3) (at_and p.1))
  place_first (opt m) t r i h = let p = place_first m t r i h in (p.0, at_opt p.1)
  place_first (plus m) t r i h = let p = place_first m t h.0 i h.1 in (p.0, subst (λ z. Place (plus m) t.number p.0 z) (sym h.2) (at_plus p.1))
  place_first (rep m) t r i h = let p = place_first m t h.0 i h.1 in (p.0, subst (λ z. Place (rep m) t.number p.0 z) (sym h.2) (at_rep p.1))
  place_first (member q left) t r i h = absurd i
  place_first (round q m) t r i h = absurd i

  place_first_in_order : (ms : Terms) (t : Token) (r : Term) → AreModels ms → TakesInOrder ms t r → (ls : List Terms) × PlaceInOrder ms t.number ls r
  place_first_in_order none t r i h = absurd h
  place_first_in_order (more m ms) t r i h = elim h [
    | inl a ↦ let p = place_first m t a.0 i.0 a.1 in (p.0, subst (λ z. PlaceInOrder (more m ms) t.number p.0 z) (sym a.2) (in_first p.1))
    | inr b ↦ let p = place_first_in_order ms t r i.1 b.1 in (p.0, in_later p.1)
  ]

  place_first_some : (ms : Terms) (t : Token) (r : Term) → AreModels ms → SomeTakes ms t r → (ls : List Terms) × PlaceOfSome ms t.number ls r
  place_first_some none t r i h = absurd h
  place_first_some (more m ms) t r i h = elim h [
    | inl a ↦ let p = place_first m t r i.0 a in (p.0, in_this p.1)
    | inr b ↦ let p = place_first_some ms t r i.1 b in (p.0, in_other p.1)
  ]

  place_first_member : (ms : Terms) (t : Token) (m' : Term) (left : Terms) → AreModels ms → MemberTakes ms t m' left → (ls : List Terms) × PlaceMember ms t.number ls m' left
  place_first_member none t m' left i h = absurd h
  place_first_member (more m ms) t m' left i h = elim h [
    | inl a ↦ let p = place_first m t m' i.0 a.0 in (p.0, subst (λ z. PlaceMember (more m ms) t.number p.0 m' z) (sym a.1) (in_begun p.1 (all_of ms)))
    | inr b ↦ let p = place_first_member ms t m' b.0 i.1 b.1 in (p.0, subst (λ z. PlaceMember (more m ms) t.number p.0 m' z) (sym b.2) (in_kept p.1))
  ]

place_next : {left ms : Terms} (s : Some_of left ms) (t : Token) (m' : Term) (others : Terms) → AreModels ms → MemberTakes left t m' others → (ls : List Terms) × PlaceMember ms t.number ls m' others
place_next no_more t m' others i h = absurd h
place_next (with {m} {left} {ms} s) t m' others i h = elim h [
  | inl a ↦ let p = place_first m t m' i.0 a.0 in (p.0, subst (λ z. PlaceMember (more m ms) t.number p.0 m' z) (sym a.1) (in_begun p.1 s))
  | inr b ↦ let p = place_next s t m' b.0 i.1 b.1 in (p.0, subst (λ z. PlaceMember (more m ms) t.number p.0 m' z) (sym b.2) (in_kept p.1))
]
place_next (without s) t m' others i h = let p = place_next s t m' others i.1 h in (p.0, in_gone p.1)

-- each further token has a place
mutual
  place_on : {x r : Term} {k : ℕ} {ls : List Terms} (h : Place x k ls r) (t : Token) (s : Term) → IsModel x → Takes r t s → (ls' : List Terms) × Place x t.number ls' s
  place_on at_name t s i g = absurd g
  place_on (at_pcdata {k}) t s i h = ([], subst (λ j. Place (pcdata k) j [] s) (sym (ap (λ (u : Token). u.number) h.0)) (subst (λ z. Place (pcdata k) k [] z) (sym h.1) at_pcdata))
  place_on (at_seq {ms} h) t s i g = let p = place_on_in_order h t s (models_seq ms i) g in (p.0, at_seq p.1)
  place_on (at_or {ms} h) t s i g = let p = place_on_some h t s (models_or ms i) g in (p.0, at_or p.1)
  place_on (at_and {ms} {m' = m'} {left} h) t s i g = elim g [
    | inl a ↦ let p = place_on_member h t a.0 (models ms i) a.1 in (left ∷ p.0, subst (λ z. Place (and ms) t.number (left ∷ p.0) z) (sym a.2) (at_and p.1))
    | inr b ↦ let p = place_next (others_at h) t b.1 b.2 (models ms i) b.3 in (b.2 ∷ p.0, subst (λ z. Place (and ms) t.number (b.2 ∷ p.0) z) (sym b.4) (at_and p.1))
  ]
  place_on (at_opt h) t s i g = let p = place_on h t s i g in (p.0, at_opt p.1)
  place_on (at_plus {m} {m'} h) t s i g = elim g [
    | inl a ↦ let p = place_on h t a.0 i a.1 in (p.0, subst (λ z. Place (plus m) t.number p.0 z) (sym a.2) (at_plus p.1))
    | inr b ↦ let p = place_first m t b.2 i b.3 in (p.0, subst (λ z. Place (plus m) t.number p.0 z) (sym b.4) (at_plus p.1))
  ]
  place_on (at_rep {m} {m'} h) t s i g = elim g [
    | inl a ↦ let p = place_on h t a.0 i a.1 in (p.0, subst (λ z. Place (rep m) t.number p.0 z) (sym a.2) (at_rep p.1))
    | inr b ↦ let p = place_first m t b.2 i b.3 in (p.0, subst (λ z. Place (rep m) t.number p.0 z) (sym b.4) (at_rep p.1))
  ]

  place_on_in_order : {ms : Terms} {r : Term} {k : ℕ} {ls : List Terms} (h : PlaceInOrder ms k ls r) (t : Token) (s : Term) → AreModels ms → Takes r t s → (ls' : List Terms) × PlaceInOrder ms t.number ls' s
  place_on_in_order (in_first {m} {m'} {ms} h) t s i g = elim g [
    | inl a ↦ let p = place_on h t a.0 i.0 a.1 in (p.0, subst (λ z. PlaceInOrder (more m ms) t.number p.0 z) (sym a.2) (in_first p.1))
    | inr b ↦ let p = place_first_in_order ms t s i.1 b.1 in (p.0, in_later p.1)
  ]
  place_on_in_order (in_later h) t s i g = let p = place_on_in_order h t s i.1 g in (p.0, in_later p.1)

  place_on_some : {ms : Terms} {r : Term} {k : ℕ} {ls : List Terms} (h : PlaceOfSome ms k ls r) (t : Token) (s : Term) → AreModels ms → Takes r t s → (ls' : List Terms) × PlaceOfSome ms t.number ls' s
  place_on_some (in_this h) t s i g = let p = place_on h t s i.0 g in (p.0, in_this p.1)
  place_on_some (in_other h) t s i g = let p = place_on_some h t s i.1 g in (p.0, in_other p.1)

  place_on_member : {ms : Terms} {q : Term} {left : Terms} {k : ℕ} {ls : List Terms} (h : PlaceMember ms k ls q left) (t : Token) (s : Term) → AreModels ms → Takes q t s → (ls' : List Terms) × PlaceMember ms t.number ls' s left
  place_on_member (in_begun h o) t s i g = let p = place_on h t s i.0 g in (p.0, in_begun p.1 o)
  place_on_member (in_kept h) t s i g = let p = place_on_member h t s i.1 g in (p.0, in_kept p.1)
  place_on_member (in_gone h) t s i g = let p = place_on_member h t s i.1 g in (p.0, in_gone p.1)

-- each term that is reached by a last token has a place at that token
pub placed : (x : Term) (ts : List Token) (t : Token) (r : Term) → IsModel x → After x (ts ++ t ∷ []) r → (ls : List Terms) × Place x t.number ls r
placed x [] t r i a = place_first x t r i (subst (λ z. Takes x t z) (sym a.2) a.1)
placed x (u ∷ ts) t r i a = go ts a.0 u.number (place_first x u a.0 i a.1) a.2
  where
    go : (ts : List Token) (q : Term) (k : ℕ) → ((ls : List Terms) × Place x k ls q) → After q (ts ++ t ∷ []) r → (ls : List Terms) × Place x t.number ls r
    go [] q k p h = place_on p.1 t r i (subst (λ z. Takes q t z) (sym h.2) h.1)
    go (v ∷ ts) q k p h = go ts h.0 v.number (place_on p.1 v h.0 i h.1) h.2

-- numbers go up
mutual
  pub span_one : (m : Term) (a z : ℕ) → Numbered m a z → a ≤ z
  span_one empty a z n = absurd n
  span_one (name k l) a z n = omega (arith, n.1)
  span_one (pcdata k) a z n = omega (arith, n.1)
  span_one (seq ms) a z n = span ms a z n
  span_one (or ms) a z n = span ms a z n
  span_one (and ms) a z n = span ms a z n
  span_one (opt m) a z n = span_one m a z n
  span_one (plus m) a z n = span_one m a z n
  span_one (rep m) a z n = span_one m a z n
  span_one (member r left) a z n = absurd n
  span_one (round r m) a z n = absurd n

  pub span : (ms : Terms) (a z : ℕ) → AllNumbered ms a z → a ≤ z
  span none a z n = omega (arith, n)
  span (more m ms) a z n = let u : a ≤ n.0 = span_one m a n.0 n.1 in let v : n.0 ≤ z = span ms n.0 z n.2 in omega arith

-- a place lies within the numbers of the model
mutual
  within : {x r : Term} {k : ℕ} {ls : List Terms} (h : Place x k ls r) (a z : ℕ) → Numbered x a z → (a ≤ k) × (k < z)
  within (at_name {k}) a z n = let e = n.0 in let f = n.1 in (omega arith, omega arith)
  within (at_pcdata {k}) a z n = let e = n.0 in let f = n.1 in (omega arith, omega arith)
  within (at_seq h) a z n = within_in_order h a z n
  within (at_or h) a z n = within_some h a z n
  within (at_and h) a z n = within_member h a z n
  within (at_opt h) a z n = within h a z n
  within (at_plus h) a z n = within h a z n
  within (at_rep h) a z n = within h a z n

  within_in_order : {ms : Terms} {r : Term} {k : ℕ} {ls : List Terms} (h : PlaceInOrder ms k ls r) (a z : ℕ) → AllNumbered ms a z → (a ≤ k) × (k < z)
  within_in_order (in_first {ms = ms} h) a z n = let w = within h a n.0 n.1 in let v = span ms n.0 z n.2 in (w.0, omega arith)
  within_in_order (in_later {m = m} h) a z n = let w = within_in_order h n.0 z n.2 in let v = span_one m a n.0 n.1 in (omega arith, w.1)

  within_some : {ms : Terms} {r : Term} {k : ℕ} {ls : List Terms} (h : PlaceOfSome ms k ls r) (a z : ℕ) → AllNumbered ms a z → (a ≤ k) × (k < z)
  within_some (in_this {ms = ms} h) a z n = let w = within h a n.0 n.1 in let v = span ms n.0 z n.2 in (w.0, omega arith)
  within_some (in_other {m = m} h) a z n = let w = within_some h n.0 z n.2 in let v = span_one m a n.0 n.1 in (omega arith, w.1)

  within_member : {ms : Terms} {q : Term} {left : Terms} {k : ℕ} {ls : List Terms} (h : PlaceMember ms k ls q left) (a z : ℕ) → AllNumbered ms a z → (a ≤ k) × (k < z)
  within_member (in_begun {ms = ms} h s) a z n = let w = within h a n.0 n.1 in let v = span ms n.0 z n.2 in (w.0, omega arith)
  within_member (in_kept {m = m} h) a z n = let w = within_member h n.0 z n.2 in let v = span_one m a n.0 n.1 in (omega arith, w.1)
  within_member (in_gone {m = m} h) a z n = let w = within_member h n.0 z n.2 in let v = span_one m a n.0 n.1 in (omega arith, w.1)

-- the members left in the outermost group, and the lists within
abbrev pub outermost : List Terms → Terms
outermost [] = none
outermost (l ∷ ls) = l

abbrev pub inner : List Terms → List Terms
inner [] = []
inner (l ∷ ls) = ls

-- the term that the last token and the members left stand for
abbrev mutual
  pub term_at : Term → ℕ → List Terms → Term
  term_at empty k ls = empty
  term_at (name j n) k ls = empty
  term_at (pcdata j) k ls = pcdata j
  term_at (seq ms) k ls = in_order_at ms k ls
  term_at (or ms) k ls = some_at ms k ls
  term_at (and ms) k ls = member (some_at ms k (inner ls)) (outermost ls)
  term_at (opt m) k ls = term_at m k ls
  term_at (plus m) k ls = round (term_at m k ls) m
  term_at (rep m) k ls = round (term_at m k ls) m
  term_at (member r left) k ls = empty
  term_at (round r m) k ls = empty

  pub in_order_at : Terms → ℕ → List Terms → Term
  in_order_at none k ls = empty
  in_order_at (more m ms) k ls = if has m k then seq (more (term_at m k ls) ms) else in_order_at ms k ls

  pub some_at : Terms → ℕ → List Terms → Term
  some_at none k ls = empty
  some_at (more m ms) k ls = if has m k then term_at m k ls else some_at ms k ls

pub cond_yes : {A : Type 0} (b : Bool) (x y : A) → b ≡ true → cond b x y ≡ x
cond_yes true x y e = refl
cond_yes false x y e = cc

pub cond_no : {A : Type 0} (b : Bool) (x y : A) → b ≡ false → cond b x y ≡ y
cond_no false x y e = refl
cond_no true x y e = cc

pub or_yes : (b c : Bool) → b ≡ true → (b || c) ≡ true
or_yes true c e = refl
or_yes false c e = cc

pub or_later : (b c : Bool) → c ≡ true → (b || c) ≡ true
or_later true c e = refl
or_later false c e = e

pub or_no : (b c : Bool) → b ≡ false → c ≡ false → (b || c) ≡ false
or_no false c e f = f
or_no true c e f = cc

mutual
  has_yes : {x r : Term} {k : ℕ} {ls : List Terms} (h : Place x k ls r) → has x k ≡ true
  has_yes (at_name {k}) = (Decides-eqb k k).1 refl
  has_yes (at_pcdata {k}) = (Decides-eqb k k).1 refl
  has_yes (at_seq h) = has_in_order h
  has_yes (at_or h) = has_of_some h
  has_yes (at_and h) = has_member h
  has_yes (at_opt h) = has_yes h
  has_yes (at_plus h) = has_yes h
  has_yes (at_rep h) = has_yes h

  has_in_order : {ms : Terms} {r : Term} {k : ℕ} {ls : List Terms} (h : PlaceInOrder ms k ls r) → has_some ms k ≡ true
  has_in_order (in_first {m} {m'} {ms} {k} h) = or_yes (has m k) (has_some ms k) (has_yes h)
  has_in_order (in_later {m} {r} {ms} {k} h) = or_later (has m k) (has_some ms k) (has_in_order h)

  has_of_some : {ms : Terms} {r : Term} {k : ℕ} {ls : List Terms} (h : PlaceOfSome ms k ls r) → has_some ms k ≡ true
  has_of_some (in_this {m} {r} {ms} {k} h) = or_yes (has m k) (has_some ms k) (has_yes h)
  has_of_some (in_other {m} {r} {ms} {k} h) = or_later (has m k) (has_some ms k) (has_of_some h)

  has_member : {ms : Terms} {q : Term} {left : Terms} {k : ℕ} {ls : List Terms} (h : PlaceMember ms k ls q left) → has_some ms k ≡ true
  has_member (in_begun {m} {m'} {left} {ms} {k} h s) = or_yes (has m k) (has_some ms k) (has_yes h)
  has_member (in_kept {m} {m'} {left} {ms} {k} h) = or_later (has m k) (has_some ms k) (has_member h)
  has_member (in_gone {m} {m'} {left} {ms} {k} h) = or_later (has m k) (has_some ms k) (has_member h)

-- a token outside the numbers isn't in the model
differs : (j k : ℕ) → (j ≡ k → ⊥) → nat_eq j k ≡ false
differs j k h = go (nat_eq j k) refl
  where
    go : (b : Bool) → nat_eq j k ≡ b → nat_eq j k ≡ false
    go true e = absurd (h ((Decides-eqb j k).0 e))
    go false e = e

mutual
  pub has_not : (x : Term) (a z k : ℕ) → Numbered x a z → (k < a) ⊎ (z ≤ k) → has x k ≡ false
  has_not empty a z k n o = refl
  has_not (name j l) a z k n o = differs j k (λ e. let f = n.0 in let g = n.1 in elim o [ inl p ↦ absurd (omega arith) | inr p ↦ absurd (omega arith) ])
  has_not (pcdata j) a z k n o = differs j k (λ e. let f = n.0 in let g = n.1 in elim o [ inl p ↦ absurd (omega arith) | inr p ↦ absurd (omega arith) ])
  has_not (seq ms) a z k n o = has_none ms a z k n o
  has_not (or ms) a z k n o = has_none ms a z k n o
  has_not (and ms) a z k n o = has_none ms a z k n o
  has_not (opt m) a z k n o = has_not m a z k n o
  has_not (plus m) a z k n o = has_not m a z k n o
  has_not (rep m) a z k n o = has_not m a z k n o
  has_not (member r left) a z k n o = refl
  has_not (round r m) a z k n o = refl

  pub has_none : (ms : Terms) (a z k : ℕ) → AllNumbered ms a z → (k < a) ⊎ (z ≤ k) → has_some ms k ≡ false
  has_none none a z k n o = refl
  has_none (more m ms) a z k n o =
      let u : a ≤ n.0 = span_one m a n.0 n.1 in let v : n.0 ≤ z = span ms n.0 z n.2 in
      let p : (k < a) ⊎ (n.0 ≤ k) = elim o [ inl p ↦ inl p | inr p ↦ inr (omega arith) ] in
      let q : (k < n.0) ⊎ (z ≤ k) = elim o [ inl p ↦ inl (omega arith) | inr p ↦ inr p ] in
      or_no (has m k) (has_some ms k) (has_not m a n.0 k n.1 p) (has_none ms n.0 z k n.2 q)

-- the law: the last token and the members left determine the term
mutual
  pub stands : {x r : Term} {k : ℕ} {ls : List Terms} (h : Place x k ls r) (a z : ℕ) → Numbered x a z → r ≡ term_at x k ls
  stands at_name a z n = refl
  stands at_pcdata a z n = refl
  stands (at_seq h) a z n = stands_in_order h a z n
  stands (at_or h) a z n = stands_some h a z n
  stands (at_and {left = left} h) a z n = ap (λ q. member q left) (stands_member h a z n)
  stands (at_opt h) a z n = stands h a z n
  stands (at_plus {m} h) a z n = ap (λ q. round q m) (stands h a z n)
  stands (at_rep {m} h) a z n = ap (λ q. round q m) (stands h a z n)

  stands_in_order : {ms : Terms} {r : Term} {k : ℕ} {ls : List Terms} (h : PlaceInOrder ms k ls r) (a z : ℕ) → AllNumbered ms a z → r ≡ in_order_at ms k ls
  stands_in_order (in_first {m} {m'} {ms} {k} {ls} h) a z n =
      ap (λ q. seq (more q ms)) (stands h a n.0 n.1) ∙ sym (cond_yes (has m k) (seq (more (term_at m k ls) ms)) (in_order_at ms k ls) (has_yes h))
  stands_in_order (in_later {m} {r} {ms} {k} {ls} h) a z n =
      stands_in_order h n.0 z n.2
      ∙ sym (cond_no (has m k) (seq (more (term_at m k ls) ms)) (in_order_at ms k ls) (has_not m a n.0 k n.1 (inr (within_in_order h n.0 z n.2).0)))

  stands_some : {ms : Terms} {r : Term} {k : ℕ} {ls : List Terms} (h : PlaceOfSome ms k ls r) (a z : ℕ) → AllNumbered ms a z → r ≡ some_at ms k ls
  stands_some (in_this {m} {r} {ms} {k} {ls} h) a z n =
      stands h a n.0 n.1 ∙ sym (cond_yes (has m k) (term_at m k ls) (some_at ms k ls) (has_yes h))
  stands_some (in_other {m} {r} {ms} {k} {ls} h) a z n =
      stands_some h n.0 z n.2
      ∙ sym (cond_no (has m k) (term_at m k ls) (some_at ms k ls) (has_not m a n.0 k n.1 (inr (within_some h n.0 z n.2).0)))

  stands_member : {ms : Terms} {q : Term} {left : Terms} {k : ℕ} {ls : List Terms} (h : PlaceMember ms k ls q left) (a z : ℕ) → AllNumbered ms a z → q ≡ some_at ms k ls
  stands_member (in_begun {m} {m'} {left} {ms} {k} {ls} h s) a z n =
      stands h a n.0 n.1 ∙ sym (cond_yes (has m k) (term_at m k ls) (some_at ms k ls) (has_yes h))
  stands_member (in_kept {m} {m'} {left} {ms} {k} {ls} h) a z n =
      stands_member h n.0 z n.2
      ∙ sym (cond_no (has m k) (term_at m k ls) (some_at ms k ls) (has_not m a n.0 k n.1 (inr (within_member h n.0 z n.2).0)))
  stands_member (in_gone {m} {m'} {left} {ms} {k} {ls} h) a z n =
      stands_member h n.0 z n.2
      ∙ sym (cond_no (has m k) (term_at m k ls) (some_at ms k ls) (has_not m a n.0 k n.1 (inr (within_member h n.0 z n.2).0)))

-- each term that is reached by a last token is the term at that token, for some lists of members left
pub position : (x : Term) (a z : ℕ) (ts : List Token) (t : Token) (r : Term) → IsModel x → Numbered x a z → After x (ts ++ t ∷ []) r → (ls : List Terms) × (r ≡ term_at x t.number ls)
position x a z ts t r i n h = let p = placed x ts t r i h in (p.0, stands p.1 a z n)
