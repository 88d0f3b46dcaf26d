-- The tokens that can come have the numbers of the model.
use Rattle.std.proofs.Common.{◌≡◌, ◌≢◌, ℕ, suc, ◌<◌, ◌≤◌, inl, inr, List, Option, Some, None, ap, arith}
use Rattle.sgml_model.specs.Term.{Term, empty, name, pcdata, seq, or, and, opt, plus, rep, member, round, Terms, none, more, Token}
use Rattle.sgml_model.specs.Group.{Numbered, AllNumbered}
use Rattle.sgml_ambiguity.proofs.Sets.{token, Can, CanInOrder, CanSome, Last, LastInOrder, LastSome, LastAmong}

mutual
  span_one : (m : Term) (a z : ℕ) → Numbered m a z → a ≤ z
  span_one empty a z n = absurd n
  span_one (name k l) a z n = omega (arith, n.1)
  span_one (pcdata k) a z n = omega (arith, n.1)
  span_one (seq ms) a z n = span ms a z n
  span_one (or ms) a z n = span ms a z n
  span_one (and ms) a z n = span ms a z n
  span_one (opt m) a z n = span_one m a z n
  span_one (plus m) a z n = span_one m a z n
  span_one (rep m) a z n = span_one m a z n
  span_one (member r left) a z n = absurd n
  span_one (round r m) a z n = absurd n

  span : (ms : Terms) (a z : ℕ) → AllNumbered ms a z → a ≤ z
  span none a z n = omega (arith, n)
  span (more m ms) a z n = let u : a ≤ n.0 = span_one m a n.0 n.1 in let v : n.0 ≤ z = span ms n.0 z n.2 in omega arith

-- the number is in the range
record Within (t : Token) (a z : ℕ) : Type 0 where
  low : a ≤ t.number
  high : t.number < z

one_within : (t : Token) (l : Option (List ℕ)) (k a z : ℕ) → t ≡ token k l → k ≡ a → z ≡ suc a → Within t a z
one_within t l k a z h p q =
    let e : t.number ≡ k = ap (λ (u : Token). u.number) h in
    record { low = omega arith; high = omega arith }

in_this : (t : Token) (ms : Terms) (a c z : ℕ) → AllNumbered ms c z → Within t a c → Within t a z
in_this t ms a c z n w = let v = span ms c z n in record { low = w.low; high = omega (arith, w.high) }

in_others : (t : Token) (m : Term) (a c z : ℕ) → Numbered m a c → Within t c z → Within t a z
in_others t m a c z n w = let v = span_one m a c n in record { low = omega (arith, w.low); high = w.high }

mutual
  can_within : (x : Term) (t : Token) (a z : ℕ) → Numbered x a z → Can x t → Within t a z
  can_within empty t a z n h = absurd n
  can_within (name k l) t a z n h = one_within t (Some l) k a z h n.0 n.1
  can_within (pcdata k) t a z n h = one_within t None k a z h n.0 n.1
  can_within (seq ms) t a z n h = order_within ms t a z n h
  can_within (or ms) t a z n h = some_within ms t a z n h
  can_within (and ms) t a z n h = some_within ms t a z n h
  can_within (opt m) t a z n h = can_within m t a z n h
  can_within (plus m) t a z n h = can_within m t a z n h
  can_within (rep m) t a z n h = can_within m t a z n h
  can_within (member r left) t a z n h = absurd n
  can_within (round r m) t a z n h = absurd n

  order_within : (ms : Terms) (t : Token) (a z : ℕ) → AllNumbered ms a z → CanInOrder ms t → Within t a z
  order_within none t a z n h = absurd h
  order_within (more m ms) t a z n h = elim h [
    | inl p ↦ in_this t ms a n.0 z n.2 (can_within m t a n.0 n.1 p)
    | inr p ↦ in_others t m a n.0 z n.1 (order_within ms t n.0 z n.2 p.1)
  ]

  some_within : (ms : Terms) (t : Token) (a z : ℕ) → AllNumbered ms a z → CanSome ms t → Within t a z
  some_within none t a z n h = absurd h
  some_within (more m ms) t a z n h = elim h [
    | inl p ↦ in_this t ms a n.0 z n.2 (can_within m t a n.0 n.1 p)
    | inr p ↦ in_others t m a n.0 z n.1 (some_within ms t n.0 z n.2 p)
  ]

mutual
  last_within : (x : Term) (t : Token) (a z : ℕ) → Numbered x a z → Last x t → Within t a z
  last_within empty t a z n h = absurd n
  last_within (name k l) t a z n h = absurd h
  last_within (pcdata k) t a z n h = one_within t None k a z h n.0 n.1
  last_within (seq ms) t a z n h = last_order_within ms t a z n h
  last_within (or ms) t a z n h = last_some_within ms t a z n h
  last_within (and ms) t a z n h = last_among_within ms t a z n h
  last_within (opt m) t a z n h = last_within m t a z n h
  last_within (plus m) t a z n h = elim h [ inl p ↦ last_within m t a z n p | inr p ↦ can_within m t a z n p ]
  last_within (rep m) t a z n h = elim h [ inl p ↦ last_within m t a z n p | inr p ↦ can_within m t a z n p ]
  last_within (member r left) t a z n h = absurd n
  last_within (round r m) t a z n h = absurd n

  last_order_within : (ms : Terms) (t : Token) (a z : ℕ) → AllNumbered ms a z → LastInOrder ms t → Within t a z
  last_order_within none t a z n h = absurd h
  last_order_within (more m ms) t a z n h = elim h [
    | inl p ↦ elim p.1 [
      | inl q ↦ in_this t ms a n.0 z n.2 (last_within m t a n.0 n.1 q)
      | inr q ↦ in_others t m a n.0 z n.1 (order_within ms t n.0 z n.2 q)
    ]
    | inr p ↦ in_others t m a n.0 z n.1 (last_order_within ms t n.0 z n.2 p)
  ]

  last_some_within : (ms : Terms) (t : Token) (a z : ℕ) → AllNumbered ms a z → LastSome ms t → Within t a z
  last_some_within none t a z n h = absurd h
  last_some_within (more m ms) t a z n h = elim h [
    | inl p ↦ in_this t ms a n.0 z n.2 (last_within m t a n.0 n.1 p)
    | inr p ↦ in_others t m a n.0 z n.1 (last_some_within ms t n.0 z n.2 p)
  ]

  last_among_within : (ms : Terms) (t : Token) (a z : ℕ) → AllNumbered ms a z → LastAmong ms t → Within t a z
  last_among_within none t a z n h = absurd h
  last_among_within (more m ms) t a z n h = elim h [
    | inl p ↦ in_this t ms a n.0 z n.2 (last_within m t a n.0 n.1 p)
    | inr p ↦ elim p [
      | inl q ↦ in_this t ms a n.0 z n.2 (can_within m t a n.0 n.1 q.1)
      | inr q ↦ in_others t m a n.0 z n.1 (last_among_within ms t n.0 z n.2 q)
    ]
  ]

-- tokens of two members have two numbers
pub two_members : (m : Term) (ms : Terms) (u v : Token) (a c z : ℕ) → Numbered m a c → AllNumbered ms c z → LastSome ms u → Can m v → u.number ≢ v.number
two_members m ms u v a c z n k h i e =
    let p = last_some_within ms u c z k h in let q = can_within m v a c n i in
    absurd (omega (arith, p.low, q.high, e))
