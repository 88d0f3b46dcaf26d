-- The terms that can be left of a model.
use Rattle.std.proofs.Common.{◌≡◌, ℕ, ◌⊎◌, inl, inr, List, [], ◌∷◌, sym, subst}
use Rattle.sgml_model.specs.Term.{Term, empty, name, pcdata, seq, or, and, opt, plus, rep, member, round, Terms, none, more, Token, Takes, TakesInOrder, SomeTakes, MemberTakes}
use Rattle.sgml_ambiguity.specs.Ambiguity.{IsModel, AreModels, After, Reaches}

-- some of the members, in their order
pub data Some_of : Terms → Terms → Type 0 where
  no_more : Some_of none none
  with : {m : Term} {left ms : Terms} → Some_of left ms → Some_of (more m left) (more m ms)
  without : {m : Term} {left ms : Terms} → Some_of left ms → Some_of left (more m ms)

pub all_of : (ms : Terms) → Some_of ms ms
all_of none = no_more
all_of (more m ms) = with (all_of ms)

-- what is left of a model after a token or more
mutual
  pub data Rest : Term → Term → Type 0 where
    of_name : {k : ℕ} {n : List ℕ} → Rest (name k n) empty
    of_pcdata : {k : ℕ} → Rest (pcdata k) (pcdata k)
    of_seq : {ms : Terms} {r : Term} → RestInOrder ms r → Rest (seq ms) r
    of_or : {ms : Terms} {r : Term} → RestOfSome ms r → Rest (or ms) r
    of_and : {ms : Terms} {m' : Term} {left : Terms} → RestMember ms m' left → Rest (and ms) (member m' left)
    of_opt : {m r : Term} → Rest m r → Rest (opt m) r
    of_plus : {m m' : Term} → Rest m m' → Rest (plus m) (round m' m)
    of_rep : {m m' : Term} → Rest m m' → Rest (rep m) (round m' m)

  pub data RestInOrder : Terms → Term → Type 0 where
    first : {m m' : Term} {ms : Terms} → Rest m m' → RestInOrder (more m ms) (seq (more m' ms))
    later : {m : Term} {ms : Terms} {r : Term} → RestInOrder ms r → RestInOrder (more m ms) r

  pub data RestOfSome : Terms → Term → Type 0 where
    this : {m r : Term} {ms : Terms} → Rest m r → RestOfSome (more m ms) r
    other : {m r : Term} {ms : Terms} → RestOfSome ms r → RestOfSome (more m ms) r

  -- a begun member, and some of the others
  pub data RestMember : Terms → Term → Terms → Type 0 where
    begun : {m m' : Term} {left ms : Terms} → Rest m m' → Some_of left ms → RestMember (more m ms) m' left
    kept : {m m' : Term} {left ms : Terms} → RestMember ms m' left → RestMember (more m ms) m' (more m left)
    gone : {m m' : Term} {left ms : Terms} → RestMember ms m' left → RestMember (more m ms) m' left

pub others_left : {ms : Terms} {m' : Term} {left : Terms} → RestMember ms m' left → Some_of left ms
others_left (begun r s) = without s
others_left (kept r) = with (others_left r)
others_left (gone r) = without (others_left r)

-- the first token of a model leaves a rest of it
mutual
  pub rest_first : (x : Term) (t : Token) (r : Term) → IsModel x → Takes x t r → Rest x r
  rest_first empty t r i h = absurd i
  rest_first (name k n) t r i h = subst (λ z. Rest (name k n) z) (sym h.1) of_name
  rest_first (pcdata k) t r i h = subst (λ z. Rest (pcdata k) z) (sym h.1) of_pcdata
  rest_first (seq none) t r i h = absurd i
  rest_first (seq (more m ms)) t r i h = of_seq (rest_first_in_order (more m ms) t r i h)
  rest_first (or none) t r i h = absurd i
  rest_first (or (more m ms)) t r i h = of_or (rest_first_some (more m ms) t r i h)
  rest_first (and none) t r i h = absurd i
  rest_first (and (more m none)) t r i h = absurd i
  rest_first (and (more m (more n ms))) t r i h =
      subst (λ z. Rest (and (more m (more n ms))) z) (sym h.3) (of_and (rest_first_member (more m (more n ms)) t h.0 h.1 (i.0, (i.1, i.2)) h.2))
  rest_first (opt m) t r i h = of_opt (rest_first m t r i h)
  rest_first (plus m) t r i h = subst (λ z. Rest (plus m) z) (sym h.2) (of_plus (rest_first m t h.0 i h.1))
  rest_first (rep m) t r i h = subst (λ z. Rest (rep m) z) (sym h.2) (of_rep (rest_first m t h.0 i h.1))
  rest_first (member q left) t r i h = absurd i
  rest_first (round q m) t r i h = absurd i

  rest_first_in_order : (ms : Terms) (t : Token) (r : Term) → AreModels ms → TakesInOrder ms t r → RestInOrder ms r
  rest_first_in_order none t r i h = absurd h
  rest_first_in_order (more m ms) t r i h = elim h [
    | inl a ↦ subst (λ z. RestInOrder (more m ms) z) (sym a.2) (first (rest_first m t a.0 i.0 a.1))
    | inr b ↦ later (rest_first_in_order ms t r i.1 b.1)
  ]

  rest_first_some : (ms : Terms) (t : Token) (r : Term) → AreModels ms → SomeTakes ms t r → RestOfSome ms r
  rest_first_some none t r i h = absurd h
  rest_first_some (more m ms) t r i h = elim h [
    | inl a ↦ this (rest_first m t r i.0 a)
    | inr b ↦ other (rest_first_some ms t r i.1 b)
  ]

  rest_first_member : (ms : Terms) (t : Token) (m' : Term) (left : Terms) → AreModels ms → MemberTakes ms t m' left → RestMember ms m' left
  rest_first_member none t m' left i h = absurd h
  rest_first_member (more m ms) t m' left i h = elim h [
    | inl a ↦ subst (λ z. RestMember (more m ms) m' z) (sym a.1) (begun (rest_first m t m' i.0 a.0) (all_of ms))
    | inr b ↦ subst (λ z. RestMember (more m ms) m' z) (sym b.2) (kept (rest_first_member ms t m' b.0 i.1 b.1))
  ]

-- a member of those left is begun
pub next_member : {left ms : Terms} (s : Some_of left ms) (t : Token) (m' : Term) (others : Terms) → AreModels ms → MemberTakes left t m' others → RestMember ms m' others
next_member no_more t m' others i h = absurd h
next_member (with {m} {left} {ms} s) t m' others i h = elim h [
  | inl a ↦ subst (λ z. RestMember (more m ms) m' z) (sym a.1) (begun (rest_first m t m' i.0 a.0) s)
  | inr b ↦ subst (λ z. RestMember (more m ms) m' z) (sym b.2) (kept (next_member s t m' b.0 i.1 b.1))
]
next_member (without s) t m' others i h = gone (next_member s t m' others i.1 h)

-- another member is begun
another : {ms : Terms} {q : Term} {left : Terms} (r : RestMember ms q left) (t : Token) (m' : Term) (others : Terms) → AreModels ms → MemberTakes left t m' others → RestMember ms m' others
another r t m' others i h = next_member (others_left r) t m' others i h

pub models : (ms : Terms) → IsModel (and ms) → AreModels ms
models none i = absurd i
models (more m none) i = absurd i
models (more m (more n ms)) i = (i.0, (i.1, i.2))

pub models_seq : (ms : Terms) → IsModel (seq ms) → AreModels ms
models_seq none i = absurd i
models_seq (more m ms) i = i

pub models_or : (ms : Terms) → IsModel (or ms) → AreModels ms
models_or none i = absurd i
models_or (more m ms) i = i

in_tail : (m' : Term) (ms : Terms) (t : Token) (r : Term) → AreModels ms → TakesInOrder ms t r → RestInOrder ms r
in_tail m' ms t r i h = rest_first_in_order ms t r i h

-- each further token leaves a rest of the model
mutual
  pub rest_on : {x r : Term} (h : Rest x r) (t : Token) (s : Term) → IsModel x → Takes r t s → Rest x s
  rest_on of_name t s i k = absurd k
  rest_on (of_pcdata {k}) t s i h = subst (λ z. Rest (pcdata k) z) (sym h.1) of_pcdata
  rest_on (of_seq {ms} h) t s i k = of_seq (rest_on_in_order h t s (models_seq ms i) k)
  rest_on (of_or {ms} h) t s i k = of_or (rest_on_some h t s (models_or ms i) k)
  rest_on (of_and {ms} {m'} {left} h) t s i k = elim k [
    | inl a ↦ subst (λ z. Rest (and ms) z) (sym a.2) (of_and (rest_on_member h t a.0 (models ms i) a.1))
    | inr b ↦ subst (λ z. Rest (and ms) z) (sym b.4) (of_and (another h t b.1 b.2 (models ms i) b.3))
  ]
  rest_on (of_opt h) t s i k = of_opt (rest_on h t s i k)
  rest_on (of_plus {m} {m'} h) t s i k = elim k [
    | inl a ↦ subst (λ z. Rest (plus m) z) (sym a.2) (of_plus (rest_on h t a.0 i a.1))
    | inr b ↦ subst (λ z. Rest (plus m) z) (sym b.4) (of_plus (rest_first m t b.2 i b.3))
  ]
  rest_on (of_rep {m} {m'} h) t s i k = elim k [
    | inl a ↦ subst (λ z. Rest (rep m) z) (sym a.2) (of_rep (rest_on h t a.0 i a.1))
    | inr b ↦ subst (λ z. Rest (rep m) z) (sym b.4) (of_rep (rest_first m t b.2 i b.3))
  ]

  rest_on_in_order : {ms : Terms} {r : Term} (h : RestInOrder ms r) (t : Token) (s : Term) → AreModels ms → Takes r t s → RestInOrder ms s
  rest_on_in_order (first {m} {m'} {ms} h) t s i k = elim k [
    | inl a ↦ subst (λ z. RestInOrder (more m ms) z) (sym a.2) (first (rest_on h t a.0 i.0 a.1))
    | inr b ↦ later (rest_first_in_order ms t s i.1 b.1)
  ]
  rest_on_in_order (later h) t s i k = later (rest_on_in_order h t s i.1 k)

  rest_on_some : {ms : Terms} {r : Term} (h : RestOfSome ms r) (t : Token) (s : Term) → AreModels ms → Takes r t s → RestOfSome ms s
  rest_on_some (this h) t s i k = this (rest_on h t s i.0 k)
  rest_on_some (other h) t s i k = other (rest_on_some h t s i.1 k)

  rest_on_member : {ms : Terms} {q : Term} {left : Terms} (h : RestMember ms q left) (t : Token) (s : Term) → AreModels ms → Takes q t s → RestMember ms s left
  rest_on_member (begun h o) t s i k = begun (rest_on h t s i.0 k) o
  rest_on_member (kept h) t s i k = kept (rest_on_member h t s i.1 k)
  rest_on_member (gone h) t s i k = gone (rest_on_member h t s i.1 k)

rest_after : (x r : Term) (ts : List Token) (s : Term) → IsModel x → Rest x r → After r ts s → Rest x s
rest_after x r [] s i h a = subst (λ z. Rest x z) (sym a) h
rest_after x r (t ∷ ts) s i h a = rest_after x a.0 ts s i (rest_on h t a.0 i a.1) a.2

-- what is reached is the model or a rest of it
pub reached : (x r : Term) → IsModel x → Reaches x r → (r ≡ x) ⊎ Rest x r
reached x r i h = go h.0 h.1
  where
    go : (ts : List Token) → After x ts r → (r ≡ x) ⊎ Rest x r
    go [] a = inl a
    go (t ∷ ts) a = inr (rest_after x a.0 ts r i (rest_first x t a.0 i a.1) a.2)
