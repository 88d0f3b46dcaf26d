-- Words and what is required.
use Rattle.std.proofs.Common.{◌≡◌, ℕ, Bool, true, false, ◌⊎◌, inl, inr, List, [], ◌∷◌, Option, Some, None, refl, subst}
use Rattle.std.specs.List.{All}
use Rattle.std.proofs.lemmas.List.Elements.{All-cons, All-nil}
use Rattle.sgml_model.specs.Term.{Token, Term, empty, name, pcdata, seq, or, and, opt, plus, rep, member, round, Terms, none, more, done, Takes, TakesInOrder, SomeTakes, MemberTakes, required, first_required, sole_required, unless_done}
use Rattle.sgml_model.specs.Left.{Leaves}
use Rattle.sgml_model.specs.Word.{After, HasToken, SomeHasToken}

abbrev token : ℕ → List ℕ → Token
token k n = record { number = k; label = Some n }

-- the begun member's, where it isn't done; else the rest's
unless : {P : Type 0} (b : Bool) (o rest : Option (List ℕ)) (n : List ℕ) → unless_done b o rest ≡ Some n → (o ≡ Some n → P) → (b ≡ true → rest ≡ Some n → P) → P
unless true o rest n h f g = g refl h
unless false o rest n h f g = f h

mutual
  pub required_taken : (r : Term) (n : List ℕ) → required r ≡ Some n → (r' : Term) × Leaves r (Some n) r'
  required_taken empty n h = cc
  required_taken (name k m) n h = (empty, (k, (cc, refl)))
  required_taken (pcdata k) n h = cc
  required_taken (seq ms) n h = let t = first_taken ms n h in (t.0, (t.1, t.2))
  required_taken (or ms) n h = let t = sole_or ms n h in (t.0, (t.1, t.2))
  required_taken (and ms) n h = sole_and ms n h
  required_taken (opt m) n h = cc
  required_taken (plus m) n h = let t = required_taken m n h in (round t.0 m, (t.1.0, (t.0, t.1.1, refl)))
  required_taken (rep m) n h = cc
  required_taken (member r left) n h =
      unless (done r) (required r) None n h
      (λ e. let t = required_taken r n e in (member t.0 left, (t.1.0, inl (t.0, t.1.1, refl))))
      (λ e f. cc)
  required_taken (round r m) n h = let t = required_taken r n h in (round t.0 m, (t.1.0, inl (t.0, t.1.1, refl)))

  first_taken : (ms : Terms) (n : List ℕ) → first_required ms ≡ Some n → (r' : Term) × (k : ℕ) × TakesInOrder ms (token k n) r'
  first_taken none n h = cc
  first_taken (more m ms) n h =
      unless (done m) (required m) (first_required ms) n h
      (λ e. let t = required_taken m n e in (seq (more t.0 ms), t.1.0, inl (t.0, t.1.1, refl)))
      (λ d e. let t = first_taken ms n e in (t.0, t.1, inr (d, t.2)))

  sole_or : (ms : Terms) (n : List ℕ) → sole_required ms ≡ Some n → (r' : Term) × (k : ℕ) × SomeTakes ms (token k n) r'
  sole_or none n h = cc
  sole_or (more m none) n h = let t = required_taken m n h in (t.0, t.1.0, inl t.1.1)
  sole_or (more m (more o ms)) n h = cc

  sole_and : (ms : Terms) (n : List ℕ) → sole_required ms ≡ Some n → (r' : Term) × Leaves (and ms) (Some n) r'
  sole_and none n h = cc
  sole_and (more m none) n h = let t = required_taken m n h in (member t.0 none, (t.1.0, (t.0, none, inl (t.1.1, refl), refl)))
  sole_and (more m (more o ms)) n h = cc

-- a token that can come stands in the term
mutual
  takes_has : (r : Term) (t : Token) (r' : Term) → Takes r t r' → HasToken r t
  takes_has empty t r' h = h
  takes_has (name k n) t r' h = h.0
  takes_has (pcdata k) t r' h = h.0
  takes_has (seq ms) t r' h = order_has ms t r' h
  takes_has (or ms) t r' h = some_has ms t r' h
  takes_has (and ms) t r' h = member_has ms t h.0 h.1 h.2
  takes_has (opt m) t r' h = takes_has m t r' h
  takes_has (plus m) t r' h = takes_has m t h.0 h.1
  takes_has (rep m) t r' h = takes_has m t h.0 h.1
  takes_has (member r left) t r' h =
      elim h [ inl a ↦ inl (takes_has r t a.0 a.1) | inr b ↦ inr (member_has left t b.1 b.2 b.3) ]
  takes_has (round r m) t r' h =
      elim h [ inl a ↦ inl (takes_has r t a.0 a.1) | inr b ↦ inr (takes_has m t b.2 b.3) ]

  order_has : (ms : Terms) (t : Token) (r' : Term) → TakesInOrder ms t r' → SomeHasToken ms t
  order_has none t r' h = h
  order_has (more m ms) t r' h = elim h [ inl a ↦ inl (takes_has m t a.0 a.1) | inr b ↦ inr (order_has ms t r' b.1) ]

  some_has : (ms : Terms) (t : Token) (r' : Term) → SomeTakes ms t r' → SomeHasToken ms t
  some_has none t r' h = h
  some_has (more m ms) t r' h = elim h [ inl a ↦ inl (takes_has m t r' a) | inr b ↦ inr (some_has ms t r' b) ]

  member_has : (ms : Terms) (t : Token) (m' : Term) (others : Terms) → MemberTakes ms t m' others → SomeHasToken ms t
  member_has none t m' others h = h
  member_has (more m ms) t m' others h = elim h [ inl a ↦ inl (takes_has m t m' a.0) | inr b ↦ inr (member_has ms t m' b.0 b.1) ]

-- what stands in what is left stood in the term
mutual
  left_has : (r : Term) (t : Token) (r' : Term) (u : Token) → Takes r t r' → HasToken r' u → HasToken r u
  left_has empty t r' u h k = absurd h
  left_has (name j n) t r' u h k = absurd (subst (λ v. HasToken v u) h.1 k)
  left_has (pcdata j) t r' u h k = subst (λ v. HasToken v u) h.1 k
  left_has (seq ms) t r' u h k = order_left ms t r' u h k
  left_has (or ms) t r' u h k = some_left ms t r' u h k
  left_has (and ms) t r' u h k = member_left ms t h.0 h.1 u h.2 (subst (λ v. HasToken v u) h.3 k)
  left_has (opt m) t r' u h k = left_has m t r' u h k
  left_has (plus m) t r' u h k =
      elim (subst (λ v. HasToken v u) h.2 k) [ inl a ↦ left_has m t h.0 u h.1 a | inr b ↦ b ]
  left_has (rep m) t r' u h k =
      elim (subst (λ v. HasToken v u) h.2 k) [ inl a ↦ left_has m t h.0 u h.1 a | inr b ↦ b ]
  left_has (member r left) t r' u h k =
      elim h [
        | inl a ↦ elim (subst (λ v. HasToken v u) a.2 k) [ inl c ↦ inl (left_has r t a.0 u a.1 c) | inr d ↦ inr d ]
        | inr b ↦ inr (member_left left t b.1 b.2 u b.3 (subst (λ v. HasToken v u) b.4 k))
      ]
  left_has (round r m) t r' u h k =
      elim h [
        | inl a ↦ elim (subst (λ v. HasToken v u) a.2 k) [ inl c ↦ inl (left_has r t a.0 u a.1 c) | inr d ↦ inr d ]
        | inr b ↦ elim (subst (λ v. HasToken v u) b.4 k) [ inl c ↦ inr (left_has m t b.2 u b.3 c) | inr d ↦ inr d ]
      ]

  order_left : (ms : Terms) (t : Token) (r' : Term) (u : Token) → TakesInOrder ms t r' → HasToken r' u → SomeHasToken ms u
  order_left none t r' u h k = absurd h
  order_left (more m ms) t r' u h k =
      elim h [
        | inl a ↦ elim (subst (λ v. HasToken v u) a.2 k) [ inl c ↦ inl (left_has m t a.0 u a.1 c) | inr d ↦ inr d ]
        | inr b ↦ inr (order_left ms t r' u b.1 k)
      ]

  some_left : (ms : Terms) (t : Token) (r' : Term) (u : Token) → SomeTakes ms t r' → HasToken r' u → SomeHasToken ms u
  some_left none t r' u h k = absurd h
  some_left (more m ms) t r' u h k = elim h [ inl a ↦ inl (left_has m t r' u a k) | inr b ↦ inr (some_left ms t r' u b k) ]

  member_left : (ms : Terms) (t : Token) (m' : Term) (others : Terms) (u : Token) → MemberTakes ms t m' others → HasToken m' u ⊎ SomeHasToken others u → SomeHasToken ms u
  member_left none t m' others u h k = absurd h
  member_left (more m ms) t m' others u h k =
      elim h [
        | inl a ↦ elim k [ inl c ↦ inl (left_has m t m' u a.0 c) | inr d ↦ inr (subst (λ v. SomeHasToken v u) a.1 d) ]
        | inr b ↦ elim k [
          | inl c ↦ inr (member_left ms t m' b.0 u b.1 (inl c))
          | inr d ↦ elim (subst (λ v. SomeHasToken v u) b.2 d) [ inl e ↦ inl e | inr f ↦ inr (member_left ms t m' b.0 u b.1 (inr f)) ]
        ]
      ]

word_has : (m : Term) (word : List Token) (r s : Term) → ((u : Token) → HasToken s u → HasToken m u) → After s word r → All (HasToken m) word
word_has m [] r s f h = All-nil (HasToken m)
word_has m (t ∷ word) r s f h =
    All-cons (HasToken m) t word (f t (takes_has s t h.0 h.1)) (word_has m word r h.0 (λ u k. f u (left_has s t h.0 u h.1 k)) h.2)

pub words_of : (m : Term) (word : List Token) (r : Term) → After m word r → All (HasToken m) word
words_of m word r h = word_has m word r m (λ u k. k) h
