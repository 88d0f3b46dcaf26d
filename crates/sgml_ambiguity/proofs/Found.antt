-- The lists of the scan hold what can come, and the clash that is found is a pair.
use Rattle.std.proofs.Common.{◌≡◌, ◌≢◌, ℕ, Bool, true, false, ◌&&◌, ◌⊎◌, inl, inr, List, [], ◌∷◌, ◌++◌, Option, Some, None, refl, sym, ap, ◌∙◌, subst, cond, nat_eq}
use Rattle.std.specs.Option.{option_or}
use Rattle.std.proofs.lemmas.Bool.Decides.{Decides-eqb}
use Rattle.sgml_model.specs.Term.{Term, empty, name, pcdata, seq, or, and, opt, plus, rep, member, round, Terms, none, more, Token, done, all_done}
use Rattle.sgml_ambiguity.specs.Ambiguity.{IsModel, AreModels, IsAmbiguous, IsUnambiguous}
use Rattle.sgml_ambiguity.specs.Scan.{token, same_label, first_number, differing, against, cross, turned, crossed, is_number, holds, without, when, heads, firsts, firsts_in_order, firsts_of_some, lasts, lasts_in_order, lasts_of_some, lasts_among, clash, clash_in_order, clash_apart, clash_among}
use Rattle.sgml_ambiguity.proofs.Sets.{Can, CanInOrder, CanSome, Last, LastInOrder, LastSome, LastAmong, Pair, PairInOrder, PairApart, PairAmong}
use Rattle.std.specs.Prelude.{option_map}
use Rattle.sgml_model.specs.Group.{Numbered, AllNumbered}
use Rattle.sgml_ambiguity.proofs.Ranges.{two_members}
use Rattle.sgml_ambiguity.proofs.Sound.{sound}
use Rattle.sgml_ambiguity.proofs.Exact.{exact}
use Rattle.sgml_ambiguity.proofs.Indexing.{label_same, same_is}

abbrev In : Token → List Token → Type 0
In t [] = ⊥
In t (x ∷ xs) = (t ≡ x) ⊎ In t xs

in_parts : (t : Token) (xs ys : List Token) → In t (xs ++ ys) → In t xs ⊎ In t ys
in_parts t [] ys h = inr h
in_parts t (x ∷ xs) ys (inl e) = inl (inl e)
in_parts t (x ∷ xs) ys (inr h) = elim (in_parts t xs ys h) [ inl a ↦ inl (inr a) | inr b ↦ inr b ]

in_left : (t : Token) (xs ys : List Token) → In t xs → In t (xs ++ ys)
in_left t [] ys h = absurd h
in_left t (x ∷ xs) ys (inl e) = inl e
in_left t (x ∷ xs) ys (inr h) = inr (in_left t xs ys h)

in_right : (t : Token) (xs ys : List Token) → In t ys → In t (xs ++ ys)
in_right t [] ys h = h
in_right t (x ∷ xs) ys h = inr (in_right t xs ys h)

in_when : (t : Token) (b : Bool) (xs : List Token) → In t (when b xs) → (b ≡ true) × In t xs
in_when t true xs h = (refl, h)
in_when t false xs h = absurd h

when_in : (t : Token) (b : Bool) (xs : List Token) → b ≡ true → In t xs → In t (when b xs)
when_in t true xs e h = h
when_in t false xs e h = cc

-- a token that is left of a list
in_unless : (t x : Token) (h : Bool) (xs : List Token) → In t (cond h xs (x ∷ xs)) → In t (x ∷ xs)
in_unless t x true xs i = inr i
in_unless t x false xs i = i

in_without : (t : Token) (xs ys : List Token) → In t (without xs ys) → In t xs
in_without t [] ys h = h
in_without t (x ∷ xs) ys h = elim (in_unless t x (holds ys x) (without xs ys) h) [ inl e ↦ inl e | inr i ↦ inr (in_without t xs ys i) ]

-- the lists hold what can come
mutual
  first_of : (x : Term) (t : Token) → In t (firsts x) → Can x t
  first_of empty t h = h
  first_of (name k n) t h = elim h [ inl e ↦ e | inr x ↦ absurd x ]
  first_of (pcdata k) t h = elim h [ inl e ↦ e | inr x ↦ absurd x ]
  first_of (seq ms) t h = first_in_order ms t h
  first_of (or ms) t h = first_some ms t h
  first_of (and ms) t h = first_some ms t h
  first_of (opt m) t h = first_of m t h
  first_of (plus m) t h = first_of m t h
  first_of (rep m) t h = first_of m t h
  first_of (member r left) t h = absurd h
  first_of (round r m) t h = absurd h

  first_in_order : (ms : Terms) (t : Token) → In t (firsts_in_order ms) → CanInOrder ms t
  first_in_order none t h = h
  first_in_order (more m ms) t h = elim (in_parts t (when (done m) (firsts_in_order ms)) (firsts m) h) [
    | inl b ↦ let w = in_when t (done m) (firsts_in_order ms) b in inr (w.0, first_in_order ms t w.1)
    | inr a ↦ inl (first_of m t a)
  ]

  first_some : (ms : Terms) (t : Token) → In t (firsts_of_some ms) → CanSome ms t
  first_some none t h = h
  first_some (more m ms) t h = elim (in_parts t (firsts_of_some ms) (firsts m) h) [ inl b ↦ inr (first_some ms t b) | inr a ↦ inl (first_of m t a) ]

first_head : (ms : Terms) (t : Token) → In t (heads ms) → CanInOrder ms t
first_head none t h = h
first_head (more m ms) t h = inl (first_of m t h)

mutual
  last_of : (x : Term) (t : Token) → In t (lasts x) → Last x t
  last_of empty t h = h
  last_of (name k n) t h = h
  last_of (pcdata k) t h = elim h [ inl e ↦ e | inr x ↦ absurd x ]
  last_of (seq ms) t h = last_in_order ms t h
  last_of (or ms) t h = last_some ms t h
  last_of (and ms) t h = last_among ms t h
  last_of (opt m) t h = last_of m t h
  last_of (plus m) t h = elim (in_parts t (without (lasts m) (firsts m)) (firsts m) h) [ inl a ↦ inl (last_of m t (in_without t (lasts m) (firsts m) a)) | inr b ↦ inr (first_of m t b) ]
  last_of (rep m) t h = elim (in_parts t (without (lasts m) (firsts m)) (firsts m) h) [ inl a ↦ inl (last_of m t (in_without t (lasts m) (firsts m) a)) | inr b ↦ inr (first_of m t b) ]
  last_of (member r left) t h = h
  last_of (round r m) t h = h

  last_in_order : (ms : Terms) (t : Token) → In t (lasts_in_order ms) → LastInOrder ms t
  last_in_order none t h = h
  last_in_order (more m ms) t h = elim (in_parts t (lasts_in_order ms ++ when (all_done ms) (lasts m)) (when (all_done ms) (heads ms)) h) [
    | inl a ↦ elim (in_parts t (lasts_in_order ms) (when (all_done ms) (lasts m)) a) [
      | inl c ↦ inr (last_in_order ms t c)
      | inr c ↦ let w = in_when t (all_done ms) (lasts m) c in inl (w.0, inl (last_of m t w.1))
    ]
    | inr b ↦ let w = in_when t (all_done ms) (heads ms) b in inl (w.0, inr (first_head ms t w.1))
  ]

  last_some : (ms : Terms) (t : Token) → In t (lasts_of_some ms) → LastSome ms t
  last_some none t h = h
  last_some (more m ms) t h = elim (in_parts t (lasts_of_some ms) (lasts m) h) [ inl b ↦ inr (last_some ms t b) | inr a ↦ inl (last_of m t a) ]

  last_among : (ms : Terms) (t : Token) → In t (lasts_among ms) → LastAmong ms t
  last_among none t h = h
  last_among (more m ms) t h = elim (in_parts t (lasts_among ms ++ lasts m) (when (done m) (firsts m)) h) [
    | inl a ↦ elim (in_parts t (lasts_among ms) (lasts m) a) [
      | inl c ↦ inr (inr (last_among ms t c))
      | inr c ↦ inl (last_of m t c)
    ]
    | inr b ↦ let w = in_when t (done m) (firsts m) b in inr (inl (w.0, first_of m t w.1))
  ]

-- what can come is in the lists
mutual
  to_first : (x : Term) (t : Token) → IsModel x → Can x t → In t (firsts x)
  to_first empty t i h = h
  to_first (name k n) t i h = inl h
  to_first (pcdata k) t i h = inl h
  to_first (seq none) t i h = h
  to_first (seq (more m ms)) t i h = to_first_in_order (more m ms) t i h
  to_first (or none) t i h = h
  to_first (or (more m ms)) t i h = to_first_some (more m ms) t i h
  to_first (and none) t i h = h
  to_first (and (more m none)) t i h = absurd i
  to_first (and (more m (more n ms))) t i h = to_first_some (more m (more n ms)) t (i.0, (i.1, i.2)) h
  to_first (opt m) t i h = to_first m t i h
  to_first (plus m) t i h = to_first m t i h
  to_first (rep m) t i h = to_first m t i h
  to_first (member r left) t i h = absurd i
  to_first (round r m) t i h = absurd i

  to_first_in_order : (ms : Terms) (t : Token) → AreModels ms → CanInOrder ms t → In t (firsts_in_order ms)
  to_first_in_order none t i h = h
  to_first_in_order (more m ms) t i h = elim h [
    | inl a ↦ in_right t (when (done m) (firsts_in_order ms)) (firsts m) (to_first m t i.0 a)
    | inr b ↦ in_left t (when (done m) (firsts_in_order ms)) (firsts m) (when_in t (done m) (firsts_in_order ms) b.0 (to_first_in_order ms t i.1 b.1))
  ]

  to_first_some : (ms : Terms) (t : Token) → AreModels ms → CanSome ms t → In t (firsts_of_some ms)
  to_first_some none t i h = h
  to_first_some (more m ms) t i h = elim h [
    | inl a ↦ in_right t (firsts_of_some ms) (firsts m) (to_first m t i.0 a)
    | inr b ↦ in_left t (firsts_of_some ms) (firsts m) (to_first_some ms t i.1 b)
  ]

and_parts : (x y : Bool) → (x && y) ≡ true → (x ≡ true) × (y ≡ true)
and_parts true y h = (refl, h)
and_parts false y h = cc

-- the last tokens of a sequence: those of the members behind, and, where they are all done, those of the first and what follows it at once
module _ (m : Term) (ms : Terms) (t : Token) where
  of_rest : In t (lasts_in_order ms) → In t (lasts_in_order (more m ms))
  of_rest h = in_left t (lasts_in_order ms ++ when (all_done ms) (lasts m)) (when (all_done ms) (heads ms)) (in_left t (lasts_in_order ms) (when (all_done ms) (lasts m)) h)

  of_first : all_done ms ≡ true → In t (lasts m) → In t (lasts_in_order (more m ms))
  of_first d h = in_left t (lasts_in_order ms ++ when (all_done ms) (lasts m)) (when (all_done ms) (heads ms))
      (in_right t (lasts_in_order ms) (when (all_done ms) (lasts m)) (when_in t (all_done ms) (lasts m) d h))

  of_head : all_done ms ≡ true → In t (heads ms) → In t (lasts_in_order (more m ms))
  of_head d h = in_right t (lasts_in_order ms ++ when (all_done ms) (lasts m)) (when (all_done ms) (heads ms)) (when_in t (all_done ms) (heads ms) d h)

-- where all are done, what can come first is in the first member's list or in the lists of those behind
tail_in : (ms : Terms) (t : Token) → AreModels ms → all_done ms ≡ true → CanInOrder ms t → In t (heads ms) ⊎ In t (lasts_in_order ms)
tail_in none t i d h = absurd h
tail_in (more m ms) t i d (inl h) = inl (to_first m t i.0 h)
tail_in (more m ms) t i d (inr h) =
    let e = and_parts (done m) (all_done ms) d in
    inr (elim (tail_in ms t i.1 e.1 h.1) [ inl c ↦ of_head m ms t e.1 c | inr c ↦ of_rest m ms t c ])

-- the number that is found is of a token of the name
first_in : (bs : List Token) (l : Option (List ℕ)) (n : ℕ) → first_number bs l ≡ Some n → In (token n l) bs
first_in [] l n h = cc
first_in (b ∷ bs) l n h = go (first_in bs l n) (same_label l b.label) refl h
  where
    go : (first_number bs l ≡ Some n → In (token n l) bs) → (e : Bool) → same_label l b.label ≡ e → cond e (Some b.number) (first_number bs l) ≡ Some n → In (token n l) (b ∷ bs)
    go on true q k = let is : b.number ≡ n = cc in inl (ap (λ j. token j l) (sym is) ∙ ap (token b.number) (label_same l b.label q))
    go on false q k = inr (on k)

-- a token of two lists is in the first without the second, or in the second
held_in : (bs : List Token) (t : Token) (o : Option ℕ) → first_number bs t.label ≡ o → is_number o t.number ≡ true → In t bs
held_in bs t None e h = cc
held_in bs t (Some n) e h = let is : n ≡ t.number = (Decides-eqb n t.number).0 h in subst (λ k. In (token k t.label) bs) is (first_in bs t.label n e)

without_in : (t : Token) (xs ys : List Token) → In t xs → In t (without xs ys ++ ys)
without_in t [] ys h = absurd h
without_in t (x ∷ xs) ys h = of_held (λ i. without_in t xs ys i) (holds ys x) refl h
  where
    of_held : (In t xs → In t (without xs ys ++ ys)) → (v : Bool) → holds ys x ≡ v → In t (x ∷ xs) → In t (cond v (without xs ys) (x ∷ without xs ys) ++ ys)
    of_held on true e (inl i) = in_right t (without xs ys) ys (subst (λ z. In z ys) (sym i) (held_in ys x (first_number ys x.label) refl e))
    of_held on true e (inr i) = on i
    of_held on false e (inl i) = inl i
    of_held on false e (inr i) = inr (on i)

mutual
  to_last : (x : Term) (t : Token) → IsModel x → Last x t → In t (lasts x)
  to_last empty t i h = h
  to_last (name k n) t i h = h
  to_last (pcdata k) t i h = inl h
  to_last (seq none) t i h = h
  to_last (seq (more m ms)) t i h = to_last_in_order (more m ms) t i h
  to_last (or none) t i h = h
  to_last (or (more m ms)) t i h = to_last_some (more m ms) t i h
  to_last (and none) t i h = h
  to_last (and (more m none)) t i h = absurd i
  to_last (and (more m (more n ms))) t i h = to_last_among (more m (more n ms)) t (i.0, (i.1, i.2)) h
  to_last (opt m) t i h = to_last m t i h
  to_last (plus m) t i h = elim h [ inl a ↦ without_in t (lasts m) (firsts m) (to_last m t i a) | inr b ↦ in_right t (without (lasts m) (firsts m)) (firsts m) (to_first m t i b) ]
  to_last (rep m) t i h = elim h [ inl a ↦ without_in t (lasts m) (firsts m) (to_last m t i a) | inr b ↦ in_right t (without (lasts m) (firsts m)) (firsts m) (to_first m t i b) ]
  to_last (member r left) t i h = absurd i
  to_last (round r m) t i h = absurd i

  to_last_in_order : (ms : Terms) (t : Token) → AreModels ms → LastInOrder ms t → In t (lasts_in_order ms)
  to_last_in_order none t i h = h
  to_last_in_order (more m ms) t i h = elim h [
    | inl a ↦ elim a.1 [
      | inl c ↦ of_first m ms t a.0 (to_last m t i.0 c)
      | inr c ↦ elim (tail_in ms t i.1 a.0 c) [ inl d ↦ of_head m ms t a.0 d | inr d ↦ of_rest m ms t d ]
    ]
    | inr b ↦ of_rest m ms t (to_last_in_order ms t i.1 b)
  ]

  to_last_some : (ms : Terms) (t : Token) → AreModels ms → LastSome ms t → In t (lasts_of_some ms)
  to_last_some none t i h = h
  to_last_some (more m ms) t i h = elim h [
    | inl a ↦ in_right t (lasts_of_some ms) (lasts m) (to_last m t i.0 a)
    | inr b ↦ in_left t (lasts_of_some ms) (lasts m) (to_last_some ms t i.1 b)
  ]

  to_last_among : (ms : Terms) (t : Token) → AreModels ms → LastAmong ms t → In t (lasts_among ms)
  to_last_among none t i h = h
  to_last_among (more m ms) t i h =
      let first = lasts_among ms ++ lasts m in let own = when (done m) (firsts m) in
      elim h [
        | inl a ↦ in_left t first own (in_right t (lasts_among ms) (lasts m) (to_last m t i.0 a))
        | inr b ↦ elim b [
          | inl c ↦ in_right t first own (when_in t (done m) (firsts m) c.0 (to_first m t i.0 c.1))
          | inr c ↦ in_left t first own (in_left t (lasts_among ms) (lasts m) (to_last_among ms t i.1 c))
        ]
      ]

-- two tokens of one name
record OneName (a b : Token) : Type 0 where
  same : a.label ≡ b.label
  apart : a.number ≢ b.number

or_some : {A : Type 0} (a b : Option A) (x : A) → option_or a b ≡ Some x → (a ≡ Some x) ⊎ (b ≡ Some x)
or_some None b x h = inr h
or_some (Some y) b x h = inl h

or_none : {A : Type 0} (a b : Option A) → option_or a b ≡ None → (a ≡ None) × (b ≡ None)
or_none None b h = (refl, h)
or_none (Some y) b h = cc

first_none : (bs : List Token) (l : Option (List ℕ)) → first_number bs l ≡ None → (b : Token) → In b bs → l ≡ b.label → ⊥
first_none [] l h b i e = absurd i
first_none (c ∷ bs) l h b i e = go (λ k x. first_none bs l k b x e) (same_label l c.label) refl h i
  where
    go : (first_number bs l ≡ None → In b bs → ⊥) → (v : Bool) → same_label l c.label ≡ v → cond v (Some c.number) (first_number bs l) ≡ None → (b ≡ c) ⊎ In b bs → ⊥
    go on true q k j = cc
    go on false q k (inl x) = let y = same_is l c.label (e ∙ ap (λ (z : Token). z.label) x) in cc
    go on false q k (inr x) = on k x

-- of each name one number
abbrev Functional : List Token → Type 0
Functional bs = (a b : Token) → In a bs → In b bs → a.label ≡ b.label → a.number ≡ b.number

against_some : (a : Token) (bs : List Token) (p : Token × Token) → against a bs ≡ Some p → (p.0 ≡ a) × In p.1 bs × OneName p.0 p.1
against_some a bs p h = found_first (first_number bs a.label) refl h
  where
    by_number : (n : ℕ) → In (token n a.label) bs → (v : Bool) → nat_eq a.number n ≡ v → cond {A = Option (Token × Token)} v None (Some (a, token n a.label)) ≡ Some p → (p.0 ≡ a) × In p.1 bs × OneName p.0 p.1
    by_number n i true q k = cc
    by_number n i false q k =
        let is : ◌≡◌ {A = Token × Token} (a, token n a.label) p = cc in
        let apart : a.number ≡ n → ⊥ = λ z. let y = (Decides-eqb a.number n).1 z in cc in
        (sym (ap (λ (w : Token × Token). w.0) is), subst (λ (w : Token × Token). In w.1 bs) is i, subst (λ (w : Token × Token). OneName w.0 w.1) is (record { same = refl; apart = apart }))

    found_first : (o : Option ℕ) → first_number bs a.label ≡ o → differing a o ≡ Some p → (p.0 ≡ a) × In p.1 bs × OneName p.0 p.1
    found_first None q k = cc
    found_first (Some n) q k = by_number n (first_in bs a.label n q) (nat_eq a.number n) refl k

against_none : (a : Token) (bs : List Token) → Functional bs → against a bs ≡ None → (b : Token) → In b bs → a.label ≡ b.label → a.number ≡ b.number
against_none a bs f h b i l = found_first (first_number bs a.label) refl h
  where
    by_number : (n : ℕ) → In (token n a.label) bs → (v : Bool) → nat_eq a.number n ≡ v → cond {A = Option (Token × Token)} v None (Some (a, token n a.label)) ≡ None → a.number ≡ b.number
    by_number n j true q k = (Decides-eqb a.number n).0 q ∙ f (token n a.label) b j i l
    by_number n j false q k = cc

    found_first : (o : Option ℕ) → first_number bs a.label ≡ o → differing a o ≡ None → a.number ≡ b.number
    found_first None q k = absurd (first_none bs a.label q b i l)
    found_first (Some n) q k = by_number n (first_in bs a.label n q) (nat_eq a.number n) refl k

cross_some : (xs bs : List Token) (p : Token × Token) → cross xs bs ≡ Some p → In p.0 xs × In p.1 bs × OneName p.0 p.1
unfolding cross
cross_some [] bs p h = cc
cross_some (a ∷ xs) bs p h = elim (or_some (against a bs) (cross xs bs) p h) [
  | inl k ↦ let s = against_some a bs p k in (inl s.0, s.1, s.2)
  | inr k ↦ let s = cross_some xs bs p k in (inr s.0, s.1, s.2)
]

cross_none : (xs bs : List Token) → Functional bs → cross xs bs ≡ None → (a b : Token) → In a xs → In b bs → a.label ≡ b.label → a.number ≡ b.number
unfolding cross
cross_none [] bs f h a b i j l = absurd i
cross_none (x ∷ xs) bs f h a b i j l =
    let k = or_none (against x bs) (cross xs bs) h in
    elim i [
      | inl e ↦ ap (λ (z : Token). z.number) e ∙ against_none x bs f k.0 b j (sym (ap (λ (z : Token). z.label) e) ∙ l)
      | inr m ↦ cross_none xs bs f k.1 a b m j l
    ]

crossed_some : (xs bs : List Token) (p : Token × Token) → crossed xs bs ≡ Some p → In p.0 xs × In p.1 bs × OneName p.0 p.1
crossed_some xs bs p h = of_pair (cross bs xs) refl h
  where
    of_pair : (o : Option (Token × Token)) → cross bs xs ≡ o → option_map turned o ≡ Some p → In p.0 xs × In p.1 bs × OneName p.0 p.1
    of_pair None e q = cc
    of_pair (Some r) e q =
        let s = cross_some bs xs r e in
        let is : turned r ≡ p = cc in
        subst (λ (w : Token × Token). In w.0 xs × In w.1 bs × OneName w.0 w.1) is
        (s.1, s.0, record { same = sym s.2.same; apart = λ y. s.2.apart (sym y) })

-- where no two of them have one number
uncrossed : (xs bs : List Token) → ((a b : Token) → In a xs → In b bs → a.number ≢ b.number) → cross bs xs ≡ None → (a b : Token) → In a xs → In b bs → a.label ≡ b.label → ⊥
unfolding cross
uncrossed xs [] f h a b i j l = absurd j
uncrossed xs (x ∷ bs) f h a b i j l =
    let k = or_none (against x xs) (cross bs xs) h in
    elim j [
      | inl e ↦ here (first_number xs x.label) refl k.0 (ap (λ (z : Token). z.label) e)
      | inr m ↦ uncrossed xs bs (λ c d p q. f c d p (inr q)) k.1 a b i m l
    ]
  where
    by_number : (n : ℕ) → In (token n x.label) xs → (v : Bool) → nat_eq x.number n ≡ v → cond {A = Option (Token × Token)} v None (Some (x, token n x.label)) ≡ None → ⊥
    by_number n p true q r = f (token n x.label) x p (inl refl) (sym ((Decides-eqb x.number n).0 q))
    by_number n p false q r = cc

    here : (o : Option ℕ) → first_number xs x.label ≡ o → differing x o ≡ None → b.label ≡ x.label → ⊥
    here None q r e = first_none xs x.label q a i (sym e ∙ sym l)
    here (Some n) q r e = by_number n (first_in xs x.label n q) (nat_eq x.number n) refl r

crossed_none : (xs bs : List Token) → ((a b : Token) → In a xs → In b bs → a.number ≢ b.number) → crossed xs bs ≡ None → (a b : Token) → In a xs → In b bs → a.label ≡ b.label → a.number ≡ b.number
crossed_none xs bs f h a b i j l = of_pair (cross bs xs) refl h
  where
    of_pair : (o : Option (Token × Token)) → cross bs xs ≡ o → option_map turned o ≡ None → a.number ≡ b.number
    of_pair None e q = absurd (uncrossed xs bs f e a b i j l)
    of_pair (Some r) e q = cc

-- the clash that is found is a pair of one name
abbrev FoundBy : (Token → Token → Type 0) → Token × Token → Type 0
FoundBy P p = P p.0 p.1 × OneName p.0 p.1

mutual
  found : (x : Term) (p : Token × Token) → clash x ≡ Some p → FoundBy (Pair x) p
  found empty p h = cc
  found (name k n) p h = cc
  found (pcdata k) p h = cc
  found (seq ms) p h = found_in_order ms p h
  found (or ms) p h = found_apart ms p h
  found (and ms) p h = found_among ms p h
  found (opt m) p h = found m p h
  found (plus m) p h = elim (or_some (clash m) (cross (lasts m) (firsts m)) p h) [
    | inl a ↦ let f = found m p a in (inl f.0, f.1)
    | inr b ↦ let c = cross_some (lasts m) (firsts m) p b in (inr (last_of m p.0 c.0, first_of m p.1 c.1), c.2)
  ]
  found (rep m) p h = elim (or_some (clash m) (cross (lasts m) (firsts m)) p h) [
    | inl a ↦ let f = found m p a in (inl f.0, f.1)
    | inr b ↦ let c = cross_some (lasts m) (firsts m) p b in (inr (last_of m p.0 c.0, first_of m p.1 c.1), c.2)
  ]
  found (member r left) p h = cc
  found (round r m) p h = cc

  found_in_order : (ms : Terms) (p : Token × Token) → clash_in_order ms ≡ Some p → FoundBy (PairInOrder ms) p
  found_in_order none p h = cc
  found_in_order (more m ms) p h =
      let own = when (done m) (firsts m) in let behind = firsts_in_order ms in
      elim (or_some (clash_in_order ms) (option_or (clash m) (option_or (cross (lasts m) behind) (cross own behind))) p h) [
        | inl a ↦ let f = found_in_order ms p a in (inr (inl f.0), f.1)
        | inr b ↦ elim (or_some (clash m) (option_or (cross (lasts m) behind) (cross own behind)) p b) [
          | inl a ↦ let f = found m p a in (inl f.0, f.1)
          | inr c ↦ elim (or_some (cross (lasts m) behind) (cross own behind) p c) [
            | inl d ↦ let s = cross_some (lasts m) behind p d in (inr (inr (inl (last_of m p.0 s.0), first_in_order ms p.1 s.1)), s.2)
            | inr d ↦
                let s = cross_some own behind p d in let w = in_when p.0 (done m) (firsts m) s.0 in
                (inr (inr (inr (w.0, first_of m p.0 w.1), first_in_order ms p.1 s.1)), s.2)
          ]
        ]
      ]

  found_apart : (ms : Terms) (p : Token × Token) → clash_apart ms ≡ Some p → FoundBy (PairApart ms) p
  found_apart none p h = cc
  found_apart (more m ms) p h = elim (or_some (clash_apart ms) (option_or (clash m) (cross (firsts m) (firsts_of_some ms))) p h) [
    | inl a ↦ let f = found_apart ms p a in (inr (inl f.0), f.1)
    | inr b ↦ elim (or_some (clash m) (cross (firsts m) (firsts_of_some ms)) p b) [
      | inl a ↦ let f = found m p a in (inl f.0, f.1)
      | inr c ↦ let s = cross_some (firsts m) (firsts_of_some ms) p c in (inr (inr (first_of m p.0 s.0, first_some ms p.1 s.1)), s.2)
    ]
  ]

  found_among : (ms : Terms) (p : Token × Token) → clash_among ms ≡ Some p → FoundBy (PairAmong ms) p
  found_among none p h = cc
  found_among (more m ms) p h =
      let one = cross (lasts m) (firsts_of_some ms) in let two = cross (firsts m) (firsts_of_some ms) in let three = crossed (lasts_of_some ms) (firsts m) in
      elim (or_some (clash_among ms) (option_or (clash m) (option_or one (option_or two three))) p h) [
        | inl a ↦ let f = found_among ms p a in (inr (inl f.0), f.1)
        | inr b ↦ elim (or_some (clash m) (option_or one (option_or two three)) p b) [
          | inl a ↦ let f = found m p a in (inl f.0, f.1)
          | inr c ↦ elim (or_some one (option_or two three) p c) [
            | inl d ↦ let s = cross_some (lasts m) (firsts_of_some ms) p d in (inr (inr (inl (inl (last_of m p.0 s.0), first_some ms p.1 s.1))), s.2)
            | inr d ↦ elim (or_some two three p d) [
              | inl g ↦ let s = cross_some (firsts m) (firsts_of_some ms) p g in (inr (inr (inl (inr (first_of m p.0 s.0), first_some ms p.1 s.1))), s.2)
              | inr g ↦ let s = crossed_some (lasts_of_some ms) (firsts m) p g in (inr (inr (inr (last_some ms p.0 s.0, first_of m p.1 s.1))), s.2)
            ]
          ]
        ]
      ]

-- what can come first has one number for each name
functional_join : (xs ys : List Token) → Functional xs → Functional ys → ((a b : Token) → In a ys → In b xs → a.label ≡ b.label → a.number ≡ b.number) → Functional (xs ++ ys)
functional_join xs ys f g c a b i j l = elim (in_parts a xs ys i) [
  | inl p ↦ elim (in_parts b xs ys j) [ inl q ↦ f a b p q l | inr q ↦ sym (c b a q p (sym l)) ]
  | inr p ↦ elim (in_parts b xs ys j) [ inl q ↦ c a b p q l | inr q ↦ g a b p q l ]
]

one_is : (t : Token) → Functional (t ∷ [])
one_is t a b (inl p) (inl q) l = ap (λ (z : Token). z.number) (p ∙ sym q)
one_is t a b (inl p) (inr q) l = absurd q
one_is t a b (inr p) j l = absurd p

joined_when : (d : Bool) (xs ys : List Token) → Functional xs → Functional ys → cross (when d ys) xs ≡ None → Functional (when d xs ++ ys)
joined_when true xs ys f g c = functional_join xs ys f g (cross_none ys xs f c)
joined_when false xs ys f g c = g

mutual
  sole : (x : Term) → clash x ≡ None → Functional (firsts x)
  sole empty h = λ a b i j l. absurd i
  sole (name k n) h = one_is (token k (Some n))
  sole (pcdata k) h = one_is (token k None)
  sole (seq ms) h = sole_in_order ms h
  sole (or ms) h = sole_apart ms h
  sole (and ms) h = sole_among ms h
  sole (opt m) h = sole m h
  sole (plus m) h = sole m (or_none (clash m) (cross (lasts m) (firsts m)) h).0
  sole (rep m) h = sole m (or_none (clash m) (cross (lasts m) (firsts m)) h).0
  sole (member r left) h = λ a b i j l. absurd i
  sole (round r m) h = λ a b i j l. absurd i

  sole_in_order : (ms : Terms) → clash_in_order ms ≡ None → Functional (firsts_in_order ms)
  sole_in_order none h = λ a b i j l. absurd i
  sole_in_order (more m ms) h =
      let own = when (done m) (firsts m) in let behind = firsts_in_order ms in
      let k = or_none (clash_in_order ms) (option_or (clash m) (option_or (cross (lasts m) behind) (cross own behind))) h in
      let j = or_none (clash m) (option_or (cross (lasts m) behind) (cross own behind)) k.1 in
      let n = or_none (cross (lasts m) behind) (cross own behind) j.1 in
      joined_when (done m) behind (firsts m) (sole_in_order ms k.0) (sole m j.0) n.1

  sole_apart : (ms : Terms) → clash_apart ms ≡ None → Functional (firsts_of_some ms)
  sole_apart none h = λ a b i j l. absurd i
  sole_apart (more m ms) h =
      let k = or_none (clash_apart ms) (option_or (clash m) (cross (firsts m) (firsts_of_some ms))) h in
      let j = or_none (clash m) (cross (firsts m) (firsts_of_some ms)) k.1 in
      let f = sole_apart ms k.0 in
      functional_join (firsts_of_some ms) (firsts m) f (sole m j.0) (cross_none (firsts m) (firsts_of_some ms) f j.1)

  sole_among : (ms : Terms) → clash_among ms ≡ None → Functional (firsts_of_some ms)
  sole_among none h = λ a b i j l. absurd i
  sole_among (more m ms) h =
      let one = cross (lasts m) (firsts_of_some ms) in let two = cross (firsts m) (firsts_of_some ms) in let three = crossed (lasts_of_some ms) (firsts m) in
      let k = or_none (clash_among ms) (option_or (clash m) (option_or one (option_or two three))) h in
      let j = or_none (clash m) (option_or one (option_or two three)) k.1 in
      let n = or_none one (option_or two three) j.1 in let e = or_none two three n.1 in
      let f = sole_among ms k.0 in
      functional_join (firsts_of_some ms) (firsts m) f (sole m j.0) (cross_none (firsts m) (firsts_of_some ms) f e.0)

-- where none is found, no pair has one name
abbrev Clear : (Token → Token → Type 0) → Type 0
Clear P = (a b : Token) → P a b → a.label ≡ b.label → a.number ≡ b.number

mutual
  clear : (x : Term) (y z : ℕ) → IsModel x → Numbered x y z → clash x ≡ None → Clear (Pair x)
  clear empty y z i n h a b p l = absurd p
  clear (name k w) y z i n h a b p l = absurd p
  clear (pcdata k) y z i n h a b p l = absurd p
  clear (seq none) y z i n h a b p l = absurd p
  clear (seq (more m ms)) y z i n h a b p l = clear_in_order (more m ms) y z i n h a b p l
  clear (or none) y z i n h a b p l = absurd p
  clear (or (more m ms)) y z i n h a b p l = clear_apart (more m ms) y z i n h a b p l
  clear (and none) y z i n h a b p l = absurd p
  clear (and (more m none)) y z i n h a b p l = absurd i
  clear (and (more m (more w ms))) y z i n h a b p l = clear_among (more m (more w ms)) y z (i.0, (i.1, i.2)) n h a b p l
  clear (opt m) y z i n h a b p l = clear m y z i n h a b p l
  clear (plus m) y z i n h a b p l =
      let k = or_none (clash m) (cross (lasts m) (firsts m)) h in
      elim p [ inl q ↦ clear m y z i n k.0 a b q l | inr q ↦ cross_none (lasts m) (firsts m) (sole m k.0) k.1 a b (to_last m a i q.0) (to_first m b i q.1) l ]
  clear (rep m) y z i n h a b p l =
      let k = or_none (clash m) (cross (lasts m) (firsts m)) h in
      elim p [ inl q ↦ clear m y z i n k.0 a b q l | inr q ↦ cross_none (lasts m) (firsts m) (sole m k.0) k.1 a b (to_last m a i q.0) (to_first m b i q.1) l ]
  clear (member r left) y z i n h a b p l = absurd i
  clear (round r m) y z i n h a b p l = absurd i

  clear_in_order : (ms : Terms) (y z : ℕ) → AreModels ms → AllNumbered ms y z → clash_in_order ms ≡ None → Clear (PairInOrder ms)
  clear_in_order none y z i n h a b p l = absurd p
  clear_in_order (more m ms) y z i n h a b p l =
      let own = when (done m) (firsts m) in let behind = firsts_in_order ms in
      let k = or_none (clash_in_order ms) (option_or (clash m) (option_or (cross (lasts m) behind) (cross own behind))) h in
      let j = or_none (clash m) (option_or (cross (lasts m) behind) (cross own behind)) k.1 in
      let g = or_none (cross (lasts m) behind) (cross own behind) j.1 in
      let f = sole_in_order ms k.0 in
      elim p [
        | inl q ↦ clear m y n.0 i.0 n.1 j.0 a b q l
        | inr q ↦ elim q [
          | inl s ↦ clear_in_order ms n.0 z i.1 n.2 k.0 a b s l
          | inr s ↦ elim s.0 [
            | inl u ↦ cross_none (lasts m) behind f g.0 a b (to_last m a i.0 u) (to_first_in_order ms b i.1 s.1) l
            | inr u ↦ cross_none own behind f g.1 a b (when_in a (done m) (firsts m) u.0 (to_first m a i.0 u.1)) (to_first_in_order ms b i.1 s.1) l
          ]
        ]
      ]

  clear_apart : (ms : Terms) (y z : ℕ) → AreModels ms → AllNumbered ms y z → clash_apart ms ≡ None → Clear (PairApart ms)
  clear_apart none y z i n h a b p l = absurd p
  clear_apart (more m ms) y z i n h a b p l =
      let k = or_none (clash_apart ms) (option_or (clash m) (cross (firsts m) (firsts_of_some ms))) h in
      let j = or_none (clash m) (cross (firsts m) (firsts_of_some ms)) k.1 in
      elim p [
        | inl q ↦ clear m y n.0 i.0 n.1 j.0 a b q l
        | inr q ↦ elim q [
          | inl s ↦ clear_apart ms n.0 z i.1 n.2 k.0 a b s l
          | inr s ↦ cross_none (firsts m) (firsts_of_some ms) (sole_apart ms k.0) j.1 a b (to_first m a i.0 s.0) (to_first_some ms b i.1 s.1) l
        ]
      ]

  clear_among : (ms : Terms) (y z : ℕ) → AreModels ms → AllNumbered ms y z → clash_among ms ≡ None → Clear (PairAmong ms)
  clear_among none y z i n h a b p l = absurd p
  clear_among (more m ms) y z i n h a b p l =
      let one = cross (lasts m) (firsts_of_some ms) in let two = cross (firsts m) (firsts_of_some ms) in let three = crossed (lasts_of_some ms) (firsts m) in
      let k = or_none (clash_among ms) (option_or (clash m) (option_or one (option_or two three))) h in
      let j = or_none (clash m) (option_or one (option_or two three)) k.1 in
      let g = or_none one (option_or two three) j.1 in let e = or_none two three g.1 in
      let f = sole_among ms k.0 in
      elim p [
        | inl q ↦ clear m y n.0 i.0 n.1 j.0 a b q l
        | inr q ↦ elim q [
          | inl s ↦ clear_among ms n.0 z i.1 n.2 k.0 a b s l
          | inr s ↦ elim s [
            | inl u ↦ elim u.0 [
              | inl v ↦ cross_none (lasts m) (firsts_of_some ms) f g.0 a b (to_last m a i.0 v) (to_first_some ms b i.1 u.1) l
              | inr v ↦ cross_none (firsts m) (firsts_of_some ms) f e.0 a b (to_first m a i.0 v) (to_first_some ms b i.1 u.1) l
            ]
            | inr u ↦ crossed_none (lasts_of_some ms) (firsts m) (λ c d q r. two_members m ms c d y n.0 z n.1 n.2 (last_some ms c q) (first_of m d r)) e.1 a b (to_last_some ms a i.1 u.0) (to_first m b i.0 u.1) l
          ]
        ]
      ]

-- the model is unambiguous where none is found
pub unambiguous : (x : Term) (z : ℕ) → IsModel x → Numbered x 0 z → clash x ≡ None → IsUnambiguous x
unambiguous x z i n h = sound x i (clear x 0 z i n h)

-- and ambiguous where one is
pub ambiguous : (x : Term) (a b : Token) → IsModel x → clash x ≡ Some (a, b) → IsAmbiguous x a b
ambiguous x a b i h = let f = found x (a, b) h in exact x a b i f.0 f.1.same f.1.apart

-- the name stands for both
pub named : (x : Term) (a b : Token) (l : Option (List ℕ)) → l ≡ a.label → IsAmbiguous x a b → IsAmbiguous x (token a.number l) (token b.number l)
named x a b l e h = subst (λ k. IsAmbiguous x (token a.number k) (token b.number k)) (sym e)
    (subst (λ k. IsAmbiguous x a (token b.number k)) (sym h.same) h)
