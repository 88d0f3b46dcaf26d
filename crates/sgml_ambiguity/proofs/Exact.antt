-- For each pair there is a term that can be reached and in which both can come.
use Rattle.std.proofs.Common.{◌≡◌, ◌≢◌, Bool, true, ◌&&◌, ◌⊎◌, inl, inr, [], ◌∷◌, Some, None, refl, sym, ap, ◌∙◌, subst}
use Rattle.sgml_model.specs.Term.{Term, empty, name, pcdata, seq, or, and, opt, plus, rep, member, round, Terms, none, more, Token, done, all_done, Takes, MemberTakes}
use Rattle.sgml_ambiguity.specs.Ambiguity.{IsModel, AreModels, Reaches, IsAmbiguous}
use Rattle.sgml_ambiguity.proofs.Sets.{token, Can, CanSome, Last, LastInOrder, LastSome, LastAmong, Pair, PairInOrder, PairApart, PairAmong, next}

-- one term is left of the other after a token or more
data Leads : Term → Term → Type 0 where
  one : {r s : Term} (t : Token) → Takes r t s → Leads r s
  then : {r s u : Term} (t : Token) → Takes r t s → Leads s u → Leads r u

leads_on : {r s u : Term} → Leads r s → Leads s u → Leads r u
leads_on (one t h) l = then t h l
leads_on (then t h k) l = then t h (leads_on k l)

-- the steps of a part are steps of the whole
abbrev Inside : (Term → Term) → Type 0
Inside f = (r s : Term) (t : Token) → Takes r t s → Takes (f r) t (f s)

-- the first step of x is one of y
abbrev Enters : Term → Term → (Term → Term) → Type 0
Enters x y f = (s : Term) (t : Token) → Takes x t s → Takes y t (f s)

along : (f : Term → Term) → Inside f → {r s : Term} → Leads r s → Leads (f r) (f s)
along f i (one {r} {s} t h) = one t (i r s t h)
along f i (then {r} {s} t h k) = then t (i r s t h) (along f i k)

enter : (x y : Term) (f : Term → Term) → Enters x y f → Inside f → (r : Term) → Leads x r → Leads y (f r)
enter x y f e i r l = go l refl
  where
    go : {z w : Term} → Leads z w → z ≡ x → Leads y (f w)
    go (one {r = z} {s = w} t h) q = one t (e w t (subst (λ v. Takes v t w) q h))
    go (then {r = z} {s = w} t h k) q = then t (e w t (subst (λ v. Takes v t w) q h)) (along f i k)

in_seq : (ms : Terms) → Inside (λ z. seq (more z ms))
in_seq ms r s t h = inl (s, h, refl)

in_member : (left : Terms) → Inside (λ z. member z left)
in_member left r s t h = inl (s, h, refl)

in_round : (m : Term) → Inside (λ z. round z m)
in_round m r s t h = inl (s, h, refl)

alike : Inside (λ z. z)
alike r s t h = h

-- a member of a list, and the others
data Pick : Terms → Term → Terms → Type 0 where
  here : {m : Term} {ms : Terms} → Pick (more m ms) m ms
  there : {x m : Term} {ms others : Terms} → Pick ms m others → Pick (more x ms) m (more x others)

pick_takes : {ms : Terms} {m : Term} {others : Terms} → Pick ms m others → (s : Term) (t : Token) → Takes m t s → MemberTakes ms t s others
pick_takes here s t h = inl (h, refl)
pick_takes (there p) s t h = inr (_, pick_takes p s t h, refl)

-- a member is begun
begins : {ms : Terms} {m : Term} {others : Terms} → Pick ms m others → (r : Term) → Leads m r → Leads (and ms) (member r others)
begins {ms} {m} {others} p r l = enter m (and ms) (λ z. member z others) (λ s t h. (s, others, pick_takes p s t h, refl)) (in_member others) r l

-- another is begun
goes_on : {left : Terms} {m : Term} {others : Terms} (q : Term) → done q ≡ true → Pick left m others → (r : Term) → Leads m r → Leads (member q left) (member r others)
goes_on {left} {m} {others} q d p r l = enter m (member q left) (λ z. member z others) (λ s t h. inr (d, s, others, pick_takes p s t h, refl)) (in_member others) r l

abbrev Goes : Term → Term → Type 0
Goes r s = (s ≡ r) ⊎ Leads r s

after : (r s u : Term) → Leads r s → Goes s u → Leads r u
after r s u l (inl e) = subst (λ z. Leads r z) (sym e) l
after r s u l (inr k) = leads_on l k

upto : (r s u : Term) → Leads r s → Goes s u → Goes r u
upto r s u l g = inr (after r s u l g)

done_two : (x y : Bool) → x ≡ true → y ≡ true → (x && y) ≡ true
done_two x y e f = ap (λ b. b && y) e ∙ f

-- the others of one that follows a begun one
to_next : (m' n : Term) (ns : Terms) → done m' ≡ true → (r : Term) → Leads n r → Leads (seq (more m' (more n ns))) (seq (more r ns))
to_next m' n ns d r l = enter n (seq (more m' (more n ns))) (λ z. seq (more z ns)) (λ s t h. inr (d, inl (s, h, refl))) (in_seq ns) r l

to_rest : (m' : Term) (ms : Terms) → done m' ≡ true → (r : Term) → Leads (seq ms) r → Leads (seq (more m' ms)) r
to_rest m' ms d r l = enter (seq ms) (seq (more m' ms)) (λ z. z) (λ s t h. inr (d, h)) alike r l

to_member : (m : Term) (ms : Terms) (r : Term) → Leads m r → Leads (seq (more m ms)) (seq (more r ms))
to_member m ms r l = along (λ z. seq (more z ms)) (in_seq ms) l

to_this : (m : Term) (ms : Terms) (r : Term) → Leads m r → Leads (or (more m ms)) r
to_this m ms r l = enter m (or (more m ms)) (λ z. z) (λ s t h. inl h) alike r l

to_other : (m : Term) (ms : Terms) (r : Term) → Leads (or ms) r → Leads (or (more m ms)) r
to_other m ms r l = enter (or ms) (or (more m ms)) (λ z. z) (λ s t h. inr h) alike r l

to_round : (m r : Term) → Leads m r → Leads (plus m) (round r m)
to_round m r l = enter m (plus m) (λ z. round z m) (λ s t h. (s, h, refl)) (in_round m) r l

to_rep : (m r : Term) → Leads m r → Leads (rep m) (round r m)
to_rep m r l = enter m (rep m) (λ z. round z m) (λ s t h. (s, h, refl)) (in_round m) r l

to_opt : (m r : Term) → Leads m r → Leads (opt m) r
to_opt m r l = enter m (opt m) (λ z. z) (λ s t h. h) alike r l

-- each model can be brought to its end
mutual
  finish : (x : Term) → IsModel x → (r : Term) × Leads x r × (done r ≡ true)
  finish empty i = absurd i
  finish (name k n) i = (empty, one (token k (Some n)) (refl, refl), refl)
  finish (pcdata k) i = (pcdata k, one (token k None) (refl, refl), refl)
  finish (seq none) i = absurd i
  finish (seq (more m ms)) i =
      let p = finish m i.0 in let q = finish_seq ms p.0 p.2 i.1 in
      (q.0, after (seq (more m ms)) (seq (more p.0 ms)) q.0 (to_member m ms p.0 p.1) q.1, q.2)
  finish (or none) i = absurd i
  finish (or (more m ms)) i = let p = finish m i.0 in (p.0, to_this m ms p.0 p.1, p.2)
  finish (and none) i = absurd i
  finish (and (more m none)) i = absurd i
  finish (and (more m (more n ms))) i =
      let p = finish m i.0 in let q = finish_all (more n ms) p.0 p.2 (i.1, i.2) in
      (member q.0 none, after (and (more m (more n ms))) (member p.0 (more n ms)) (member q.0 none) (begins here p.0 p.1) q.2, done_two (done q.0) true q.1 refl)
  finish (opt m) i = let p = finish m i in (p.0, to_opt m p.0 p.1, p.2)
  finish (plus m) i = let p = finish m i in (round p.0 m, to_round m p.0 p.1, p.2)
  finish (rep m) i = let p = finish m i in (round p.0 m, to_rep m p.0 p.1, p.2)
  finish (member q left) i = absurd i
  finish (round q m) i = absurd i

  finish_seq : (ms : Terms) (m' : Term) → done m' ≡ true → AreModels ms → (r : Term) × Goes (seq (more m' ms)) r × (done r ≡ true)
  finish_seq none m' d i = (seq (more m' none), inl refl, done_two (done m') true d refl)
  finish_seq (more n ns) m' d i =
      let p = finish n i.0 in let q = finish_seq ns p.0 p.2 i.1 in
      (q.0, upto (seq (more m' (more n ns))) (seq (more p.0 ns)) q.0 (to_next m' n ns d p.0 p.1) q.1, q.2)

  finish_all : (left : Terms) (q : Term) → done q ≡ true → AreModels left → (q' : Term) × (done q' ≡ true) × Goes (member q left) (member q' none)
  finish_all none q d i = (q, d, inl refl)
  finish_all (more x xs) q d i =
      let p = finish x i.0 in let l = finish_all xs p.0 p.2 i.1 in
      (l.0, l.1, upto (member q (more x xs)) (member p.0 xs) (member l.0 none) (goes_on q d here p.0 p.1) l.2)

-- all but one of those left are brought to their end
drain_behind : (m : Term) (ms : Terms) (q : Term) → done q ≡ true → AreModels ms → (q' : Term) × (done q' ≡ true) × Goes (member q (more m ms)) (member q' (more m none))
drain_behind m none q d i = (q, d, inl refl)
drain_behind m (more x xs) q d i =
    let p = finish x i.0 in let l = drain_behind m xs p.0 p.2 i.1 in
    (l.0, l.1, upto (member q (more m (more x xs))) (member p.0 (more m xs)) (member l.0 (more m none)) (goes_on q d (there here) p.0 p.1) l.2)

drain : {left : Terms} {m : Term} {others : Terms} (k : Pick left m others) (q : Term) → done q ≡ true → AreModels left → (q' : Term) × (done q' ≡ true) × Goes (member q left) (member q' (more m none))
drain (here {m} {ms}) q d i = drain_behind m ms q d i.1
drain (there {x} {m} {ms} {others} k) q d i =
    let p = finish x i.0 in let l = drain k p.0 p.2 i.1 in
    (l.0, l.1, upto (member q (more x ms)) (member p.0 ms) (member l.0 (more m none)) (goes_on q d here p.0 p.1) l.2)

-- of an AND group, all but one member are brought to their end
to_last : (a b : Term) (cs : Terms) {m : Term} {others : Terms} (k : Pick (more a (more b cs)) m others) → AreModels (more a (more b cs)) → (q : Term) × (done q ≡ true) × Leads (and (more a (more b cs))) (member q (more m none))
to_last a b cs here i =
    let p = finish b i.1.0 in let l = drain_behind a cs p.0 p.2 i.1.1 in
    (l.0, l.1, after (and (more a (more b cs))) (member p.0 (more a cs)) (member l.0 (more a none)) (begins (there here) p.0 p.1) l.2)
to_last a b cs (there {x} {m} k) i =
    let p = finish a i.0 in let l = drain k p.0 p.2 i.1 in
    (l.0, l.1, after (and (more a (more b cs))) (member p.0 (more b cs)) (member l.0 (more m none)) (begins here p.0 p.1) l.2)

-- a term that x leads to, that is done, and in which t can come
abbrev Ends : Term → Token → Type 0
Ends x t = (r : Term) × Leads x r × (done r ≡ true) × Can r t

abbrev EndsAmong : Terms → Token → Type 0
EndsAmong ms t = (m : Term) × (others : Terms) × Pick ms m others × (Ends m t ⊎ ((done m ≡ true) × Can m t))

further : (x : Term) (ms : Terms) (t : Token) → EndsAmong ms t → EndsAmong (more x ms) t
further x ms t e = (e.0, more x e.1, there e.2, e.3)

ends_and : (a b : Term) (cs : Terms) (t : Token) → AreModels (more a (more b cs)) → EndsAmong (more a (more b cs)) t → Ends (and (more a (more b cs))) t
ends_and a b cs t i (m, others, k, inl e) =
    let l = to_last a b cs k i in
    (member e.0 none, leads_on l.2 (goes_on l.0 l.1 here e.0 e.1), done_two (done e.0) true e.2 refl, inl e.3)
ends_and a b cs t i (m, others, k, inr e) =
    let l = to_last a b cs k i in
    (member l.0 (more m none), l.2, done_two (done l.0) (done m && true) l.1 (done_two (done m) true e.0 refl), inr (l.1, inl e.1))

mutual
  ends : (x : Term) (t : Token) → IsModel x → Last x t → Ends x t
  ends empty t i h = absurd h
  ends (name k n) t i h = absurd h
  ends (pcdata k) t i h = (pcdata k, one (token k None) (refl, refl), refl, h)
  ends (seq none) t i h = absurd i
  ends (seq (more m ms)) t i h = ends_seq (more m ms) t i h
  ends (or none) t i h = absurd i
  ends (or (more m ms)) t i h = ends_or (more m ms) t i h
  ends (and none) t i h = absurd i
  ends (and (more m none)) t i h = absurd i
  ends (and (more m (more n ms))) t i h = ends_and m n ms t (i.0, (i.1, i.2)) (ends_among (more m (more n ms)) t (i.0, (i.1, i.2)) h)
  ends (opt m) t i h = let p = ends m t i h in (p.0, to_opt m p.0 p.1, p.2, p.3)
  ends (plus m) t i h = elim h [
    | inl a ↦ let p = ends m t i a in (round p.0 m, to_round m p.0 p.1, p.2, inl p.3)
    | inr b ↦ let p = finish m i in (round p.0 m, to_round m p.0 p.1, p.2, inr (p.2, b))
  ]
  ends (rep m) t i h = elim h [
    | inl a ↦ let p = ends m t i a in (round p.0 m, to_rep m p.0 p.1, p.2, inl p.3)
    | inr b ↦ let p = finish m i in (round p.0 m, to_rep m p.0 p.1, p.2, inr (p.2, b))
  ]
  ends (member q left) t i h = absurd i
  ends (round q m) t i h = absurd i

  ends_seq : (ms : Terms) (t : Token) → AreModels ms → LastInOrder ms t → Ends (seq ms) t
  ends_seq none t i h = absurd h
  ends_seq (more m ms) t i h = elim h [
    | inl a ↦ elim a.1 [
      | inl l ↦ let p = ends m t i.0 l in (seq (more p.0 ms), to_member m ms p.0 p.1, done_two (done p.0) (all_done ms) p.2 a.0, inl p.3)
      | inr c ↦ let p = finish m i.0 in (seq (more p.0 ms), to_member m ms p.0 p.1, done_two (done p.0) (all_done ms) p.2 a.0, inr (p.2, c))
    ]
    | inr b ↦ let p = finish m i.0 in let q = ends_seq ms t i.1 b in
        (q.0, leads_on (to_member m ms p.0 p.1) (to_rest p.0 ms p.2 q.0 q.1), q.2, q.3)
  ]

  ends_or : (ms : Terms) (t : Token) → AreModels ms → LastSome ms t → Ends (or ms) t
  ends_or none t i h = absurd h
  ends_or (more m ms) t i h = elim h [
    | inl a ↦ let p = ends m t i.0 a in (p.0, to_this m ms p.0 p.1, p.2, p.3)
    | inr b ↦ let p = ends_or ms t i.1 b in (p.0, to_other m ms p.0 p.1, p.2, p.3)
  ]

  ends_among : (ms : Terms) (t : Token) → AreModels ms → LastAmong ms t → EndsAmong ms t
  ends_among none t i h = absurd h
  ends_among (more m ms) t i h = elim h [
    | inl a ↦ (m, ms, here, inl (ends m t i.0 a))
    | inr b ↦ elim b [ inl c ↦ (m, ms, here, inr c) | inr c ↦ further m ms t (ends_among ms t i.1 c) ]
  ]

-- a member that ends so
ends_some : (ms : Terms) (t : Token) → AreModels ms → LastSome ms t → (m : Term) × (others : Terms) × Pick ms m others × Ends m t
ends_some none t i h = absurd h
ends_some (more m ms) t i h = elim h [
  | inl a ↦ (m, ms, here, ends m t i.0 a)
  | inr b ↦ let p = ends_some ms t i.1 b in (p.0, more m p.1, there p.2, p.3)
]

-- a term that x goes to, in which both can come
abbrev Meet : Term → Token → Token → Type 0
Meet x a b = (r : Term) × Goes x r × Can r a × Can r b

-- the same for an AND group: in a member; behind a member and in another; at the start
data Among (ms : Terms) (a b : Token) : Type 0 where
  inside : (m : Term) (others : Terms) → Pick ms m others → Meet m a b → Among ms a b
  behind : (m : Term) (others : Terms) → Pick ms m others → Ends m a → CanSome others b → Among ms a b
  at_start : CanSome ms a → CanSome ms b → Among ms a b

among_further : (x : Term) (ms : Terms) (a b : Token) → Among ms a b → Among (more x ms) a b
among_further x ms a b (inside m o k e) = inside m (more x o) (there k) e
among_further x ms a b (behind m o k e c) = behind m (more x o) (there k) e (inr c)
among_further x ms a b (at_start c d) = at_start (inr c) (inr d)

pick_can : {ms : Terms} {m : Term} {others : Terms} (k : Pick ms m others) (t : Token) → Can m t → CanSome ms t
pick_can here t c = inl c
pick_can (there k) t c = inr (pick_can k t c)

meet_and : (ms : Terms) (a b : Token) → Among ms a b → Meet (and ms) a b
meet_and ms a b (inside m o k (r, inl e, c, d)) = (and ms, inl refl, pick_can k a (subst (λ z. Can z a) e c), pick_can k b (subst (λ z. Can z b) e d))
meet_and ms a b (inside m o k (r, inr l, c, d)) = (member r o, inr (begins k r l), inl c, inl d)
meet_and ms a b (behind m o k e c) = (member e.0 o, inr (begins k e.0 e.1), inl e.3, inr (e.2, c))
meet_and ms a b (at_start c d) = (and ms, inl refl, c, d)

meet_this : (m : Term) (ms : Terms) (a b : Token) → Meet m a b → Meet (or (more m ms)) a b
meet_this m ms a b (r, inl e, c, d) = (or (more m ms), inl refl, inl (subst (λ z. Can z a) e c), inl (subst (λ z. Can z b) e d))
meet_this m ms a b (r, inr l, c, d) = (r, inr (to_this m ms r l), c, d)

meet_other : (m : Term) (ms : Terms) (a b : Token) → Meet (or ms) a b → Meet (or (more m ms)) a b
meet_other m ms a b (r, inl e, c, d) = (or (more m ms), inl refl, inr (subst (λ z. Can z a) e c), inr (subst (λ z. Can z b) e d))
meet_other m ms a b (r, inr l, c, d) = (r, inr (to_other m ms r l), c, d)

meet_member : (m : Term) (ms : Terms) (a b : Token) → Meet m a b → Meet (seq (more m ms)) a b
meet_member m ms a b (r, inl e, c, d) = (seq (more r ms), inl (ap (λ z. seq (more z ms)) e), inl c, inl d)
meet_member m ms a b (r, inr l, c, d) = (seq (more r ms), inr (to_member m ms r l), inl c, inl d)

meet_rest : (m : Term) (ms : Terms) (a b : Token) → IsModel m → Meet (seq ms) a b → Meet (seq (more m ms)) a b
meet_rest m ms a b i (r, inl e, c, d) =
    let p = finish m i in
    (seq (more p.0 ms), inr (to_member m ms p.0 p.1), inr (p.2, subst (λ z. Can z a) e c), inr (p.2, subst (λ z. Can z b) e d))
meet_rest m ms a b i (r, inr l, c, d) =
    let p = finish m i in (r, inr (leads_on (to_member m ms p.0 p.1) (to_rest p.0 ms p.2 r l)), c, d)

meet_plus : (m : Term) (a b : Token) → Meet m a b → Meet (plus m) a b
meet_plus m a b (r, inl e, c, d) = (plus m, inl refl, subst (λ z. Can z a) e c, subst (λ z. Can z b) e d)
meet_plus m a b (r, inr l, c, d) = (round r m, inr (to_round m r l), inl c, inl d)

meet_rep : (m : Term) (a b : Token) → Meet m a b → Meet (rep m) a b
meet_rep m a b (r, inl e, c, d) = (rep m, inl refl, subst (λ z. Can z a) e c, subst (λ z. Can z b) e d)
meet_rep m a b (r, inr l, c, d) = (round r m, inr (to_rep m r l), inl c, inl d)

meet_opt : (m : Term) (a b : Token) → Meet m a b → Meet (opt m) a b
meet_opt m a b (r, inl e, c, d) = (opt m, inl refl, subst (λ z. Can z a) e c, subst (λ z. Can z b) e d)
meet_opt m a b (r, inr l, c, d) = (r, inr (to_opt m r l), c, d)

mutual
  meet : (x : Term) (a b : Token) → IsModel x → Pair x a b → Meet x a b
  meet empty a b i h = absurd h
  meet (name k n) a b i h = absurd h
  meet (pcdata k) a b i h = absurd h
  meet (seq none) a b i h = absurd i
  meet (seq (more m ms)) a b i h = meet_seq (more m ms) a b i h
  meet (or none) a b i h = absurd i
  meet (or (more m ms)) a b i h = meet_or (more m ms) a b i h
  meet (and none) a b i h = absurd i
  meet (and (more m none)) a b i h = absurd i
  meet (and (more m (more n ms))) a b i h = meet_and (more m (more n ms)) a b (meet_among (more m (more n ms)) a b (i.0, (i.1, i.2)) h)
  meet (opt m) a b i h = meet_opt m a b (meet m a b i h)
  meet (plus m) a b i h = elim h [
    | inl p ↦ meet_plus m a b (meet m a b i p)
    | inr p ↦ let e = ends m a i p.0 in (round e.0 m, inr (to_round m e.0 e.1), inl e.3, inr (e.2, p.1))
  ]
  meet (rep m) a b i h = elim h [
    | inl p ↦ meet_rep m a b (meet m a b i p)
    | inr p ↦ let e = ends m a i p.0 in (round e.0 m, inr (to_rep m e.0 e.1), inl e.3, inr (e.2, p.1))
  ]
  meet (member q left) a b i h = absurd i
  meet (round q m) a b i h = absurd i

  meet_seq : (ms : Terms) (a b : Token) → AreModels ms → PairInOrder ms a b → Meet (seq ms) a b
  meet_seq none a b i h = absurd h
  meet_seq (more m ms) a b i h = elim h [
    | inl p ↦ meet_member m ms a b (meet m a b i.0 p)
    | inr q ↦ elim q [
      | inl p ↦ meet_rest m ms a b i.0 (meet_seq ms a b i.1 p)
      | inr p ↦ elim p.0 [
        | inl l ↦ let e = ends m a i.0 l in (seq (more e.0 ms), inr (to_member m ms e.0 e.1), inl e.3, inr (e.2, p.1))
        | inr c ↦ (seq (more m ms), inl refl, inl c.1, inr (c.0, p.1))
      ]
    ]
  ]

  meet_or : (ms : Terms) (a b : Token) → AreModels ms → PairApart ms a b → Meet (or ms) a b
  meet_or none a b i h = absurd h
  meet_or (more m ms) a b i h = elim h [
    | inl p ↦ meet_this m ms a b (meet m a b i.0 p)
    | inr q ↦ elim q [ inl p ↦ meet_other m ms a b (meet_or ms a b i.1 p) | inr p ↦ (or (more m ms), inl refl, inl p.0, inr p.1) ]
  ]

  meet_among : (ms : Terms) (a b : Token) → AreModels ms → PairAmong ms a b → Among ms a b
  meet_among none a b i h = absurd h
  meet_among (more m ms) a b i h = elim h [
    | inl p ↦ inside m ms here (meet m a b i.0 p)
    | inr q ↦ elim q [
      | inl p ↦ among_further m ms a b (meet_among ms a b i.1 p)
      | inr s ↦ elim s [
        | inl p ↦ elim p.0 [ inl l ↦ behind m ms here (ends m a i.0 l) p.1 | inr c ↦ at_start (inl c) (inr p.1) ]
        | inr p ↦ let e = ends_some ms a i.1 p.0 in behind e.0 (more m e.1) (there e.2) e.3 (inl p.1)
      ]
    ]
  ]

reaches : {r s : Term} → Leads r s → Reaches r s
reaches (one {r} {s} t h) = (t ∷ [], (s, h, refl))
reaches (then {r} {s} t h k) = let p = reaches k in (t ∷ p.0, (s, h, p.1))

goes_reaches : (r s : Term) → Goes r s → Reaches r s
goes_reaches r s (inl e) = ([], e)
goes_reaches r s (inr l) = reaches l

-- a pair of one name makes the model ambiguous
pub exact : (x : Term) (a b : Token) → IsModel x → Pair x a b → a.label ≡ b.label → a.number ≢ b.number → IsAmbiguous x a b
exact x a b i p same apart =
    let m = meet x a b i p in
    record { at = m.0; reached = goes_reaches x m.0 m.1; first = next m.0 a m.2; second = next m.0 b m.3; same = same; apart = apart }
