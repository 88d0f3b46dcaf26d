-- Two tokens that can come in one reached term are one token or a pair.
use Rattle.std.proofs.Common.{◌≡◌, Bool, true, false, ◌&&◌, ◌⊎◌, inl, inr, refl, sym, ap, ◌∙◌, subst}
use Rattle.sgml_model.specs.Term.{Term, empty, name, pcdata, seq, or, and, opt, plus, rep, member, round, Terms, none, more, Token, done, all_done}
use Rattle.sgml_ambiguity.specs.Ambiguity.{IsModel, AreModels, Reaches, IsUnambiguous}
use Rattle.sgml_ambiguity.proofs.Sets.{Can, CanInOrder, CanSome, Last, LastInOrder, LastSome, LastAmong, Pair, PairInOrder, PairApart, PairAmong, can}
use Rattle.sgml_ambiguity.proofs.Rests.{Some_of, no_more, with, without, Rest, of_name, of_pcdata, of_seq, of_or, of_and, of_opt, of_plus, of_rep, RestInOrder, first, later, RestOfSome, this, other, RestMember, begun, kept, gone, others_left, models, models_seq, models_or, reached}

abbrev Both : (Token → Token → Type 0) → Token → Token → Type 0
Both P a b = (a ≡ b) ⊎ (P a b ⊎ P b a)

both_map : (P Q : Token → Token → Type 0) (a b : Token) → ((x y : Token) → P x y → Q x y) → Both P a b → Both Q a b
both_map P Q a b f (inl e) = inl e
both_map P Q a b f (inr (inl p)) = inr (inl (f a b p))
both_map P Q a b f (inr (inr p)) = inr (inr (f b a p))

and_parts : (x y : Bool) → (x && y) ≡ true → (x ≡ true) × (y ≡ true)
and_parts true y h = (refl, h)
and_parts false y h = cc

-- two that can come first
mutual
  both_first : (x : Term) (a b : Token) → IsModel x → Can x a → Can x b → Both (Pair x) a b
  both_first empty a b i h k = absurd h
  both_first (name j n) a b i h k = inl (h ∙ sym k)
  both_first (pcdata j) a b i h k = inl (h ∙ sym k)
  both_first (seq none) a b i h k = absurd i
  both_first (seq (more m ms)) a b i h k = both_in_order (more m ms) a b i h k
  both_first (or none) a b i h k = absurd i
  both_first (or (more m ms)) a b i h k = both_apart (more m ms) a b i h k
  both_first (and none) a b i h k = absurd i
  both_first (and (more m none)) a b i h k = absurd i
  both_first (and (more m (more n ms))) a b i h k = both_among (more m (more n ms)) a b (i.0, (i.1, i.2)) h k
  both_first (opt m) a b i h k = both_first m a b i h k
  both_first (plus m) a b i h k = both_map (Pair m) (Pair (plus m)) a b (λ x y p. inl p) (both_first m a b i h k)
  both_first (rep m) a b i h k = both_map (Pair m) (Pair (rep m)) a b (λ x y p. inl p) (both_first m a b i h k)
  both_first (member q left) a b i h k = absurd i
  both_first (round q m) a b i h k = absurd i

  both_in_order : (ms : Terms) (a b : Token) → AreModels ms → CanInOrder ms a → CanInOrder ms b → Both (PairInOrder ms) a b
  both_in_order none a b i h k = absurd h
  both_in_order (more m ms) a b i (inl h) (inl k) = both_map (Pair m) (PairInOrder (more m ms)) a b (λ x y p. inl p) (both_first m a b i.0 h k)
  both_in_order (more m ms) a b i (inl h) (inr k) = inr (inl (inr (inr (inr (k.0, h), k.1))))
  both_in_order (more m ms) a b i (inr h) (inl k) = inr (inr (inr (inr (inr (h.0, k), h.1))))
  both_in_order (more m ms) a b i (inr h) (inr k) = both_map (PairInOrder ms) (PairInOrder (more m ms)) a b (λ x y p. inr (inl p)) (both_in_order ms a b i.1 h.1 k.1)

  both_apart : (ms : Terms) (a b : Token) → AreModels ms → CanSome ms a → CanSome ms b → Both (PairApart ms) a b
  both_apart none a b i h k = absurd h
  both_apart (more m ms) a b i (inl h) (inl k) = both_map (Pair m) (PairApart (more m ms)) a b (λ x y p. inl p) (both_first m a b i.0 h k)
  both_apart (more m ms) a b i (inl h) (inr k) = inr (inl (inr (inr (h, k))))
  both_apart (more m ms) a b i (inr h) (inl k) = inr (inr (inr (inr (k, h))))
  both_apart (more m ms) a b i (inr h) (inr k) = both_map (PairApart ms) (PairApart (more m ms)) a b (λ x y p. inr (inl p)) (both_apart ms a b i.1 h k)

  both_among : (ms : Terms) (a b : Token) → AreModels ms → CanSome ms a → CanSome ms b → Both (PairAmong ms) a b
  both_among none a b i h k = absurd h
  both_among (more m ms) a b i (inl h) (inl k) = both_map (Pair m) (PairAmong (more m ms)) a b (λ x y p. inl p) (both_first m a b i.0 h k)
  both_among (more m ms) a b i (inl h) (inr k) = inr (inl (inr (inr (inl (inr h, k)))))
  both_among (more m ms) a b i (inr h) (inl k) = inr (inr (inr (inr (inl (inr k, h)))))
  both_among (more m ms) a b i (inr h) (inr k) = both_map (PairAmong ms) (PairAmong (more m ms)) a b (λ x y p. inr (inl p)) (both_among ms a b i.1 h k)

can_of : {left ms : Terms} (s : Some_of left ms) (t : Token) → CanSome left t → CanSome ms t
can_of no_more t h = h
can_of (with s) t h = elim h [ inl a ↦ inl a | inr b ↦ inr (can_of s t b) ]
can_of (without s) t h = inr (can_of s t h)

last_of : {left ms : Terms} (s : Some_of left ms) (t : Token) → all_done left ≡ true → CanSome left t → LastAmong ms t
last_of no_more t d h = absurd h
last_of (with {m} {left} {ms} s) t d h =
    let e = and_parts (done m) (all_done left) d in
    elim h [ inl a ↦ inr (inl (e.0, a)) | inr b ↦ inr (inr (last_of s t e.1 b)) ]
last_of (without s) t d h = inr (inr (last_of s t d h))

-- what can come in a rest that is done
mutual
  last_rest : {x r : Term} (h : Rest x r) (t : Token) → done r ≡ true → Can r t → Last x t
  last_rest of_name t d k = k
  last_rest of_pcdata t d k = k
  last_rest (of_seq h) t d k = last_rest_in_order h t d k
  last_rest (of_or h) t d k = last_rest_some h t d k
  last_rest (of_and {ms} {m'} {left} h) t d k =
      let e = and_parts (done m') (all_done left) d in
      last_rest_member h t e.0 e.1 (elim k [ inl a ↦ inl a | inr b ↦ inr b.1 ])
  last_rest (of_opt h) t d k = last_rest h t d k
  last_rest (of_plus h) t d k = elim k [ inl a ↦ inl (last_rest h t d a) | inr b ↦ inr b.1 ]
  last_rest (of_rep h) t d k = elim k [ inl a ↦ inl (last_rest h t d a) | inr b ↦ inr b.1 ]

  last_rest_in_order : {ms : Terms} {r : Term} (h : RestInOrder ms r) (t : Token) → done r ≡ true → Can r t → LastInOrder ms t
  last_rest_in_order (first {m} {m'} {ms} h) t d k =
      let e = and_parts (done m') (all_done ms) d in
      elim k [ inl a ↦ inl (e.1, inl (last_rest h t e.0 a)) | inr b ↦ inl (e.1, inr b.1) ]
  last_rest_in_order (later h) t d k = inr (last_rest_in_order h t d k)

  last_rest_some : {ms : Terms} {r : Term} (h : RestOfSome ms r) (t : Token) → done r ≡ true → Can r t → LastSome ms t
  last_rest_some (this h) t d k = inl (last_rest h t d k)
  last_rest_some (other h) t d k = inr (last_rest_some h t d k)

  last_rest_member : {ms : Terms} {m' : Term} {left : Terms} (h : RestMember ms m' left) (t : Token) → done m' ≡ true → all_done left ≡ true → Can m' t ⊎ CanSome left t → LastAmong ms t
  last_rest_member (begun h s) t d e k = elim k [ inl a ↦ inl (last_rest h t d a) | inr b ↦ inr (inr (last_of s t e b)) ]
  last_rest_member (kept {m} {m'} {left} h) t d e k =
      let f = and_parts (done m) (all_done left) e in
      elim k [
        | inl a ↦ inr (inr (last_rest_member h t d f.1 (inl a)))
        | inr b ↦ elim b [ inl c ↦ inr (inl (f.0, c)) | inr c ↦ inr (inr (last_rest_member h t d f.1 (inr c))) ]
      ]
  last_rest_member (gone h) t d e k = inr (inr (last_rest_member h t d e k))

-- what can come after the begun member, where it is done
last_begun : {ms : Terms} {m' : Term} {left : Terms} (h : RestMember ms m' left) (t : Token) → done m' ≡ true → Can m' t → LastSome ms t
last_begun (begun h s) t d k = inl (last_rest h t d k)
last_begun (kept h) t d k = inr (last_begun h t d k)
last_begun (gone h) t d k = inr (last_begun h t d k)

-- two that can come in a round
both_round : (m m' : Term) (h : Rest m m') (a b : Token) → IsModel m → (Can m' a → Can m' b → Both (Pair m) a b) → Can (round m' m) a → Can (round m' m) b → Both (Pair (plus m)) a b
both_round m m' h a b i ih (inl k) (inl l) = both_map (Pair m) (Pair (plus m)) a b (λ x y p. inl p) (ih k l)
both_round m m' h a b i ih (inl k) (inr l) = inr (inl (inr (last_rest h a l.0 k, l.1)))
both_round m m' h a b i ih (inr k) (inl l) = inr (inr (inr (last_rest h b k.0 l, k.1)))
both_round m m' h a b i ih (inr k) (inr l) = both_map (Pair m) (Pair (plus m)) a b (λ x y p. inl p) (both_first m a b i k.1 l.1)

-- a member m that is still left, beside the others
both_kept : (m m' : Term) (left ms : Terms) (h : RestMember ms m' left) (a b : Token) → AreModels (more m ms) →
    (Can (member m' left) a → Can (member m' left) b → Both (PairAmong ms) a b) →
    Can (member m' left) a ⊎ ((done m' ≡ true) × Can m a) → Can (member m' left) b ⊎ ((done m' ≡ true) × Can m b) → Both (PairAmong (more m ms)) a b
both_kept m m' left ms h a b i ih (inl k) (inl l) = both_map (PairAmong ms) (PairAmong (more m ms)) a b (λ x y p. inr (inl p)) (ih k l)
both_kept m m' left ms h a b i ih (inl (inl k)) (inr l) = inr (inl (inr (inr (inr (last_begun h a l.0 k, l.1)))))
both_kept m m' left ms h a b i ih (inl (inr k)) (inr l) = inr (inr (inr (inr (inl (inr l.1, can_of (others_left h) a k.1)))))
both_kept m m' left ms h a b i ih (inr k) (inl (inl l)) = inr (inr (inr (inr (inr (last_begun h b k.0 l, k.1)))))
both_kept m m' left ms h a b i ih (inr k) (inl (inr l)) = inr (inl (inr (inr (inl (inr k.1, can_of (others_left h) b l.1)))))
both_kept m m' left ms h a b i ih (inr k) (inr l) = both_map (Pair m) (PairAmong (more m ms)) a b (λ x y p. inl p) (both_first m a b i.0 k.1 l.1)

apart : (m' m : Term) (left : Terms) (t : Token) → Can (member m' (more m left)) t → Can (member m' left) t ⊎ ((done m' ≡ true) × Can m t)
apart m' m left t (inl k) = inl (inl k)
apart m' m left t (inr k) = elim k.1 [ inl c ↦ inr (k.0, c) | inr c ↦ inl (inr (k.0, c)) ]

-- two that can come in a rest
mutual
  both_rest : {x r : Term} (h : Rest x r) (a b : Token) → IsModel x → Can r a → Can r b → Both (Pair x) a b
  both_rest of_name a b i k l = absurd k
  both_rest of_pcdata a b i k l = inl (k ∙ sym l)
  both_rest (of_seq {ms} h) a b i k l = both_rest_in_order h a b (models_seq ms i) k l
  both_rest (of_or {ms} h) a b i k l = both_rest_some h a b (models_or ms i) k l
  both_rest (of_and {ms} h) a b i k l = both_rest_member h a b (models ms i) k l
  both_rest (of_opt h) a b i k l = both_rest h a b i k l
  both_rest (of_plus {m} {m'} h) a b i k l = both_round m m' h a b i (both_rest h a b i) k l
  both_rest (of_rep {m} {m'} h) a b i k l = both_round m m' h a b i (both_rest h a b i) k l

  both_rest_in_order : {ms : Terms} {r : Term} (h : RestInOrder ms r) (a b : Token) → AreModels ms → Can r a → Can r b → Both (PairInOrder ms) a b
  both_rest_in_order (first {m} {m'} {ms} h) a b i (inl k) (inl l) = both_map (Pair m) (PairInOrder (more m ms)) a b (λ x y p. inl p) (both_rest h a b i.0 k l)
  both_rest_in_order (first {m} {m'} {ms} h) a b i (inl k) (inr l) = inr (inl (inr (inr (inl (last_rest h a l.0 k), l.1))))
  both_rest_in_order (first {m} {m'} {ms} h) a b i (inr k) (inl l) = inr (inr (inr (inr (inl (last_rest h b k.0 l), k.1))))
  both_rest_in_order (first {m} {m'} {ms} h) a b i (inr k) (inr l) = both_map (PairInOrder ms) (PairInOrder (more m ms)) a b (λ x y p. inr (inl p)) (both_in_order ms a b i.1 k.1 l.1)
  both_rest_in_order (later {m} {ms} h) a b i k l = both_map (PairInOrder ms) (PairInOrder (more m ms)) a b (λ x y p. inr (inl p)) (both_rest_in_order h a b i.1 k l)

  both_rest_some : {ms : Terms} {r : Term} (h : RestOfSome ms r) (a b : Token) → AreModels ms → Can r a → Can r b → Both (PairApart ms) a b
  both_rest_some (this {m} {r} {ms} h) a b i k l = both_map (Pair m) (PairApart (more m ms)) a b (λ x y p. inl p) (both_rest h a b i.0 k l)
  both_rest_some (other {m} {r} {ms} h) a b i k l = both_map (PairApart ms) (PairApart (more m ms)) a b (λ x y p. inr (inl p)) (both_rest_some h a b i.1 k l)

  both_rest_member : {ms : Terms} {m' : Term} {left : Terms} (h : RestMember ms m' left) (a b : Token) → AreModels ms → Can (member m' left) a → Can (member m' left) b → Both (PairAmong ms) a b
  both_rest_member (begun {m} {m'} {left} {ms} h s) a b i (inl k) (inl l) = both_map (Pair m) (PairAmong (more m ms)) a b (λ x y p. inl p) (both_rest h a b i.0 k l)
  both_rest_member (begun {m} {m'} {left} {ms} h s) a b i (inl k) (inr l) = inr (inl (inr (inr (inl (inl (last_rest h a l.0 k), can_of s b l.1)))))
  both_rest_member (begun {m} {m'} {left} {ms} h s) a b i (inr k) (inl l) = inr (inr (inr (inr (inl (inl (last_rest h b k.0 l), can_of s a k.1)))))
  both_rest_member (begun {m} {m'} {left} {ms} h s) a b i (inr k) (inr l) = both_map (PairAmong ms) (PairAmong (more m ms)) a b (λ x y p. inr (inl p)) (both_among ms a b i.1 (can_of s a k.1) (can_of s b l.1))
  both_rest_member (kept {m} {m'} {left} {ms} h) a b i k l =
      both_kept m m' left ms h a b i (both_rest_member h a b i.1) (apart m' m left a k) (apart m' m left b l)
  both_rest_member (gone {m} {m'} {left} {ms} h) a b i k l = both_map (PairAmong ms) (PairAmong (more m ms)) a b (λ x y p. inr (inl p)) (both_rest_member h a b i.1 k l)

-- two that can come in a reached term
pub both_reached : (x r : Term) (a b : Token) → IsModel x → Reaches x r → Can r a → Can r b → Both (Pair x) a b
both_reached x r a b i h k l = elim (reached x r i h) [
  | inl e ↦ both_first x a b i (subst (λ z. Can z a) e k) (subst (λ z. Can z b) e l)
  | inr g ↦ both_rest g a b i k l
]

-- where no pair has one name, the model is unambiguous
pub sound : (x : Term) → IsModel x → ((a b : Token) → Pair x a b → a.label ≡ b.label → a.number ≡ b.number) → IsUnambiguous x
sound x i clear r h a b k l same = elim (both_reached x r a b i h (can r a k.0 k.1) (can r b l.0 l.1)) [
  | inl e ↦ ap (λ (t : Token). t.number) e
  | inr p ↦ elim p [ inl q ↦ clear a b q same | inr q ↦ sym (clear b a q (sym same)) ]
]
