-- A model in which each name has one token is unambiguous.
use Rattle.std.proofs.Common.{◌≡◌, ◌≤◌, ℕ, inl, inr, List, [], ◌∷◌, ◌++◌, Option, Some, None, refl, sym, ap, ◌∙◌, subst, arith}
use Rattle.std.specs.List.{All}
use Rattle.std.proofs.lemmas.List.Elements.{All-head, All-tail}
use Rattle.sgml_model.proofs.Words.{words_of}
use Rattle.sgml_model.specs.Term.{Term, empty, name, pcdata, seq, or, and, opt, plus, rep, member, round, Terms, none, more, Token, Takes}
use Rattle.sgml_model.specs.Word.{After, HasToken, SomeHasToken}
use Rattle.sgml_hashes.specs.Hashes.{hash_of, times, AllDiffer}
use Rattle.sgml_hashes.proofs.Differing.{times-append, times_here}
use Rattle.sgml_ambiguity.specs.Ambiguity.{IsUnambiguous}
use Rattle.sgml_ambiguity.specs.Once.{EachNameOnce, hashes_in, hashes_of}

after_more : (m : Term) (ts : List Token) (r : Term) (t : Token) (r' : Term) → After m ts r → Takes r t r' → After m (ts ++ t ∷ []) r'
after_more m [] r t r' h k = (r', subst (λ x. Takes x t r') h k, refl)
after_more m (u ∷ ts) r t r' h k = (h.0, h.1, after_more h.0 ts r t r' h.2 k)

last_has : (P : Token → Type 0) (ts : List Token) (t : Token) → All P (ts ++ t ∷ []) → P t
last_has P [] t h = All-head P t [] h
last_has P (u ∷ ts) t h = last_has P ts t (All-tail P u (ts ++ t ∷ []) h)

-- a token that can come stands in the model
stands : (m : Term) (ts : List Token) (r : Term) (t : Token) (r' : Term) → After m ts r → Takes r t r' → HasToken m t
stands m ts r t r' h k = last_has (HasToken m) ts t (words_of m (ts ++ t ∷ []) r' (after_more m ts r t r' h k))

pub once_unambiguous : (m : Term) → EachNameOnce m → IsUnambiguous m
once_unambiguous m once r reached a b can_a can_b same =
    once a b (stands m reached.0 r a can_a.0 reached.1 can_a.1) (stands m reached.0 r b can_b.0 reached.1 can_b.1) same

-- the hash that stands for a token's name
abbrev hash_in : Option (List ℕ) → ℕ
hash_in None = hash_of []
hash_in (Some n) = hash_of n

of_leaf : (u t : Token) → t ≡ u → 1 ≤ times (hash_in t.label) (hash_in u.label ∷ [])
of_leaf u t is = subst (λ (v : Token). 1 ≤ times (hash_in v.label) (hash_in u.label ∷ [])) (sym is) (times_here (hash_in u.label) [])

-- the hash of a token's name is one of the term's
mutual
  counted : (x : Term) (t : Token) → HasToken x t → 1 ≤ times (hash_in t.label) (hashes_in x)
  counted empty t h = absurd h
  counted (name k n) t h = of_leaf (record { number = k; label = Some n }) t h
  counted (pcdata k) t h = of_leaf (record { number = k; label = None }) t h
  counted (seq ms) t h = counted_some ms t h
  counted (or ms) t h = counted_some ms t h
  counted (and ms) t h = counted_some ms t h
  counted (opt m) t h = counted m t h
  counted (plus m) t h = counted m t h
  counted (rep m) t h = counted m t h
  counted (member r left) t (inl h) = omega (arith, times-append (hash_in t.label) (hashes_of left) (hashes_in r), counted r t h)
  counted (member r left) t (inr h) = omega (arith, times-append (hash_in t.label) (hashes_of left) (hashes_in r), counted_some left t h)
  counted (round r m) t (inl h) = omega (arith, times-append (hash_in t.label) (hashes_in m) (hashes_in r), counted r t h)
  counted (round r m) t (inr h) = omega (arith, times-append (hash_in t.label) (hashes_in m) (hashes_in r), counted m t h)

  counted_some : (ms : Terms) (t : Token) → SomeHasToken ms t → 1 ≤ times (hash_in t.label) (hashes_of ms)
  counted_some none t h = absurd h
  counted_some (more m ms) t (inl h) = omega (arith, times-append (hash_in t.label) (hashes_of ms) (hashes_in m), counted m t h)
  counted_some (more m ms) t (inr h) = omega (arith, times-append (hash_in t.label) (hashes_of ms) (hashes_in m), counted_some ms t h)

-- two lists of different numbers
first_differ : (ns ms : List ℕ) → AllDiffer (ns ++ ms) → AllDiffer ns
first_differ ns ms d n = omega (arith, d n, times-append n ns ms)

second_differ : (ns ms : List ℕ) → AllDiffer (ns ++ ms) → AllDiffer ms
second_differ ns ms d n = omega (arith, d n, times-append n ns ms)

no_two : (ns ms : List ℕ) (a b : Token) → AllDiffer (ns ++ ms) → a.label ≡ b.label → 1 ≤ times (hash_in a.label) ns → 1 ≤ times (hash_in b.label) ms → ⊥
no_two ns ms a b d same f s =
    let both : times (hash_in a.label) ms ≡ times (hash_in b.label) ms = ap (λ (l : Option (List ℕ)). times (hash_in l) ms) same in
    omega (arith, d (hash_in a.label), times-append (hash_in a.label) ns ms, both, f, s)

same_number : (u a b : Token) → a ≡ u → b ≡ u → a.number ≡ b.number
same_number u a b p q = ap (λ (t : Token). t.number) (p ∙ sym q)

-- where the hashes differ, no two tokens have one name
mutual
  pub differing_once : (x : Term) → AllDiffer (hashes_in x) → EachNameOnce x
  differing_once empty d a b p q same = absurd p
  differing_once (name k n) d a b p q same = same_number (record { number = k; label = Some n }) a b p q
  differing_once (pcdata k) d a b p q same = same_number (record { number = k; label = None }) a b p q
  differing_once (seq ms) d a b p q same = differing_some ms d a b p q same
  differing_once (or ms) d a b p q same = differing_some ms d a b p q same
  differing_once (and ms) d a b p q same = differing_some ms d a b p q same
  differing_once (opt m) d a b p q same = differing_once m d a b p q same
  differing_once (plus m) d a b p q same = differing_once m d a b p q same
  differing_once (rep m) d a b p q same = differing_once m d a b p q same
  differing_once (member r left) d a b (inl p) (inl q) same = differing_once r (second_differ (hashes_of left) (hashes_in r) d) a b p q same
  differing_once (member r left) d a b (inl p) (inr q) same = absurd (no_two (hashes_of left) (hashes_in r) b a d (sym same) (counted_some left b q) (counted r a p))
  differing_once (member r left) d a b (inr p) (inl q) same = absurd (no_two (hashes_of left) (hashes_in r) a b d same (counted_some left a p) (counted r b q))
  differing_once (member r left) d a b (inr p) (inr q) same = differing_some left (first_differ (hashes_of left) (hashes_in r) d) a b p q same
  differing_once (round r m) d a b (inl p) (inl q) same = differing_once r (second_differ (hashes_in m) (hashes_in r) d) a b p q same
  differing_once (round r m) d a b (inl p) (inr q) same = absurd (no_two (hashes_in m) (hashes_in r) b a d (sym same) (counted m b q) (counted r a p))
  differing_once (round r m) d a b (inr p) (inl q) same = absurd (no_two (hashes_in m) (hashes_in r) a b d same (counted m a p) (counted r b q))
  differing_once (round r m) d a b (inr p) (inr q) same = differing_once m (first_differ (hashes_in m) (hashes_in r) d) a b p q same

  differing_some : (ms : Terms) → AllDiffer (hashes_of ms) → (a b : Token) → SomeHasToken ms a → SomeHasToken ms b → a.label ≡ b.label → a.number ≡ b.number
  differing_some none d a b p q same = absurd p
  differing_some (more m ms) d a b (inl p) (inl q) same = differing_once m (second_differ (hashes_of ms) (hashes_in m) d) a b p q same
  differing_some (more m ms) d a b (inl p) (inr q) same = absurd (no_two (hashes_of ms) (hashes_in m) b a d (sym same) (counted_some ms b q) (counted m a p))
  differing_some (more m ms) d a b (inr p) (inl q) same = absurd (no_two (hashes_of ms) (hashes_in m) a b d same (counted_some ms a p) (counted m b q))
  differing_some (more m ms) d a b (inr p) (inr q) same = differing_some ms (first_differ (hashes_of ms) (hashes_in m) d) a b p q same
