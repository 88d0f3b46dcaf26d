-- A step of an automaton leaves what the first token of the name leaves.
use Rattle.std.specs.Prelude.{MatchBool, is_some}
use Rattle.std.proofs.Common.{◌≡◌, ℕ, Bool, true, false, List, [], ◌∷◌, ◌++◌, Option, Some, None, refl, sym, ap, ◌∙◌, subst, unwrap_or, arith}
use Rattle.sgml_automaton.specs.model.Term.{Term, Token, Takes}
use Rattle.sgml_automaton.specs.model.Left.{Leaves}
use Rattle.sgml_automaton.specs.model.Choice.{left_by}
use Rattle.sgml_automaton.specs.model.Group.{IsModel, Numbered}
use Rattle.sgml_automaton.specs.model.Word.{After}
use Rattle.sgml_automaton.proofs.model.Taken.{taken, never}
use Rattle.sgml_automaton.specs.ambiguity.Ambiguity.{Reaches}
use Rattle.sgml_automaton.specs.Position.{bits_of, room, at, next_by}
use Rattle.sgml_automaton.specs.Moved.{moved_l}
use Rattle.sgml_automaton.specs.Automaton.{whole_of, term_of, term_at_last, IsPlaced}
use Rattle.sgml_automaton.specs.declared.state.ModelState.{ModelState}
use Rattle.sgml_automaton.specs.declared.automaton.Automaton.{Automaton}
use Rattle.sgml_automaton.proofs.Bits.{enter_at, at_agree}
use Rattle.sgml_automaton.proofs.Steps.{go_at}
use Rattle.sgml_automaton.proofs.Lists.{step_taken, step_refused, takes_is}
use Rattle.sgml_theory_reading.specs.Context.{token_left}

-- one token leaves one term
one-left : (x : Term) (z : ℕ) → IsModel x → Numbered x 0 z → (last : Option ℕ) (bits : List Bool) → IsPlaced x last → (t : Token) (r s : Term) →
    Takes (term_at_last x last bits) t r → Takes (term_at_last x last bits) t s → r ≡ s
one-left x z i n None bits p t r s a b =
    enter_at x t r 0 z i n a 0 (bits_of bits) ∙ sym (enter_at x t s 0 z i n b 0 (bits_of bits))
one-left x z i n (Some k) bits p t r s a b =
    go_at x 0 z 0 k (bits_of bits) t r i n p a ∙ sym (go_at x 0 z 0 k (bits_of bits) t s i n p b)

-- in an unambiguous model a name leaves one term
left-found : (a : Automaton) (s : ModelState) (l : Option (List ℕ)) (r : Term) (o : Option Term) → IsPlaced (whole_of a) s.last → Reaches (whole_of a) (term_of a s) →
    left_by (term_of a s) l ≡ o → Leaves (term_of a s) l r → o ≡ Some r
left-found a s l r None p q e t = absurd (never (term_of a s) l e t.0 r t.1)
left-found a s l r (Some r') p q e t =
    let u = taken (term_of a s) l r' e in
    let one : t.0 ≡ u.0 = a.unambiguous (term_of a s) q (record { number = t.0; label = l }) (record { number = u.0; label = l }) (r, t.1) (r', u.1) refl in
    let v : Takes (term_of a s) (record { number = t.0; label = l }) r' = subst (λ (k : ℕ). Takes (term_of a s) (record { number = k; label = l }) r') (sym one) u.1 in
    ap Some (one-left (whole_of a) a.model.in_order.0 a.model.well_formed a.model.in_order.1 s.last s.bits.items p (record { number = t.0; label = l }) r' r v t.1)

pub left-is : (a : Automaton) (s : ModelState) (l : Option (List ℕ)) (r : Term) → IsPlaced (whole_of a) s.last → Reaches (whole_of a) (term_of a s) → Leaves (term_of a s) l r → left_by (term_of a s) l ≡ Some r
left-is a s l r p q t = left-found a s l r (left_by (term_of a s) l) p q refl t

left-none : (r : Term) (l : Option (List ℕ)) (o : Option Term) → left_by r l ≡ o → ((r' : Term) → Leaves r l r' → ⊥) → o ≡ None
left-none r l None e n = refl
left-none r l (Some r') e n = let u = taken r l r' e in absurd (n r' u)

-- whether a token of the name can come
pub takes-left : (r : Term) (l : Option (List ℕ)) (b : Bool) → MatchBool b ((r' : Term) × Leaves r l r') ((r' : Term) → Leaves r l r' → ⊥) → b ≡ is_some (left_by r l)
takes-left r l true m = taken-or-not (left_by r l) refl
  where
    taken-or-not : (o : Option Term) → left_by r l ≡ o → true ≡ is_some o
    taken-or-not (Some r') e = refl
    taken-or-not None e = absurd (never r l e m.1.0 m.0 m.1.1)
takes-left r l false m = sym (ap is_some (left-none r l (left_by r l) refl m))

after-more : (x : Term) (ts : List Token) (r s : Term) (t : Token) → After x ts r → Takes r t s → After x (ts ++ t ∷ []) s
after-more x [] r s t a b = (s, subst (λ (y : Term). Takes y t s) a b, refl)
after-more x (u ∷ ts) r s t a b = (a.0, a.1, after-more a.0 ts r s t a.2 b)

pub reaches-more : (x r s : Term) (l : Option (List ℕ)) → Reaches x r → Leaves r l s → Reaches x s
reaches-more x r s l a b = (a.0 ++ record { number = b.0; label = l } ∷ [], after-more x a.0 r s (record { number = b.0; label = l }) a.1 b.1)

-- what is left after a token that was found
pub found-left : (a : Automaton) (s : ModelState) (l : Option (List ℕ)) (r : Term) → IsPlaced (whole_of a) s.last → Reaches (whole_of a) (term_of a s) → Leaves (term_of a s) l r → r ≡ token_left (term_of a s) l
found-left a s l r p q m = sym (ap (λ o. unwrap_or o (term_of a s)) (left-is a s l r p q m))

-- and where none was
pub missed-left : (r : Term) (l : Option (List ℕ)) → next_by r l ≡ None → r ≡ token_left r l
missed-left r l e = sym (ap (λ o. unwrap_or o r) (left-none r l (left_by r l) refl (step_refused r l e)))

-- a token of the name is found where one can come
pub next-left : (r : Term) (l : Option (List ℕ)) → is_some (next_by r l) ≡ is_some (left_by r l)
next-left r l = takes-left r l (is_some (next_by r l)) (takes_is r l)

-- without AND groups the token alone determines what is left
pub found-at : (a : Automaton) (s : ModelState) (l : Option (List ℕ)) (k : ℕ) (r : Term) → IsPlaced (whole_of a) s.last → Reaches (whole_of a) (term_of a s) →
    next_by (term_of a s) l ≡ Some k → Leaves (term_of a s) l r → room (whole_of a) ≡ 0 → r ≡ at (whole_of a) 0 k (λ i. false)
found-at a s l k r p q e m none =
    let x = whole_of a in
    let t = step_taken x a.model.in_order.0 a.model.well_formed a.model.in_order.1 s.last l s.bits.items (omega (arith, none)) p k e in
    let bits = bits_of (moved_l x s.last k l s.bits.items) in
    let both : Some r ≡ Some (at x 0 k bits) = sym (left-is a s l r p q m) ∙ left-is a s l (at x 0 k bits) p q (k, t.0) in
    let one : r ≡ at x 0 k bits = cc in
    one ∙ at_agree x 0 k bits (λ i. false) (λ i low high. absurd (omega (arith, none)))
