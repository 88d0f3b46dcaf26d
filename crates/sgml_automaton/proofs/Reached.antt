-- Each term that is reached is that of its last token and of some bits.
use Rattle.std.proofs.Common.{◌≡◌, ℕ, true, false, List, [], ◌∷◌, ◌++◌, ◌∙◌, subst, arith}
use Rattle.sgml_model.specs.Term.{Term, Token}
use Rattle.sgml_model.specs.Group.{IsModel, Numbered}
use Rattle.sgml_model.specs.Word.{After}
use Rattle.sgml_ambiguity.proofs.Sets.{can}
use Rattle.sgml_automaton.specs.Position.{Bits, room, at, has}
use Rattle.sgml_automaton.proofs.Bits.{at_agree, enter, enter_at, can_has}
use Rattle.sgml_automaton.proofs.Steps.{go, go_at, at_has}

-- behind a token that was taken
behind : (x : Term) (z k : ℕ) (b : Bits) → IsModel x → Numbered x 0 z → has x k ≡ true → (word : List Token) (t : Token) (r : Term) →
    After (at x 0 k b) (word ++ t ∷ []) r → (c : Bits) × (r ≡ at x 0 t.number c)
behind x z k b i n h [] t r a =
    let e = go_at x 0 z 0 k b t a.0 i n h a.1 in (go x 0 k t b, a.2 ∙ e)
behind x z k b i n h (u ∷ word) t r a =
    let e = go_at x 0 z 0 k b u a.0 i n h a.1 in
    behind x z u.number (go x 0 k u b) i n (at_has x 0 k b u i (can (at x 0 k b) u a.0 a.1)) word t r (subst (λ s. After s (word ++ t ∷ []) r) e a.2)

pub last_and_bits : (x : Term) (z : ℕ) → IsModel x → Numbered x 0 z → (word : List Token) (t : Token) (r : Term) → After x (word ++ t ∷ []) r → (b : Bits) × (r ≡ at x 0 t.number b)
last_and_bits x z i n [] t r a =
    let none : Bits = λ q. false in
    (enter x 0 t.number none, a.2 ∙ enter_at x t a.0 0 z i n a.1 0 none)
last_and_bits x z i n (u ∷ word) t r a =
    let none : Bits = λ q. false in
    let e = enter_at x u a.0 0 z i n a.1 0 none in
    behind x z u.number (enter x 0 u.number none) i n (can_has x u i (can x u a.0 a.1)) word t r (subst (λ s. After s (word ++ t ∷ []) r) e a.2)

pub last_alone : (x : Term) (z : ℕ) → IsModel x → Numbered x 0 z → room x ≡ 0 → (word : List Token) (t : Token) (r : Term) → After x (word ++ t ∷ []) r → r ≡ at x 0 t.number (λ i. false)
last_alone x z i n none word t r a =
    let e = last_and_bits x z i n word t r a in
    e.1 ∙ at_agree x 0 t.number e.0 (λ q. false) (λ q low high. absurd (omega (arith, none)))
