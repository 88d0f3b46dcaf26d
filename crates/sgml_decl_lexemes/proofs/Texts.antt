-- The texts of all entities but one.
use Rattle.std.proofs.Common.{◌≡◌, ℕ, Bool, true, false, List, [], ◌∷◌, None, refl, sym, ◌∙◌, ◌==◌, eqb-true}
use Rattle.sgml_entity.specs.Texts.{text_of}
use Rattle.sgml_decl_lexemes.specs.Sources.{without}

here : (e : ℕ) (t : ℕ × List ℕ) (ts : List (ℕ × List ℕ)) (b : Bool) → (e == t.0) ≡ b → text_of (without e ts) e ≡ None → text_of (without e (t ∷ ts)) e ≡ None
here e t ts true is again = simp is again
here e t ts false is again = simp is again

-- that one has none
pub without-same : (e : ℕ) (ts : List (ℕ × List ℕ)) → text_of (without e ts) e ≡ None
without-same e [] = refl
without-same e (t ∷ ts) = here e t ts (e == t.0) refl (without-same e ts)

there : (e n : ℕ) (t : ℕ × List ℕ) (ts : List (ℕ × List ℕ)) (b c : Bool) → (e == t.0) ≡ b → (n == t.0) ≡ c → (n ≡ e → ⊥)
    → text_of (without e ts) n ≡ text_of ts n → text_of (without e (t ∷ ts)) n ≡ text_of (t ∷ ts) n
there e n t ts true true is at other again =
    absurd (other (eqb-true n t.0 at ∙ sym (eqb-true e t.0 is)))
there e n t ts true false is at other again = simp (is, at) again
there e n t ts false true is at other again = simp (is, at)
there e n t ts false false is at other again = simp (is, at) again

-- the others have theirs
pub without-other : (e n : ℕ) (ts : List (ℕ × List ℕ)) → (n ≡ e → ⊥) → text_of (without e ts) n ≡ text_of ts n
without-other e n [] other = refl
without-other e n (t ∷ ts) other = there e n t ts (e == t.0) (n == t.0) refl refl other (without-other e n ts other)
