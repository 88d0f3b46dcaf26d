-- What a last token says of the term that is left.
use Rattle.std.specs.Prelude.{◌≡◌, ℕ, false, List, [], ◌∷◌, ◌++◌}
use Rattle.sgml_model.specs.Term.{Term, Token}
use Rattle.sgml_model.specs.Group.{IsModel, Numbered}
use Rattle.sgml_model.specs.Word.{After}
use Rattle.sgml_automaton.specs.Position.{Bits, room, at}

-- a term that is reached is that of its last token and of some bits
abbrev pub LastTokenAndBits : Type 0
LastTokenAndBits =
    (x : Term) (z : ℕ) → IsModel x → Numbered x 0 z →
    (word : List Token) (t : Token) (r : Term) → After x (word ++ t ∷ []) r → (b : Bits) × (r ≡ at x 0 t.number b)

-- and where no group is an AND group, of its last token alone
abbrev pub LastTokenAlone : Type 0
LastTokenAlone =
    (x : Term) (z : ℕ) → IsModel x → Numbered x 0 z → room x ≡ 0 →
    (word : List Token) (t : Token) (r : Term) → After x (word ++ t ∷ []) r → r ≡ at x 0 t.number (λ i. false)
