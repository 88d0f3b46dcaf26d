-- When a content model is ambiguous (ISO 8879, 11.2.4.3).
use Rattle.std.specs.Prelude.{◌≡◌, ◌≢◌, List}
pub use Rattle.sgml_model.specs.Group.{IsModel, AreModels}
pub use Rattle.sgml_model.specs.Word.{After}
use Rattle.sgml_model.specs.Term.{Term, Token, Takes}

-- the token can come next
abbrev pub Next : Term → Token → Type 0
Next r t = (r' : Term) × Takes r t r'

-- the term can be reached
abbrev pub Reaches : Term → Term → Type 0
Reaches m r = (ts : List Token) × After m ts r

-- in a term that can be reached, both tokens can come next, and one name is theirs
pub record IsAmbiguous (m : Term) (a b : Token) : Type 0 where
  pub at : Term
  pub reached : Reaches m at
  pub first : Next at a
  pub second : Next at b
  pub same : a.label ≡ b.label
  pub apart : a.number ≢ b.number

-- in no term that can be reached can two tokens of one name come next
abbrev pub IsUnambiguous : Term → Type 0
IsUnambiguous m = (r : Term) → Reaches m r → (a b : Token) → Next r a → Next r b → a.label ≡ b.label → a.number ≡ b.number
