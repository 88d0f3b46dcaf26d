-- What holds of all terms.
use Rattle.std.specs.Prelude.{◌≡◌, ℕ, List, Some}
use Rattle.std.specs.List.{All}
use Rattle.sgml_model.specs.Term.{Token, Term, required}
use Rattle.sgml_model.specs.Left.{Leaves}
use Rattle.sgml_model.specs.Word.{After, HasToken}
use Rattle.sgml_model.specs.Group.{Sign, Spells, IsModel}
use Rattle.sgml_model.specs.Reading.{reading}

-- an element that is required can come
abbrev pub RequiredIsTaken : Type 0
RequiredIsTaken = (r : Term) (n : List ℕ) → required r ≡ Some n → (r' : Term) × Leaves r (Some n) r'

-- each token of a word stands in the model
abbrev pub WordsAreOfTheModel : Type 0
WordsAreOfTheModel = (m : Term) (word : List Token) (r : Term) → After m word r → All (HasToken m) word

-- what is read is spelled by the tokens, and is a content model
abbrev pub ReadIsSpelled : Type 0
ReadIsSpelled = (tokens : List Sign) (m : Term) → reading tokens ≡ Some m → Spells tokens m × IsModel m
