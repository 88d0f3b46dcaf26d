-- What holds of all content models.
use Rattle.std.specs.Prelude.{◌≡◌, ◌↔◌, ℕ, true, false, List, [], ◌∷◌, Some}
use Rattle.std.specs.Option.{is_some}
use Rattle.sgml_model.specs.Term.{Term, name, seq, opt, rep, none, more, Token}
use Rattle.sgml_model.specs.Group.{IsModel, IsNumbered}
use Rattle.sgml_ambiguity.specs.Ambiguity.{IsAmbiguous, IsUnambiguous}
use Rattle.sgml_ambiguity.specs.Scan.{token, lasts, clash}

-- some two tokens of one name can both come
abbrev pub HasAmbiguity : Term → Type 0
HasAmbiguity m = (a : Token) × (b : Token) × IsAmbiguous m a b

-- a pair is found exactly where a model is ambiguous, and none exactly where it isn't
abbrev pub PairWhereAmbiguous : Type 0
PairWhereAmbiguous = (m : Term) → IsModel m → IsNumbered m →
    ((is_some (clash m) ≡ true) ↔ HasAmbiguity m) × ((is_some (clash m) ≡ false) ↔ IsUnambiguous m)

-- after the last token of (A?,B?)* each of the two can come, and stands in the list once
abbrev pub LastTokensOnce : Type 0
LastTokensOnce = let a : List ℕ = 65 ∷ [] in let b : List ℕ = 66 ∷ [] in
    lasts (rep (seq (more (opt (name 0 a)) (more (opt (name 1 b)) none)))) ≡ token 1 (Some b) ∷ token 0 (Some a) ∷ []
