-- A model is unambiguous in at most one way.
use Rattle.std.specs.Coded.{Π_prop, Coded-set, coded_ℕ}
use Rattle.sgml_model.specs.Term.{Term}
use Rattle.sgml_ambiguity.specs.Ambiguity.{IsUnambiguous}

pub IsUnambiguous-prop : (m : Term) → IsProp (IsUnambiguous m)
IsUnambiguous-prop m =
    Π_prop (λ r. Π_prop (λ h. Π_prop (λ a. Π_prop (λ b. Π_prop (λ f. Π_prop (λ g. Π_prop (λ e.
    Coded-set coded_ℕ a.number b.number)))))))
