-- What holds of each list of element declarations.
use Rattle.std.specs.Prelude.{◌≡◌, ℕ, true, false, List, [], ◌∷◌, ◌++◌, Some, slice_get}
use Rattle.sgml_names.specs.Lists.{has, repeats}
use Rattle.sgml_decl_forms.specs.declared.element.ElementDeclaration.{ElementDeclaration}
use Rattle.sgml_dtd_elements.specs.Types.{ElementType, types, names, number_of}

-- the element type of a name, as this declaration says it
abbrev pub type_in : ElementDeclaration → List ℕ → ElementType
type_in d name = record { name = name; omits = d.omits; body = d.body }

-- where no name stands twice
abbrev pub AreDistinct : List ElementDeclaration → Type 0
AreDistinct ds = repeats [] (names (types ds)) ≡ false

-- the name has a number, and what stands at it is what this declaration says
pub record IsFoundAs (ds : List ElementDeclaration) (d : ElementDeclaration) (name : List ℕ) : Type 0 where
  pub number : ℕ
  pub numbered : number_of ds name ≡ Some number
  pub stands : slice_get (types ds) number ≡ Some (type_in d name)

-- What is found by a name is what the one declaration that names it says (11.2.1).
abbrev pub FoundIsDeclared : Type 0
FoundIsDeclared =
    (before after : List ElementDeclaration) (d : ElementDeclaration) (name : List ℕ) →
    AreDistinct (before ++ d ∷ after) → has d.names name ≡ true → IsFoundAs (before ++ d ∷ after) d name
