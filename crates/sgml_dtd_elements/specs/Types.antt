-- The element types that a list of declarations declares (11.2.1).
use Rattle.std.specs.Prelude.{◌≡◌, ℕ, ◌+◌, ◌||◌, List, [], ◌∷◌, ◌++◌, Option, Some, if◌then◌else◌, map}
use Rattle.std.specs.List.{flat_map}
use Rattle.sgml_names.specs.Lists.{number_from}
use Rattle.sgml_model.specs.ReaderView.{sign}
use Rattle.sgml_model.specs.Reading.{reading}
use Rattle.sgml_automaton.specs.Automaton.{whole_of}
use Rattle.sgml_decl_forms.specs.declared.element.Omits.{Omits}
use Rattle.sgml_decl_forms.specs.declared.element.ElementBody.{ElementBody}
use Rattle.sgml_decl_forms.specs.declared.element.ContentForm.{ContentForm}
use Rattle.sgml_decl_forms.specs.declared.element.ContentForm.TheVariants as form
use Rattle.sgml_decl_forms.specs.declared.element.ElementDeclaration.{ElementDeclaration}
use Rattle.sgml_dtd_elements.specs.declared.content.Content.{Content}
use Rattle.sgml_dtd_elements.specs.declared.content.Content.TheVariants as kept

-- an element type, with what its declaration says of it
pub record ElementType : Type 0 where
  pub name : List ℕ
  pub omits : Omits
  pub body : ElementBody

-- those of a declaration: what it says, it says of each of its names (11.2.1)
abbrev pub types_of : ElementDeclaration → List ElementType
types_of d = map (λ n. record { name = n; omits = d.omits; body = d.body }) d.names

-- the element types in order of declaration, those of one group in the group's order: each stands
-- at its number
abbrev pub types : List ElementDeclaration → List ElementType
types ds = flat_map types_of ds

abbrev pub names : List ElementType → List (List ℕ)
names ts = map (λ t. t.name) ts

-- the number of the element type of this name
abbrev pub number_of : List ElementDeclaration → List ℕ → Option ℕ
number_of ds name = number_from 0 (names (types ds)) name

-- The content is what the form says. An automaton is one of the model that the tokens of the group
-- spell (11.2.4).
abbrev pub IsContentOf : ContentForm → Content → Type 0
IsContentOf form.Empty kept.Empty = Unit {0}
IsContentOf form.Cdata kept.Cdata = Unit {0}
IsContentOf form.Rcdata kept.Rcdata = Unit {0}
IsContentOf form.Any kept.Any = Unit {0}
IsContentOf (form.Model ts) (kept.Model a) = reading (map sign ts) ≡ Some (whole_of a)
IsContentOf _ _ = ⊥
