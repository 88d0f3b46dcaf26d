-- The attribute lists of declarations one after another, and what holds of them (11.3).
use Rattle.std.specs.Prelude.{◌≡◌, ◌<◌, ℕ, true, List, [], ◌∷◌, ◌++◌, Some, if◌then◌else◌, is_some, fold, slice_get}
use Rattle.sgml_names.specs.Lists.{has}
use Rattle.sgml_syntax.specs.declared.syntax.Syntax.{Syntax}
use Rattle.sgml_decl_forms.specs.declared.attlist.AttlistDeclaration.{AttlistDeclaration}
use Rattle.sgml_dtd_attlists.specs.declared.list.AttributeList.{AttributeList}
use Rattle.sgml_dtd_attlists.specs.Interpreted.{list_in}
use Rattle.sgml_dtd_attlists.specs.Rows.{reason}
use Rattle.sgml_dtd_attlists.specs.Tables.{list_of}

-- the lists after a declaration: one more, unless it is refused
abbrev pub with_list : Syntax → List AttributeList → AttlistDeclaration → List AttributeList
with_list syntax lists d = if is_some (reason syntax lists (list_in syntax d)) then lists else lists ++ list_in syntax d ∷ []

-- the lists of these declarations
abbrev pub lists_of : Syntax → List AttlistDeclaration → List AttributeList
lists_of syntax ds = fold (with_list syntax) [] ds

-- the list of this number is one of this element type
pub record IsListOf (lists : List AttributeList) (n : ℕ) (name : List ℕ) : Type 0 where
  pub list : AttributeList
  pub stands : slice_get lists n ≡ Some list
  pub names_it : has list.names name ≡ true

-- a list is the one that one of the declarations declares
pub record IsDeclared (syntax : Syntax) (ds : List AttlistDeclaration) (l : AttributeList) : Type 0 where
  pub place : ℕ
  pub declaration : AttlistDeclaration
  pub stands : slice_get ds place ≡ Some declaration
  pub is_its : l ≡ list_in syntax declaration

-- a list that is found for an element type is one of it
abbrev pub AreOfTheirTypes : List AttributeList → Type 0
AreOfTheirTypes lists = (name : List ℕ) (n : ℕ) → list_of lists name ≡ Some n → IsListOf lists n name

-- a list of an element type is the one that is found for it
abbrev pub AreFound : List AttributeList → Type 0
AreFound lists = (name : List ℕ) (n : ℕ) → IsListOf lists n name → list_of lists name ≡ Some n

-- each list is one that one of the declarations declares
abbrev pub AreDeclared : Syntax → List AttlistDeclaration → List AttributeList → Type 0
AreDeclared syntax ds lists = (n : ℕ) (l : AttributeList) → slice_get lists n ≡ Some l → IsDeclared syntax ds l
