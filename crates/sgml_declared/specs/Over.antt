-- What is read over and added whatever the outside is, also where none fits.
use Rattle.std.specs.Prelude.{◌≡◌, ℕ, ◌≤◌, List}
use Rattle.sgml_entity.specs.Stack.{Stack, moved}
use Rattle.sgml_decl_lexemes.specs.decl_parts.declared.ends.Construct.{Construct}
use Rattle.sgml_decl_lexemes.specs.decl_parts.declared.ends.Construct.TheVariants.{Declaration as DeclarationText}
use Rattle.sgml_decl_forms.specs.declared.doctype.DoctypeHead.{DoctypeHead}
use Rattle.sgml_decl_forms.specs.declared.declaration.Declaration.{Declaration}
use Rattle.sgml_decl_forms.specs.declared.declaration.Declaration.TheVariants as form
use Rattle.sgml_dtd.specs.Doctypes.{Doctype, with_declared}
use Rattle.sgml_theory_standing.specs.theory_reading.Names.{Name, Text}
use Rattle.sgml_theory_standing.specs.theory_reading.Pieces as pieces
use Rattle.sgml_theory_standing.specs.theory_reading.Facets.{subset_named}
use Rattle.sgml_declared.specs.declared.head.Head.{Head}
use Rattle.sgml_declared.specs.Adding.{opens_subset, IsOpening}
use Rattle.sgml_declared.specs.Taking.{Ends}

-- so many bytes at the top of the stack were read over, and texts were opened in them
pub record IsReadOver (n : ℕ) (s t : Stack) : Type 0 where
  pub grown : s.spent ≤ t.spent
  pub stack : t ≡ record s { spent = t.spent; places = moved n s.places }

-- the construct there was
abbrev pub IsOver : Construct → Doctype → List (ℕ × Text) → Stack → Stack → Type 0
IsOver c d texts s t = (n : ℕ) → Ends c d texts s n → IsReadOver n s t

-- a declaration was added
pub record IsMore (d e : Doctype) : Type 0 where
  pub base : Name
  pub says : Declaration
  pub is : e ≡ with_declared base d says

-- A HEAD was added, and read over; the external subset that no internal one comes before was opened
pub record IsHeadOver (d e : Doctype) (texts : List (ℕ × Text)) (s t : Stack) (h : Head) (n : ℕ) : Type 0 where
  pub head : DoctypeHead
  pub base : Name
  pub is : e ≡ with_declared base d (form.Doctype head)
  pub external : h.external ≡ subset_named (pieces.Head head base)
  pub subset : h.subset ≡ head.subset
  pub over : Stack
  pub read_over : IsReadOver n s over
  pub opening : IsOpening (opens_subset head) texts over t

abbrev pub HeadIsOver : Doctype → Doctype → List (ℕ × Text) → Stack → Stack → Head → Type 0
HeadIsOver d e texts s t h = (n : ℕ) → Ends DeclarationText d texts s n → IsHeadOver d e texts s t h n
