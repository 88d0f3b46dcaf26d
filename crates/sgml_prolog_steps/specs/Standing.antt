-- What the reader of the prolog keeps at any moment.
use Rattle.std.specs.Prelude.{◌≡◌, ◌==◌, ◌∷◌, true, false, List, [], None, IsSome, reverse, length}
use Rattle.sgml_text.specs.declared.place.Place.{Place}
use Rattle.sgml_declared.specs.sgml_dtd.Doctypes.{nothing}
use Rattle.sgml_declared.specs.theory_reading.Facets as stage
use Rattle.sgml_declared.specs.theory_reading.Facets.{subset_number}
use Rattle.sgml_declared.specs.theory_reading.Reads.{is_after_subset}
use Rattle.sgml_declared.specs.theory_spelling.Decided.{is_before}
use Rattle.sgml_declared.specs.theory_spelling.Nested.{AreNested}
use Rattle.sgml_declared.specs.theory_standing.Kept.{Kept, AreDeclared}
use Rattle.sgml_prolog_steps.specs.declared.stage.Stage.{Stage}
use Rattle.sgml_prolog_steps.specs.declared.stage.Stage.TheVariants as at

-- how far the document has come (7.1, 11.1)
abbrev pub stage_of : Stage → stage.Stage
stage_of at.AtBeginning = stage.AtBeginning
stage_of at.BeforeDoctype = stage.BeforeDoctype
stage_of at.InSubset = stage.InSubset
stage_of at.AfterSubset = stage.AfterSubset

-- the document lies under all texts, and under no other
abbrev pub LiesUnder : List Place → Type 0
LiesUnder [] = ⊥
LiesUnder (p ∷ []) = p.entity ≡ 0
LiesUnder (p ∷ q ∷ ps) = ((p.entity == 0) ≡ false) × LiesUnder (q ∷ ps)

-- after the document type declaration the external subset lies over the document
abbrev pub SubsetLiesUnder : List Place → Type 0
SubsetLiesUnder [] = Unit {0}
SubsetLiesUnder (p ∷ []) = Unit {0}
SubsetLiesUnder (p ∷ q ∷ []) = p.entity ≡ subset_number
SubsetLiesUnder (p ∷ q ∷ r ∷ ps) = SubsetLiesUnder (q ∷ r ∷ ps)

-- before the document type nothing is declared, and only the document is read
pub record IsUndeclared (k : Kept) : Type 0 where
  pub doctype : k.doctype ≡ nothing k.doctype.syntax
  pub one_text : length k.stack.places ≡ 1
  pub none_opened : k.stack.spent ≡ 0
  pub no_section : k.sections ≡ []
  pub no_subset : k.subset ≡ None

pub record IsKept (k : Kept) : Type 0 where
  pub levels : k.stack.levels ≡ k.doctype.syntax.quantities.entlvl
  pub document : LiesUnder k.stack.places
  pub declared : AreDeclared k.doctype.entities k.stack.places
  pub nested : AreNested (length k.stack.places) (reverse k.sections)
  pub after : is_after_subset k.stage ≡ true → SubsetLiesUnder k.stack.places
  pub before : is_before k.stage ≡ true → IsUndeclared k
  -- the head that names an external subset names the document type
  pub named : IsSome k.subset → IsSome k.doctype.name
