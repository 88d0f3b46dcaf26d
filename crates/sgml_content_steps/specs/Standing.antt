-- What a parser keeps of the prolog at any moment of the instance, and what it may keep beside.
use Rattle.std.specs.Prelude.{◌≡◌, ℕ, Bool, false, List, Result, IsSome, reverse, length}
use Rattle.sgml_text.specs.declared.reason.Reason.{Reason}
use Rattle.sgml_scan.specs.declared.state.ScanState.{ScanState}
use Rattle.sgml_theory_starts.specs.theory_reading.Names.{Text}
use Rattle.sgml_theory_starts.specs.theory_reading.Pieces.{Piece}
use Rattle.sgml_theory_starts.specs.theory_reading.Facets.{AfterSubset}
use Rattle.sgml_theory_starts.specs.theory_reading.Unread.{Outside}
use Rattle.sgml_theory_starts.specs.theory_reading.State.{State}
use Rattle.sgml_theory_starts.specs.theory_spelling.Places.{in_doctype, scan_state}
use Rattle.sgml_theory_starts.specs.theory_spelling.Nested.{AreNested}
use Rattle.sgml_theory_starts.specs.theory_standing.Kept.{Kept, AreDeclared}
use Rattle.sgml_theory_starts.specs.theory_standing.Held.{Held, state_of, IsSpelledIn}
use Rattle.sgml_theory_starts.specs.declaring.Taking.{stacked_on}
use Rattle.sgml_prolog_steps.specs.Standing.{LiesUnder}

-- after the document type (7.2): no text that is read belongs to it
pub record IsInInstance (k : Kept) : Type 0 where
  pub levels : k.stack.levels ≡ k.doctype.syntax.quantities.entlvl
  pub document : LiesUnder k.stack.places
  pub declared : AreDeclared k.doctype.entities k.stack.places
  pub nested : AreNested (length k.stack.places) (reverse k.sections)
  pub stage : k.stage ≡ AfterSubset
  pub no_subset : in_doctype k.stage (stacked_on k.stack).entities ≡ false
  pub named : IsSome k.subset → IsSome k.doctype.name

-- this is kept of the prolog beside it, and content is scanned in this state
pub record IsHeld (k : Kept) (st : ScanState) (x : Held) : Type 0 where
  pub kept : x.kept ≡ k
  pub scanned : scan_state (state_of x) (stacked_on k.stack).entities ≡ st

-- WHATEVER IS HELD beside it, this is spelled next, and the texts that were given decide it
abbrev pub IsSpelledNext : Kept → ScanState → List (ℕ × Text) → Bool → (Outside → State → Result Piece Reason) → Type 0
IsSpelledNext k st texts ended answer =
    (outside : Outside) (x : Held) → IsHeld k st x → IsSpelledIn outside x texts ended (answer outside (state_of x))
