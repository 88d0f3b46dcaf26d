-- The modes in which the instance is scanned (9.6.1).
use Rattle.std.specs.Prelude.{◌≡◌, ℕ, Bool, true, false, List, [], ◌∷◌, Option, Some, None, IsSomeAnd, slice_get}
use Rattle.sgml_delim.specs.declared.delim.Mode.{Mode}
use Rattle.sgml_delim.specs.declared.delim.Mode.TheVariants as mode
use Rattle.sgml_marked.specs.declared.status.Status.{Status}
use Rattle.sgml_marked.specs.declared.status.Status.TheVariants as status
use Rattle.sgml_infer.specs.sgml_dtd.dtd_elements.Types.{types, number_of}
use Rattle.sgml_infer.specs.sgml_dtd.Doctypes.{Doctype}
use Rattle.sgml_infer.specs.declared.known.ContentKind.{ContentKind}
use Rattle.sgml_infer.specs.declared.known.ContentKind.TheVariants as kind
use Rattle.sgml_theory_starts.specs.theory_reading.Types.{content_of}
use Rattle.sgml_theory_starts.specs.theory_reading.Context.{Level}
use Rattle.sgml_theory_starts.specs.theory_spelling.Places.{content_mode, mode_at}
use Rattle.sgml_theory_starts.specs.theory_standing.Held.{Held, state_of}
use Rattle.sgml_theory_starts.specs.declaring.Taking.{stacked_on}
use Rattle.sgml_prolog_steps.specs.Found.{innermost}
use Rattle.sgml_content_steps.specs.Standing.{IsInInstance}

-- that of an element's content, or of a marked section in it
abbrev pub is_of_instance : Mode → Bool
is_of_instance mode.Con = true
is_of_instance mode.Rcd = true
is_of_instance mode.Cdt = true
is_of_instance mode.Rcs = true
is_of_instance mode.Cds = true
is_of_instance mode.Ign = true
is_of_instance _ = false

-- what may stand in an element tells the mode of its content
abbrev pub mode_of_kind : ContentKind → Mode
mode_of_kind kind.Cdata = mode.Cdt
mode_of_kind kind.Rcdata = mode.Rcd
mode_of_kind _ = mode.Con

-- the mode of the content of the element type of this number; before the document element that of any
abbrev pub IsModeOf : Doctype → Option ℕ → Mode → Type 0
IsModeOf d None m = m ≡ mode.Con
IsModeOf d (Some i) m = IsSomeAnd (slice_get (types d.elements) i) (λ t. m ≡ content_mode (content_of t))

-- a marked section has a mode of its own, unless it is included (10.4)
abbrev pub mode_by : Mode → Option Status → Mode
mode_by m (Some status.Ignore) = mode.Ign
mode_by m (Some status.Cdata) = mode.Cds
mode_by m (Some status.Rcdata) = mode.Rcs
mode_by m (Some status.Include) = m
mode_by m None = m

-- the innermost open element is of the type of this number; none is open
abbrev pub IsInnermost : Doctype → Option ℕ → List Level → Type 0
IsInnermost d (Some i) (l ∷ ls) = number_of d.elements l.element ≡ Some i
IsInnermost d None [] = Unit {0}
IsInnermost d _ _ = ⊥

-- the innermost element and the innermost section of what is held
pub record IsInside (d : Doctype) (element : Option ℕ) (section : Option Status) (x : Held) : Type 0 where
  pub instance : IsInInstance x.kept
  pub doctype : x.kept.doctype ≡ d
  pub of_type : IsInnermost d element x.levels
  pub in_section : innermost x.kept.sections ≡ section

-- THE MODE of each place inside them
abbrev pub IsModeInside : Doctype → Option ℕ → Option Status → Mode → Type 0
IsModeInside d element section mode =
    (x : Held) → IsInside d element section x → mode_at (state_of x) (stacked_on x.kept.stack).entities ≡ mode
