-- WHERE TAGS AND DATA STAND that are read, or that were left out (7.3, 7.4, 7.5, 7.6).
use Rattle.std.specs.Prelude.{◌≡◌, ◌<◌, Bool, true, List, ◌∷◌, Some, bytes_eq, IsTrue}
use Rattle.sgml_theory_values.specs.delim.declared.delim.Mode.TheVariants as mode
use Rattle.sgml_theory_values.specs.theory_reading.Names.{Name}
use Rattle.sgml_theory_values.specs.theory_reading.Types.{is_declared}
use Rattle.sgml_theory_values.specs.theory_reading.Pieces.{Specification, Kind, Start, End}
use Rattle.sgml_theory_values.specs.theory_reading.Facets.{Pcdata, token}
use Rattle.sgml_theory_values.specs.theory_reading.Context.{Level}
use Rattle.sgml_theory_values.specs.theory_reading.Omission.{allowed, finished, depth}
use Rattle.sgml_theory_values.specs.theory_reading.State.{State}
use Rattle.sgml_theory_values.specs.theory_reading.Characters.{has_text, ends_at_once}
use Rattle.sgml_theory_values.specs.theory_reading.Reads.{is_proper_in}
use Rattle.sgml_theory_full.specs.Conforming.{mode_in}

-- A START is of a declared type, and allowed there; fewer than TAGLVL elements are open; tags are recognised in what is
-- open; and it is noted of it whether it is a proper one and whether it ends at once
pub record StartStands (s : State) (n : Name) (ss : List Specification) (proper at_once : Bool) : Type 0 where
  pub known : is_declared s.context.doctype n ≡ true
  pub fits : IsTrue (allowed s.context (Some n))
  pub room : depth s.context < s.context.doctype.syntax.quantities.taglvl
  pub mode : mode_in s ≡ mode.Con
  pub proper_is : is_proper_in s.context s.context.levels (Some n) ≡ proper
  pub noted : ends_at_once s.context.doctype n ss ≡ at_once

-- AN END is of a declared type, and of the innermost element, which may end there
pub record EndStands (s : State) (n : Name) : Type 0 where
  pub known : is_declared s.context.doctype n ≡ true
  pub innermost : Level
  pub outer : List Level
  pub levels : s.context.levels ≡ innermost ∷ outer
  pub its : bytes_eq n innermost.element ≡ true
  pub done : IsTrue (finished s.context)

-- DATA stands where it is allowed, in an element that has #PCDATA in its content
pub record DataStands (s : State) : Type 0 where
  pub allowed_there : IsTrue (allowed s.context Pcdata)
  pub text : has_text s ≡ true

-- a piece of this kind, in the state before it
abbrev pub PieceStands : State → Kind → Type 0
PieceStands s (Start n ss how proper at_once) = StartStands s n ss proper at_once
PieceStands s (End n how) = EndStands s n
PieceStands s kind = token kind ≡ Some Pcdata → DataStands s
