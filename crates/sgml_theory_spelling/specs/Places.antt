-- What holds at a place: the mode, NET, and the short reference map in force (9.6, 7.4.1.3, 11.6).
use Rattle.std.specs.Prelude.{ℕ, Bool, true, false, ◌==◌, List, [], ◌∷◌, Option, Some, None, unwrap_or, if◌then◌else◌}
use Rattle.std.specs.List.{list_any}
use Rattle.sgml_scan.specs.delim.declared.delim.Mode.{Mode}
use Rattle.sgml_scan.specs.delim.declared.delim.Mode.TheVariants as mode
use Rattle.sgml_scan.specs.declared.state.ScanState.{ScanState}
use Rattle.sgml_theory_reading.specs.marked.declared.status.Status.{Status}
use Rattle.sgml_theory_reading.specs.marked.declared.status.Status.TheVariants as status
use Rattle.sgml_theory_reading.specs.marked.declared.sections.Section.{Section}
use Rattle.sgml_theory_reading.specs.dtd_maps.declared.uses.MapOf.{MapOf}
use Rattle.sgml_theory_reading.specs.dtd_maps.declared.uses.MapOf.TheVariants as map_of
use Rattle.sgml_theory_reading.specs.dtd.Doctypes.{Doctype}
use Rattle.sgml_theory_reading.specs.Types.{Content, Model, Any, Cdata, Rcdata, Void, content_of, type_of}
use Rattle.sgml_theory_reading.specs.Facets.{Stage, AfterSubset, subset_number}
use Rattle.sgml_theory_reading.specs.Context.{Level}
use Rattle.sgml_theory_reading.specs.ShortTags.{net_in_force}
use Rattle.sgml_theory_reading.specs.Maps.{map_in_force}
use Rattle.sgml_theory_reading.specs.State.{State}

-- THE MODE (9.6.1): that of the innermost section, where it has one; else that of the document type,
-- up to the end of its declaration and in the external subset; else that of the innermost element

abbrev pub mode_of_status : Status → Option Mode
mode_of_status status.Ignore = Some mode.Ign
mode_of_status status.Cdata = Some mode.Cds
mode_of_status status.Rcdata = Some mode.Rcs
mode_of_status status.Include = None

abbrev pub section_mode : List Section → Option Mode
section_mode [] = None
section_mode (section ∷ sections) = mode_of_status section.status

abbrev pub in_doctype : Stage → List ℕ → Bool
in_doctype AfterSubset entities = list_any (λ n. n == subset_number) entities
in_doctype stage entities = true

abbrev pub content_mode : Content → Mode
content_mode (Model term) = mode.Con
content_mode Any = mode.Con
content_mode Cdata = mode.Cdt
content_mode Rcdata = mode.Rcd
content_mode Void = mode.Con

abbrev pub element_mode : Doctype → List Level → Mode
element_mode d [] = mode.Con
element_mode d (l ∷ ls) = content_mode (content_of (type_of d l.element))

unfoldable pub mode_at : State → List ℕ → Mode
mode_at s entities =
    unwrap_or (section_mode s.sections)
    (if in_doctype s.stage entities then mode.Ds else element_mode s.context.doctype s.context.levels)

-- the map in force, where one is
unfoldable pub map_at : State → MapOf
map_at s = map_in_force s.context.doctype s.context.levels s.map_settings

abbrev pub is_map : MapOf → Bool
is_map (map_of.Map number) = true
is_map _ = false

abbrev pub scan_state : State → List ℕ → ScanState
scan_state s entities = record { mode = mode_at s entities; net = net_in_force s.context; maps = is_map (map_at s) }

-- A section is open that began in the text at the top (10.4); it ends there, too.
abbrev pub in_section : ℕ → List Section → Bool
in_section texts [] = false
in_section texts (section ∷ sections) = section.level == texts
