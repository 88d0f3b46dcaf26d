-- THE TEXT IS A PIECE at a point of the instance, whatever follows it.
use Rattle.std.specs.Prelude.{◌≡◌, ◌⊎◌, ℕ, true, false, List, ◌∷◌, ◌++◌, map, length, Ok}
use Rattle.sgml_theory_values.specs.delim.declared.delim.Mode.{Mode}
use Rattle.sgml_theory_values.specs.delim.declared.delim.Mode.TheVariants as mode
use Rattle.sgml_theory_values.specs.dtd.Doctypes.{Doctype}
use Rattle.sgml_theory_values.specs.theory_reading.Names.{Text}
use Rattle.sgml_theory_values.specs.theory_reading.ShortTags.{net_in_force}
use Rattle.sgml_theory_values.specs.theory_reading.Unread.{Outside, Rest, Standing}
use Rattle.sgml_theory_values.specs.theory_reading.State.{State}
use Rattle.sgml_theory_values.specs.theory_reading.Characters.{kind_noted}
use Rattle.sgml_theory_values.specs.theory_spelling.Stacked.{Stacked}
use Rattle.sgml_theory_values.specs.theory_spelling.Sized.{sized}
use Rattle.sgml_theory_values.specs.theory_spelling.Places.{in_doctype, mode_at, map_at, is_map}
use Rattle.sgml_theory_values.specs.theory_spelling.Spelled.{spelled}
use Rattle.sgml_theory_values.specs.full.Spelled.{has_map}
use Rattle.sgml_theory_full.specs.Spellings.{Spelling}

-- where reading stands: what is outside, the state, of which entity the text at the top is, what is unread of the
-- texts below it, and how long all texts are that were opened
pub record Point : Type 0 where
  pub outside : Outside
  pub state : State
  pub entity : ℕ
  pub below : List Rest
  pub spent : ℕ

-- with this text unread at the top
abbrev pub standing_at : Point → Text → Standing
standing_at p text = record { rests = record { entity = p.entity; bytes = text } ∷ p.below; spent = p.spent }

abbrev pub entities_at : Point → List ℕ
entities_at p = p.entity ∷ map (λ (r : Rest). r.entity) p.below

abbrev pub stacked_at : Point → Stacked
stacked_at p = record { entities = entities_at p; spent = p.spent }

abbrev pub doctype_at : Point → Doctype
doctype_at p = p.state.context.doctype

-- IN CONTENT of this mode (9.6.1), where NET isn't in force (7.4.1.3)
pub record IsInContent (p : Point) (m : Mode) : Type 0 where
  pub in_instance : in_doctype p.state.stage (entities_at p) ≡ false
  pub mode : mode_at p.state (entities_at p) ≡ m
  pub no_net : net_in_force p.state.context ≡ false

-- references are recognised (9.6.1): content, and replaceable character data
abbrev pub HasReferences : Mode → Type 0
HasReferences m = (m ≡ mode.Con) ⊎ (m ≡ mode.Rcd)

-- end-tags are
abbrev pub HasEndTags : Mode → Type 0
HasEndTags m = HasReferences m ⊎ (m ≡ mode.Cdt)

-- a short reference map is in force only where one is declared (11.5, 11.6)
abbrev pub MapsAreDeclared : Point → Type 0
MapsAreDeclared p = is_map (map_at p.state) ≡ true → has_map (doctype_at p) ≡ true

-- THE TEXT IS THIS PIECE, with what is noted of it there
abbrev pub IsPieceAt : Point → Spelling → Type 0
IsPieceAt p x =
    (rest : Text) → spelled p.outside p.state (standing_at p (x.text ++ rest)) ≡ Ok (sized (length x.text) (kind_noted p.state x.kind))
