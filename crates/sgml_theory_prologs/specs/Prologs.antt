-- The prolog of an input (7.1), which ends at the first border, and what stands there.
use Rattle.std.specs.Prelude.{◌≡◌, ℕ, Bool, true, false, List, [], ◌∷◌, ◌++◌, None}
use Rattle.std.specs.List.{list_any}
use Rattle.sgml_theory_standing.specs.theory_reading.Names.{Name, Text}
use Rattle.sgml_theory_standing.specs.theory_reading.Pieces.{Kind, Sgml, Pi, History}
use Rattle.sgml_theory_standing.specs.theory_reading.Facets.{AfterSubset}
use Rattle.sgml_theory_standing.specs.theory_reading.ShortTags.{net_in_force}
use Rattle.sgml_theory_standing.specs.theory_reading.Unread.{Outside, Standing, Input, standing, spent}
use Rattle.sgml_theory_standing.specs.theory_reading.State.{State}
use Rattle.sgml_theory_standing.specs.theory_reading.Reads.{Move, ReadsFromStart, read_by, is_first_border}
use Rattle.sgml_theory_standing.specs.theory_reading.Events.{Event, Instruction}
use Rattle.sgml_theory_standing.specs.theory_spelling.Spelled.{forms}

-- the document alone is open, with this text unread
abbrev pub at_document : ℕ → Text → Standing
at_document spent text = record { rests = record { entity = 0; bytes = text } ∷ []; spent = spent }

-- THESE MOVES READ THE PROLOG: they lead to the first border, where the document alone is open. Of the document this was
-- read up to there, and the rest is unread.
pub record ReadsProlog (I : Input) (ms : List Move) (prolog rest : Text) : Type 0 where
  pub reads : ReadsFromStart forms I ms
  pub first : is_first_border (read_by I ms) ≡ true
  pub document : I.document ≡ prolog ++ rest
  pub left : standing I (read_by I ms) ≡ at_document (spent I.outside (read_by I ms)) rest

-- AN SGML DECLARATION stands in the document, and is read by these moves (13)
abbrev pub is_sgml : Kind → Bool
is_sgml (Sgml syntax) = true
is_sgml _ = false

abbrev pub reads_sgml : List Move → Bool
reads_sgml ms = list_any (λ (m : Move). is_sgml m.visible.kind) ms

-- the document is this text, and is cut behind it
abbrev pub cut_at : Outside → Text → Input
cut_at outside text = record { document = text; was_cut = true; outside = outside }

-- BEFORE THE INSTANCE nothing is open but the document, no map is set, no record end waits, and NET isn't enabled
pub record IsBeforeInstance (s : State) : Type 0 where
  pub over : s.stage ≡ AfterSubset
  pub one_text : s.texts ≡ 1
  pub no_section : s.sections ≡ []
  pub no_element : s.context.levels ≡ []
  pub none_begun : s.context.begun ≡ false
  pub none_inferred : s.context.inferred ≡ false
  pub no_net : net_in_force s.context ≡ false
  pub no_setting : s.map_settings ≡ []
  pub none_waits : s.record_ends ≡ []
  pub none_ended : s.ended ≡ None
  pub none_current : (element attribute : Name) → s.currents element attribute ≡ None

-- THE INSTRUCTIONS among pieces (8), in their order, as events
abbrev pub instruction_of : Kind → List Event
instruction_of (Pi text entity) = Instruction text entity ∷ []
instruction_of _ = []

abbrev pub instructions_of : History → List Event
instructions_of [] = []
instructions_of (p ∷ h) = instructions_of h ++ instruction_of p.kind
