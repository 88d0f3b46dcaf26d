-- WHAT IS SPELLED IN THE INSTANCE (7.2).
use Rattle.std.specs.Prelude.{◌≡◌, ℕ, Bool, true, false, nat_lt, List, length, Some, None}
use Rattle.sgml_theory_full.specs.records.Facts.{takes_end}
use Rattle.sgml_theory_full.specs.entity.declared.kinds.Space.TheVariants.{General}
use Rattle.sgml_theory_full.specs.entity.declared.kinds.Body.{Body}
use Rattle.sgml_theory_full.specs.entity.declared.kinds.Body.TheVariants as body
use Rattle.sgml_theory_full.specs.delim.declared.delim.Mode.TheVariants as mode
use Rattle.sgml_theory_full.specs.dtd.Doctypes.{Doctype}
use Rattle.sgml_theory_full.specs.theory_reading.Names.{Name}
use Rattle.sgml_theory_full.specs.theory_reading.Types.{entity_number, body_of}
use Rattle.sgml_theory_full.specs.theory_reading.Pieces.{Meaning, Ordinary, ToText, ToData, ToExternalData, ToInstruction, Kind, Re, Sgml, Head, Declare, SubsetEnd, Data, DataRef, ShortRef, Ref, Pi, History}
use Rattle.sgml_theory_full.specs.theory_reading.Unread.{Input, Standing, standing}
use Rattle.sgml_theory_full.specs.theory_reading.State.{State, state}
use Rattle.sgml_theory_full.specs.theory_reading.Characters.{facts_in, ordinary}
use Rattle.sgml_theory_full.specs.theory_spelling.Stacked.{stacked}
use Rattle.sgml_theory_full.specs.theory_spelling.Places.{in_doctype, map_at, is_map}
use Rattle.sgml_theory_full.specs.Named.{is_external_data}
use Rattle.sgml_theory_full.specs.Conforming.{mode_in}
use Rattle.sgml_theory_full.specs.Standing.{PieceStands}

-- the document type is over, and no text of the external subset is being read (7.2, 11.1)
abbrev pub IsInInstance : State → Standing → Type 0
IsInInstance s t = in_doctype s.stage (stacked t).entities ≡ false

abbrev pub HasCome : Input → History → Type 0
HasCome I h = IsInInstance (state h) (standing I h)

-- no short reference map is in force (11.5, 11.6)
abbrev pub HasNoMap : State → Type 0
HasNoMap s = is_map (map_at s) ≡ false

-- A GENERAL ENTITY that is referred to has this body: it is found by a name (9.4.4)
pub record IsReferred (d : Doctype) (number : ℕ) (b : Body) : Type 0 where
  pub name : Name
  pub numbered : entity_number d General name ≡ Some number
  pub body_is : body_of d number ≡ Some b

-- internal data (10.5)
abbrev pub is_data_body : Body → Bool
is_data_body (body.Cdata text) = true
is_data_body (body.Sdata text) = true
is_data_body _ = false

pub record ReferredIs (d : Doctype) (number : ℕ) (test : Body → Bool) : Type 0 where
  pub b : Body
  pub referred : IsReferred d number b
  pub passes : test b ≡ true

-- an instruction of its own, or the text of an entity, which has at most PILEN characters (8, 10.5.3)
abbrev pub IsInstructionOf : Doctype → List ℕ → ℕ → Type 0
IsInstructionOf d text e = IsReferred d e (body.Pi text) × (nat_lt d.syntax.quantities.pilen (length text) ≡ false)

-- what a short reference string is mapped to, where it doesn't stand for itself (9.4.6, 11.5)
abbrev pub IsMapped : Doctype → Meaning → Type 0
IsMapped d (Ordinary has_items content) = Unit {0}
IsMapped d (ToText e) = ReferredIs d e (λ b. true)
IsMapped d (ToData e) = ReferredIs d e is_data_body
IsMapped d (ToExternalData e) = ReferredIs d e is_external_data
IsMapped d (ToInstruction e text) = IsInstructionOf d text e

-- A PIECE of the instance, in the state before it: what is referred to is found by its name; external data, instructions
-- and short references stand where tags are recognised; nothing is declared
abbrev pub IsOfInstance : State → Kind → Type 0
IsOfInstance s (Data e) = ReferredIs s.context.doctype e is_data_body
IsOfInstance s (DataRef e) = (mode_in s ≡ mode.Con) × ReferredIs s.context.doctype e is_external_data
IsOfInstance s (Ref e) = ReferredIs s.context.doctype e (λ b. true)
IsOfInstance s (Pi text None) = mode_in s ≡ mode.Con
IsOfInstance s (Pi text (Some e)) = (mode_in s ≡ mode.Con) × IsInstructionOf s.context.doctype text e
IsOfInstance s (ShortRef string meaning) = (mode_in s ≡ mode.Con) × IsMapped s.context.doctype meaning
IsOfInstance s (Sgml syntax) = ⊥
IsOfInstance s (Head head base) = ⊥
IsOfInstance s (Declare lexemes says base) = ⊥
IsOfInstance s (SubsetEnd reads_external) = ⊥
IsOfInstance s kind = Unit {0}

-- A RECORD END is live where what stands before it says so (7.6.1); and it is noted of a string that stands for itself
-- what it is there
abbrev pub RecordEndIs : State → Kind → Type 0
RecordEndIs s (Re live) = live ≡ takes_end (facts_in s.record_ends)
RecordEndIs s (ShortRef string (Ordinary has_items content)) = ordinary s string ≡ Ordinary has_items content
RecordEndIs s kind = Unit {0}

-- ALL OF THAT
abbrev pub StandsInInstance : State → Kind → Type 0
StandsInInstance s kind = PieceStands s kind × IsOfInstance s kind × RecordEndIs s kind
