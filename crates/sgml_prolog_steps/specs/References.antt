-- What the entity says that a parameter reference names (9.4.4).
use Rattle.std.specs.Prelude.{ℕ, ◌+◌, ◌-◌, List, drop, take, length, nat_lt, if◌then◌else◌, Option, Some, None, Result, Ok, Err}
use Rattle.sgml_text.specs.declared.reason.Reason.{Reason}
use Rattle.sgml_text.specs.declared.reason.Reason.TheVariants as reason
use Rattle.sgml_entity.specs.declared.kinds.Body.{Body}
use Rattle.sgml_entity.specs.declared.kinds.Body.TheVariants as body
use Rattle.sgml_entity.specs.declared.kinds.Space.{Space}
use Rattle.sgml_entity.specs.declared.kinds.Space.TheVariants as space
use Rattle.sgml_entity.specs.Stack.{moved_to}
use Rattle.sgml_entity.specs.declared.places.StackMark.{StackMark}
use Rattle.sgml_declared.specs.sgml_dtd.Doctypes.{Doctype}
use Rattle.sgml_declared.specs.theory_reading.Names.{Text}
use Rattle.sgml_declared.specs.theory_reading.Types.{entity_number}
use Rattle.sgml_declared.specs.theory_reading.Pieces.{Kind, Ref, Pi}
use Rattle.sgml_declared.specs.theory_reading.Unread.{Outside, Sources}
use Rattle.sgml_declared.specs.theory_spelling.Stacked.{Stacked}
use Rattle.sgml_declared.specs.theory_spelling.References.{unless}
use Rattle.sgml_declared.specs.theory_spelling.Content.{referred_name}
use Rattle.sgml_declared.specs.theory_standing.Kept.{Kept}
use Rattle.sgml_declared.specs.Opening.{unopened_of}
use Rattle.sgml_prolog_steps.specs.Found.{rest_in}
use Rattle.sgml_prolog_steps.specs.declared.references.Said.{Said}
use Rattle.sgml_prolog_steps.specs.declared.references.Said.TheVariants as said

-- the number of the entity of this space whose name these bytes begin with, and of the one that a reference of so many
-- bytes names
abbrev pub entity_begun : Space → Doctype → Text → Option ℕ
entity_begun s d bytes = entity_number d s (referred_name d bytes)

abbrev pub entity_referred : Space → Kept → List (ℕ × Text) → ℕ → Option ℕ
entity_referred s k texts n = entity_begun s k.doctype (drop 1 (take n (rest_in k texts)))

abbrev pub referred_in : Kept → List (ℕ × Text) → ℕ → Option ℕ
referred_in k texts n = entity_referred space.Parameter k texts n

abbrev pub said_in : Doctype → Option Body → Said
said_in d None = said.Nothing
said_in d (Some (body.Sgml text)) = said.Reads
said_in d (Some (body.External external)) = said.Reads
said_in d (Some (body.Pi text)) = if nat_lt d.syntax.quantities.pilen (length text) then said.TooLong else said.Instructs text
said_in d (Some b) = said.Other

-- the piece that it is
abbrev pub kind_said : Outside → Sources → Stacked → ℕ → Said → Result Kind Reason
kind_said outside k t number said.Nothing = Err reason.Undeclared
kind_said outside k t number said.Reads = unless (unopened_of outside k t number) (Ref number)
kind_said outside k t number (said.Instructs text) = Ok (Pi text (Some number))
kind_said outside k t number said.TooLong = Err reason.PiLength
kind_said outside k t number said.Other = Err reason.EntityKind

-- the stack is as it was at the mark
abbrev pub gone_back : StackMark → Kept → Kept
gone_back m k = record k { stack = record k.stack { places = moved_to m.at (drop (length k.stack.places - (m.depth + 1)) k.stack.places); spent = m.spent } }

-- an instruction is what it says, unless it is longer than PILEN
abbrev pub instructed_in : Doctype → Text → Said
instructed_in d text = if nat_lt d.syntax.quantities.pilen (length text) then said.TooLong else said.Instructs text
