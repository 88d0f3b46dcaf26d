-- What was read of a document's file before it was parsed.
use Rattle.std.specs.Prelude.{◌≡◌, ◌≤◌, ℕ, List, [], ◌++◌, length, Option}
use Rattle.sgml_syntax.specs.declared.syntax.Syntax.{Syntax}
use Rattle.sgml_said.specs.theory_reading.Unread.{Input, opening}
use Rattle.sgml_source.specs.declaring.Files.{Choices}
use Rattle.sgml_source.specs.parse.Parsing.{Parser}
use Rattle.sgml_source.specs.declared.source.Phase.{Phase}
use Rattle.sgml_source.specs.declared.source.Phase.TheVariants.{Going}
use Rattle.sgml_source.specs.declared.source.Source.{Source}
use Rattle.sgml_source.specs.Inputs.{Files, IsInputOf}
use Rattle.sgml_source.specs.Feeding.{IsInPhase, IsAt}

-- OF A DOCUMENT of these storage bytes, of which so much is left in its store, these were read within this limit
pub record HasRead (limit : ℕ) (whole : List ℕ) (left : Option (List ℕ)) (bytes : List ℕ) (phase : Phase) : Type 0 where
  pub rest : List ℕ
  pub all : whole ≡ bytes ++ rest
  pub in_phase : IsInPhase limit phase left rest (length bytes)

-- where the parser that was fed them reads
abbrev pub source_of : ℕ → ℕ → List ℕ → Phase → Source
source_of limit id bytes phase = record { id = id; fed = length bytes; phase = phase; limit = limit }

-- IT STANDS FOR NOTHING READ of each input that the document may be, within any limit that they don't pass
abbrev pub IsFedWhole : Choices → Option Syntax → List ℕ → Phase → Parser → Type 0
IsFedWhole c declaration bytes phase p =
    (limit : ℕ) (files : Files) (whole : List ℕ) (I : Input) (left : ℕ → Option (List ℕ)) (id : ℕ) → length bytes ≤ limit
    → HasRead limit whole (left id) bytes phase → IsInputOf limit files c declaration whole I
    → IsAt limit whole left (source_of limit id bytes phase) p I (opening I.outside) []

-- OF WHATEVER FILE these were read, of which so much was left, and so much is left now
abbrev pub ReadsFile : ℕ → Option (List ℕ) → List ℕ → Option (List ℕ) → List ℕ → Phase → Type 0
ReadsFile limit left bytes left' bytes' phase = (whole : List ℕ) → HasRead limit whole left bytes Going → HasRead limit whole left' bytes' phase
