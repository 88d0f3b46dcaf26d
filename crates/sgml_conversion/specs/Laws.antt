-- Laws of conversion.
use Rattle.std.specs.Prelude.{◌≡◌, ℕ, List, [], Option, Some}
use Rattle.sgml_syntax.specs.declared.syntax.Syntax.{Syntax}
use Rattle.sgml_said.specs.theory_reading.Unread.{Input, opening}
use Rattle.sgml_said.specs.theory_reading.Reads.{Move, ReadsFromStart, read_by}
use Rattle.sgml_theory_ending.specs.theory_spelling.Spelled.{forms}
use Rattle.sgml_source.specs.declaring.Files.{Choices}
use Rattle.sgml_source.specs.Inputs.{Files, IsInputOf}
use Rattle.sgml_conversion.specs.declared.answer.Outcome.{Outcome}
use Rattle.sgml_conversion.specs.Converting.{EndsFrom, IsEnd}
use Rattle.sgml_conversion.specs.Full.{EndsFull}

-- ONE ANSWER an input has, with one text of its lines
abbrev pub OneAnswer : Type 0
OneAnswer =
    (I : Input) (a b : Outcome) (before first second : List ℕ) → EndsFrom a I (opening I.outside) (Some before) (Some first)
    → EndsFrom b I (opening I.outside) (Some before) (Some second) → (a ≡ b) × (first ≡ second)

-- and so it has where it is written with all its tags, with one full document
abbrev pub OneFullAnswer : Type 0
OneFullAnswer =
    (bytes : List ℕ) (I : Input) (a b : Outcome) (before first second : List ℕ) → EndsFull a bytes I (Some before) (Some first)
    → EndsFull b bytes I (Some before) (Some second) → (a ≡ b) × (first ≡ second)

-- EACH INPUT HAS AN END: it is read to its end, where its identifiers agree or don't, or to where reading stops, at a position
abbrev pub EachInputHasAnEnd : Type 0
EachInputHasAnEnd = (I : Input) → (ms : List Move) × ReadsFromStart forms I ms × ((a : Outcome) × IsEnd a I (read_by I ms))

-- and where it is written with all its tags
abbrev pub EachInputHasAFullEnd : Type 0
EachInputHasAFullEnd =
    (limit : ℕ) (files : Files) (c : Choices) (declaration : Option Syntax) (bytes : List ℕ) (I : Input) → IsInputOf limit files c declaration bytes I
    → (a : Outcome) × (out : List ℕ) × EndsFull a bytes I (Some []) (Some out)
