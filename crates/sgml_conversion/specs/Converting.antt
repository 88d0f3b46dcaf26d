-- What is answered where a document is converted, and what its sink gains.
use Rattle.std.specs.Prelude.{◌≡◌, ◌⊎◌, ℕ, true, List, [], slice_get, Option, Some, None, Result, Ok, Err, IfSome}
use Rattle.std.specs.Io.KnownBytes.{Appends}
use Rattle.sgml_text.specs.declared.place.Refusal.{Refusal}
use Rattle.sgml_io.specs.Files.{file_in}
use Rattle.sgml_io.specs.Writes.{AppendsFront}
use Rattle.sgml_syntax.specs.declared.syntax.Syntax.{Syntax}
use Rattle.sgml_said.specs.theory_reading.Pieces.{History}
use Rattle.sgml_said.specs.theory_reading.Unread.{Input, opening}
use Rattle.sgml_said.specs.theory_reading.Reads.{Move, ReadOn, after_moves, start_places, ends_in_finish}
use Rattle.sgml_said.specs.theory_reading.Events.{events}
use Rattle.sgml_said.specs.theory_reading.Identifiers.{id_fault}
use Rattle.sgml_theory_ending.specs.theory_spelling.Spelled.{forms}
use Rattle.sgml_source.specs.declaring.Files.{Choices}
use Rattle.sgml_conversion.specs.declared.answer.Outcome.{Outcome}
use Rattle.sgml_conversion.specs.declared.answer.Outcome.TheVariants as outcome
use Rattle.sgml_conversion.specs.declared.answer.Failure.{Failure}
use Rattle.sgml_source.specs.Inputs.{Files, IsInputOf}
use Rattle.sgml_source.specs.Stopping.{IsStop}
use Rattle.sgml_source.specs.parse.Locating.{IsPositionOf}
use Rattle.sgml_conversion.specs.Lines.{bytes_of}

-- THE DOCUMENT IS OVER and its identifiers don't agree: the fault is that of the start with this number, which is at this
-- place (7.9.4)
pub record IsIdFault (h : History) (r : Refusal) : Type 0 where
  pub over : ends_in_finish h ≡ true
  pub number : ℕ
  pub fault : id_fault (events forms h) ≡ Some (number, r.reason)
  pub place : slice_get (start_places h) number ≡ Some r.place

-- what was read when this was answered
abbrev pub IsEnd : Outcome → Input → History → Type 0
IsEnd outcome.Conforming I h = (ends_in_finish h ≡ true) × (id_fault (events forms h) ≡ None)
IsEnd (outcome.Refused r x) I h = (IsStop I h r ⊎ IsIdFault h r) × IsPositionOf I h r.place x
IsEnd outcome.Absent I h = ⊥

-- WHAT A SINK GAINED where so much was read before: the lines of what was read up to there, or, where the store or the
-- sink failed, or no memory was there, a front of the lines of what reads
pub record EndsFrom (a : Outcome) (I : Input) (h : History) (before now : Option (List ℕ)) : Type 0 where
  pub moves : List Move
  pub read : ReadOn forms I h moves
  pub end : IsEnd a I (after_moves h moves)
  pub lines : Appends before now (bytes_of (after_moves h moves))

pub record FailsFrom (I : Input) (h : History) (before now : Option (List ℕ)) : Type 0 where
  pub moves : List Move
  pub read : ReadOn forms I h moves
  -- whatever reads on from there
  pub lines : (rest : List Move) → ReadOn forms I (after_moves h moves) rest → AppendsFront before now (bytes_of (after_moves (after_moves h moves) rest))

abbrev pub AnswersFrom : Input → History → Option (List ℕ) → Option (List ℕ) → Result Outcome Failure → Type 0
AnswersFrom I h before now (Ok a) = EndsFrom a I h before now
AnswersFrom I h before now (Err e) = FailsFrom I h before now

-- no such file
abbrev pub IsAbsent : Result Outcome Failure → Type 0
IsAbsent (Ok a) = a ≡ outcome.Absent
IsAbsent (Err e) = Unit {0}

abbrev pub ConvertsFile : ℕ → Files → Choices → Option Syntax → Option (List ℕ) → Option (List ℕ) → Option (List ℕ) → Result Outcome Failure → Type 0
ConvertsFile limit files c declaration None before now result = IsAbsent result × Appends before now []
ConvertsFile limit files c declaration (Some bytes) before now result =
    (I : Input) → IsInputOf limit files c declaration bytes I → AnswersFrom I (opening I.outside) before now result

-- THE ANSWER over a store with these files, within this limit, for every input that the document is
abbrev pub Converts : ℕ → Files → Choices → Option Syntax → Option (List ℕ) → Option (List ℕ) → Result Outcome Failure → Type 0
Converts limit files c declaration before now result = ConvertsFile limit files c declaration (file_in files c.base) before now result

-- over a store that tells its files
abbrev pub ConvertsOver : ℕ → Option Files → Choices → Option Syntax → Option (List ℕ) → Option (List ℕ) → Result Outcome Failure → Type 0
ConvertsOver limit known c declaration before now result = IfSome known (λ files. Converts limit files c declaration before now result)
