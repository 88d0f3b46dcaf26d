-- What is answered where a document is written with all its tags, and what its sink gains (profile).
use Rattle.std.specs.Prelude.{◌≡◌, ◌⊎◌, ℕ, true, List, drop, length, slice_get, Option, Some, None, Result, Ok, Err, IfSome}
use Rattle.std.specs.Io.KnownBytes.{Appends}
use Rattle.sgml_text.specs.declared.place.Refusal.{Refusal}
use Rattle.sgml_text.specs.declared.reason.Reason.TheVariants.{PiNotSpelled}
use Rattle.sgml_io.specs.Files.{file_in}
use Rattle.sgml_io.specs.Writes.{AppendsFront}
use Rattle.sgml_syntax.specs.declared.syntax.Syntax.{Syntax}
use Rattle.sgml_storage.specs.Storage.{IsStorageOf}
use Rattle.sgml_full.specs.Full.{full_document, first_unspelled}
use Rattle.sgml_said.specs.theory_reading.Pieces.{History}
use Rattle.sgml_said.specs.theory_reading.Nest.{types}
use Rattle.sgml_said.specs.theory_reading.Unread.{Input}
use Rattle.sgml_said.specs.theory_reading.Reads.{Move, ReadsFromStart, read_by, stop_place, ends_in_finish, instruction_places, prolog_of}
use Rattle.sgml_said.specs.theory_reading.Events.{Event as Said, events, instructions}
use Rattle.sgml_said.specs.theory_reading.Identifiers.{id_fault}
use Rattle.sgml_theory_ending.specs.theory_spelling.Spelled.{forms}
use Rattle.sgml_source.specs.declaring.Files.{Choices}
use Rattle.sgml_source.specs.parse.declared.position.Position.{Position}
use Rattle.sgml_source.specs.parse.Locating.{IsPositionOf}
use Rattle.sgml_source.specs.Inputs.{Files, IsInputOf}
use Rattle.sgml_conversion.specs.declared.answer.Outcome.{Outcome}
use Rattle.sgml_conversion.specs.declared.answer.Outcome.TheVariants as outcome
use Rattle.sgml_conversion.specs.declared.answer.Failure.{Failure}
use Rattle.sgml_conversion.specs.declared.answer.Failure.TheVariants as failure
use Rattle.sgml_conversion.specs.Converting.{IsEnd, IsAbsent}

-- THE EVENTS OF THE INSTANCE: those after the prolog (7.1)
abbrev pub instance_events : History → List Said
instance_events h = drop (length (events forms (prolog_of h))) (events forms h)

-- how many bytes of the document's text are those of its prolog
abbrev pub prolog_end : History → ℕ
prolog_end h = (stop_place (prolog_of h)).at

-- ITS FULL DOCUMENT: the storage of the prolog, and each tag and each value of the instance
pub record IsFullDocument (bytes : List ℕ) (h : History) (text : List ℕ) : Type 0 where
  pub prolog : List ℕ
  pub storage : IsStorageOf bytes (prolog_end h) prolog
  pub is : text ≡ full_document prolog (types h) (instance_events h)

-- THE FIRST INSTRUCTION of the instance that can't be spelled, by its number among all that were read
abbrev pub unspelled : History → Option ℕ
unspelled h = first_unspelled (length (instructions (events forms (prolog_of h)))) (instance_events h)

-- the document is over, and its identifiers agree; but for this instruction it could be written
pub record IsUnspelled (h : History) (r : Refusal) : Type 0 where
  pub over : ends_in_finish h ≡ true
  pub agree : id_fault (events forms h) ≡ None
  pub number : ℕ
  pub first : unspelled h ≡ Some number
  pub place : slice_get (instruction_places h) number ≡ Some r.place
  pub reason : r.reason ≡ PiNotSpelled

-- what was read when this was answered: refused is what is refused where lines are written, and such an instruction
abbrev pub IsFullEnd : Outcome → Input → History → Type 0
IsFullEnd outcome.Conforming I h = IsEnd outcome.Conforming I h × (unspelled h ≡ None)
IsFullEnd (outcome.Refused r x) I h = IsEnd (outcome.Refused r x) I h ⊎ (IsUnspelled h r × IsPositionOf I h r.place x)
IsFullEnd outcome.Absent I h = ⊥

-- WHAT A SINK GAINED: the full document of what conforms, and nothing where it is refused
abbrev pub FullGains : Outcome → List ℕ → History → Option (List ℕ) → Option (List ℕ) → Type 0
FullGains outcome.Conforming bytes h before now = (text : List ℕ) × IsFullDocument bytes h text × Appends before now text
FullGains a bytes h before now = now ≡ before

pub record EndsFull (a : Outcome) (bytes : List ℕ) (I : Input) (before now : Option (List ℕ)) : Type 0 where
  pub moves : List Move
  pub read : ReadsFromStart forms I moves
  pub end : IsFullEnd a I (read_by I moves)
  pub gained : FullGains a bytes (read_by I moves) before now

-- a front of the full document, where the sink failed
pub record FailsFull (bytes : List ℕ) (I : Input) (before now : Option (List ℕ)) : Type 0 where
  pub moves : List Move
  pub read : ReadsFromStart forms I moves
  pub end : IsFullEnd outcome.Conforming I (read_by I moves)
  pub text : List ℕ
  pub is : IsFullDocument bytes (read_by I moves) text
  pub front : AppendsFront before now text

abbrev pub FullAnswers : List ℕ → Input → Option (List ℕ) → Option (List ℕ) → Result Outcome Failure → Type 0
FullAnswers bytes I before now (Ok a) = EndsFull a bytes I before now
FullAnswers bytes I before now (Err failure.Store) = now ≡ before
FullAnswers bytes I before now (Err failure.Memory) = now ≡ before
FullAnswers bytes I before now (Err failure.Sink) = FailsFull bytes I before now

abbrev pub FullFile : ℕ → Files → Choices → Option Syntax → Option (List ℕ) → Option (List ℕ) → Option (List ℕ) → Result Outcome Failure → Type 0
FullFile limit files c declaration None before now result = IsAbsent result × (now ≡ before)
FullFile limit files c declaration (Some bytes) before now result = (I : Input) → IsInputOf limit files c declaration bytes I → FullAnswers bytes I before now result

-- THE ANSWER over a store with these files, within this limit, for every input that the document is
abbrev pub ConvertsFull : ℕ → Files → Choices → Option Syntax → Option (List ℕ) → Option (List ℕ) → Result Outcome Failure → Type 0
ConvertsFull limit files c declaration before now result = FullFile limit files c declaration (file_in files c.base) before now result

-- over a store that tells its files
abbrev pub ConvertsFullOver : ℕ → Option Files → Choices → Option Syntax → Option (List ℕ) → Option (List ℕ) → Result Outcome Failure → Type 0
ConvertsFullOver limit known c declaration before now result = IfSome known (λ files. ConvertsFull limit files c declaration before now result)
