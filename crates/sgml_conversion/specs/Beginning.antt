-- What is told of the prolog of a document, and how a document is converted from there.
use Rattle.std.specs.Prelude.{◌≡◌, ℕ, true, List, [], ◌∷◌, ◌++◌, Option, Some, None, IfSome, Result, Ok, Err, IfOk}
use Rattle.sgml_text.specs.declared.place.Refusal.{Refusal}
use Rattle.sgml_syntax.specs.declared.syntax.Syntax.{Syntax}
use Rattle.sgml_events.specs.declared.event.Event.{Event}
use Rattle.sgml_said.specs.Told.{all_said}
use Rattle.sgml_said.specs.theory_reading.Names.{Text}
use Rattle.sgml_said.specs.theory_reading.Pieces.{History}
use Rattle.sgml_said.specs.theory_reading.Nest.{types}
use Rattle.sgml_said.specs.theory_reading.Unread.{Input, opening}
use Rattle.sgml_said.specs.theory_reading.Reads.{Move, ReadOn, after_moves}
use Rattle.sgml_said.specs.theory_reading.Events.{events}
use Rattle.sgml_theory_ending.specs.theory_spelling.Spelled.{forms}
use Rattle.sgml_source.specs.declaring.Files.{Choices}
use Rattle.sgml_source.specs.parse.Parsing.{Parser, IsAfterProlog, doctype_in, is_in_instance, is_instruction, KnowsTexts}
use Rattle.sgml_conversion.specs.declared.answer.Ending.{Ending}
use Rattle.sgml_conversion.specs.declared.answer.Outcome.{Outcome}
use Rattle.sgml_conversion.specs.declared.answer.Failure.{Failure}
use Rattle.sgml_source.specs.declared.source.Source.{Source}
use Rattle.sgml_source.specs.Inputs.{Files, IsInputOf}
use Rattle.sgml_conversion.specs.Converting.{FailsFrom, AnswersFrom}
use Rattle.sgml_conversion.specs.Ending.{ReadsTo}
use Rattle.sgml_conversion.specs.Showing.{InstructionsArePlaced}
use Rattle.sgml_source.specs.Feeding.{IsAt}
use Rattle.sgml_source.specs.Stopping.{IsStop}

-- THESE EVENTS were told, up to where the instance begins, or to where reading stops
abbrev pub PrologLeads : ℕ → List ℕ → (ℕ → Option (List ℕ)) → Source → Parser → Input → History → List Event → Option Refusal → Type 0
PrologLeads limit bytes left s p I h es None = IsAt limit bytes left s p I h (all_said (doctype_in p.reading) es) × (is_in_instance p.reading ≡ true → IsAfterProlog h × (events forms h ≡ all_said (doctype_in p.reading) es))
PrologLeads limit bytes left s p I h es (Some r) = IsStop I h r × (events forms h ≡ all_said (doctype_in p.reading) es) × (doctype_in p.reading ≡ types h) × ((more : Text) × KnowsTexts p I more h)

pub record PrologGoes (limit : ℕ) (bytes : List ℕ) (left : ℕ → Option (List ℕ)) (s : Source) (p : Parser) (I : Input) (h : History) (es : List Event) (refused : Option Refusal) : Type 0 where
  pub moves : List Move
  pub read : ReadOn forms I h moves
  pub leads : PrologLeads limit bytes left s p I (after_moves h moves) es refused
  pub placed : InstructionsArePlaced (after_moves h moves) es

-- OF EACH INPUT that the document may be, of which nothing was told
abbrev pub OfEachInput : Option Files → (ℕ → Option (List ℕ)) → Source → Parser → (ℕ → List ℕ → Input → History → Type 0) → Type 0
OfEachInput known left s p P =
    IfSome known (λ files. (limit : ℕ) (c : Choices) (declaration : Option Syntax) (bytes : List ℕ) (I : Input) (h : History)
    → IsInputOf limit files c declaration bytes I → IsAt limit bytes left s p I h [] → P limit bytes I h)

abbrev pub PrologReads : Option Files → (ℕ → Option (List ℕ)) → Source → Parser → (ℕ → Option (List ℕ)) → Source → Parser → List Event → Option Refusal → Type 0
PrologReads known left s p left' s' p' es refused = OfEachInput known left s p (λ limit bytes I h. PrologGoes limit bytes left' s' p' I h es refused)

-- an instruction more
abbrev pub IsNoted : List Event → Event → List Event → Type 0
IsNoted old e new = (is_instruction e ≡ true) × (new ≡ old ++ e ∷ [])

-- THE DOCUMENT from there on
abbrev pub ConvertsFrom : Option Files → (ℕ → Option (List ℕ)) → Source → Parser → Parser → Option (List ℕ) → Option (List ℕ) → Result Ending Failure → Type 0
ConvertsFrom known left s p p' before now (Ok a) = OfEachInput known left s p (λ limit bytes I h. ReadsTo p' a I h before now)
ConvertsFrom known left s p p' before now (Err e) = OfEachInput known left s p (λ limit bytes I h. FailsFrom I h before now)

-- the document of this id, of which nothing was read: of which so much is left in the store
abbrev pub ConvertsFound : ℕ → Choices → Option Syntax → Option Files → (ℕ → Option (List ℕ)) → ℕ → Option (List ℕ) → Option (List ℕ) → Result Outcome Failure → Type 0
ConvertsFound limit c declaration known left id before now result =
    IfSome known (λ files. (bytes : List ℕ) (I : Input) → left id ≡ Some bytes → IsInputOf limit files c declaration bytes I → AnswersFrom I (opening I.outside) before now result)

-- THE SAME from a store of which it is told which files it has and what is left of each, and into a sink
abbrev pub PrologReadsBy : {S E : Type 0} → (S → Option Files) → (S → ℕ → Option (List ℕ)) → S → Source → Parser → S → Source → Parser → List Event → Result (Option Refusal) E → Type 0
PrologReadsBy files left store s p store' s' p' es result = IfOk result (PrologReads (files store) (left store) s p (left store') s' p' es)

abbrev pub ConvertsBy : {S O : Type 0} → (S → Option Files) → (S → ℕ → Option (List ℕ)) → (O → Option (List ℕ)) → S → Source → Parser → Parser → O → O → Result Ending Failure → Type 0
ConvertsBy files left taken store s p p' out out' result = ConvertsFrom (files store) (left store) s p p' (taken out) (taken out') result

abbrev pub ConvertsFoundBy : {S O : Type 0} → (S → Option Files) → (S → ℕ → Option (List ℕ)) → (O → Option (List ℕ)) → ℕ → Choices → Option Syntax → S → ℕ → O → O → Result Outcome Failure → Type 0
ConvertsFoundBy files left taken limit c declaration store id out out' result = ConvertsFound limit c declaration (files store) (left store) id (taken out) (taken out') result
