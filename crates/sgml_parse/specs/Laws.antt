-- How a parser goes on to stand for what was read.
use Rattle.std.specs.Prelude.{◌≡◌, ℕ, Bool, true, false, [], ◌∷◌, List, Option, Some, None, Result, Err}
use Rattle.sgml_text.specs.declared.reason.Reason.{Reason}
use Rattle.sgml_io.specs.declared.records.RecordReader.{RecordReader}
use Rattle.sgml_entity.specs.Texts.{with_more}
use Rattle.sgml_syntax.specs.declared.syntax.Syntax.{Syntax}
use Rattle.sgml_declared.specs.theory_reading.Names.{Text}
use Rattle.sgml_declared.specs.theory_standing.Kept.{Kept}
use Rattle.sgml_declared.specs.Files.{Choices}
use Rattle.sgml_prolog.specs.Reading as prolog
use Rattle.sgml_prolog.specs.declared.answer.PrologStep.{PrologStep}
use Rattle.sgml_prolog.specs.declared.answer.PrologError.{PrologError}
use Rattle.sgml_instance.specs.Reading as content
use Rattle.sgml_instance.specs.declared.answer.InstanceStep.{InstanceStep}
use Rattle.sgml_instance.specs.declared.answer.InstanceError.{InstanceError}
use Rattle.sgml_parse.specs.declared.answer.ParseStep.{ParseStep}
use Rattle.sgml_parse.specs.declared.answer.ParseError.{ParseError}
use Rattle.sgml_parse.specs.declared.answer.ParseError.TheVariants as error
use Rattle.sgml_parse.specs.declared.answer.Supply.{Supply}
use Rattle.sgml_parse.specs.declared.answer.Wanted.{Wanted}
use Rattle.sgml_parse.specs.There.{Reading}
use Rattle.sgml_parse.specs.There as reading
use Rattle.sgml_parse.specs.Missing.{with_missing}
use Rattle.sgml_parse.specs.Parsing.{NextIsParsing, GoesOver, KeepsDoctype, parser, place_in, error_in}
use Rattle.sgml_parse.specs.Going.{ReadsNext, BeginsOver, AnswersOfProlog, answer_of_instance, IsNoted, IsAnswer}
use Rattle.sgml_parse.specs.Calls.{BeginsParsing, MakesNext, Feeds, Ends, Supplies, texts_with, why_gone, gone_after}

-- AT FIRST the document has an empty text
abbrev pub ParserBegins : Type 0
ParserBegins =
    (declaration : Option Syntax) (c : Choices) (made : RecordReader) (r : prolog.Reader) (texts : List (ℕ × Text)) → texts ≡ (0, []) ∷ [] → prolog.BeginsAtStart declaration c r
    → BeginsParsing declaration c (parser c texts made false (reading.Prolog r) None None [] None)

-- IT IS FED the text that these storage bytes make
abbrev pub DocumentIsFed : Type 0
DocumentIsFed =
    (c : Choices) (texts : List (ℕ × Text)) (old new : RecordReader) (there : Reading) (wanted : Option Wanted) (lack : Option Reason) (missing : List (ℕ × Reason)) (bytes made : Text) → MakesNext old new bytes made
    → Feeds (parser c texts old false there wanted lack missing None) (parser c (with_more 0 made texts) new false there wanted lack missing None) bytes

-- THE DOCUMENT IS WHOLE
abbrev pub DocumentEnds : Type 0
DocumentEnds =
    (c : Choices) (texts : List (ℕ × Text)) (made : RecordReader) (there : Reading) (wanted : Option Wanted) (lack : Option Reason) (missing : List (ℕ × Reason))
    → Ends (parser c texts made false there wanted lack missing None) (parser c texts made true there wanted lack missing None)

-- A TEXT is given, or it is noted why it isn't there
abbrev pub TextIsSupplied : Type 0
TextIsSupplied =
    (c : Choices) (texts : List (ℕ × Text)) (made : RecordReader) (ended : Bool) (there : Reading) (wanted : Option Wanted) (was : Option Reason) (missing : List (ℕ × Reason)) (number : ℕ) (given : Supply)
    → Supplies (parser c texts made ended there wanted was missing None)
    (parser c (texts_with number given texts) made ended there None (gone_after number given wanted was) (with_missing number (why_gone given) missing) None) number given

-- and then, where it was wanted last, it is refused at its place
abbrev pub GoneIsRefused : Type 0
GoneIsRefused =
    (c : Choices) (texts : List (ℕ × Text)) (made : RecordReader) (ended : Bool) (there : Reading) (wanted : Option Wanted) (lack : Option Reason) (missing : List (ℕ × Reason)) (why : Reason) → lack ≡ Some why
    → NextIsParsing (parser c texts made ended there wanted lack missing None)
    (parser c texts made ended there wanted lack missing (Some (error.Refused (record { place = place_in there; reason = why }))))
    (Err (error.Refused (record { place = place_in there; reason = why })))

-- WHAT A READER ANSWERS is told, by which it is noted what is wanted
abbrev pub AnswerIsTold : Type 0
AnswerIsTold =
    (c : Choices) (texts : List (ℕ × Text)) (made : RecordReader) (ended : Bool) (old new : Reading) (was wanted : Option Wanted) (lack : Option Reason) (missing : List (ℕ × Reason)) (answer result : Result ParseStep ParseError) → lack ≡ None
    → ReadsNext texts ended old new answer → GoesOver old new answer → KeepsDoctype old new → IsNoted answer wanted result
    → NextIsParsing (parser c texts made ended old was lack missing None) (parser c texts made ended new wanted lack missing (error_in result)) result

-- IN THE PROLOG, up to where the instance begins
abbrev pub PrologAnswers : Type 0
PrologAnswers =
    (c : Choices) (texts : List (ℕ × Text)) (ended : Bool) (old new : prolog.Reader) (after : Reading) (answer : Result PrologStep PrologError) (result : Result ParseStep ParseError) → new.options ≡ c
    → prolog.NextIsReading old new texts ended answer → AnswersOfProlog c (reading.Prolog new) after answer result → IsAnswer c texts ended (reading.Prolog old) after result

abbrev pub InstanceBeginsAfter : Type 0
InstanceBeginsAfter =
    (c : Choices) (old : Reading) (r : prolog.Reader) (k : Kept) (x : content.Reader) → old ≡ reading.Prolog r → k ≡ r.kept → content.BeginsAfterProlog k x → x.options ≡ c
    → BeginsOver c old (reading.Instance x)

-- IN THE INSTANCE
abbrev pub InstanceAnswers : Type 0
InstanceAnswers =
    (c : Choices) (texts : List (ℕ × Text)) (ended : Bool) (old new : content.Reader) (answer : Result InstanceStep InstanceError) (result : Result ParseStep ParseError) → new.options ≡ c
    → content.NextIsReading old new texts ended answer → result ≡ answer_of_instance answer → IsAnswer c texts ended (reading.Instance old) (reading.Instance new) result
