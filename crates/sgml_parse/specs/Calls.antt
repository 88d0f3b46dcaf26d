-- What the calls of a parser come to that give it something.
use Rattle.std.specs.Prelude.{◌≡◌, ℕ, ◌==◌, Bool, true, false, [], ◌++◌, List, Option, Some, None, unwrap_or, Result, Ok, Err, ⊤, if◌then◌else◌}
use Rattle.std.specs.Option.{option_or}
use Rattle.sgml_text.specs.declared.reason.Reason.{Reason}
use Rattle.sgml_io.specs.declared.records.RecordReader.{RecordReader}
use Rattle.sgml_io.specs.Records.{records}
use Rattle.sgml_io.specs.Pieces.{HasMade}
use Rattle.sgml_entity.specs.Texts.{with_more}
use Rattle.sgml_syntax.specs.declared.syntax.Syntax.{Syntax}
use Rattle.sgml_syntax.specs.Implied.{implied_syntax}
use Rattle.sgml_declared.specs.theory_reading.Names.{Text}
use Rattle.sgml_declared.specs.theory_reading.Pieces.{History}
use Rattle.sgml_declared.specs.theory_reading.Unread.{Input, Fetched, NotThere, TooLarge, Found, opening}
use Rattle.sgml_declared.specs.theory_reading.Events.{Event as Said}
use Rattle.sgml_declared.specs.theory_spelling.References.{missing_fetched}
use Rattle.sgml_declared.specs.Files.{Choices, IsOutsideOf}
use Rattle.sgml_parse.specs.declared.answer.ParseError.{ParseError}
use Rattle.sgml_parse.specs.declared.answer.ParseError.TheVariants as error
use Rattle.sgml_parse.specs.declared.answer.Supply.{Supply}
use Rattle.sgml_parse.specs.declared.answer.Supply.TheVariants as supply
use Rattle.sgml_parse.specs.declared.answer.Wanted.{Wanted}
use Rattle.sgml_parse.specs.Missing.{with_missing}
use Rattle.sgml_parse.specs.Parsing.{Parser, IsParsing, IsAwaited}

-- AT FIRST it stands for nothing read, and nothing told, of each document in an outside of these options
abbrev pub BeginsParsing : Option Syntax → Choices → Parser → Type 0
BeginsParsing declaration c p =
    (I : Input) → IsOutsideOf c I.outside → I.outside.syntax ≡ unwrap_or declaration implied_syntax → IsParsing p I I.document (opening I.outside) []

-- MORE OF THE DOCUMENT, which is the text that the next storage bytes make
abbrev pub MakesNext : RecordReader → RecordReader → Text → Text → Type 0
MakesNext old new bytes made = (before so_far : Text) → HasMade old before so_far → HasMade new (before ++ bytes) (so_far ++ made)

pub record Appends (old new : RecordReader) (before after : List (ℕ × Text)) (bytes : Text) : Type 0 where
  pub made : Text
  pub makes : MakesNext old new bytes made
  pub appended : after ≡ with_more 0 made before

-- what it stood for it stands for then, where the document goes on so
pub record Feeds (old new : Parser) (bytes : Text) : Type 0 where
  pub made : Text
  pub makes : MakesNext old.records new.records bytes made
  pub after : new ≡ record old { texts = with_more 0 made old.texts; records = new.records }
  pub reads_on : (I : Input) (more : Text) (h : History) (told : List Said) → IsParsing old I (made ++ more) h told → IsParsing new I more h told

-- THE DOCUMENT IS WHOLE, so nothing more is to come of it, and it wasn't cut
abbrev pub ended_after : Parser → Parser
ended_after p = record p { ended = true }

abbrev pub Ends : Parser → Parser → Type 0
Ends old new = (I : Input) (h : History) (told : List Said) → I.was_cut ≡ false → IsParsing old I [] h told → IsParsing new I [] h told

-- WHAT IS GIVEN is what the store has under the name of a file
abbrev pub fetched_by : Supply → Fetched
fetched_by (supply.Text bytes) = Found (records bytes)
fetched_by supply.Absent = NotThere
fetched_by supply.TooLarge = TooLarge

abbrev pub texts_with : ℕ → Supply → List (ℕ × Text) → List (ℕ × Text)
texts_with number (supply.Text bytes) texts = with_more number (records bytes) texts
texts_with number _ texts = texts

-- why it isn't there, if it isn't
abbrev pub why_gone : Supply → Option Reason
why_gone given = missing_fetched (fetched_by given)

-- where it is that of the text that was wanted last, the parser stops there
abbrev pub is_of : ℕ → Option Wanted → Bool
is_of number None = false
is_of number (Some w) = w.entity == number

abbrev pub gone_after : ℕ → Supply → Option Wanted → Option Reason → Option Reason
gone_after number given wanted gone = if is_of number wanted then option_or (why_gone given) gone else gone

abbrev pub supplied_after : ℕ → Supply → Parser → Parser
supplied_after number given p = record p {
  texts = texts_with number given p.texts;
  wanted = None;
  gone = gone_after number given p.wanted p.gone;
  missing = with_missing number (why_gone given) p.missing;
}

-- where that is so of the file of a text that may be supplied, it stands for what it stood for
abbrev pub Supplies : Parser → Parser → ℕ → Supply → Type 0
Supplies old new number given =
    (I : Input) (more : Text) (h : History) (told : List Said) (w : Wanted)
    → w.entity ≡ number → IsAwaited old w → I.outside.fetched w.name ≡ fetched_by given → IsParsing old I more h told → IsParsing new I more h told

-- THE ERRORS of these calls: a refusal is that of an earlier call
abbrev pub failed_by : Result ⊤ ParseError → Option ParseError
failed_by (Ok x) = None
failed_by (Err e) = Some e

abbrev pub IsRepeated : Option ParseError → Result ⊤ ParseError → Type 0
IsRepeated failed (Err (error.Refused x)) = failed ≡ Some (error.Refused x)
IsRepeated failed _ = Unit {0}

-- after an error each call answers it again
abbrev pub repeated : Option ParseError → Result ⊤ ParseError
repeated None = Ok tt
repeated (Some e) = Err e
