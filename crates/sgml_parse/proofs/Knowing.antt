-- What is known of an input from which a parser reads.
use Rattle.std.proofs.Common.{◌≡◌, ℕ, List, ◌++◌, Result, Ok, Err}
use Rattle.sgml_entity.specs.Texts.{text_of}
use Rattle.sgml_decl_lexemes.specs.Sources.{or_empty}
use Rattle.sgml_declared.specs.theory_reading.Names.{Text}
use Rattle.sgml_declared.specs.theory_reading.Pieces.{History}
use Rattle.sgml_declared.specs.theory_reading.Unread.{Input}
use Rattle.sgml_declared.specs.theory_reading.Events.{Event as Said}
use Rattle.sgml_declared.specs.Files.{Choices, IsOutsideOf}
use Rattle.sgml_parse.specs.declared.answer.ParseStep.{ParseStep}
use Rattle.sgml_parse.specs.declared.answer.ParseStep.TheVariants as step
use Rattle.sgml_parse.specs.declared.answer.ParseError.{ParseError}
use Rattle.sgml_parse.specs.declared.answer.ParseError.TheVariants as error
use Rattle.sgml_parse.specs.There.{Reading}
use Rattle.sgml_parse.specs.Locating.{HasSources, Knows, KnowsThen}
use Rattle.sgml_parse.specs.Parsing.{Parser, IsParsing, KnowsTexts}
use Rattle.sgml_parse.proofs.Tables.{reads-sources}

-- an input of these options, whose document goes on so
abbrev pub IsInputThere : Choices → List (ℕ × Text) → Input → Text → Type 0
IsInputThere c ts I more = IsOutsideOf c I.outside × (I.document ≡ or_empty (text_of ts 0) ++ more)

pub parsing-knows : (p : Parser) (I : Input) (more : Text) (h : History) (told : List Said) → IsParsing p I more h told → KnowsTexts p I more h
parsing-knows p I more h told x = record {
  of_options = x.of_options;
  sources = reads-sources p.reading p.texts p.ended I more h told x.reads;
  document = x.document;
}

pub knows-then : (c : Choices) (there : Reading) (ts : List (ℕ × Text)) (I : Input) (more : Text) (h : History) (result : Result ParseStep ParseError) → IsOutsideOf c I.outside
    → I.document ≡ or_empty (text_of ts 0) ++ more → KnowsThen result (HasSources there ts I h) → KnowsThen result (Knows c there ts I more h)
knows-then c there ts I more h (Ok step.Finished) o d s = record { of_options = o; sources = s; document = d }
knows-then c there ts I more h (Err (error.Refused x)) o d s = record { of_options = o; sources = s; document = d }
knows-then c there ts I more h (Ok (step.Event e)) o d s = tt
knows-then c there ts I more h (Ok step.Prolog) o d s = tt
knows-then c there ts I more h (Ok (step.Want number file)) o d s = tt
knows-then c there ts I more h (Ok step.More) o d s = tt
knows-then c there ts I more h (Err error.Memory) o d s = tt
