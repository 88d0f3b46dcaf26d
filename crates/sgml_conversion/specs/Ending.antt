-- How a document was read, before the position of a refusal is looked up.
use Rattle.std.specs.Prelude.{◌≡◌, ◌⊎◌, ℕ, true, List, Option, None}
use Rattle.std.specs.Io.KnownBytes.{Appends}
use Rattle.sgml_said.specs.theory_reading.Names.{Text}
use Rattle.sgml_said.specs.theory_reading.Pieces.{History}
use Rattle.sgml_said.specs.theory_reading.Unread.{Input}
use Rattle.sgml_said.specs.theory_reading.Reads.{Move, ReadOn, after_moves, ends_in_finish}
use Rattle.sgml_said.specs.theory_reading.Events.{events}
use Rattle.sgml_said.specs.theory_reading.Identifiers.{id_fault}
use Rattle.sgml_theory_ending.specs.theory_spelling.Spelled.{forms}
use Rattle.sgml_source.specs.parse.Parsing.{Parser, KnowsTexts}
use Rattle.sgml_source.specs.parse.Locating.{IsPositionOf}
use Rattle.sgml_source.specs.Stopping.{IsStop}
use Rattle.sgml_conversion.specs.declared.answer.Ending.{Ending}
use Rattle.sgml_conversion.specs.declared.answer.Ending.TheVariants as ending
use Rattle.sgml_conversion.specs.declared.answer.Outcome.{Outcome}
use Rattle.sgml_conversion.specs.declared.answer.Outcome.TheVariants as outcome
use Rattle.sgml_conversion.specs.Lines.{bytes_of}
use Rattle.sgml_conversion.specs.Converting.{IsIdFault}

-- what was read when that was so
abbrev pub IsEnding : Ending → Input → History → Type 0
IsEnding ending.Conforming I h = (ends_in_finish h ≡ true) × (id_fault (events forms h) ≡ None)
IsEnding (ending.Refused r) I h = IsStop I h r ⊎ IsIdFault h r

-- the lines of what was read up to there, of which the parser knows the texts
pub record ReadsTo (p : Parser) (a : Ending) (I : Input) (h : History) (before now : Option (List ℕ)) : Type 0 where
  pub moves : List Move
  pub read : ReadOn forms I h moves
  pub end : IsEnding a I (after_moves h moves)
  pub lines : Appends before now (bytes_of (after_moves h moves))
  pub knows : (more : Text) × KnowsTexts p I more (after_moves h moves)

-- the answer, with the position
abbrev pub IsOutcomeOf : Parser → Ending → Outcome → Type 0
IsOutcomeOf p ending.Conforming outcome.Conforming = Unit {0}
IsOutcomeOf p (ending.Refused r) (outcome.Refused q x) =
    (q ≡ r) × ((I : Input) (more : Text) (h : History) → KnowsTexts p I more h → IsPositionOf I h r.place x)
IsOutcomeOf p e a = ⊥
