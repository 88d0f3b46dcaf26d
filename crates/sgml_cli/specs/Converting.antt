-- What it comes to that the document of a command was converted.
use Rattle.std.specs.Prelude.{ℕ, List, [], Option, None, IfSome, Result}
use Rattle.std.specs.Io.KnownBytes.{Appends}
use Rattle.sgml_words.specs.declared.command.Command.{Command}
use Rattle.sgml_words.specs.declared.mode.Mode.{Mode}
use Rattle.sgml_words.specs.declared.mode.Mode.TheVariants as modes
use Rattle.sgml_settings.specs.declared.setting.Settings.{Settings}
use Rattle.sgml_selfcheck.specs.sgml_conversion.source.Inputs.{Files}
use Rattle.sgml_selfcheck.specs.sgml_conversion.Converting.{Converts}
use Rattle.sgml_selfcheck.specs.sgml_conversion.Full.{ConvertsFull}
use Rattle.sgml_selfcheck.specs.sgml_conversion.declared.answer.Outcome.{Outcome}
use Rattle.sgml_selfcheck.specs.sgml_conversion.declared.answer.Failure.{Failure}
use Rattle.sgml_cli.specs.Asked.{choices_of}

-- to the output, or in the mode `check` to nowhere; in the mode `full` with all its tags
abbrev pub ConvertsIn : ℕ → Mode → Files → Command → Settings → Option (List ℕ) → Option (List ℕ) → Result Outcome Failure → Type 0
ConvertsIn limit modes.Check files c s before now result = Converts limit files (choices_of c s) s.declaration None None result × Appends before now []
ConvertsIn limit modes.Full files c s before now result = ConvertsFull limit files (choices_of c s) s.declaration before now result
ConvertsIn limit mode files c s before now result = Converts limit files (choices_of c s) s.declaration before now result

-- in a run that is set so
abbrev pub ConvertsFor : ℕ → Option Files → Command → Settings → Option (List ℕ) → Option (List ℕ) → Result Outcome Failure → Type 0
ConvertsFor limit known c s before now result = IfSome known (λ files. ConvertsIn limit c.mode files c s before now result)
