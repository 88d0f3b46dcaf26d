-- The input that a file is.
use Rattle.std.proofs.Common.{List, ℕ, refl}
use Rattle.sgml_words.specs.declared.command.Command.{Command}
use Rattle.sgml_settings.specs.declared.setting.Settings.{Settings}
use Rattle.sgml_selfcheck.specs.sgml_conversion.source.Inputs.{Files, IsInputOf, input_of}
use Rattle.sgml_cli.specs.Asked.{choices_of}

pub file-is-input : (limit : ℕ) (files : Files) (c : Command) (set : Settings) (bytes : List ℕ) → IsInputOf limit files (choices_of c set) set.declaration bytes (input_of limit files (choices_of c set) set.declaration bytes)
file-is-input limit files c set bytes = record {
  of_options = record { expand = refl; file = refl; resolved = λ kind name external base. refl };
  syntax = refl;
  fetched = λ name. refl;
  document = refl;
  was_cut = refl;
}
