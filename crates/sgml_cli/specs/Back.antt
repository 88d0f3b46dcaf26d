-- What a run writes of a document with all its tags is read as the document is (profile).
use Rattle.std.specs.Prelude.{◌≡◌, ℕ, List, Option, Some, Ok}
use Rattle.std.specs.Io.KnownBytes.{Appends}
use Rattle.sgml_io.specs.Files.{file_in}
use Rattle.sgml_words.specs.declared.command.Command.{Command}
use Rattle.sgml_words.specs.declared.mode.Mode.TheVariants as modes
use Rattle.sgml_settings.specs.Setting.{Sets}
use Rattle.sgml_settings.specs.declared.setting.Settings.{Settings}
use Rattle.sgml_selfcheck.specs.sgml_conversion.source.Inputs.{Files}
use Rattle.sgml_theory_round.specs.Stored.{ReadsBack}
use Rattle.sgml_cli.specs.Asked.{choices_of}
use Rattle.sgml_cli.specs.Outcome.{Taken, AnswersFrom}
use Rattle.sgml_cli.specs.declared.status.Status.{Status}
use Rattle.sgml_cli.specs.declared.status.Status.TheVariants as statuses

-- IN THE MODE `full`, where the document conforms: in its file's place, with the same catalog, store and words, what was
-- written is read to the same events and the same lines, and no tag is left out in its instance
abbrev pub FullReadsBack : ℕ → Option Files → Option Command → Status → Taken → Type 0
FullReadsBack limit known command status out =
    (files : Files) (c : Command) (s : Settings) (bytes : List ℕ) → known ≡ Some files → command ≡ Some c → c.mode ≡ modes.Full
    → status ≡ statuses.Conforming → Sets files c.catalog (Ok s) → file_in files c.file ≡ Some bytes
    → (text : List ℕ) × Appends out.before out.now text × ReadsBack limit files (choices_of c s) s.declaration bytes text

-- LAW: so it is by what a run answers
abbrev pub AnswersReadBack : Type 0
AnswersReadBack =
    (limit : ℕ) (known : Option Files) (command : Option Command) (status : Status) (out log : Taken)
    → AnswersFrom limit known command status out log → FullReadsBack limit known command status out
