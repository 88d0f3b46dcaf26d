-- What the words of the command ask for.
use Rattle.std.specs.Prelude.{◌≡◌, ◌≤◌, ℕ, Bool, true, false, Option, List}
use Rattle.sgml_words.specs.Words.{Text}
use Rattle.sgml_words.specs.Uses.{command_of}
use Rattle.sgml_words.specs.declared.command.Command.{Command}
use Rattle.sgml_words.specs.declared.mode.Mode.{Mode}
use Rattle.sgml_words.specs.declared.mode.Mode.TheVariants as modes
use Rattle.sgml_catalog.specs.declared.entry.Entry.{Entry}
use Rattle.sgml_settings.specs.declared.setting.Settings.{Settings}
use Rattle.sgml_selfcheck.specs.sgml_conversion.declaring.Files.{Choices}

-- a document is read in this mode
abbrev pub is_document : Mode → Bool
is_document modes.Esis = true
is_document modes.Full = true
is_document modes.Check = true
is_document mode = false

-- the command that the words are
abbrev pub asked : List Text → Option Command
asked words = command_of words

-- a book that is checked has at least one chapter, and at most 100,000 (profile)
abbrev pub IsOfBook : Command → Type 0
IsOfBook c = (number : ℕ) → c.mode ≡ modes.Selfcheck number → (1 ≤ number) × (number ≤ 100000)

-- the options of a run of it with these entries of a catalog, whose file has this name
abbrev pub choices_with : Command → List Entry → Text → Choices
choices_with c entries base = record { expand = c.limits.expand; catalog = entries; catalog_base = base; base = c.file }

-- the options of a run that is set so
abbrev pub choices_of : Command → Settings → Choices
choices_of c s = choices_with c s.catalog s.catalog_base
