-- What the values of FILE and of the options tell (profile).
use Rattle.std.specs.Prelude.{ℕ, [], ◌∷◌, codes, Option, Some, None, option_map, option_and_then, unwrap_or, if◌then◌else◌, bytes_eq}
use Rattle.sgml_words.specs.Numbers.{number_in, selfcheck_number}
use Rattle.sgml_words.specs.Words.{Text}
use Rattle.sgml_words.specs.declared.mode.Mode.{Mode}
use Rattle.sgml_words.specs.declared.mode.Mode.TheVariants as modes
use Rattle.sgml_words.specs.declared.command.Command.{Command}
use Rattle.sgml_words.specs.declared.limits.Limits.{Limits}

infixl 10 ◌>>=◌
abbrev pub ◌>>=◌ : {A B : Type 0} → Option A → (A → Option B) → Option B
None >>= f = None
(Some x) >>= f = f x

-- a word that isn't empty
abbrev pub filled : Text → Option Text
filled [] = None
filled (b ∷ bs) = Some (b ∷ bs)

-- the same of an option that may be left out
abbrev pub optional : Option Text → Option (Option Text)
optional None = Some None
optional (Some text) = option_map (λ t. Some t) (filled text)

-- the number of an option, or its default
abbrev pub number_or : ℕ → ℕ → ℕ → Option Text → Option ℕ
number_or default least most None = Some default
number_or default least most (Some text) = number_in least most text

-- the mode of this name, for this FILE
abbrev pub mode_named : Text → Text → Option Mode
mode_named name file =
    if bytes_eq name (codes "esis") then Some modes.Esis
    else if bytes_eq name (codes "full") then Some modes.Full
    else if bytes_eq name (codes "check") then Some modes.Check
    else if bytes_eq name (codes "lines") then Some modes.Lines
    else if bytes_eq name (codes "selfcheck") then option_map (λ n. modes.Selfcheck n) (selfcheck_number file)
    else None

-- ---- the command, by the value that FILE and each option was given

abbrev pub file_told : (Text → Option Text) → Option Text
file_told value = option_and_then filled (value (codes "FILE"))

abbrev pub mode_told : Text → (Text → Option Text) → Option Mode
mode_told file value = mode_named (unwrap_or (value (codes "mode")) (codes "esis")) file

abbrev pub catalog_told : (Text → Option Text) → Option (Option Text)
catalog_told value = optional (value (codes "catalog"))

unfoldable pub limits_told : (Text → Option Text) → Option Limits
limits_told value = do
  piece ← number_or 65536 1 1048576 (value (codes "piece"))
  expand ← number_or 67108864 0 1073741824 (value (codes "expand"))
  Some (record { piece = piece; expand = expand })

unfoldable pub told : (Text → Option Text) → Option Command
told value = do
  file ← file_told value
  mode ← mode_told file value
  catalog ← catalog_told value
  limits ← limits_told value
  Some (record { mode = mode; catalog = catalog; limits = limits; file = file })
