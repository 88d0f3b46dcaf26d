-- The command as `clap` has it (profile).
use Rattle.std.specs.Prelude.{◌≡◌, true, List, [], ◌∷◌, map, codes, Option, Some, None}
use Rattle.clap.specs.Walk.{Row, Rule, Text}
use Rattle.clap.specs.Simple.{App, new_app, new_rule, with_rule, on_top}
use Rattle.clap.specs.declared.builder.action.ArgAction.TheVariants.{Set}
use Rattle.clap.specs.declared.builder.value_parser.Reading.TheVariants as reading
use Rattle.clap.specs.declared.parser.matches.ValueSource.TheVariants.{CommandLine}
use Rattle.sgml_words.specs.Words.{Use, option_names, value_in}
use Rattle.clap.specs.Matches.{first_value, found_of}
use Rattle.clap.specs.declared.parser.matches.ArgMatches.{ArgMatches}

-- `--name v`
abbrev pub option_arg : Text → Rule
option_arg name = record (new_rule name) { long = Some name; action = Some Set }

abbrev pub file_arg : Rule
file_arg = record (new_rule (codes "FILE")) { action = Some Set; required = true }

abbrev pub with_rules : App → List Rule → App
with_rules app [] = app
with_rules app (r ∷ rs) = with_rules (with_rule app r) rs

abbrev pub bare : App
bare = on_top (λ s. record s { no_binary_name = true; disable_help_flag = true }) (new_app (codes "sgmlesis"))

abbrev pub command : App
command = with_rule (with_rules bare (map option_arg option_names)) file_arg

-- what `clap` finds for a use
abbrev pub row_of : Use → Row
row_of u = record {
  id = u.0;
  values = u.1 ∷ [];
  count = None;
  source = Some CommandLine;
  reading = reading.AsWritten;
}

-- the matches have the values of the uses
abbrev pub Shows : ArgMatches → Option (List Use) → Type 0
Shows m None = ⊥
Shows m (Some uses) = (name : Text) → first_value (found_of m) name ≡ value_in uses name
