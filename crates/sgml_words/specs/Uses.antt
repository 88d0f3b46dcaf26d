-- The same as `Says`, as a function: the uses that the words give, and the command that they tell (profile).
use Rattle.std.specs.Prelude.{List, [], ◌∷◌, ◌++◌, Bool, map, codes, Option, Some, None, option_map, option_and_then, if◌then◌else◌, bytes_eq}
use Rattle.std.specs.List.{list_any}
use Rattle.clap.specs.Lexer.{long_of}
use Rattle.sgml_words.specs.Words.{Text, Use, as_file, dashes, is_option, may_stand, value_in}
use Rattle.sgml_words.specs.Told.{told}
use Rattle.sgml_words.specs.declared.command.Command.{Command}

abbrev pub preceded_by : Use → Option (List Use) → Option (List Use)
preceded_by u = option_map (λ uses. u ∷ uses)

-- after a word `--name=value` or `--name`: `rest` are the uses of the words after it, and `next` those where its value
-- is due
abbrev pub uses_long : Text → Option Text → Option (List Use) → Option (List Use) → Option (List Use)
uses_long name (Some v) rest next = if is_option name then preceded_by (name, v) rest else None
uses_long name None rest next = if is_option name then next else None

abbrev pub uses_word : Option (Text × Option Text) → Text → Option (List Use) → (Text → Option (List Use)) → Option (List Use)
uses_word (Some p) word rest next = uses_long p.0 p.1 rest (next p.0)
uses_word None word rest next = if may_stand word then preceded_by (as_file word) rest else None

-- the uses that the words give, where the option of this name waits for its value
abbrev pub uses_of : Option Text → List Text → Option (List Use)
uses_of None [] = Some []
uses_of (Some name) [] = None
uses_of None (w ∷ ws) =
    if bytes_eq w dashes then Some (map as_file ws)
    else uses_word (long_of w) w (uses_of None ws) (λ name. uses_of (Some name) ws)
uses_of (Some name) (w ∷ ws) = if may_stand w then preceded_by (name, w) (uses_of None ws) else None

-- ---- each use once

abbrev pub has : Text → List Use → Bool
has name uses = list_any (λ u. bytes_eq u.0 name) uses

-- the uses, if no name stands twice among them and `seen`, and FILE stands there
abbrev pub kept : List Use → List Use → Option (List Use)
kept seen [] = if has (codes "FILE") seen then Some seen else None
kept seen (u ∷ us) = if has u.0 seen then None else kept (seen ++ u ∷ []) us

-- what the words give, if they are in their places, each option stands at most once, and FILE once
abbrev pub given : List Text → Option (List Use)
given words = option_and_then (kept []) (uses_of None words)

-- the command that the words are, if they are one
abbrev pub command_of : List Text → Option Command
command_of words = option_and_then (λ uses. told (value_in uses)) (given words)
