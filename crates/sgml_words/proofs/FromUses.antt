-- The command, from the values of the uses.
use Rattle.std.proofs.Common.{◌≡◌, ◌∙◌, ap, List, Option, Some, None, option_and_then}
use Rattle.std.proofs.Math.Path.{fun_ext}
use Rattle.clap.specs.Matches.{first_value, found_of}
use Rattle.clap.specs.declared.parser.matches.ArgMatches.{ArgMatches}
use Rattle.sgml_words.specs.Words.{Use, value_in}
use Rattle.sgml_words.specs.Clap.{Shows}
use Rattle.sgml_words.specs.Told.{told}
use Rattle.sgml_words.specs.declared.command.Command.{Command}

by_uses : (m : ArgMatches) (uses : Option (List Use)) → Shows m uses
    → told (first_value (found_of m)) ≡ option_and_then (λ us. told (value_in us)) uses
by_uses m None shows = absurd shows
by_uses m (Some us) shows = ap told (fun_ext shows)

pub from_uses : (m : ArgMatches) (uses : Option (List Use)) (found : Option Command) → Shows m uses
    → found ≡ told (first_value (found_of m))
    → found ≡ option_and_then (λ us. told (value_in us)) uses
from_uses m uses found shows is = is ∙ by_uses m uses shows
