use Rattle.std.proofs.Common.{map, string_bytes}
use Rattle.std.proofs.lemmas.Result.{IfOk-weaker}
use Rattle.sgml_words.specs.Uses.{given}
use Rattle.sgml_words.proofs.FromUses.{from_uses}
use Rattle.sgml_words.proofs.command.command_of.Goals as goal

pub returns-in-Some : goal.returns-in-Some
returns-in-Some c =
    IfOk-weaker c.command_told.result _ _
    (λ found is. from_uses c.in-Some.matches (given (map string_bytes c.args.words.now)) found
    (rw c.in-Some.is at c.in_ok-matches.ensures) is)
    c.command_told.ensures
