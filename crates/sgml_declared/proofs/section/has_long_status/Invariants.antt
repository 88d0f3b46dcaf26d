use Rattle.std.proofs.Common.{◌≡◌, length}
use Rattle.sgml_declared.specs.Statuses.{has_long_status}
use Rattle.sgml_declared.proofs.section.has_long_status.Given as goal

abbrev pub invariant-lexemes : goal.invariant-lexemes
invariant-lexemes l = has_long_status l.syntax l.rest ≡ has_long_status l.syntax l.fn.lexemes

abbrev pub decreases-lexemes : goal.decreases-lexemes
decreases-lexemes l = length l.rest
