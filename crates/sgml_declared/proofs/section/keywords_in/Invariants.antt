use Rattle.std.proofs.Common.{◌≡◌, ◌++◌, length}
use Rattle.sgml_theory_standing.specs.theory_spelling.Content.{keywords_in}
use Rattle.sgml_declared.proofs.section.keywords_in.Given as goal

abbrev pub invariant-lexemes : goal.invariant-lexemes
invariant-lexemes l = l.names.items ++ keywords_in l.rest ≡ keywords_in l.fn.lexemes

abbrev pub decreases-lexemes : goal.decreases-lexemes
decreases-lexemes l = length l.rest
