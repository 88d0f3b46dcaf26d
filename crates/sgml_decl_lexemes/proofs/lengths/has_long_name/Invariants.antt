use Rattle.std.proofs.Common.{◌≡◌, length}
use Rattle.sgml_decl_lexemes.specs.Lengths.{has_long_name}
use Rattle.sgml_decl_lexemes.proofs.lengths.has_long_name.Given as goal

abbrev pub invariant-lexemes : goal.invariant-lexemes
invariant-lexemes l = has_long_name l.syntax l.due l.rest ≡ has_long_name l.syntax l.fn.first l.fn.lexemes

abbrev pub decreases-lexemes : goal.decreases-lexemes
decreases-lexemes l = length l.rest
