use Rattle.std.proofs.Common.{◌≡◌, false, take}
use Rattle.std.specs.List.{list_any}
use Rattle.sgml_dtd.specs.Rows.{is_long_literal}
use Rattle.sgml_declared.proofs.adding.has_long_literal.Given as goal

abbrev pub invariant-loop-lexeme : goal.invariant-loop-lexeme
invariant-loop-lexeme l = list_any (is_long_literal l.syntax) (take l.lexeme-index l.lexemes) ≡ false
