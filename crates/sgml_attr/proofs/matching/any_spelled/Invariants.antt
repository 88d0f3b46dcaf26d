use Rattle.std.proofs.Common.{◌≡◌, false, take}
use Rattle.std.specs.List.{list_any}
use Rattle.std.specs.Str.{bytes_eq}
use Rattle.sgml_attr.specs.Tokens.{token_of}
use Rattle.sgml_attr.proofs.matching.any_spelled.Given as goal

abbrev pub invariant-loop-name : goal.invariant-loop-name
invariant-loop-name l = list_any (bytes_eq (token_of l.folding l.units)) (take l.name-index l.names) ≡ false
