use Rattle.std.proofs.Common.{◌≡◌, true, take}
use Rattle.std.specs.List.{list_all}
use Rattle.sgml_attr.specs.Tokens.{is_token, kind_of}
use Rattle.sgml_attr.proofs.rows.all_tokens.Given as goal

abbrev pub invariant-loop-name : goal.invariant-loop-name
invariant-loop-name l = list_all (is_token l.syntax.names (kind_of l.declared)) (take l.name-index l.names) ≡ true
