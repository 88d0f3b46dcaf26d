use Rattle.std.proofs.Common.{◌≡◌, map, take}
use Rattle.sgml_names.specs.Naming.{cased_character}
use Rattle.sgml_attr.proofs.tokens.folded_bytes.Given as goal

abbrev pub invariant-loop-b : goal.invariant-loop-b
invariant-loop-b l = l.all.items ≡ map (cased_character l.folding) (take l.b-index l.bytes)
