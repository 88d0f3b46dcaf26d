use Rattle.std.proofs.Common.{◌≡◌, ◌++◌, map, take}
use Rattle.sgml_text.specs.declared.unit.Unit.TheVariants as unit
use Rattle.sgml_decl_lexemes.proofs.progress.push_bytes.Given as goal

abbrev pub invariant-loop-b : goal.invariant-loop-b
invariant-loop-b l = l.units.items ≡ l.fn.units.items ++ map unit.Byte (take l.b-index l.bytes)
