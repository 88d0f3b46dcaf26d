use Rattle.std.proofs.Common.{◌≡◌, ◌≤◌, ◌+◌, ◌-◌, ◌++◌, length, map, take}
use Rattle.std.specs.Prelude.{vec_len, vec_capacity}
use Rattle.sgml_esis.specs.declared.line.EscUnit.TheVariants as kinds
use Rattle.sgml_esis.proofs.line.push_bytes.Given as goal

abbrev pub invariant-loop-b : goal.invariant-loop-b
invariant-loop-b l = record {
  units : l.units.items ≡ l.fn.units.items ++ map kinds.Byte (take l.b-index l.bytes);
  room : vec_len l.units + (length l.bytes - l.b-index) ≤ vec_capacity l.units;
}
