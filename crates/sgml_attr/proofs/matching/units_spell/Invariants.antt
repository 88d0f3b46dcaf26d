use Rattle.std.proofs.Common.{◌≡◌, ◌≤◌, ◌-◌, length, drop}
use Rattle.std.specs.Str.{bytes_eq}
use Rattle.sgml_attr.specs.Tokens.{token_of}
use Rattle.sgml_attr.proofs.matching.units_spell.Given as goal

abbrev pub invariant-bytes : goal.invariant-bytes
invariant-bytes l = record {
  within : l.i ≤ length l.units;
  as_long : length l.units ≡ length l.name;
  same : bytes_eq (token_of l.folding l.units) l.name ≡ bytes_eq (token_of l.folding (drop l.i l.units)) (drop l.i l.name);
}

abbrev pub decreases-bytes : goal.decreases-bytes
decreases-bytes l = length l.units - l.i
