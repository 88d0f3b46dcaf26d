use Rattle.std.proofs.Common.{◌≡◌, ◌≤◌, length}
use Rattle.sgml_decl_parts.specs.Bytes.{number_after}
use Rattle.sgml_decl_parts.proofs.bytes.number.Given as goal

abbrev pub invariant-digits : goal.invariant-digits
invariant-digits l = record {
  same : number_after l.number l.rest ≡ number_after 0 l.fn.digits;
  small : l.number ≤ 256;
}

abbrev pub decreases-digits : goal.decreases-digits
decreases-digits l = length l.rest
