use Rattle.std.proofs.Common.{◌≡◌, drop}
use Rattle.sgml_delim.specs.Ends.{later}
use Rattle.sgml_decl_parts.specs.Ends.{quote_end}
use Rattle.sgml_decl_parts.proofs.ends.quote_end.Given as goal

abbrev pub invariant-bytes : goal.invariant-bytes
invariant-bytes l = quote_end l.quote l.bytes ≡ later l.i (quote_end l.quote (drop l.i l.bytes))
