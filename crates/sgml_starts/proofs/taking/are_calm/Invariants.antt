use Rattle.std.proofs.Common.{◌≡◌, true, take, nat_lt}
use Rattle.std.specs.List.{list_all}
use Rattle.sgml_decl_lexemes.specs.Declares.{is_plain}
use Rattle.sgml_starts.proofs.taking.are_calm.Given as goal

abbrev pub invariant-loop-b : goal.invariant-loop-b
invariant-loop-b l = record {
  plain : list_all (is_plain l.quote) (take l.b-index l.bytes) ≡ true;
  behind : list_all (nat_lt 31) (take l.b-index l.bytes) ≡ true;
}
