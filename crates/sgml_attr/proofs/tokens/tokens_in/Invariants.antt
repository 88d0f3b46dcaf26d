use Rattle.std.proofs.Common.{◌≡◌, ◌≤◌, [], take, drop, map, fold}
use Rattle.sgml_attr.specs.Parts.{parted}
use Rattle.sgml_attr.specs.Tokens.{token_of}
use Rattle.sgml_attr.proofs.tokens.tokens_in.Given as goal

abbrev pub invariant-parts : goal.invariant-parts
invariant-parts l = record {
  within : l.begun ≤ l.i;
  ended : l.names.items ≡ map (token_of l.folding) (fold parted ([], []) (take l.i l.units)).0;
  begun : drop l.begun (take l.i l.units) ≡ (fold parted ([], []) (take l.i l.units)).1;
}
