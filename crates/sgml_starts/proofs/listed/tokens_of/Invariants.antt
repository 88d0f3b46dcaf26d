use Rattle.std.proofs.Common.{◌≡◌, ◌≤◌, [], take, drop, map, fold}
use Rattle.sgml_text.specs.Units.{characters}
use Rattle.sgml_attr.specs.Parts.{parted}
use Rattle.sgml_attr.specs.Tokens.{token_of}
use Rattle.sgml_starts.proofs.listed.tokens_of.Given as goal

abbrev pub invariant-parts : goal.invariant-parts
invariant-parts l = record {
  within : l.begun ≤ l.i;
  ended : l.names.items ≡ map (token_of l.folding) (fold parted ([], []) (take l.i (characters l.bytes))).0;
  begun : drop l.begun (take l.i (characters l.bytes)) ≡ (fold parted ([], []) (take l.i (characters l.bytes))).1;
}
