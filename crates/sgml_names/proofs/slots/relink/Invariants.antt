use Rattle.std.proofs.Common.{◌≡◌, take, length}
use Rattle.sgml_names.specs.Slots.{hashes_of, Linked}
use Rattle.sgml_names.proofs.slots.relink.Given as goal

abbrev pub invariant-loop-place : goal.invariant-loop-place
invariant-loop-place l = record {
  linked : Linked (take l.place l.links) l.last;
  hashes : hashes_of l.links ≡ hashes_of l.initial.links;
  links : length l.links ≡ length l.initial.links;
  slots : length l.last ≡ length l.initial.last;
}
