use Rattle.std.proofs.Common.{◌≡◌, length}
use Rattle.sgml_bench.proofs.starts.have_values.Given as goal

abbrev pub invariant-starts : goal.invariant-starts
invariant-starts l = record {
  lists : length l.currents ≡ length l.dtd.lists;
  stack : l.stack ≡ l.fn.stack;
}
