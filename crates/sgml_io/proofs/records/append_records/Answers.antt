use Rattle.std.proofs.Common.{◌≡◌, List, ℕ, length, ◌+◌, ◌≤◌, arith}
use Rattle.sgml_io.proofs.Made.{begins, read_part}
use Rattle.sgml_io.proofs.records.append_records.Goals as goal

pub ends-preserved : goal.ends-preserved
ends-preserved c = record {
  within = omega (arith, c.in-Some.ensures.high);
  left = c.in-Some.ensures.left;
  made = read_part c.ends.text.items c.take_line.new.text.items c.args.text.now.items c.ends.edge.0 c.ends.edge.1 c.in_ok-edge.edge.0 c.in_ok-edge.edge.1 c.args.start c.args.cr c.args.bytes.now c.ends.done c.in-Some.at c.in-Some.ensures.low c.in-Some.ensures.high c.in_ok-edge.ensures.ok c.ends.invariant.made;
  kept = begins c.args.text.now.items c.ends.text.items c.take_line.new.text.items c.ends.invariant.kept c.in_ok-edge.ensures.err;
}
