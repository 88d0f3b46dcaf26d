use Rattle.std.proofs.Common.{arith, ◌<◌, length}
use Rattle.sgml_starts.proofs.Tags.{as-many, rewound}
use Rattle.sgml_starts.proofs.starts.specified_values.Goals as goal

pub move_to-requires : goal.move_to-requires
move_to-requires c = omega (arith, c.requires.tag.0, as-many c.args.stack.now c.read_values.new.stack c.in-Ok.ensures.alike)

pub rewind-requires-clause-depth : goal.rewind-requires-clause-depth
rewind-requires-clause-depth c = omega (arith, c.mark-mark.ensures.depth, as-many c.args.stack.now c.read_values.new.stack c.in-Err.ensures.alike)

pub returns-in-Err-clause-err_stack : goal.returns-in-Err-clause-err_stack
returns-in-Err-clause-err_stack c =
    rewound c.args.stack.now c.read_values.new.stack c.rewind.new.self c.mark-mark.result.depth c.mark-mark.result.at c.mark-mark.result.spent c.in-Err.ensures.alike
    c.mark-mark.ensures.depth c.mark-mark.ensures.at c.mark-mark.ensures.spent c.rewind.ensures
