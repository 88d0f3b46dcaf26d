use Rattle.std.proofs.Common.{arith, ◌<◌, length}
use Rattle.sgml_starts.proofs.Completed.{no-attributes}
use Rattle.sgml_starts.proofs.starts.without_attributes.Goals as goal

pub returns-then-not-is_empty-clause-err : goal.returns-then-not-is_empty-clause-err
returns-then-not-is_empty-clause-err c = λ S spent none.
    let some : 0 < length c.args.read.now.specs.items = grind (arith, c.is_empty.ensures, c.if-not-is_empty.true) in
    no-attributes S c.args.read.now.specs.items c.args.read.now.stop spent none some
