use Rattle.std.proofs.Common.{arith}
use Rattle.sgml_dtd_elements.proofs.PreparedRows.{declared_still, read_still}
use Rattle.sgml_dtd_elements.proofs.row.prepare_row.Goals as goal

pub returns-clause-declared : goal.returns-clause-declared
returns-clause-declared c =
    let e = c.len.ensures in let f = c.if-at-len.false in
    declared_still c.args.rows.now.items c.args.at c.index_mut.result.now c.prepare.new.self (omega (arith, e, f)) c.index_mut.ensures.value c.prepare.ensures.form

pub returns-clause-read : goal.returns-clause-read
returns-clause-read c =
    let e = c.len.ensures in let f = c.if-at-len.false in
    read_still c.args.rows.now.items c.args.at c.index_mut.result.now c.prepare.new.self (omega (arith, e, f)) c.index_mut.ensures.value c.prepare.ensures.read
