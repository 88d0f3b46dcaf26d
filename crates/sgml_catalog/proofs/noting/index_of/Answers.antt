use Rattle.std.proofs.Common.{◌<◌, length, rules}
use Rattle.sgml_catalog.proofs.Noted.{one_noted}
use Rattle.sgml_catalog.proofs.noting.index_of.Goals as goal

pub loop-number-preserved : goal.loop-number-preserved
loop-number-preserved c =
    let lt : c.loop-number.number < length c.args.entries.now = search rules in
    let e = c.index-entries-number.result in
    one_noted c.loop-number.index c.note.new.index c.args.entries.now c.loop-number.number e e lt c.index-entries-number.is c.loop-number.invariant c.in_ok-note.ensures
