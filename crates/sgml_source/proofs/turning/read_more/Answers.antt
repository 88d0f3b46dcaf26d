use Rattle.std.proofs.Common.{refl}
use Rattle.sgml_text.specs.declared.reason.Reason.TheVariants.{EntityTooLarge}
use Rattle.sgml_source.proofs.Cut.{cut-is-refused}
use Rattle.sgml_source.proofs.turning.read_more.Goals as goal

pub returns-in-Cut-clause-more : goal.returns-in-Cut-clause-more
returns-in-Cut-clause-more g c =
    let left = g.S.Store.left c.args.store.now in
    cut-is-refused (g.S.Store.files c.args.store.now) left left c.args.source.now c.args.source.now c.args.parser.now (record { place = c.place.result; reason = EntityTooLarge }) c.in-Cut.is c.place.ensures refl
