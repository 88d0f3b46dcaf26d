use Rattle.sgml_infer.proofs.Knowing.{map-told}
use Rattle.sgml_infer.proofs.known.map_of.Goals as goal

pub returns : goal.returns
returns c = map-told c.args.dtd.now c.args.element c.map_of.result c.map_of.ensures
