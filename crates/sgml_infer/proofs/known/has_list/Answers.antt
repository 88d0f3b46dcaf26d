use Rattle.std.proofs.Common.{◌∙◌}
use Rattle.sgml_infer.proofs.Knowing.{list-told}
use Rattle.sgml_infer.proofs.known.has_list.Goals as goal

pub returns : goal.returns
returns c = c.is_some.ensures ∙ list-told c.args.dtd.now c.args.element c.list.result c.list.ensures
