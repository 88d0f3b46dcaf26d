use Rattle.std.proofs.Common.{◌∙◌, ap}
use Rattle.sgml_names.specs.Index.{found}
use Rattle.sgml_dtd_maps.proofs.Targets.{found-push}
use Rattle.sgml_dtd_maps.proofs.table.add_target.Goals as goal

pub returns-clause-ok : goal.returns-clause-ok
returns-clause-ok c = λ q. ap (λ t. found t q) c.in_ok-add.ensures.ok ∙ found-push c.args.table.now c.args.name.now c.args.number q
