use Rattle.std.proofs.Common.{◌∙◌, ap}
use Rattle.sgml_names.proofs.Repeating.{at_first}
use Rattle.sgml_names.specs.Index.{found}
use Rattle.sgml_dtd_attlists.proofs.table.add_names.Goals as goal

pub add-requires : goal.add-requires
add-requires c =
    ap (found c.names.index) c.items.ensures.list
    ∙ at_first c.names.index c.names.rest.now c.name-item.result c.names.invariant.new c.in-len1-up.len_at_least c.name-item.is
