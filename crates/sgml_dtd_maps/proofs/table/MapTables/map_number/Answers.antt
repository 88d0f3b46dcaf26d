use Rattle.std.proofs.Common.{◌∙◌, ap}
use Rattle.sgml_names.specs.Index.{found}
use Rattle.sgml_shortref.specs.Maps.{number_in}
use Rattle.sgml_dtd_maps.proofs.Numbering.{found-maps}
use Rattle.sgml_dtd_maps.proofs.table.MapTables.map_number.Goals as goal

pub returns : goal.returns
returns c =
    c.number.ensures
    ∙ ap (λ t. found t c.args.name.now) c.self.invariant.maps_are
    ∙ found-maps c.self.inside.maps c.args.name.now
    ∙ ap (λ t. number_in t.maps c.args.name.now) c.self.view_is
