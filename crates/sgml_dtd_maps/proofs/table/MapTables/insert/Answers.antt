use Rattle.std.proofs.Common.{◌≡◌, ◌∙◌, ◌++◌, ◌∷◌, [], if◌then◌else◌, ap}
use Rattle.sgml_names.specs.Index.{found}
use Rattle.sgml_shortref.specs.Maps.{number_in}
use Rattle.sgml_dtd_maps.proofs.Numbering.{found-maps, one_map, taken_off}
use Rattle.sgml_dtd_maps.proofs.table.MapTables.insert.Goals as goal

pub add-requires : goal.add-requires
add-requires c =
    ap (found c.self.inside.of_maps) c.items.ensures.list
    ∙ ap (λ t. found t c.args.name) c.self.invariant.maps_are
    ∙ found-maps c.self.inside.maps c.args.name
    ∙ ap (λ t. number_in t.maps c.args.name) c.self.view_is
    ∙ c.requires

pub invariant_of-self-in-Ok : goal.invariant_of-self-in-Ok
invariant_of-self-in-Ok c =
    one_map c.self.inside.maps c.push.new.self c.self.inside.uses.items c.self.inside.of_maps c.add.new.self c.self.inside.of_targets c.args.name c.items.result.now c.args.pairs.items c.count-number.result c.self.invariant
    c.in-Ok.ensures.ok
    c.count-number.ensures
    c.items.ensures.list
    c.in_ok-add.ensures.ok

pub invariant_of-self-in-Err : goal.invariant_of-self-in-Err
invariant_of-self-in-Err c =
    taken_off c.self.inside.maps c.push.new.self c.self.inside.uses.items c.self.inside.of_maps c.add.new.self c.truncate.new.self c.self.inside.of_targets c.items.result.now c.count-number.result c.self.invariant
    c.in-Err.ensures.err c.count-number.ensures c.in_ok-add.ensures.ok c.truncate.ensures
