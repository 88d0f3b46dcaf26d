-- The outline of the program, as the reading sees it.
use Rattle.std.specs.Prelude.{map, reverse, option_map}
use Rattle.sgml_model.specs.ReaderView.{connector_view}
use Rattle.sgml_model.specs.Outline as o
use Rattle.sgml_model.specs.declared.outline.Begun.{Begun}
use Rattle.sgml_model.specs.declared.outline.Outline.{Outline}

abbrev pub begun_view : Begun → o.Begun
begun_view b = record { connector = option_map connector_view b.connector; members = b.members }

abbrev pub outline_of : Outline → o.Outline
outline_of s = o.outline (reverse (map begun_view s.open_groups.items)) s.item s.markable s.widest s.total s.level
