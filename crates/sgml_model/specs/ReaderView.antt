-- The tokens and the reader of the program, as the reading sees them.
use Rattle.std.specs.Prelude.{map, reverse, option_map}
use Rattle.sgml_model.specs.View.{view}
use Rattle.sgml_model.specs.Group as g
use Rattle.sgml_model.specs.Reading as r
use Rattle.sgml_model.specs.declared.token.GroupToken.{GroupToken}
use Rattle.sgml_model.specs.declared.token.GroupToken.TheVariants.{Begin, Finish, Name, Pcdata, Seq, Or, And, Opt, Plus, Rep}
use Rattle.sgml_model.specs.declared.reader.Connector.{Connector}
use Rattle.sgml_model.specs.declared.reader.Connector.TheVariants as c
use Rattle.sgml_model.specs.declared.reader.Mark.{Mark}
use Rattle.sgml_model.specs.declared.reader.Mark.TheVariants as m
use Rattle.sgml_model.specs.declared.reader.Open.{Open}
use Rattle.sgml_model.specs.declared.reader.Reader.{Reader}

abbrev pub sign : GroupToken → g.Sign
sign Begin = g.begin
sign Finish = g.finish
sign (Name n) = g.word n
sign Pcdata = g.text
sign Seq = g.by g.in_order
sign Or = g.by g.one_of
sign And = g.by g.all_of
sign Opt = g.mark g.once
sign Plus = g.mark g.some_times
sign Rep = g.mark g.any_times

abbrev pub connector_view : Connector → g.Connector
connector_view c.Seq = g.in_order
connector_view c.Or = g.one_of
connector_view c.And = g.all_of

abbrev pub mark_view : Mark → g.Mark
mark_view m.Opt = g.once
mark_view m.Plus = g.some_times
mark_view m.Rep = g.any_times

abbrev pub open_view : Open → r.Open
open_view o = record { connector = option_map connector_view o.connector; members = map view o.members.items }

abbrev pub state_of : Reader → r.State
state_of s = r.state (reverse (map open_view s.open_groups.items)) (option_map view s.item) s.markable s.number
