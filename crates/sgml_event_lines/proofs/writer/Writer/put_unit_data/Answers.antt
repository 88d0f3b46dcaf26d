use Rattle.std.proofs.Common.{sym, ◌∙◌}
use Rattle.std.specs.Prelude.{flat_map}
use Rattle.sgml_esis.proofs.Holding.{puts_then}
use Rattle.sgml_said.specs.Told.{said_data}
use Rattle.sgml_theory_reading.specs.Lines.{lines_of}
use Rattle.sgml_event_lines.specs.Standing.{unit_bytes}
use Rattle.sgml_event_lines.specs.Spelled.{beginning}
use Rattle.sgml_event_lines.proofs.Standing.{goes_headed, data_goes, no_units_go, some_of}
use Rattle.sgml_event_lines.proofs.writer.Writer.put_unit_data.Goals as goal

pub returns-then-is_empty : goal.returns-then-is_empty
returns-then-is_empty g c = no_units_go c.args.dtd.now c.args.units.now _ _ c.args.self.now (sym c.is_empty.ensures ∙ c.if-is_empty.true)

pub returns : goal.returns
returns g c =
    goes_headed c.args.dtd.now (lines_of c.args.dtd.now (said_data c.args.dtd.now c.args.units.now)) _ _ c.args.self.now _ _ c.put_head.new.self _ _ _ c.put_head.ensures.puts c.put_head.ensures.head c.put_head.ensures.within c.put_head.ensures.marks c.put_head.ensures.lines
    (data_goes c.args.dtd.now c.args.units.now _ _ c.put_head.new.self _ _ _ (some_of c.args.units.now (sym c.is_empty.ensures ∙ c.if-is_empty.false)) c.put_head.ensures.head (c.open_data.ensures.head ∙ c.put_head.ensures.head) c.open_data.ensures.within
    (record { entities = c.open_data.ensures.marks.entities; notations = c.open_data.ensures.marks.notations }) c.open_data.ensures.lines
    (puts_then _ _ _ _ _ _ _ _ _ (beginning c.put_head.new.self.within) (flat_map (unit_bytes c.args.dtd.now) c.args.units.now) c.open_data.ensures.puts c.put_units.ensures))
