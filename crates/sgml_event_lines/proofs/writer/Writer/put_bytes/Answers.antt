use Rattle.std.proofs.Common.{refl, sym, ◌∙◌, ◌++◌, ap}
use Rattle.sgml_esis.proofs.Holding.{puts_as}
use Rattle.sgml_text.specs.Units.{characters}
use Rattle.sgml_said.specs.Told.{said_data}
use Rattle.sgml_theory_reading.specs.Lines.{lines_of}
use Rattle.sgml_event_lines.specs.Spelled.{beginning}
use Rattle.sgml_event_lines.proofs.Bytes.{characters_bytes}
use Rattle.sgml_event_lines.proofs.Standing.{goes_headed, bytes_go, no_bytes_go, some_of}
use Rattle.sgml_event_lines.proofs.writer.Writer.put_bytes.Goals as goal

pub returns-then-is_empty : goal.returns-then-is_empty
returns-then-is_empty g c = λ d. no_bytes_go d c.args.bytes.now _ _ c.args.self.now (sym c.is_empty.ensures ∙ c.if-is_empty.true)

pub returns : goal.returns
returns g c = λ d.
    goes_headed d (lines_of d (said_data d (characters c.args.bytes.now))) _ _ c.args.self.now _ _ c.put_head.new.self _ _ _ c.put_head.ensures.puts c.put_head.ensures.head c.put_head.ensures.within c.put_head.ensures.marks c.put_head.ensures.lines
    (bytes_go d c.args.bytes.now _ _ c.put_head.new.self _ _ _ (some_of c.args.bytes.now (sym c.is_empty.ensures ∙ c.if-is_empty.false)) c.put_head.ensures.head c.put_head.ensures.head refl (record { entities = refl; notations = refl }) refl c.put_data_text.ensures)
