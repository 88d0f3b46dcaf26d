use Rattle.std.proofs.Common.{◌∙◌}
use Rattle.sgml_said.specs.Told.{said}
use Rattle.sgml_theory_reading.specs.Lines.{lines_of}
use Rattle.sgml_event_lines.proofs.Standing.{goes_headed, mark_goes}
use Rattle.sgml_event_lines.proofs.writer.Writer.put_mark.Goals as goal

pub returns : goal.returns
returns g c =
    goes_headed c.args.dtd.now (lines_of c.args.dtd.now (said c.args.dtd.now c.args.event.now)) _ _ c.args.self.now _ _ c.put_head.new.self _ _ _ c.put_head.ensures.puts c.put_head.ensures.head c.put_head.ensures.within c.put_head.ensures.marks c.put_head.ensures.lines
    (mark_goes c.args.dtd.now c.args.event.now _ _ c.put_head.new.self _ _ c.close.new.self _ _ _ c.requires.mark c.put_head.ensures.head (c.close.ensures.head ∙ c.put_head.ensures.head) c.close.ensures.within c.close.ensures.puts c.close.ensures.marks c.put_lines.ensures c.close.ensures.lines)
