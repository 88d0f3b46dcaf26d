use Rattle.std.proofs.Common.{[], ◌∷◌, ◌∙◌}
use Rattle.sgml_said.specs.Told.{name_at}
use Rattle.sgml_theory_reading.specs.Lines.{FinishLine}
use Rattle.sgml_event_lines.proofs.Standing.{goes_headed, finish_goes}
use Rattle.sgml_event_lines.proofs.writer.Writer.put_end.Goals as goal

pub returns : goal.returns
returns g c =
    goes_headed c.args.dtd.now (FinishLine (name_at c.args.dtd.now c.args.element) ∷ []) _ _ c.args.self.now _ _ c.put_head.new.self _ _ _ c.put_head.ensures.puts c.put_head.ensures.head c.put_head.ensures.within c.put_head.ensures.marks c.put_head.ensures.lines
    (finish_goes c.args.dtd.now c.args.element _ _ c.put_head.new.self _ _ _ c.put_head.ensures.head (c.put_name.ensures.head ∙ c.put_head.ensures.head) c.put_name.ensures.within c.put_name.ensures.puts c.put_name.ensures.marks c.put_name.ensures.lines)
