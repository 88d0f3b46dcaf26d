use Rattle.std.proofs.Common.{[], ◌∷◌, ◌++◌, refl, ◌∙◌}
use Rattle.sgml_said.specs.Told.{name_at, attributes_with}
use Rattle.sgml_theory_reading.specs.Lines.{StartLine, attribute_lines}
use Rattle.sgml_event_lines.specs.declared.writer.Writer.{Writer}
use Rattle.sgml_event_lines.proofs.Standing.{goes_headed, full_goes}
use Rattle.sgml_event_lines.proofs.writer.Writer.put_full_start.Goals as goal

pub returns : goal.returns
returns g c =
    let d = c.args.dtd.now in
    let as' = attributes_with c.args.definitions.now c.args.values.now in
    let y : Writer = record { pen = c.put_attributes.new.pen; head = c.close.new.self.head; within = c.close.new.self.within; lines = c.close.new.self.lines } in
    goes_headed d (attribute_lines d as' ++ (StartLine (name_at d c.args.element) ∷ [])) _ _ c.args.self.now _ _ c.put_head.new.self _ _ _ c.put_head.ensures.puts c.put_head.ensures.head c.put_head.ensures.within c.put_head.ensures.marks c.put_head.ensures.lines
    (full_goes d as' c.args.element _ _ c.put_head.new.self _ _ c.close.new.self _ _ y _ _ _ c.put_head.ensures.head (c.put_name.ensures.head ∙ c.close.ensures.head ∙ c.put_head.ensures.head) c.put_name.ensures.within c.close.ensures.puts c.close.ensures.marks c.put_attributes.ensures c.close.ensures.within c.put_name.ensures.puts c.put_name.ensures.marks c.close.ensures.lines (c.put_name.ensures.lines ∙ c.close.ensures.lines))
