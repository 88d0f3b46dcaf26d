use Rattle.std.proofs.Common.{◌∙◌, ap, refl, false, length}
use Rattle.sgml_attr.specs.syntax.declared.syntax.Syntax.{Syntax}
use Rattle.sgml_event_lines.proofs.Marked.{none_marked}
use Rattle.sgml_event_lines.proofs.Standing.{begun}
use Rattle.sgml_event_lines.proofs.writer.Writer.begin.Goals as goal

pub returns : goal.returns
returns c = λ start count.
    let es = c.in_ok-entities.entities in let ns = c.in_ok-notations.notations in
    begun start count (record { pen = record { held = c.new.result; entities = es; notations = ns }; head = c.in_ok-head.head; within = false; lines = c.in_ok-lines.lines }) c.args.dtd.now
    c.new.ensures
    (c.in_ok-head.ensures ∙ ap (λ (s : Syntax). s.appinfo) c.syntax.ensures)
    refl
    (none_marked c.args.dtd.now es.items ns.items
    (c.in_ok-entities.ensures.count ∙ c.count.ensures.count ∙ ap length c.entities.ensures.entities)
    (c.in_ok-notations.ensures.count ∙ c.notations.ensures.count ∙ ap length c.entities-2.ensures.notations)
    c.in_ok-entities.ensures.none c.in_ok-notations.ensures.none)
    c.in_ok-lines.ensures
