use Rattle.sgml_idents.proofs.Growing.{noted_by}
use Rattle.sgml_idents.proofs.idents.Idents.note.Goals as goal

pub returns : goal.returns
returns c = noted_by _ c.args.self.now c.note_defined.new.self c.start_definitions.result.now c.args.dtd.now c.args.event.now c.start_definitions.ensures c.note_defined.ensures
