use Rattle.std.proofs.Common.{Ok, Err}
use Rattle.sgml_instance.proofs.Found.{tells-document-end, text-end-turned}
use Rattle.sgml_instance.proofs.step.take_end_of_text.Goals as goal

pub returns-in-Ok-clause-tells : goal.returns-in-Ok-clause-tells
returns-in-Ok-clause-tells c =
    tells-document-end c.args.texts.now c.args.content.now c.finish.new.content c.args.told.now.items c.finish.new.told.items (Ok c.in-Ok.field-0) c.in-Ok.ensures

pub returns-in-Err-clause-tells : goal.returns-in-Err-clause-tells
returns-in-Err-clause-tells c =
    tells-document-end c.args.texts.now c.args.content.now c.finish.new.content c.args.told.now.items c.finish.new.told.items (Err c.in-Err.stop) c.in-Err.ensures

pub returns-else-is_in_document-clause-tells : goal.returns-else-is_in_document-clause-tells
returns-else-is_in_document-clause-tells c =
    text-end-turned c.args.texts.now c.args.content.now c.take_text_end.new.content c.args.told.now.items c.args.over.now c.take_text_end.result c.requires.going_on (c.take_text_end.ensures c.args.texts.now)
