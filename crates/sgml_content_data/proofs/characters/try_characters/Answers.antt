use Rattle.std.proofs.Common.{sym, ◌∙◌}
use Rattle.sgml_content_data.proofs.Scanned.{skipped-tells, read-tells}
use Rattle.sgml_content_data.specs.Steps.{taken}
use Rattle.sgml_content_data.proofs.characters.try_characters.Goals as goal

pub returns-then-is_ignored : goal.returns-then-is_ignored
returns-then-is_ignored c =
    skipped-tells c.args.state c.args.texts.now c.args.token c.args.content.now c.note.new.content c.args.told.now.items c.requires.content c.requires.some c.requires.within c.requires.kind
    (sym c.is_ignored.ensures ∙ c.if-is_ignored.true) c.note.ensures.content

pub returns : goal.returns
returns c =
    read-tells c.args.state c.args.texts.now c.args.token c.args.content.now c.take_read.new.content c.args.told.now.items c.take_read.new.told.items (taken c.take_read.result c.take_read.new.stop)
    (sym c.is_ignored.ensures ∙ c.if-is_ignored.false) c.take_read.ensures
