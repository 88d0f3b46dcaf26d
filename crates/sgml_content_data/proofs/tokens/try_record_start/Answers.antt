use Rattle.sgml_content_data.proofs.Scanned.{start-token}
use Rattle.sgml_content_data.specs.Steps.{taken}
use Rattle.sgml_content_data.proofs.tokens.try_record_start.Goals as goal

pub returns : goal.returns
returns c =
    start-token c.args.texts.now c.args.token c.args.content.now c.take_separator.new.content c.args.told.now.items c.take_separator.new.told.items (taken c.take_separator.result c.take_separator.new.stop) c.requires.kind c.take_separator.ensures
