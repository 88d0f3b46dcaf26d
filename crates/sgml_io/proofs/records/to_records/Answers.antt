use Rattle.sgml_io.proofs.Made.{whole}
use Rattle.sgml_io.proofs.records.to_records.Goals as goal

pub returns : goal.returns
returns c =
    whole c.new-reader.result c.push.new.self c.args.bytes.now c.in_ok-text.text.items c.push.new.text.items c.end.new.text.items c.new-reader.ensures c.in_ok-text.ensures.items c.in_ok-push.ensures.pushed c.in_ok-end.ensures.ended
