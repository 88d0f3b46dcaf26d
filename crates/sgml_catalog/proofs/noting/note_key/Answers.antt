use Rattle.sgml_catalog.specs.Keys.{key_of}
use Rattle.sgml_catalog.proofs.Noted.{added}
use Rattle.sgml_catalog.proofs.noting.note_key.Goals as goal

pub returns-in_ok-add : goal.returns-in_ok-add
returns-in_ok-add c = added c.args.index.now c.add.new.self (key_of c.args.key) c.args.number c.in_ok-add.ensures.ok
