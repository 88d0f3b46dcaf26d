use Rattle.sgml_selfcheck.specs.sgml_conversion.declared.answer.Failure.TheVariants as failure
use Rattle.sgml_selfcheck.proofs.sgml_conversion.Documented.{not-sink}
use Rattle.sgml_cli.proofs.Exits.{unread}
use Rattle.sgml_cli.proofs.converting.convert_document.Goals as goal

pub returns-in_default-clause-converts : goal.returns-in_default-clause-converts
returns-in_default-clause-converts g c = unread c.args.limit (g.S.Store.files c.args.store.now) c.args.command.now c.args.settings (g.O.Sink.taken c.args.out.now) failure.Memory not-sink
