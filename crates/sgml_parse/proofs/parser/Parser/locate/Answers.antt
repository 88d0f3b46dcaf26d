use Rattle.sgml_parse.proofs.Located.{locates}
use Rattle.sgml_parse.proofs.parser.Parser.locate.Goals as goal

pub returns : goal.returns
returns c = record { located = locates c.args.self.now _ c.deref.result.now c.kept.result.now c.args.place c.locate.result c.self.view_is c.deref.ensures c.kept.ensures.kept c.locate.ensures }
