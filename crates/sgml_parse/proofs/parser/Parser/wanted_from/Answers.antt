use Rattle.sgml_parse.proofs.Unsupplied.{there-is-one, first-is-found}
use Rattle.sgml_parse.proofs.parser.Parser.wanted_from.Goals as goal

pub kept-requires : goal.kept-requires
kept-requires c = there-is-one c.args.self.now _ c.self.view_is c.requires.prolog

pub returns : goal.returns
returns c = first-is-found c.args.self.now _ c.deref.result.now c.kept.result.now c.args.from c.first_unsupplied.result c.self.view_is c.deref.ensures c.kept.ensures.kept c.requires.prolog c.first_unsupplied.ensures
