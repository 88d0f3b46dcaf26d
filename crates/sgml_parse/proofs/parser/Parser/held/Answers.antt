use Rattle.sgml_parse.proofs.Holding.{held-is, held-unread}
use Rattle.sgml_parse.proofs.parser.Parser.held.Goals as goal

pub returns-clause-held : goal.returns-clause-held
returns-clause-held c = held-is c.args.self.now _ c.kept.result.now c.held.result c.self.view_is c.kept.ensures.kept c.held.ensures

pub returns-clause-unread : goal.returns-clause-unread
returns-clause-unread c =
    held-unread c.args.self.now _ c.kept.result.now c.held.result c.self.view_is c.kept.ensures.kept c.kept.ensures.document
    (held-is c.args.self.now _ c.kept.result.now c.held.result c.self.view_is c.kept.ensures.kept c.held.ensures)
