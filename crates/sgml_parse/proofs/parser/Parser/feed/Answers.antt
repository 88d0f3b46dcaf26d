use Rattle.sgml_parse.specs.There.{reading_of}
use Rattle.sgml_parse.proofs.Gains.{none-of, fed}
use Rattle.sgml_parse.proofs.parser.Parser.feed.Goals as goal

pub returns-in-Ok-clause-fed : goal.returns-in-Ok-clause-fed
returns-in-Ok-clause-fed c =
    fed c.args.self.now c.self.inside.options.value c.self.inside.texts c.append_document.new.texts c.self.inside.records c.append_document.new.records c.self.inside.ended (reading_of c.self.inside.reading)
    c.self.inside.wanted c.self.inside.gone c.self.inside.missing c.self.inside.failed c.args.bytes.now c.self.view_is c.requires.going_on (none-of c.self.inside.failed c.in_default.not-Some) c.in-Ok.ensures.ok
