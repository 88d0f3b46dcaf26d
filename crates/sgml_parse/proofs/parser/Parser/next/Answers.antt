use Rattle.sgml_parse.specs.There.{reading_of}
use Rattle.sgml_parse.specs.Parsing.{parser}
use Rattle.sgml_parse.proofs.Gains.{none-of}
use Rattle.sgml_parse.proofs.Told.{refused-at, next-at}
use Rattle.sgml_parse.proofs.parser.Parser.next.Goals as goal

pub returns-in-Some-gone-clause-reads : goal.returns-in-Some-gone-clause-reads
returns-in-Some-gone-clause-reads g c =
    refused-at c.args.self.now _ c.refuse.new.self c.in-Some-gone.reason c.refuse.result c.self.view_is (none-of c.self.inside.failed c.in_default.not-Some) c.in-Some-gone.is c.refuse.ensures.result
    c.refuse.ensures.after

pub returns-clause-reads : goal.returns-clause-reads
returns-clause-reads g c =
    next-at c.args.self.now
    (parser c.self.inside.options.value c.self.inside.texts c.self.inside.records c.self.inside.ended (reading_of c.self.inside.reading) c.self.inside.wanted c.self.inside.gone c.self.inside.missing c.self.inside.failed)
    (reading_of c.read_on-answer.new.reading) c.tell-told.new.wanted c.error_in-self-inside.result c.read_on-answer.result c.tell-told.result c.self.view_is
    (none-of c.self.inside.failed c.in_default.not-Some) (none-of c.self.inside.gone c.in_default-gone.not-Some) c.error_in-self-inside.ensures c.read_on-answer.ensures.answer.reads
    c.read_on-answer.ensures.answer.over c.read_on-answer.ensures.doctype c.tell-told.ensures
