use Rattle.std.proofs.Common.{sym, ap, ◌∙◌}
use Rattle.sgml_parse.specs.There.{reading_of}
use Rattle.sgml_parse.specs.Parsing.{Parser, parser}
use Rattle.sgml_parse.proofs.Gains.{none-of}
use Rattle.sgml_parse.proofs.Told.{refused-at}
use Rattle.sgml_parse.proofs.Together.{error-again, failed-again, read-at}
use Rattle.sgml_parse.proofs.parser.Parser.read.Goals as goal

pub returns-in-Some-clause-reads : goal.returns-in-Some-clause-reads
returns-in-Some-clause-reads g c = failed-again c.args.self.now _ c.args.told.now.items c.in-Some.error (ap (λ (z : Parser). z.failed) (sym c.self.view_is) ∙ c.in-Some.is)

pub returns-in-Some-gone-clause-reads : goal.returns-in-Some-gone-clause-reads
returns-in-Some-gone-clause-reads g c =
    error-again c.args.self.now c.refuse.new.self c.args.told.now.items c.refuse.result
    (refused-at c.args.self.now _ c.refuse.new.self c.in-Some-gone.reason c.refuse.result c.self.view_is (none-of c.self.inside.failed c.in_default.not-Some) c.in-Some-gone.is c.refuse.ensures.result
    c.refuse.ensures.after)

pub returns-clause-reads : goal.returns-clause-reads
returns-clause-reads g c =
    read-at c.args.self.now
    (parser c.self.inside.options.value c.self.inside.texts c.self.inside.records c.self.inside.ended (reading_of c.self.inside.reading) c.self.inside.wanted c.self.inside.gone c.self.inside.missing c.self.inside.failed)
    (reading_of c.read_many-answer.new.reading) c.tell_pause-pause.new.wanted c.error_of-self-inside.result c.args.told.now.items c.read_many-answer.new.told.items c.read_many-answer.result
    c.tell_pause-pause.result c.self.view_is (none-of c.self.inside.failed c.in_default.not-Some) (none-of c.self.inside.gone c.in_default-gone.not-Some) c.error_of-self-inside.ensures
    c.read_many-answer.ensures.answer c.read_many-answer.ensures.doctype c.tell_pause-pause.ensures
