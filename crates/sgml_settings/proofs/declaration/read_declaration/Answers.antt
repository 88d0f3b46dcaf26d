use Rattle.sgml_settings.proofs.Reading.{declared-alone, declared-followed}
use Rattle.sgml_settings.proofs.declaration.read_declaration.Goals as goal

pub returns-then-other-text : goal.returns-then-other-text
returns-then-other-text c =
    declared-followed c.args.text.now c.separators-before.result c.in-Ok.read.1 c.separators.result c.in-Ok.read.0 c.behind-own.result.now c.behind-rest.result.now
    c.separators-before.ensures.value c.behind-own.ensures c.in-Ok.ensures c.behind-rest.ensures c.separators.ensures.value c.if-other-text.true

pub returns : goal.returns
returns c =
    declared-alone c.args.text.now c.separators-before.result c.in-Ok.read.1 c.separators.result c.in-Ok.read.0 c.behind-own.result.now c.behind-rest.result.now
    c.separators-before.ensures.value c.behind-own.ensures c.in-Ok.ensures c.behind-rest.ensures c.separators.ensures.value c.if-other-text.false
