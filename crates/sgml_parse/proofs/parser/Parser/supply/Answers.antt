use Rattle.std.proofs.Common.{◌≡◌, Option, ap, ◌∙◌, if◌then◌else◌}
use Rattle.std.specs.Option.{option_or}
use Rattle.sgml_text.specs.declared.reason.Reason.{Reason}
use Rattle.sgml_parse.specs.There.{reading_of}
use Rattle.sgml_parse.specs.Calls.{is_of}
use Rattle.sgml_parse.proofs.Gains.{none-of, supplied}
use Rattle.sgml_parse.proofs.parser.Parser.supply.Goals as goal

pub returns-in-Ok-clause-supplies : goal.returns-in-Ok-clause-supplies
returns-in-Ok-clause-supplies c =
    supplied c.args.self.now c.self.inside.options.value c.self.inside.texts c.supply_text-supplied.new.texts c.self.inside.records c.self.inside.ended (reading_of c.self.inside.reading) c.self.inside.wanted
    c.self.inside.gone c.gone_after-self-inside.result c.self.inside.missing c.supply_text-supplied.new.missing c.self.inside.failed c.args.entity c.args.given c.self.view_is
    (none-of c.self.inside.failed c.in_default.not-Some) c.in-Ok.ensures.texts
    (c.gone_after-self-inside.ensures ∙ ap (λ (z : Option Reason). if is_of c.args.entity c.self.inside.wanted then option_or z c.self.inside.gone else c.self.inside.gone) c.in-Ok.ensures.gone)
    c.in-Ok.ensures.missing
