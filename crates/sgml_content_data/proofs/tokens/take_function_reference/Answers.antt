use Rattle.std.proofs.Common.{Bool, subst}
use Rattle.sgml_content_steps.specs.Steps.{Tells}
use Rattle.sgml_content_data.specs.Steps.{taken}
use Rattle.sgml_content_data.proofs.Scanned.{function-token}
use Rattle.sgml_content_data.proofs.tokens.take_function_reference.Goals as goal

pub returns-then-take_separator : goal.returns-then-take_separator
returns-then-take_separator c =
    subst (λ (b : Bool). Tells c.args.texts.now c.args.token c.args.content.now c.take_separator.new.content c.args.told.now.items c.take_separator.new.told.items (taken b c.take_separator.new.stop))
    c.if-take_separator.true
    (function-token c.args.texts.now c.args.token c.args.byte c.args.content.now c.take_separator.new.content c.args.told.now.items c.take_separator.new.told.items (taken c.take_separator.result c.take_separator.new.stop) c.requires.kind c.take_separator.ensures)

pub returns-else-take_separator : goal.returns-else-take_separator
returns-else-take_separator c =
    subst (λ (b : Bool). Tells c.args.texts.now c.args.token c.args.content.now c.take_separator.new.content c.args.told.now.items c.take_separator.new.told.items (taken b c.take_separator.new.stop))
    c.if-take_separator.false
    (function-token c.args.texts.now c.args.token c.args.byte c.args.content.now c.take_separator.new.content c.args.told.now.items c.take_separator.new.told.items (taken c.take_separator.result c.take_separator.new.stop) c.requires.kind c.take_separator.ensures)
