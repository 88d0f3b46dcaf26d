use Rattle.std.proofs.Common.{Bool, subst}
use Rattle.sgml_content_steps.specs.Steps.{Tells}
use Rattle.sgml_content_data.specs.Steps.{taken}
use Rattle.sgml_content_data.proofs.Scanned.{number-token}
use Rattle.sgml_content_data.proofs.tokens.take_character_reference.Goals as goal

pub returns-then-take_character : goal.returns-then-take_character
returns-then-take_character c =
    subst (λ (b : Bool). Tells c.args.texts.now c.args.token c.args.content.now c.take_character.new.content c.args.told.now.items c.take_character.new.told.items (taken b c.take_character.new.stop))
    c.if-take_character.true
    (number-token c.args.texts.now c.args.token c.args.byte c.args.content.now c.take_character.new.content c.args.told.now.items c.take_character.new.told.items (taken c.take_character.result c.take_character.new.stop) c.requires.kind c.take_character.ensures)

pub returns-else-take_character : goal.returns-else-take_character
returns-else-take_character c =
    subst (λ (b : Bool). Tells c.args.texts.now c.args.token c.args.content.now c.take_character.new.content c.args.told.now.items c.take_character.new.told.items (taken b c.take_character.new.stop))
    c.if-take_character.false
    (number-token c.args.texts.now c.args.token c.args.byte c.args.content.now c.take_character.new.content c.args.told.now.items c.take_character.new.told.items (taken c.take_character.result c.take_character.new.stop) c.requires.kind c.take_character.ensures)
