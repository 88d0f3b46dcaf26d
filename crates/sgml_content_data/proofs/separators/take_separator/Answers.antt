use Rattle.std.specs.Prelude.{Ok}
use Rattle.std.proofs.Common.{sym, ap, ◌∙◌, subst}
use Rattle.sgml_inside.specs.records.Facts.{takes_end}
use Rattle.sgml_inside.specs.Inside.{facts_of}
use Rattle.sgml_content_data.specs.declared.around.Around.{Around}
use Rattle.sgml_content_data.specs.declared.role.Role.{Role}
use Rattle.sgml_content_data.specs.Roles.{role_of_separator, kind_by}
use Rattle.sgml_content_data.specs.Steps.{TellsPiece, taken}
use Rattle.sgml_content_data.proofs.Alone.{start-passed, separator-passed}
use Rattle.sgml_content_data.proofs.separators.take_separator.Goals as goal

pub returns-in-Data : goal.returns-in-Data
returns-in-Data c =
    let old = c.args.content.now in
    let e = ap (λ (a : Around). role_of_separator a c.args.byte) (sym c.look_around.ensures) ∙ (sym c.of_separator.ensures ∙ c.in-Data.is) in
    subst (λ (r : Role). TellsPiece c.args.texts.now c.args.n (kind_by r (takes_end (facts_of old.inside.elements)) c.args.byte) old c.take_character.new.content
    c.args.told.now.items c.take_character.new.told.items (taken c.take_character.result c.take_character.new.stop)) (sym e) c.take_character.ensures

pub returns-in-RecordEnd : goal.returns-in-RecordEnd
returns-in-RecordEnd c =
    let old = c.args.content.now in
    let e = ap (λ (a : Around). role_of_separator a c.args.byte) (sym c.look_around.ensures) ∙ (sym c.of_separator.ensures ∙ c.in-RecordEnd.is) in
    subst (λ (r : Role). TellsPiece c.args.texts.now c.args.n (kind_by r (takes_end (facts_of old.inside.elements)) c.args.byte) old c.take_end.new.content
    c.args.told.now.items c.take_end.new.told.items (taken c.take_end.result c.take_end.new.stop)) (sym e) c.take_end.ensures

pub returns-in-RecordStart : goal.returns-in-RecordStart
returns-in-RecordStart c =
    let old = c.args.content.now in
    let e = ap (λ (a : Around). role_of_separator a c.args.byte) (sym c.look_around.ensures) ∙ (sym c.of_separator.ensures ∙ c.in-RecordStart.is) in
    subst (λ (r : Role). TellsPiece c.args.texts.now c.args.n (kind_by r (takes_end (facts_of old.inside.elements)) c.args.byte) old c.note.new.content
    c.args.told.now.items c.args.told.now.items (Ok tt)) (sym e)
    (start-passed c.args.texts.now c.args.n old c.note.new.content c.args.told.now.items c.requires.content c.requires.some c.requires.within c.note.ensures.content)

pub returns-in-Ignored : goal.returns-in-Ignored
returns-in-Ignored c =
    let old = c.args.content.now in
    let e = ap (λ (a : Around). role_of_separator a c.args.byte) (sym c.look_around.ensures) ∙ (sym c.of_separator.ensures ∙ c.in-Ignored.is) in
    subst (λ (r : Role). TellsPiece c.args.texts.now c.args.n (kind_by r (takes_end (facts_of old.inside.elements)) c.args.byte) old c.pass.new.content
    c.args.told.now.items c.args.told.now.items (Ok tt)) (sym e)
    (separator-passed c.args.texts.now c.args.n c.args.byte old c.pass.new.content c.args.told.now.items c.requires.content c.requires.some c.requires.within c.pass.ensures)
