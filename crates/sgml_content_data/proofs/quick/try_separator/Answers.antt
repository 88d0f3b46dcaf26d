use Rattle.std.specs.Prelude.{Ok, Some, None}
use Rattle.std.proofs.Common.{refl, sym, ap, ◌∙◌, subst}
use Rattle.sgml_inside.specs.records.Items.{RecordStart}
use Rattle.sgml_inside.specs.records.Facts.{takes_end}
use Rattle.sgml_inside.specs.Inside.{facts_of}
use Rattle.sgml_content_data.specs.declared.around.Around.{Around}
use Rattle.sgml_content_data.specs.declared.role.Role.{Role}
use Rattle.sgml_content_data.specs.Roles.{role_of_separator, kind_by}
use Rattle.sgml_content_data.specs.Steps.{TellsPiece}
use Rattle.sgml_content_data.specs.Alike.{TakesOne}
use Rattle.sgml_content_data.proofs.Alone.{start-passed, separator-passed}
use Rattle.sgml_content_data.proofs.Alike.{alone-stays, alone-content, left-so, stays-so}
use Rattle.sgml_content_data.proofs.quick.try_separator.Goals as goal

pub returns-in-Data-clause-takes : goal.returns-in-Data-clause-takes
returns-in-Data-clause-takes c = (left-so c.args.content.now, refl)

pub returns-in-Data-clause-alike : goal.returns-in-Data-clause-alike
returns-in-Data-clause-alike c = stays-so c.args.content.now

pub returns-in-RecordEnd-clause-takes : goal.returns-in-RecordEnd-clause-takes
returns-in-RecordEnd-clause-takes c =
    let old = c.args.content.now in
    let e = ap (λ (a : Around). role_of_separator a c.args.byte) (sym c.requires.around) ∙ (sym c.of_separator.ensures ∙ c.in-RecordEnd.is) in
    subst (λ (r : Role). TakesOne c.args.texts.now c.args.n (kind_by r (takes_end (facts_of old.inside.elements)) c.args.byte) old c.try_record_end.new.content
    c.args.told.now.items c.try_record_end.new.told.items c.try_record_end.result) (sym e) c.try_record_end.ensures.takes

pub returns-in-RecordStart-clause-takes : goal.returns-in-RecordStart-clause-takes
returns-in-RecordStart-clause-takes c =
    let old = c.args.content.now in
    let e = ap (λ (a : Around). role_of_separator a c.args.byte) (sym c.requires.around) ∙ (sym c.of_separator.ensures ∙ c.in-RecordStart.is) in
    subst (λ (r : Role). TellsPiece c.args.texts.now c.args.n (kind_by r (takes_end (facts_of old.inside.elements)) c.args.byte) old c.note_next.new.content
    c.args.told.now.items c.args.told.now.items (Ok tt)) (sym e)
    (start-passed c.args.texts.now c.args.n old c.note_next.new.content c.args.told.now.items c.requires.content c.requires.some c.requires.within c.note_next.ensures.content)

pub returns-in-RecordStart-clause-alike : goal.returns-in-RecordStart-clause-alike
returns-in-RecordStart-clause-alike c = alone-stays c.args.content.now c.note_next.new.content _ (Some RecordStart) c.note_next.ensures.content

pub returns-in-RecordStart-clause-content : goal.returns-in-RecordStart-clause-content
returns-in-RecordStart-clause-content c = alone-content c.args.content.now c.note_next.new.content _ (Some RecordStart) c.requires.content c.note_next.ensures.content

pub returns-in-Ignored-clause-takes : goal.returns-in-Ignored-clause-takes
returns-in-Ignored-clause-takes c =
    let old = c.args.content.now in
    let e = ap (λ (a : Around). role_of_separator a c.args.byte) (sym c.requires.around) ∙ (sym c.of_separator.ensures ∙ c.in-Ignored.is) in
    subst (λ (r : Role). TellsPiece c.args.texts.now c.args.n (kind_by r (takes_end (facts_of old.inside.elements)) c.args.byte) old c.pass_next.new.content
    c.args.told.now.items c.args.told.now.items (Ok tt)) (sym e)
    (separator-passed c.args.texts.now c.args.n c.args.byte old c.pass_next.new.content c.args.told.now.items c.requires.content c.requires.some c.requires.within c.pass_next.ensures)

pub returns-in-Ignored-clause-alike : goal.returns-in-Ignored-clause-alike
returns-in-Ignored-clause-alike c = alone-stays c.args.content.now c.pass_next.new.content _ None c.pass_next.ensures

pub returns-in-Ignored-clause-content : goal.returns-in-Ignored-clause-content
returns-in-Ignored-clause-content c = alone-content c.args.content.now c.pass_next.new.content _ None c.requires.content c.pass_next.ensures
