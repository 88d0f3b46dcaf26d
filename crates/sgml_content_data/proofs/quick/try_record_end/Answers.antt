use Rattle.std.specs.Prelude.{Bool, true, false, Ok, Some}
use Rattle.std.proofs.Common.{sym, subst}
use Rattle.sgml_inside.specs.records.Items.{RecordEnd}
use Rattle.sgml_infer.specs.theory_reading.Pieces.{Re}
use Rattle.sgml_content_data.specs.Steps.{TellsPiece}
use Rattle.sgml_content_data.specs.Alike.{TakesOne}
use Rattle.sgml_content_data.proofs.Texts.{live-is}
use Rattle.sgml_content_data.proofs.Alone.{dead-passed}
use Rattle.sgml_content_data.proofs.Alike.{alone-stays, alone-content}
use Rattle.sgml_content_data.proofs.quick.try_record_end.Goals as goal

pub returns-then-takes_record_end-clause-takes : goal.returns-then-takes_record_end-clause-takes
returns-then-takes_record_end-clause-takes c =
    let live = live-is c.args.content.now _ c.takes_record_end.result true c.content.view_is c.takes_record_end.ensures c.if-takes_record_end.true in
    subst (λ (b : Bool). TakesOne c.args.texts.now c.args.n (Re b) c.args.content.now c.try_live_end.new.content c.args.told.now.items c.try_live_end.new.told.items c.try_live_end.result)
    (sym live) c.try_live_end.ensures.takes

pub returns-clause-takes : goal.returns-clause-takes
returns-clause-takes c =
    let dead = live-is c.args.content.now _ c.takes_record_end.result false c.content.view_is c.takes_record_end.ensures c.if-takes_record_end.false in
    subst (λ (b : Bool). TellsPiece c.args.texts.now c.args.n (Re b) c.args.content.now c.note_next.new.content c.args.told.now.items c.args.told.now.items (Ok tt))
    (sym dead) (dead-passed c.args.texts.now c.args.n c.args.content.now c.note_next.new.content c.args.told.now.items c.requires.content c.requires.some c.requires.within dead c.note_next.ensures.content)

pub returns-clause-alike : goal.returns-clause-alike
returns-clause-alike c = alone-stays c.args.content.now c.note_next.new.content _ (Some RecordEnd) c.note_next.ensures.content

pub returns-clause-content : goal.returns-clause-content
returns-clause-content c = alone-content c.args.content.now c.note_next.new.content _ (Some RecordEnd) c.requires.content c.note_next.ensures.content
