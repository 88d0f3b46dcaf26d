use Rattle.std.specs.Prelude.{Bool, true, false, Ok}
use Rattle.std.proofs.Common.{sym, subst}
use Rattle.sgml_infer.specs.theory_reading.Pieces.{Re}
use Rattle.sgml_content_data.specs.Steps.{TellsPiece, taken}
use Rattle.sgml_content_data.proofs.Texts.{live-is}
use Rattle.sgml_content_data.proofs.Alone.{dead-passed}
use Rattle.sgml_content_data.proofs.separators.take_end.Goals as goal

pub returns-then-takes_record_end : goal.returns-then-takes_record_end
returns-then-takes_record_end c =
    let live = live-is c.args.content.now _ c.takes_record_end.result true c.content.view_is c.takes_record_end.ensures c.if-takes_record_end.true in
    subst (λ (b : Bool). TellsPiece c.args.texts.now c.args.n (Re b) c.args.content.now c.take_plain_end.new.content c.args.told.now.items c.take_plain_end.new.told.items (taken c.take_plain_end.result c.take_plain_end.new.stop))
    (sym live) c.take_plain_end.ensures

pub returns : goal.returns
returns c =
    let dead = live-is c.args.content.now _ c.takes_record_end.result false c.content.view_is c.takes_record_end.ensures c.if-takes_record_end.false in
    subst (λ (b : Bool). TellsPiece c.args.texts.now c.args.n (Re b) c.args.content.now c.note.new.content c.args.told.now.items c.args.told.now.items (Ok tt))
    (sym dead) (dead-passed c.args.texts.now c.args.n c.args.content.now c.note.new.content c.args.told.now.items c.requires.content c.requires.some c.requires.within dead c.note.ensures.content)
