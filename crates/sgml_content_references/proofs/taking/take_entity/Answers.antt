use Rattle.std.proofs.Common.{refl}
use Rattle.sgml_declared.specs.theory_standing.Held.{state_of}
use Rattle.sgml_content_data.proofs.Judged.{judged-from, unchanged-from, memory-piece, refused-piece}
use Rattle.sgml_content_references.proofs.Taken.{of-text, of-noted, of-taken}
use Rattle.sgml_content_references.proofs.taking.take_entity.Goals as goal

pub returns-in-Err : goal.returns-in-Err
returns-in-Err c y of =
    refused-piece c.args.texts.now c.args.n y c.args.content.now c.judge.new.content c.args.told.now.items c.in-Err.stop
    (judged-from c.args.content.now c.judge.new.content c.judge.ensures.holds c.judge.ensures.same c.judge.ensures.context c.judge.ensures.content)
    (of-text c.args.entity y of) (λ x h. of-noted c.args.entity y of (state_of x))
    (record { refused = c.in-Err.ensures.refused; stops = c.in-Err.ensures.stops })

pub returns-in-Err-event_in : goal.returns-in-Err-event_in
returns-in-Err-event_in c y of =
    memory-piece c.args.texts.now c.args.n y c.args.content.now c.judge.new.content c.args.told.now.items c.args.told.now.items
    (judged-from c.args.content.now c.judge.new.content c.judge.ensures.holds c.judge.ensures.same c.judge.ensures.context c.judge.ensures.content) refl

pub returns-in-Ok-take_told : goal.returns-in-Ok-take_told
returns-in-Ok-take_told c y of =
    of-taken c.args.texts.now c.args.content.now c.judge.new.content c.take_told.new.content c.args.told.now.items c.take_told.new.told.items c.in-Ok.run' y c.args.entity c.args.n
    _ of c.requires.content
    (judged-from c.args.content.now c.judge.new.content c.judge.ensures.holds c.judge.ensures.same c.judge.ensures.context c.judge.ensures.content)
    c.in-Ok.ensures.ok c.requires.some c.requires.within c.in-Ok-event_in.ensures c.in-Ok-take_told.ensures.taken

pub returns-in-Err-take_told : goal.returns-in-Err-take_told
returns-in-Err-take_told c y of =
    memory-piece c.args.texts.now c.args.n y c.args.content.now c.take_told.new.content c.args.told.now.items c.take_told.new.told.items
    (unchanged-from c.args.content.now c.judge.new.content c.take_told.new.content
    (judged-from c.args.content.now c.judge.new.content c.judge.ensures.holds c.judge.ensures.same c.judge.ensures.context c.judge.ensures.content)
    c.in-Err-take_told.ensures.content) c.in-Err-take_told.ensures.told
