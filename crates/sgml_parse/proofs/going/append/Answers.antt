use Rattle.std.proofs.Common.{Ok, inl, refl, ap, ◌∙◌}
use Rattle.sgml_parse.proofs.Together.{event-appended}
use Rattle.sgml_parse.proofs.going.append.Goals as goal

pub returns-in-Err : goal.returns-in-Err
returns-in-Err c = (inl c.in-Err.is, refl)

pub returns-in-Event : goal.returns-in-Event
returns-in-Event c =
    event-appended c.args.answer c.in-Event.event c.args.told.now.items c.append_event.new.told.items c.append_event.result (c.in-Ok.is ∙ ap Ok c.in-Event.is) c.append_event.ensures.ok
    c.append_event.ensures.appended c.append_event.ensures.err c.append_event.ensures.none

pub returns-in-Prolog : goal.returns-in-Prolog
returns-in-Prolog c = (c.in-Ok.is ∙ ap Ok c.in-Prolog.is, refl)

pub returns-in-Want : goal.returns-in-Want
returns-in-Want c = (c.in-Ok.is ∙ ap Ok c.in-Want.is, refl)

pub returns-in-More : goal.returns-in-More
returns-in-More c = (c.in-Ok.is ∙ ap Ok c.in-More.is, refl)

pub returns-in-Finished : goal.returns-in-Finished
returns-in-Finished c = (c.in-Ok.is ∙ ap Ok c.in-Finished.is, refl)
