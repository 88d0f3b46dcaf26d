use Rattle.std.proofs.Common.{take}
use Rattle.sgml_idents.specs.Judged.{HasNoted}
use Rattle.sgml_idents.proofs.idents.check_ids.Given as goal

-- those before this one were noted
abbrev pub invariant-loop-event : goal.invariant-loop-event
invariant-loop-event l = HasNoted l.idents l.dtd (take l.event-index l.events)
