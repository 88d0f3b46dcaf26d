use Rattle.std.proofs.Common.{◌≡◌, true, take}
use Rattle.std.specs.List.{list_all}
use Rattle.sgml_event_lines.specs.Marks.{is_event_of}
use Rattle.sgml_event_lines.proofs.declared.are_events_of.Given as goal

abbrev pub invariant-loop-event : goal.invariant-loop-event
invariant-loop-event l = list_all (is_event_of l.dtd) (take l.event-index l.events) ≡ true
