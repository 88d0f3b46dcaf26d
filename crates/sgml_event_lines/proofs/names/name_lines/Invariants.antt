use Rattle.std.proofs.Common.{◌≡◌, length}
use Rattle.sgml_event_lines.specs.Standing.{AreLines}
use Rattle.sgml_event_lines.proofs.names.name_lines.Given as goal

-- the lines of the names up to this one
abbrev pub invariant-loop-number : goal.invariant-loop-number
invariant-loop-number l = (length l.lines.items ≡ l.number) × AreLines l.dtd l.lines.items
