use Rattle.std.proofs.Common.{◌≡◌, ◌+◌, ◌-◌, ◌≤◌, ◌++◌, true, take, length}
use Rattle.std.specs.List.{list_all}
use Rattle.sgml_esis.specs.Plain.{is_plain}
use Rattle.sgml_esis.proofs.held.extend_blocks.Given as goal

-- so many bytes were held, and stand for themselves
abbrev pub invariant-eights : goal.invariant-eights
invariant-eights l = (l.count ≤ length l.bytes) × (list_all is_plain (take l.count l.bytes) ≡ true) × (l.held ≡ (l.initial.held.0 ++ take l.count l.bytes, l.initial.held.1))

abbrev pub decreases-eights : goal.decreases-eights
decreases-eights l = length l.bytes - l.count
