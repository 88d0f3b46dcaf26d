use Rattle.std.proofs.Common.{◌≡◌, ◌+◌, ◌-◌, ◌≤◌, ◌++◌, true, take, length}
use Rattle.std.specs.List.{list_all}
use Rattle.sgml_esis.specs.Plain.{is_plain}
use Rattle.sgml_esis.proofs.held.Held.extend_each.Given as goal

-- so many bytes were held, and stand for themselves
abbrev pub invariant-plain : goal.invariant-plain
invariant-plain l = (l.count ≤ length l.bytes) × (l.self-inside.used ≡ l.initial.self-inside.used) × (l.self-inside.failed ≡ l.initial.self-inside.failed) × (list_all is_plain (take l.count l.bytes) ≡ true) × (take (l.initial.self-inside.used + l.count) l.self-inside.bytes ≡ take l.initial.self-inside.used l.initial.self-inside.bytes ++ take l.count l.bytes)

abbrev pub decreases-plain : goal.decreases-plain
decreases-plain l = length l.bytes - l.count
