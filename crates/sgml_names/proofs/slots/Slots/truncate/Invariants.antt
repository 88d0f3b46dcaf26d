use Rattle.std.proofs.Common.{◌≡◌, take, length}
use Rattle.sgml_names.proofs.slots.Slots.truncate.Given as goal

abbrev pub invariant-hashes : goal.invariant-hashes
invariant-hashes l = take l.n l.self ≡ take l.n l.initial.self

abbrev pub decreases-hashes : goal.decreases-hashes
decreases-hashes l = length l.self
