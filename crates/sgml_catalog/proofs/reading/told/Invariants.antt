use Rattle.std.proofs.Common.{◌≡◌, length}
use Rattle.std.specs.Vec.Iter.{into_iter_items, into_iter_len}
use Rattle.sgml_catalog.specs.Entries.{walk, told}
use Rattle.sgml_catalog.proofs.reading.told.Given as goal

abbrev pub invariant-loop-token : goal.invariant-loop-token
invariant-loop-token l = (walk l.entries.items l.state l.over l.end (into_iter_items l.token-iterator) ≡ told (into_iter_items l.initial.token-iterator) l.end)
    × (into_iter_len l.token-iterator ≡ length (into_iter_items l.token-iterator))
