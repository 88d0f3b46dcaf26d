use Rattle.std.proofs.Common.{◌≡◌, ◌+◌, drop}
use Rattle.std.specs.Prelude.{option_map}
use Rattle.sgml_shortref.specs.Maps.{number_in, entries_of}
use Rattle.sgml_shortref.proofs.maps.number_of.Given as goal

abbrev pub invariant-loop-i : goal.invariant-loop-i
invariant-loop-i l = number_in (entries_of l.maps) l.name ≡ option_map (λ n. l.i + n) (number_in (entries_of (drop l.i l.maps)) l.name)
