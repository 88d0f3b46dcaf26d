use Rattle.std.proofs.Common.{◌≡◌, ◌++◌, List, ℕ, drop}
use Rattle.std.specs.Prelude.{flat_map}
use Rattle.sgml_esis.specs.Writing.{Puts}
use Rattle.sgml_said.specs.Told.{attributes_with}
use Rattle.sgml_full.specs.Spelled.{specification_of}
use Rattle.sgml_full.proofs.tags.put_specifications.Given as goal

-- those before the rest were put
abbrev pub invariant-loop-i : goal.invariant-loop-i
invariant-loop-i g l =
    let O = g.O.Sink in
    (done : List ℕ) × (flat_map (specification_of l.dtd) (attributes_with l.definitions l.values) ≡ done ++ flat_map (specification_of l.dtd) (attributes_with (drop l.i l.definitions) (drop l.i l.values))) × Puts (O.taken l.fn.sink) (O.faults l.fn.sink) l.fn.held (O.taken l.sink) (O.faults l.sink) l.held done
