use Rattle.std.proofs.Common.{take, ◌∷◌, []}
use Rattle.std.specs.Prelude.{flat_map}
use Rattle.sgml_esis.specs.Writing.{Puts}
use Rattle.sgml_full.specs.Spelled.{raw_byte}
use Rattle.sgml_full.proofs.spelling.put_raw_bytes.Given as goal

abbrev pub invariant-loop-b : goal.invariant-loop-b
invariant-loop-b g l =
    let O = g.O.Sink in
    Puts (O.taken l.fn.sink) (O.faults l.fn.sink) l.fn.held (O.taken l.sink) (O.faults l.sink) l.held (flat_map (λ b. raw_byte b ∷ []) (take l.b-index l.bytes))
