use Rattle.std.proofs.Common.{◌≡◌, Some, map, take}
use Rattle.sgml_model.specs.Reading.{start, run}
use Rattle.sgml_model.specs.ReaderView.{sign, state_of}
use Rattle.sgml_model.proofs.read.built.Given as goal

abbrev pub invariant-loop-token : goal.invariant-loop-token
invariant-loop-token l = run start (take l.token-index (map sign l.tokens)) ≡ Some (state_of l.reader)
