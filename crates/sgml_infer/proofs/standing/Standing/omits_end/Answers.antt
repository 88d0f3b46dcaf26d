use Rattle.std.proofs.Common.{ap}
use Rattle.sgml_infer.specs.declared.known.Known.{Known}
use Rattle.sgml_infer.proofs.standing.Standing.omits_end.Goals as goal

pub returns : goal.returns
returns c = ap (λ (k : Known). k.omits_end) c.known.ensures
