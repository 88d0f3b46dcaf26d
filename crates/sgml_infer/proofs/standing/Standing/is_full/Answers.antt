use Rattle.std.proofs.Common.{ap}
use Rattle.sgml_names.specs.syntax.declared.syntax.Syntax.{Syntax}
use Rattle.sgml_infer.proofs.Leaving.{full-is}
use Rattle.sgml_infer.proofs.standing.Standing.is_full.Goals as goal

pub returns : goal.returns
returns c = full-is c.args.self.now c.requires c.syntax.result.now.quantities.taglvl c.depth.result (ap (λ (x : Syntax). x.quantities.taglvl) c.syntax.ensures) c.depth.ensures
