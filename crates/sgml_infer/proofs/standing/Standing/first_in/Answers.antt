use Rattle.std.proofs.Common.{ap, arith}
use Rattle.sgml_theory_reading.specs.Types.{content_of}
use Rattle.sgml_infer.specs.Tables.{type_at}
use Rattle.sgml_infer.specs.Known.{first_in}
use Rattle.sgml_infer.specs.declared.known.Known.{Known}
use Rattle.sgml_infer.proofs.First.{known-first}
use Rattle.sgml_infer.proofs.standing.Standing.first_in.Goals as goal

pub returns : goal.returns
returns c =
    let t = c.args.self.now.dtd.now in
    known-first c.args.position c.known.result.now.first (first_in t (content_of (type_at t c.args.element))) (ap (λ (k : Known). k.first) c.known.ensures) (omega arith)
