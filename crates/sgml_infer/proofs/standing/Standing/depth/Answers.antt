use Rattle.std.proofs.Common.{arith}
use Rattle.sgml_infer.specs.Seen.{context_at}
use Rattle.sgml_infer.proofs.Points.{run-depth, length-levels}
use Rattle.sgml_infer.proofs.standing.Standing.depth.Goals as goal

pub returns : goal.returns
returns c =
    let s = c.args.self.now in
    let e = run-depth s.dtd.now s.starts.now (context_at s.dtd.now s.levels.now s.begun) in
    let f = length-levels s.dtd.now s.levels.now in
    omega (arith, e, f)
