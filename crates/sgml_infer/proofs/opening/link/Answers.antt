use Rattle.std.proofs.Common.{arith}
use Rattle.sgml_infer.proofs.opening.link.Goals as goal

pub overflow_cast-result-2 : goal.overflow_cast-result-2
overflow_cast-result-2 c =
    let d = c.requires.depth in let f = c.requires.few in let b = c.requires.within in
    let e = c.nearest.ensures in
    omega (arith, b, d, f, e)
