use Rattle.std.proofs.Common.{arith, refl, ap, ◌∙◌, Some, length, ◌-◌}
use Rattle.std.specs.List.{slice_index_or}
use Rattle.std.proofs.lemmas.Option.{slice_get_read}
use Rattle.sgml_infer.proofs.Nets.{net-of-place}
use Rattle.sgml_infer.proofs.opening.in_net.Goals as goal

pub returns-then-depth-gt0 : goal.returns-then-depth-gt0
returns-then-depth-gt0 c =
    let ls = c.args.levels.now in let n = c.args.depth in let p = c.if-depth-gt0.true in let h = c.requires in
    net-of-place ls n (slice_index_or ls (n - 1) c.index-levels-depth.result) p (slice_get_read ls (length ls) (n - 1) c.index-levels-depth.result refl (omega (arith, p, h)) c.index-levels-depth.is ∙ ap Some c.index-levels-depth.is)
