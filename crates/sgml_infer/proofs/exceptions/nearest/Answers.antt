use Rattle.std.proofs.Common.{arith, refl, ap, ◌∙◌, Some, length, ◌-◌}
use Rattle.std.specs.List.{slice_index_or}
use Rattle.std.proofs.lemmas.Option.{slice_get_read}
use Rattle.sgml_infer.proofs.Links.{link-of-place}
use Rattle.sgml_infer.proofs.exceptions.nearest.Goals as goal

pub returns-else-count-eq0 : goal.returns-else-count-eq0
returns-else-count-eq0 c =
    let ls = c.args.levels.now in let n = c.args.count in let p = c.if-count-eq0.false in let h = c.requires in
    link-of-place ls n (slice_index_or ls (n - 1) c.index-levels-count.result) (omega (arith, p)) (slice_get_read ls (length ls) (n - 1) c.index-levels-count.result refl (omega (arith, p, h)) c.index-levels-count.is ∙ ap Some c.index-levels-count.is)
