use Rattle.std.proofs.Common.{arith, refl, ap, ◌∙◌, Some, length, ◌-◌}
use Rattle.std.specs.List.{slice_index_or}
use Rattle.std.proofs.lemmas.Option.{slice_get_read}
use Rattle.sgml_infer.proofs.Places.{taken-at, taken-levels}
use Rattle.sgml_infer.proofs.Links.{linked-same}
use Rattle.sgml_infer.proofs.Nets.{net-same}
use Rattle.sgml_infer.proofs.opening.take_start.Goals as goal

pub returns-then-depth-gt0-clause-levels : goal.returns-then-depth-gt0-clause-levels
returns-then-depth-gt0-clause-levels c = taken-levels c.args.dtd.now c.args.levels.now c.args.depth c.index-levels-depth.result c.advance_start-reached.new.state c.advance_start-reached.result c.if-depth-gt0.true c.requires.depth c.requires.levels c.advance_start-reached.ensures.state c.advance_start-reached.ensures.position c.advance_start-reached.ensures.room

pub returns-then-depth-gt0-clause-linked : goal.returns-then-depth-gt0-clause-linked
returns-then-depth-gt0-clause-linked c =
    let xs = c.args.levels.now in let i = c.args.depth - 1 in let l = slice_index_or xs i c.index-levels-depth.result in
    linked-same c.args.dtd.now xs c.args.depth l (taken-at l c.advance_start-reached.new.state c.advance_start-reached.result) c.if-depth-gt0.true
    (slice_get_read xs (length xs) i c.index-levels-depth.result refl (omega arith) c.index-levels-depth.is ∙ ap Some c.index-levels-depth.is) refl refl c.requires.linked

pub returns-then-depth-gt0-clause-net : goal.returns-then-depth-gt0-clause-net
returns-then-depth-gt0-clause-net c =
    let xs = c.args.levels.now in let i = c.args.depth - 1 in let l = slice_index_or xs i c.index-levels-depth.result in
    net-same xs c.args.depth l (taken-at l c.advance_start-reached.new.state c.advance_start-reached.result) c.if-depth-gt0.true
    (slice_get_read xs (length xs) i c.index-levels-depth.result refl (omega arith) c.index-levels-depth.is ∙ ap Some c.index-levels-depth.is) refl refl c.requires.net
