use Rattle.std.proofs.Common.{arith, true, sym, refl, length, ◌-◌}
use Rattle.std.specs.List.{slice_set}
use Rattle.std.proofs.lemmas.Option.{slice_get_read}
use Rattle.sgml_infer.proofs.opening.enable_net.Goals as goal

pub returns : goal.returns
returns c =
    let xs = c.args.levels.now in let i = c.args.depth - 1 in
    record {
      level = c.index-levels-depth.result;
      was = slice_get_read xs (length xs) i c.index-levels-depth.result refl (omega arith) c.index-levels-depth.is;
      all = λ j. slice_set xs i (record { element = (sym c.index-levels-depth.is j).element; state = (sym c.index-levels-depth.is j).state; position = (sym c.index-levels-depth.is j).position; slash = true; within_net = true; excepted = (sym c.index-levels-depth.is j).excepted });
    }
