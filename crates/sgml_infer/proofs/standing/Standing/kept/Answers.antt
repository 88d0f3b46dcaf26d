use Rattle.std.proofs.lemmas.List.Elements.{All-nil, All-take}
use Rattle.sgml_infer.specs.Tables.{IsNumber}
use Rattle.sgml_infer.specs.Trees.{IsLevel}
use Rattle.sgml_infer.proofs.Links.{linked_within}
use Rattle.sgml_infer.proofs.Points.{none-fresh}
use Rattle.sgml_infer.proofs.standing.Standing.kept.Goals as goal

pub returns-clause-standing : goal.returns-clause-standing
returns-clause-standing c =
    let s = c.args.self.now in let t = s.dtd.now in let w = c.requires.standing in
    record {
      distinct = w.distinct;
      levels = All-take (IsLevel t) c.args.count s.levels.now w.levels;
      linked = linked_within t c.args.count s.levels.now w.linked;
      starts = All-nil (IsNumber t);
      fresh = none-fresh t s.fresh.now;
      room = w.room;
      steps = w.steps;
      known = w.known;
    }
