use Rattle.std.proofs.Common.{sym, subst, List, ℕ, All, take}
use Rattle.sgml_infer.specs.Tables.{IsNumber}
use Rattle.sgml_infer.specs.declared.level.Level.{Level}
use Rattle.sgml_infer.specs.Links.{AreLinked}
use Rattle.sgml_infer.specs.Known.{AreKnown}
use Rattle.sgml_infer.specs.Trees.{IsLevel}
use Rattle.sgml_infer.specs.Seen.{IsLastFresh}
use Rattle.sgml_infer.proofs.Links.{linked-front}
use Rattle.sgml_infer.proofs.Growing.{levels-front}
use Rattle.sgml_infer.proofs.tree.Tree.reason.Goals as goal

pub reason-requires-clause-standing : goal.reason-requires-clause-standing
reason-requires-clause-standing c =
    let t = c.args.dtd.now in let tree = c.args.self.now in let k = c.args.kept in let w = c.requires.tree in
    record {
      distinct = w.distinct;
      levels = subst (λ (xs : List Level). All (IsLevel t) (take k xs)) (sym c.deref.ensures.value) (levels-front t k tree.depth tree.levels.items c.requires.kept w.levels);
      linked = subst (λ (xs : List Level). AreLinked t (take k xs)) (sym c.deref.ensures.value) (linked-front t k tree.depth tree.levels.items c.requires.kept w.linked);
      starts = subst (All (IsNumber t)) (sym c.deref-2.ensures.value) c.requires.numbers;
      fresh = subst (λ (ns : List ℕ). IsLastFresh t ns tree.fresh) (sym c.deref-2.ensures.value) c.requires.fresh;
      room = w.fresh;
      steps = w.steps;
      known = subst (AreKnown t) (sym c.deref-3.ensures.value) w.known;
    }
