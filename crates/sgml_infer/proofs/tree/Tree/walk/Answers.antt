use Rattle.std.proofs.Common.{◌≡◌, ◌∙◌, ap, sym, subst, List, All, length, take, arith}
use Rattle.std.proofs.lemmas.List.Elements.{All-nil}
use Rattle.sgml_theory_reading.specs.Context.{Context}
use Rattle.sgml_theory_reading.specs.Runs.{context_after_run}
use Rattle.sgml_infer.specs.Tables.{IsNumber}
use Rattle.sgml_infer.specs.declared.level.Level.{Level}
use Rattle.sgml_infer.specs.Trees.{open_levels, IsLevel}
use Rattle.sgml_infer.specs.Seen.{started, ended, ending, context_at}
use Rattle.sgml_infer.specs.Visibles.{kind_of, IsFit}
use Rattle.sgml_infer.specs.Links.{AreLinked}
use Rattle.sgml_infer.specs.Known.{AreKnown}
use Rattle.sgml_infer.proofs.Links.{linked-front, taken-length}
use Rattle.sgml_infer.proofs.Points.{run-append, none-fresh}
use Rattle.sgml_infer.proofs.tree.Tree.walk.Goals as goal

pub infer_ends-kept-requires-clause-standing : goal.infer_ends-kept-requires-clause-standing
infer_ends-kept-requires-clause-standing c =
    let t = c.args.dtd.now in let old = c.args.self.now in let w = c.requires.tree in
    record {
      distinct = w.distinct;
      levels = subst (λ (xs : List Level). All (IsLevel t) (take old.depth xs)) (sym c.deref.ensures.value) w.levels;
      linked = subst (λ (xs : List Level). AreLinked t (take old.depth xs)) (sym c.deref.ensures.value) w.linked;
      starts = All-nil (IsNumber t);
      fresh = none-fresh t old.fresh;
      room = w.fresh;
      steps = w.steps;
      known = subst (AreKnown t) (sym c.deref-2.ensures.value) w.known;
    }

pub infer_ends-kept-requires-clause-before : goal.infer_ends-kept-requires-clause-before
infer_ends-kept-requires-clause-before c =
    let t = c.args.dtd.now in let old = c.args.self.now in
    subst (λ (xs : List Level). IsFit (context_at t (take old.depth xs) old.begun) (kind_of t c.args.visible) c.args.fit) (sym c.deref.ensures.value) c.requires.fit

pub returns-clause-context : goal.returns-clause-context
returns-clause-context c =
    let t = c.args.dtd.now in let old = c.args.self.now in let ls = open_levels old in let k = c.infer_ends-kept.result.levels in
    let e : take old.depth c.deref.result.now ≡ ls = ap (take old.depth) c.deref.ensures.value in
    let f : context_after_run (context_at t ls old.begun) (ended t (ending ls k)) ≡ context_at t (take k ls) old.begun =
    subst (λ (xs : List Level). context_after_run (context_at t xs old.begun) (ended t (ending xs k)) ≡ context_at t (take k xs) old.begun) e c.infer_ends-kept.ensures.context in
    run-append (context_at t ls old.begun) (ended t (ending ls k)) (started t c.infer_starts-fit.new.starts.items)
    ∙ ap (λ (s : Context). context_after_run s (started t c.infer_starts-fit.new.starts.items)) f

pub infer_starts-fit-requires-clause-linked : goal.infer_starts-fit-requires-clause-linked
infer_starts-fit-requires-clause-linked c =
    let t = c.args.dtd.now in let old = c.args.self.now in let k = c.infer_ends-kept.result.levels in
    let z = ap (λ (xs : List Level). length (take old.depth xs)) c.deref.ensures.value ∙ taken-length old.depth old.levels.items c.requires.tree.places.places in
    let h = c.infer_ends-kept.ensures.within in
    subst (λ (xs : List Level). AreLinked t (take k xs)) (sym c.deref-4.ensures.value) (linked-front t k old.depth old.levels.items (omega (arith, z, h)) c.requires.tree.linked)

pub note_ended-requires-clause-levels : goal.note_ended-requires-clause-levels
note_ended-requires-clause-levels c =
    let t = c.args.dtd.now in let old = c.args.self.now in
    subst (λ (xs : List Level). All (IsLevel t) (take old.depth xs)) (sym c.deref-3.ensures.value) c.requires.tree.levels
