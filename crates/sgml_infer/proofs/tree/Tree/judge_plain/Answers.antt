use Rattle.std.proofs.Common.{◌≡◌, ◌-◌, ◌++◌, ◌∙◌, None, sym, ap, subst, arith, take, length, List, [], All}
use Rattle.std.proofs.lemmas.List.Elements.{All-nil}
use Rattle.sgml_theory_reading.specs.Pieces.{Piece}
use Rattle.sgml_theory_reading.specs.Runs.{LongestRunFrom, context_after_run}
use Rattle.sgml_infer.specs.Tables.{IsNumber}
use Rattle.sgml_infer.specs.declared.level.Level.{Level}
use Rattle.sgml_infer.specs.Links.{AreLinked}
use Rattle.sgml_infer.specs.Known.{AreKnown}
use Rattle.sgml_infer.specs.Trees.{open_levels, context_in, IsLevel}
use Rattle.sgml_infer.specs.Seen.{started, ended, context_at, IsUnopposed}
use Rattle.sgml_infer.specs.Visibles.{kind_of, IsFit}
use Rattle.sgml_infer.proofs.Points.{none-fresh}
use Rattle.sgml_infer.proofs.Links.{taken-length}
use Rattle.sgml_infer.proofs.Running.{none-ending}
use Rattle.sgml_infer.proofs.Accepting.{longest-of-all, reason-of-all, included-of-all}
use Rattle.sgml_infer.proofs.tree.Tree.judge_plain.Goals as goal

pub fit-fit-requires-clause-standing : goal.fit-fit-requires-clause-standing
fit-fit-requires-clause-standing c =
    let t = c.args.dtd.now in let old = c.args.self.now in let w = c.requires.tree in
    record {
      distinct = w.distinct;
      levels = subst (λ (xs : List Level). All (IsLevel t) (take old.depth xs)) (sym c.deref.ensures.value) w.levels;
      linked = subst (λ (xs : List Level). AreLinked t (take old.depth xs)) (sym c.deref.ensures.value) w.linked;
      starts = All-nil (IsNumber t);
      fresh = none-fresh t old.fresh;
      room = w.fresh;
      steps = w.steps;
      known = subst (AreKnown t) (sym c.deref-2.ensures.value) w.known;
    }

pub returns-then-is_unopposed-clause-ok : goal.returns-then-is_unopposed-clause-ok
returns-then-is_unopposed-clause-ok c =
    let t = c.args.dtd.now in let old = c.args.self.now in let v = c.args.visible in let w = c.requires.tree in
    let now = context_in t old in
    let u : IsUnopposed now (kind_of t v) =
    subst (λ (xs : List Level). IsUnopposed (context_at t (take old.depth xs) old.begun) (kind_of t v)) c.deref.ensures.value c.if-is_unopposed.ensures in
    let f : IsFit now (kind_of t v) c.fit-fit.result =
    subst (λ (xs : List Level). IsFit (context_at t (take old.depth xs) old.begun) (kind_of t v) c.fit-fit.result) c.deref.ensures.value c.fit-fit.ensures in
    let ends = c.clear.ensures.items in let starts = c.clear-then-is_unopposed.ensures.items in
    let es = c.clear.new.self.items in let ss = c.clear-then-is_unopposed.new.self.items in
    let none : ended t es ++ started t ss ≡ [] = λ i. ended t (ends i) ++ started t (starts i) in
    let run : context_after_run now (ended t es ++ started t ss) ≡ now = ap (context_after_run now) none in
    let z = taken-length old.depth old.levels.items w.places.places in
    record {
      ends = sym (ap length ends);
      starts = sym (ap length starts);
      within = omega arith;
      ended = ends ∙ sym (none-ending (open_levels old) (old.depth - 0) (omega (arith, z)));
      room = let d = w.depth in omega (arith, d);
      ended_numbers = subst (All (IsNumber t)) (sym ends) (All-nil (IsNumber t));
      started_numbers = subst (All (IsNumber t)) (sym starts) (All-nil (IsNumber t));
      longest = longest-of-all t v (ended t es ++ started t ss) now now run (subst (λ (ps : List Piece). LongestRunFrom now (kind_of t v) ps) (sym none) u.none);
      no_reason = reason-of-all t v (ended t es ++ started t ss) now now run None (sym u.no_reason);
      included = included-of-all t v (ended t es ++ started t ss) now now run c.fit-fit.result.included f.included;
    }
