use Rattle.std.proofs.Common.{◌≡◌, ◌-◌, ◌++◌, ◌∙◌, None, Some, ap, sym, subst, arith, take, length, List, All}
use Rattle.sgml_theory_reading.specs.Context.{Context}
use Rattle.sgml_theory_reading.specs.Pieces.{Piece}
use Rattle.sgml_theory_reading.specs.Runs.{LongestRunFrom, context_after_run}
use Rattle.sgml_theory_reading.specs.Reasons.{reason}
use Rattle.sgml_infer.specs.Tables.{IsNumber}
use Rattle.sgml_infer.specs.Trees.{open_levels, context_with, context_in}
use Rattle.sgml_infer.specs.Seen.{started, ended, ending, seen_with, seen_in, run_in}
use Rattle.sgml_infer.specs.Visibles.{kind_of, left_out}
use Rattle.sgml_infer.proofs.Accepting.{ended-numbers, longest-of-all, reason-of-all, included-of-all}
use Rattle.sgml_infer.proofs.tree.Tree.judge_walk.Goals as goal

pub returns-in-Some-clause-refused : goal.returns-in-Some-clause-refused
returns-in-Some-clause-refused c =
    let t = c.args.dtd.now in let old = c.args.self.now in let mid = c.walk-kept.new.self in let k = c.walk-kept.result.levels in let v = c.args.visible in let u = c.walk-kept.ensures.unchanged in
    let os = run_in t old k mid.starts.items in
    let s = seen_in t old k mid.starts.items in
    let same : seen_in t mid k mid.starts.items ≡ s = λ i. seen_with t (take k (take (u.depth i) (u.levels i))) (u.begun i) mid.starts.items in
    record {
      run = os;
      longest = longest-of-all t v os (context_in t old) s c.walk-kept.ensures.context c.walk-kept.ensures.run;
      because = reason-of-all t v os (context_in t old) s c.walk-kept.ensures.context (Some c.in-Some.reason) (c.in-Some.ensures ∙ ap (λ (x : Context). reason x (kind_of t v)) same);
    }

pub returns-clause-ok : goal.returns-clause-ok
returns-clause-ok c =
    let t = c.args.dtd.now in let old = c.args.self.now in let mid = c.walk-kept.new.self in let k = c.walk-kept.result.levels in let v = c.args.visible in let u = c.walk-kept.ensures.unchanged in
    let new = c.note_ends.new.self in let w = c.note_ends.ensures.open in
    let os = run_in t old k mid.starts.items in
    let s = seen_in t old k mid.starts.items in
    let same : seen_in t mid k mid.starts.items ≡ s = λ i. seen_with t (take k (take (u.depth i) (u.levels i))) (u.begun i) mid.starts.items in
    let levels : open_levels new ≡ open_levels mid = λ i. take (w.depth i) (w.levels i) in
    let outer : open_levels mid ≡ open_levels old = λ i. take (u.depth i) (u.levels i) in
    let starts : new.starts.items ≡ mid.starts.items = ap (λ v. v.items) c.note_ends.ensures.starts in
    let ends : new.ended.items ≡ ending (open_levels old) k = c.note_ends.ensures.ended ∙ ap (λ ls. ending ls k) outer in
    let whole : left_out t new ≡ os = λ i. ended t (ends i) ++ started t (starts i) in
    let now : context_in t new ≡ context_in t old = λ i. context_with t ((levels ∙ outer) i) ((w.begun ∙ u.begun) i) in
    let run : context_after_run (context_in t new) (left_out t new) ≡ s = (λ i. context_after_run (now i) (whole i)) ∙ c.walk-kept.ensures.context in
    let longest : LongestRunFrom (context_in t new) (kind_of t v) (left_out t new) =
    subst (λ (ps : List Piece). LongestRunFrom (context_in t new) (kind_of t v) ps) (sym whole)
    (subst (λ (x : Context). LongestRunFrom x (kind_of t v) os) (sym now) c.walk-kept.ensures.run) in
    let size : new.depth ≡ old.depth = w.depth ∙ u.depth in
    let within = c.walk-kept.ensures.within in
    let count : new.depth - k ≡ length new.ended.items = let e = c.note_ends.ensures.counted in let f = u.depth in omega (arith, e, f, size) in
    let left : new.depth - (new.depth - k) ≡ k = omega (arith, size, within) in
    let many : c.len.result ≡ length new.starts.items = let e = c.len.ensures in omega (arith, e, new.starts.ok) in
    record {
      ends = count;
      starts = many;
      within = omega arith;
      ended = ends ∙ sym (λ i. ending ((levels ∙ outer) i) (left i));
      room = let e = c.walk-kept.ensures.room in let f = ap length starts in omega (arith, e, f, many, left);
      ended_numbers = subst (All (IsNumber t)) (sym ends) (ended-numbers t (open_levels old) k c.requires.tree.levels);
      started_numbers = subst (All (IsNumber t)) (sym starts) c.walk-kept.ensures.numbers;
      longest = longest-of-all t v (left_out t new) (context_in t new) s run longest;
      no_reason = reason-of-all t v (left_out t new) (context_in t new) s run None (c.in_default.ensures ∙ ap (λ (x : Context). reason x (kind_of t v)) same);
      included = included-of-all t v (left_out t new) (context_in t new) s run c.walk-kept.result.fit.included c.walk-kept.ensures.fit.included;
    }

pub returns-clause-context : goal.returns-clause-context
returns-clause-context c = λ t.
    let u = c.walk-kept.ensures.unchanged in let w = c.note_ends.ensures.open in
    λ i. context_with t (take ((w.depth ∙ u.depth) i) ((w.levels ∙ u.levels) i)) ((w.begun ∙ u.begun) i)

pub returns-in-Some-clause-context : goal.returns-in-Some-clause-context
returns-in-Some-clause-context c = λ t.
    let u = c.walk-kept.ensures.unchanged in
    λ i. context_with t (take (u.depth i) (u.levels i)) (u.begun i)
