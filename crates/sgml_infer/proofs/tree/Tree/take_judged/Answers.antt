use Rattle.std.proofs.Common.{◌≡◌, ◌-◌, ◌∙◌, None, ap, sym, subst, refl, arith, take, ℕ}
use Rattle.sgml_theory_reading.specs.Context.{Context, context_after}
use Rattle.sgml_theory_reading.specs.Omission.{NoneMayStand, depth}
use Rattle.sgml_theory_reading.specs.Reasons.{reason}
use Rattle.sgml_theory_reading.proofs.Table.{reason-exact}
use Rattle.sgml_infer.specs.Trees.{open_levels, context_in}
use Rattle.sgml_infer.specs.Seen.{context_at, seen_with, seen_in}
use Rattle.sgml_infer.specs.Visibles.{kind_of, HasRoomFor, left_out, after_left_out}
use Rattle.sgml_infer.proofs.Points.{run-doctype, run-depth, length-levels}
use Rattle.sgml_infer.proofs.Links.{taken-length}
use Rattle.sgml_infer.proofs.Running.{none-after}
use Rattle.sgml_infer.proofs.Growing.{front-of, front-length, inferred-free, end-tree}
use Rattle.sgml_infer.proofs.Accepting.{own-visible, takes-here, left-out-is, place-for, bare}
use Rattle.sgml_infer.proofs.tree.Tree.take_judged.Goals as goal

pub begin_starts-requires-clause-tree : goal.begin_starts-requires-clause-tree
begin_starts-requires-clause-tree c = let old = c.args.self.now in end-tree c.args.dtd.now old (old.depth - c.args.chain.ends) c.requires.tree (omega arith)

pub take-requires-clause-place : goal.take-requires-clause-place
take-requires-clause-place c =
    let t = c.args.dtd.now in let old = c.args.self.now in let v = c.args.visible in let j = c.requires.judged in let k = old.depth - c.args.chain.ends in
    let places = c.requires.tree.places.places in
    let all = taken-length old.depth old.levels.items places in
    let s = seen_in t old k old.starts.items in
    let e : after_left_out t old ≡ s = left-out-is t old k (omega (arith, all)) j.ended in
    let none : NoneMayStand s (kind_of t v) = subst (λ (x : Context). NoneMayStand x (kind_of t v)) e (none-after (context_in t old) (kind_of t v) (left_out t old) (j.longest (kind_of t v) (own-visible t v))) in
    let r : reason s (kind_of t v) ≡ None = ap (λ (x : Context). reason x (kind_of t v)) (sym e) ∙ j.no_reason (kind_of t v) (own-visible t v) in
    let f = run-depth t old.starts.items (context_at t (take k (open_levels old)) old.begun) in
    let g = length-levels t (take k (open_levels old)) in
    let h = front-length k old.depth old.levels.items (omega arith) places in
    let b = c.begin_starts.ensures.depth in
    let z : depth s ≡ c.begin_starts.new.self.depth = omega (arith, f, g, h, b) in
    subst (λ (n : ℕ). HasRoomFor t v n) z (place-for t v s (run-doctype t old.starts.items (context_at t (take k (open_levels old)) old.begun)) ((reason-exact s (kind_of t v) none).0 r))

pub returns-clause-context : goal.returns-clause-context
returns-clause-context c = λ p q.
    let t = c.args.dtd.now in let old = c.args.self.now in let v = c.args.visible in let j = c.requires.judged in let k = old.depth - c.args.chain.ends in
    let started = c.begin_starts.new.self in
    let places = c.requires.tree.places.places in
    let all = taken-length old.depth old.levels.items places in
    let s = seen_in t old k old.starts.items in
    let e : after_left_out t old ≡ s = left-out-is t old k (omega (arith, all)) j.ended in
    let d : s.doctype ≡ t = run-doctype t old.starts.items (context_at t (take k (open_levels old)) old.begun) in
    let same : seen_with t (take k old.levels.items) old.begun old.starts.items ≡ s = ap (λ ls. seen_with t ls old.begun old.starts.items) (sym (front-of k old.depth old.levels.items (omega arith))) in
    sym (c.take.ensures.context (bare (kind_of t v)) refl)
    ∙ (sym (inferred-free (bare (kind_of t v)) s (context_in t started) d
    (sym (c.begin_starts.ensures.levels ∙ ap (λ (x : Context). x.levels) same))
    (sym (c.begin_starts.ensures.begun ∙ ap (λ (x : Context). x.begun) same)))
    ∙ (ap (context_after (bare (kind_of t v))) (sym e)
    ∙ takes-here t v p (after_left_out t old) q c.requires.tree.distinct c.requires.number (ap (λ (x : Context). x.doctype) e ∙ d)))
