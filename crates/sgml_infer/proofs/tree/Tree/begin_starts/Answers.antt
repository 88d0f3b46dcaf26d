use Rattle.std.proofs.Common.{◌≡◌, ◌+◌, ◌<◌, ◌∙◌, Vec, ◌++◌, ◌∷◌, [], ap, sym, List, ℕ, take, arith, length}
use Rattle.std.specs.List.{slice_index_or}
use Rattle.std.specs.Global.{Global}
use Rattle.std.proofs.lemmas.List.{take_more}
use Rattle.sgml_infer.specs.Trees.{open_levels, levels_of}
use Rattle.sgml_infer.proofs.Growing.{starts-levels, starts-begun}
use Rattle.sgml_infer.proofs.tree.Tree.begin_starts.Goals as goal

pub starts-preserved : goal.starts-preserved
starts-preserved c =
    let t = c.args.dtd.now in let old = c.args.self.now in let ns = old.starts.items in let k = c.starts.at in let n = c.index-element.result.now in
    let v = c.starts.invariant in
    let same : c.starts.self.starts.items ≡ ns = ap (λ (x : Vec ℕ Global). x.items) v.starts in
    let counted : length c.starts.self.starts.items ≡ length ns = ap length same in
    let long : k < length ns = omega (arith, counted, c.starts.self.starts.ok) in
    let more : take (k + 1) ns ≡ take k ns ++ n ∷ [] =
    take_more ns k n long ∙ ap (λ m. take k ns ++ m ∷ []) (sym (c.index-element.ensures ∙ ap (λ (xs : List ℕ). slice_index_or xs k n) same)) in
    record {
      levels = starts-levels t (open_levels old) old.begun (take k ns) (take (k + 1) ns) n (levels_of t (open_levels c.starts.self)) (levels_of t (open_levels c.begin_inside.new.self)) more v.levels c.begin_inside.ensures.levels;
      begun = starts-begun t (open_levels old) old.begun (take k ns) (take (k + 1) ns) n c.begin_inside.new.self.begun more c.begin_inside.ensures.begun;
      depth = let d = v.depth in let e = c.begin_inside.ensures.depth in omega (arith, d, e);
      within = omega (arith, long);
      ended = c.begin_inside.ensures.ended ∙ v.ended;
      starts = c.begin_inside.ensures.starts ∙ v.starts;
      tree = c.begin_inside.ensures.tree;
    }
