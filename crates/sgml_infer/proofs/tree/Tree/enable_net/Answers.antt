use Rattle.std.proofs.Common.{◌≡◌, ◌-◌, ◌∙◌, ap, sym, List, Some, arith, length, take, false}
use Rattle.std.specs.List.{slice_get, slice_set}
use Rattle.std.specs.Vec.{with_items}
use Rattle.std.proofs.lemmas.List.{with_items_is}
use Rattle.sgml_theory_reading.specs.Pieces.{Slash}
use Rattle.sgml_theory_reading.specs.Context.{context}
use Rattle.sgml_infer.specs.declared.level.Level.{Level}
use Rattle.sgml_infer.specs.Trees.{context_with, context_in, enabled}
use Rattle.sgml_infer.specs.Visibles.{start_of}
use Rattle.sgml_infer.proofs.Growing.{enables-in, enabled-tree, stood-after, stands-after}
use Rattle.sgml_infer.proofs.tree.Tree.enable_net.Goals as goal

in-contexts : goal.returns-clause-context
in-contexts c = λ t k n ss how q size spent stood.
    let old = c.args.self.now in let new = c.enable_net.new.levels in let e = c.enable_net.ensures in
    let was : slice_get old.levels.items (old.depth - 1) ≡ Some e.level = ap (λ (xs : List Level). slice_get xs (old.depth - 1)) (sym c.deref_mut.ensures.value) ∙ e.was in
    let long : length new ≡ old.levels.len = omega (arith, c.enable_net.auto.levels, c.deref_mut.ensures.len) in
    let all : (with_items old.levels new).items ≡ slice_set old.levels.items (old.depth - 1) (enabled e.level) =
    with_items_is old.levels new long ∙ (e.all ∙ ap (λ (xs : List Level). slice_set xs (old.depth - 1) (enabled e.level)) c.deref_mut.ensures.value) in
    ap (λ (xs : List Level). context_with t (take old.depth xs) old.begun) all
    ∙ enables-in t k n ss how q size spent old.levels.items old.depth old.begun c.requires.depth c.requires.places.places stood e.level was

pub returns-clause-context : goal.returns-clause-context
returns-clause-context c = in-contexts c

pub returns-clause-stands : goal.returns-clause-stands
returns-clause-stands c = λ t h n ss how q size spent stood.
    let old = c.args.self.now in let vec = with_items old.levels c.enable_net.new.levels in
    stands-after (start_of n ss Slash q false size spent) h (context_with t (take old.depth vec.items) old.begun)
    (in-contexts c t (context h) n ss how q size spent (stood-after (start_of n ss how q false size spent) h (context_in t old) stood))

pub returns-clause-tree : goal.returns-clause-tree
returns-clause-tree c = λ t w.
    let old = c.args.self.now in let new = c.enable_net.new.levels in let e = c.enable_net.ensures in
    let was : slice_get old.levels.items (old.depth - 1) ≡ Some e.level = ap (λ (xs : List Level). slice_get xs (old.depth - 1)) (sym c.deref_mut.ensures.value) ∙ e.was in
    let long : length new ≡ old.levels.len = omega (arith, c.enable_net.auto.levels, c.deref_mut.ensures.len) in
    let all : (with_items old.levels new).items ≡ slice_set old.levels.items (old.depth - 1) (enabled e.level) =
    with_items_is old.levels new long ∙ (e.all ∙ ap (λ (xs : List Level). slice_set xs (old.depth - 1) (enabled e.level)) c.deref_mut.ensures.value) in
    enabled-tree t old (with_items old.levels new) e.level c.requires.depth was all w
