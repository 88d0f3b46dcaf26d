use Rattle.std.proofs.Common.{◌-◌, arith, take, true, false}
use Rattle.sgml_theory_reading.specs.Context.{context}
use Rattle.sgml_infer.specs.Trees.{context_with, context_in}
use Rattle.sgml_infer.specs.Visibles.{start_of}
use Rattle.sgml_infer.proofs.Growing.{ends-in, end-tree, stood-after, stands-after}
use Rattle.sgml_infer.proofs.tree.Tree.end_at_once.Goals as goal

pub returns-clause-stands : goal.returns-clause-stands
returns-clause-stands c = λ t h n ss how q size spent w stood.
    let old = c.args.self.now in
    stands-after (start_of n ss how q true size spent) h (context_with t (take (old.depth - 1) old.levels.items) old.begun)
    (ends-in t (context h) n ss how q size spent old.levels.items old.depth old.begun c.requires.depth c.requires.places.places
    (stood-after (start_of n ss how q false size spent) h (context_in t old) stood))

pub returns-clause-context : goal.returns-clause-context
returns-clause-context c = λ t k n ss how q size spent stood.
    let old = c.args.self.now in
    ends-in t k n ss how q size spent old.levels.items old.depth old.begun c.requires.depth c.requires.places.places stood

pub returns-clause-tree : goal.returns-clause-tree
returns-clause-tree c = λ t w. let old = c.args.self.now in end-tree t old (old.depth - 1) w (omega arith)
