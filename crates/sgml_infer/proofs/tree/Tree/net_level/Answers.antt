use Rattle.std.proofs.Common.{◌-◌, ◌∙◌, ap, sym, List, take, option_map, reverse}
use Rattle.sgml_infer.specs.declared.level.Level.{Level}
use Rattle.sgml_infer.specs.Trees.{open_levels}
use Rattle.sgml_infer.specs.Seen.{inside_where}
use Rattle.sgml_infer.specs.Visibles.{net_level}
use Rattle.sgml_infer.proofs.Behind.{inside-enabling}
use Rattle.sgml_infer.proofs.tree.Tree.net_level.Goals as goal

some-in-context : goal.returns-in-Some-clause-context
some-in-context c = λ t.
    let tree = c.args.self.now in
    ap (option_map (λ n. tree.depth - 1 - n))
    (c.in-Some.ensures.inside ∙ (ap (λ (xs : List Level). inside_where (λ (l : Level). l.slash) (reverse (take tree.depth xs))) c.deref.ensures.value
    ∙ inside-enabling t (open_levels tree) tree.begun))

none-in-context : goal.returns-in-None-clause-context
none-in-context c = λ t.
    let tree = c.args.self.now in
    ap (option_map (λ n. tree.depth - 1 - n))
    (c.in-None.ensures.inside ∙ (ap (λ (xs : List Level). inside_where (λ (l : Level). l.slash) (reverse (take tree.depth xs))) c.deref.ensures.value
    ∙ inside-enabling t (open_levels tree) tree.begun))

pub returns-in-Some-clause-context : goal.returns-in-Some-clause-context
returns-in-Some-clause-context c = some-in-context c

pub returns-in-None-clause-context : goal.returns-in-None-clause-context
returns-in-None-clause-context c = none-in-context c

pub returns-in-Some-clause-open : goal.returns-in-Some-clause-open
returns-in-Some-clause-open c = λ t h stood. some-in-context c t ∙ ap (net_level c.args.self.now.depth) (sym stood)

pub returns-in-None-clause-open : goal.returns-in-None-clause-open
returns-in-None-clause-open c = λ t h stood. none-in-context c t ∙ ap (net_level c.args.self.now.depth) (sym stood)
