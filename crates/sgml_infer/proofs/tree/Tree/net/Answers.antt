use Rattle.std.proofs.Common.{◌∙◌, ap, sym, List, take, false}
use Rattle.sgml_theory_reading.specs.Context as reading
use Rattle.sgml_theory_reading.specs.ShortTags.{net_in_force}
use Rattle.sgml_infer.specs.declared.level.Level.{Level}
use Rattle.sgml_infer.specs.Links.{last_net}
use Rattle.sgml_infer.specs.Trees.{open_levels, level_of}
use Rattle.sgml_infer.proofs.Points.{any-reversed}
use Rattle.sgml_infer.proofs.Nets.{net-known}
use Rattle.sgml_infer.proofs.tree.Tree.net.Goals as goal

in-context : goal.returns-clause-context
unfolding net_in_force
in-context c = λ t.
    let tree = c.args.self.now in
    c.in_net.ensures ∙ (ap (λ (xs : List Level). last_net false (take tree.depth xs)) c.deref.ensures.value
    ∙ (net-known (open_levels tree) c.requires.net
    ∙ sym (any-reversed (level_of t) (λ (l : reading.Level). l.slash) (open_levels tree))))

pub returns-clause-context : goal.returns-clause-context
returns-clause-context c = in-context c

pub returns-clause-open : goal.returns-clause-open
returns-clause-open c = λ t h stood. in-context c t ∙ ap net_in_force (sym stood)
