use Rattle.std.proofs.Common.{◌∙◌, sym}
use Rattle.sgml_infer.specs.Trees.{open_levels}
use Rattle.sgml_infer.proofs.Points.{length-levels}
use Rattle.sgml_infer.proofs.Links.{taken-length}
use Rattle.sgml_infer.proofs.tree.Tree.depth.Goals as goal

pub returns-clause-context : goal.returns-clause-context
returns-clause-context c = λ t.
    let tree = c.args.self.now in
    sym (length-levels t (open_levels tree) ∙ taken-length tree.depth tree.levels.items c.requires.places)
