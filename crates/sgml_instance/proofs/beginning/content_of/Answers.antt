use Rattle.std.proofs.Common.{refl}
use Rattle.sgml_instance.proofs.Begun.{nothing-more}
use Rattle.sgml_instance.proofs.beginning.content_of.Goals as goal

pub returns : goal.returns
returns c =
    nothing-more c.args.kept (record { kept = c.args.kept; tree = c.in_ok-tree.tree; inside = c.in_ok-tree.inside; currents = c.in_ok-tree.currents }) c.requires.kept c.requires.over
    (record { kept = refl; nothing = c.in_ok-tree.ensures })
